-- The serial order of the whole: those that had ended, and then what remains.
use Rattle.std.proofs.Common.{◌≡◌, ℕ, Bool, true, false, not, eqb, List, [], ◌∷◌, ◌++◌, map, filter, sym, refl, ap, ◌∙◌, subst, append-nil, append_assoc}
use Rattle.std.specs.Bool.{IsTrue}
use Rattle.std.specs.List.{flat_map}
use Rattle.std.proofs.lemmas.Bool.{and_parts, eqb-true, false≢true}
use Rattle.std.proofs.lemmas.List.{map-append}
use Rattle.std.proofs.lemmas.List.Elements.{filter-append}
use Rattle.process_tree.specs.declared.entry.Entry.{Entry}
use Rattle.schedule_model.specs.declared.event.Event.{Event}
use Rattle.schedule_model.specs.Course.{Course, courses_of}
use Rattle.schedule_model.specs.Conflict.{ConflictRelation}
use Rattle.schedule_model.specs.Histories.{active, acts, ends, is_in, net, net_of, of_process, same_step, takes_back}
use Rattle.schedule_model.specs.Completion.{completed, completion}
use Rattle.schedule_model.specs.Legal.{is_legal}
use Rattle.schedule_model.proofs.Appends.{ends-append, is_taken_back, kept_by, net-append}
use Rattle.schedule_model.proofs.Members.{Among, among-any, among-map, filter-none, is_in-among, map-none}
use Rattle.schedule_model.proofs.NoConflict.{reducible-legal}
use Rattle.schedule_model.proofs.ReductionLaws.{reduction-law}
use Rattle.schedule_model.proofs.Snoc.{filter_through}
use Rattle.schedule_model.proofs.StandingLaws.{completed-legal}
use Rattle.forgetting_model.specs.Remaining.{as_before, courses_left, entries_before, events_of, is_open, number_in, number_since, remaining, renumbered_entry, renumbered_event}
use Rattle.forgetting_model.specs.Laws.{SerialListGoesOn, SerialOrderGoesOn}
use Rattle.forgetting_model.proofs.CompletesAlike.{completion_is_the_same, flat_agree}
use Rattle.forgetting_model.proofs.Dropped.{active-of, ends-of, net_of-kept}
use Rattle.forgetting_model.proofs.Lives.{numbers-apart, numbers-open, whole-open}
use Rattle.forgetting_model.proofs.Mapped.{flat-mapped}
use Rattle.forgetting_model.proofs.RemainsLegal.{what_remains_goes_on_alike}
use Rattle.forgetting_model.proofs.Renumbered.{active-by, acts-by, ends-by, net-by, net_of-by}

flat_append : {X Y : Type 0} (f : X → List Y) (xs ys : List X) → flat_map f (xs ++ ys) ≡ flat_map f xs ++ flat_map f ys
flat_append f [] ys = refl
flat_append f (x ∷ xs) ys = ap (λ zs. f x ++ zs) (flat_append f xs ys) ∙ sym (append_assoc (f x) (flat_map f xs) (flat_map f ys))

-- nobody of those that remain has ended
none_ended : (h : List Event) → ends (remaining h) ≡ []
none_ended h =
    ends-by (number_since h) (events_of (is_open h) h)
    ∙ ap (map (number_since h)) (ends-of (is_open h) h ∙ filter-none (is_open h) (ends h) (λ i among. ap not (is_in-among i (ends h) among)))

module _ (h v : List Event) where
  -- who ends in the whole
  ends-whole : ends (h ++ as_before h v) ≡ ends h ++ map (number_in h) (ends v)
  ends-whole = ends-append h (as_before h v) ∙ ap (λ is. ends h ++ is) (ends-by (number_in h) v)

  ends-since : ends (remaining h ++ v) ≡ ends v
  ends-since = ends-append (remaining h) v ∙ ap (λ is. is ++ ends v) (none_ended h)

module _ (table : ConflictRelation) (courses : List Course) (h u : List Event) (legal : IsTrue (is_legal table courses h)) (goes : IsTrue (is_legal table courses (h ++ as_before h u))) where
  abbrev added : List Event
  added = completion (courses_left courses h) (remaining h ++ u)

  -- the completed whole goes on from h, and what remains goes on alike
  completed-whole : completed courses (h ++ as_before h u) ≡ h ++ as_before h (u ++ completion (courses_left courses h) (remaining h ++ u))
  completed-whole =
      ap (λ xs. (h ++ as_before h u) ++ xs) (completion_is_the_same table courses h u legal goes)
      ∙ (append_assoc h (as_before h u) (as_before h added) ∙ ap (λ xs. h ++ xs) (sym (map-append (renumbered_event (number_in h)) u added)))

  completed-since : completed (courses_left courses h) (remaining h ++ u) ≡ remaining h ++ (u ++ completion (courses_left courses h) (remaining h ++ u))
  completed-since = append_assoc (remaining h) u added

  order : ends (completed courses (h ++ as_before h u)) ≡ ends h ++ map (number_in h) (ends (completed (courses_left courses h) (remaining h ++ u)))
  order =
      ap ends completed-whole
      ∙ (ends-whole h (u ++ added) ∙ ap (λ is. ends h ++ map (number_in h) is) (sym (ap ends completed-since ∙ ends-since h (u ++ added))))

pub serial_order_goes_on : SerialOrderGoesOn
serial_order_goes_on table courses h u legal goes = order table courses h u legal goes

-- Nets.

module _ (table : ConflictRelation) (courses : List Course) (h v : List Event) (legal : IsTrue (is_legal table courses h)) where
  abbrev W : List Event
  W = h ++ as_before h v

  -- none of what follows is of one that had ended
  not_later : (i : ℕ) → IsTrue (is_in i (ends h)) → (es : List Entry) (e : Entry) → Among e (map (renumbered_entry (number_in h)) es) → eqb e.process i ≡ false
  not_later i ended es e among = by_test (eqb e.process i) refl
    where
      by_test : (t : Bool) → eqb e.process i ≡ t → eqb e.process i ≡ false
      by_test false is = is
      by_test true is =
          let found = among-map (renumbered_entry (number_in h)) e es among in
          let own : number_in h found.0.process ≡ i = ap (λ (x : Entry). x.process) found.2 ∙ eqb-true e.process i is in
          absurd (false≢true (sym (ap not (ap (λ k. is_in k (ends h)) own ∙ ended)) ∙ numbers-open table courses h legal found.0.process))

  none_taken : (i : ℕ) → IsTrue (is_in i (ends h)) → (e : Entry) → eqb e.process i ≡ true → not (is_taken_back (acts (as_before h v)) e) ≡ true
  none_taken i ended e own = by_test (is_taken_back (acts (as_before h v)) e) refl
    where
      by_test : (t : Bool) → is_taken_back (acts (as_before h v)) e ≡ t → not (is_taken_back (acts (as_before h v)) e) ≡ true
      by_test false out = ap not out
      by_test true taken =
          let found = among-any (λ f. takes_back f e) (acts (as_before h v)) taken in
          let f = found.0 in
          let same : e.process ≡ f.process = eqb-true e.process f.process (and_parts (eqb e.process f.process) (eqb e.step f.step) (and_parts f.undo (same_step e f) found.2).1).0 in
          let away = not_later i ended (acts v) f (subst (Among f) (acts-by (number_in h) v) found.1) in
          absurd (false≢true (sym away ∙ (ap (λ k. eqb k i) (sym same) ∙ own)))

  -- the net of one that had ended stays
  net_of-ended : (i : ℕ) → IsTrue (is_in i (ends h)) → net_of (h ++ as_before h v) i ≡ net_of h i
  net_of-ended i ended =
      ap (of_process i) (net-append h (as_before h v))
      ∙ (filter-append (λ (e : Entry). eqb e.process i) (kept_by (acts (as_before h v)) (net h)) (net (as_before h v))
      ∙ (ap (λ es. of_process i (kept_by (acts (as_before h v)) (net h)) ++ es)
      (ap (of_process i) (net-by (number_in h) (numbers-apart table courses h legal) v)
      ∙ filter-none (λ (e : Entry). eqb e.process i) (map (renumbered_entry (number_in h)) (net v)) (not_later i ended (net v)))
      ∙ (append-nil (of_process i (kept_by (acts (as_before h v)) (net h)))
      ∙ filter_through (λ (e : Entry). eqb e.process i) (λ e. not (is_taken_back (acts (as_before h v)) e)) (net h) (none_taken i ended))))

  -- and that of another is that of what remains
  net_of-since : (k : ℕ) → net_of (h ++ as_before h v) (number_in h k) ≡ entries_before h (net_of (remaining h ++ v) k)
  net_of-since k =
      sym (net_of-kept (is_open h) (h ++ as_before h v) (number_in h k) (numbers-open table courses h legal k))
      ∙ (ap (λ g. net_of g (number_in h k)) (whole-open table courses h legal v) ∙ net_of-by (number_in h) (numbers-apart table courses h legal) (remaining h ++ v) k)

  nets-whole : flat_map (net_of (h ++ as_before h v)) (ends (h ++ as_before h v)) ≡ flat_map (net_of h) (ends h) ++ entries_before h (flat_map (net_of (remaining h ++ v)) (ends (remaining h ++ v)))
  nets-whole =
      ap (flat_map (net_of W)) (ends-whole h v)
      ∙ (flat_append (net_of W) (ends h) (map (number_in h) (ends v))
      ∙ (ap (λ es. es ++ flat_map (net_of W) (map (number_in h) (ends v))) (flat_agree (net_of W) (net_of h) (ends h) (λ i among. net_of-ended i (is_in-among i (ends h) among)))
      ∙ ap (λ es. flat_map (net_of h) (ends h) ++ es)
      (flat-mapped (number_in h) (net_of W) (net_of (remaining h ++ v)) (renumbered_entry (number_in h)) (ends v) net_of-since
      ∙ ap (λ is. entries_before h (flat_map (net_of (remaining h ++ v)) is)) (sym (ends-since h v)))))

  -- where nobody is active in the whole, nobody is in what remains
  none_active : active (h ++ as_before h v) ≡ [] → active (remaining h ++ v) ≡ []
  none_active none =
      map-none (number_in h) (active (remaining h ++ v))
      (sym (active-by (number_in h) (numbers-apart table courses h legal) (remaining h ++ v))
      ∙ (ap active (sym (whole-open table courses h legal v)) ∙ (active-of (is_open h) (h ++ as_before h v) ∙ ap (filter (is_open h)) none)))

pub serial_list_goes_on : SerialListGoesOn
serial_list_goes_on table plans h u symmetric good legal goes =
    let cs = courses_of plans in
    let since = courses_left cs h in
    let v = u ++ completion since (remaining h ++ u) in
    let W = completed cs (h ++ as_before h u) in
    let Z = completed since (remaining h ++ u) in
    let whole : W ≡ h ++ as_before h v = completed-whole table cs h u legal goes in
    let rest : Z ≡ remaining h ++ v = completed-since table cs h u legal goes in
    let done = completed-legal table plans symmetric good (h ++ as_before h u) goes in
    let all_legal : IsTrue (is_legal table cs (h ++ as_before h v)) = subst (λ g. IsTrue (is_legal table cs g)) whole done.0 in
    let rest_legal : IsTrue (is_legal table since (remaining h ++ v)) = what_remains_goes_on_alike table cs h v symmetric legal ∙ all_legal in
    let nobody : active (remaining h ++ v) ≡ [] = none_active table cs h v legal (sym (ap active whole) ∙ done.1) in
    let first = reduction-law table cs W symmetric (reducible-legal cs table W done.0) done.1 in
    let second = reduction-law table since Z symmetric (reducible-legal since table Z (subst (λ g. IsTrue (is_legal table since g)) (sym rest) rest_legal)) (ap active rest ∙ nobody) in
    first.nets
    ∙ (ap (λ g. flat_map (net_of g) (ends g)) whole
    ∙ (nets-whole table cs h v legal
    ∙ (ap (λ g. flat_map (net_of h) (ends h) ++ entries_before h (flat_map (net_of g) (ends g))) (sym rest)
    ∙ ap (λ es. flat_map (net_of h) (ends h) ++ entries_before h es) (sym second.nets))))
