-- The order of the printed serial list is one of real time.
use Rattle.std.proofs.Common.{◌≡◌, inl, inr, ℕ, ◌+◌, Bool, true, false, eqb, List, [], ◌∷◌, ◌++◌, length, refl, sym, ap, ◌∙◌, subst, arith, append_assoc, length-append}
use Rattle.std.specs.Bool.{IsTrue}
use Rattle.std.specs.List.{flat_map, list_any}
use Rattle.std.proofs.lemmas.Bool.{and_parts, eqb-true, false≢true}
use Rattle.std.proofs.lemmas.Grind.{flat_map-append}
use Rattle.process_tree.specs.declared.entry.Entry.{Entry}
use Rattle.process_tree.specs.declared.plan.Plan.{Plan}
use Rattle.schedule_model.specs.declared.event.Event.{Event}
use Rattle.schedule_model.specs.declared.event.Event.TheVariants.{Start, End}
use Rattle.schedule_model.specs.Completion.{completed, completion}
use Rattle.schedule_model.specs.Conflict.{ConflictRelation}
use Rattle.schedule_model.specs.Course.{courses_of}
use Rattle.schedule_model.specs.EachEvent.{each_passes}
use Rattle.schedule_model.specs.Histories.{active, acts, ends, is_in, net_of, starts}
use Rattle.schedule_model.specs.Laws.{IsGood}
use Rattle.schedule_model.specs.Legal.{is_clear, is_legal, may_come}
use Rattle.schedule_model.specs.OwnOrder.{keeps_order}
use Rattle.schedule_model.specs.PrintedTrace.{trace_of}
use Rattle.schedule_model.proofs.Appends.{ends-append, starts-append}
use Rattle.schedule_model.proofs.Induction.{each_passes-append}
use Rattle.schedule_model.proofs.Legal.{is_legal-prefix}
use Rattle.schedule_model.proofs.Members.{Among, among-flat_map, among-right, is_in-among, not_any}
use Rattle.schedule_model.proofs.NoConflict.{reducible-legal}
use Rattle.schedule_model.proofs.Prefixes.{legal-numbered}
use Rattle.schedule_model.proofs.ReductionLaws.{ends-distinct, reduction-law}
use Rattle.schedule_model.proofs.SerialPhase.{Distinct}
use Rattle.schedule_model.proofs.StandingLaws.{completed-legal}
use Rattle.schedule_model.proofs.Started.{among_net_of, ends-started}
use Rattle.value_rules.specs.HistoryValues.{OrderIsOfRealTime, StandsBefore, is_of}

-- what is in a list without repetitions isn't in both parts of it
not_twice : (xs ys : List ℕ) (i : ℕ) → Distinct (xs ++ ys) → Among i xs → Among i ys → ⊥
not_twice [] ys i distinct one two = one
not_twice (x ∷ xs) ys i distinct (inl here) two =
    false≢true (sym (subst (λ j. is_in j (xs ++ ys) ≡ false) here distinct.0) ∙ is_in-among i (xs ++ ys) (among-right i xs ys two))
not_twice (x ∷ xs) ys i distinct (inr later) two = not_twice xs ys i distinct.1 later two

-- a list with more behind it, parted between two of its elements
parted : (front : List Event) (e : Event) (between : List Event) (s : Event) (rest more : List Event)
    → ((front ++ (e ∷ between)) ++ (s ∷ rest)) ++ more ≡ ((front ++ (e ∷ [])) ++ between) ++ (s ∷ (rest ++ more))
parted [] e between s rest more = ap (λ es. e ∷ es) (append_assoc between (s ∷ rest) more)
parted (x ∷ front) e between s rest more = ap (λ es. x ∷ es) (parted front e between s rest more)

-- entries of other processes aren't of this one
none_of : (h : List Event) (order : List ℕ) (k : ℕ) → (Among k order → ⊥) → list_any (is_of k) (flat_map (net_of h) order) ≡ false
none_of h order k out =
    not_any (is_of k) (flat_map (net_of h) order)
    (λ e is.
    let found = among-flat_map (net_of h) e order is in
    let own = (among_net_of h found.0 e found.2).1 in
    by e (eqb e.process k) refl (λ same. out (subst (λ j. Among j order) (sym own ∙ same) found.1)))
  where
    by : (e : Entry) (t : Bool) → eqb e.process k ≡ t → (e.process ≡ k → ⊥) → eqb e.process k ≡ false
    by e true is other = absurd (other (eqb-true e.process k is))
    by e false is other = is

module _ (table : ConflictRelation) (plans : List Plan) (front between rest : List Event) (i k : ℕ)
    (good : IsGood table plans (front ++ End i ∷ between ++ Start k ∷ rest)) where
  abbrev h : List Event
  h = front ++ End i ∷ between ++ Start k ∷ rest

  abbrev whole : List Event
  whole = completed (courses_of plans) h

  abbrev first : List Event
  first = front ++ End i ∷ []

  abbrev mid : List Event
  mid = first ++ between

  abbrev tail : List Event
  tail = Start k ∷ (rest ++ completion (courses_of plans) h)

  whole_is : whole ≡ mid ++ tail
  whole_is = parted front (End i) between (Start k) rest (completion (courses_of plans) h)

  done : IsTrue (is_legal table (courses_of plans) whole) × (active whole ≡ [])
  done = completed-legal table plans good.symmetric good.good h good.legal

  legal : IsTrue (is_legal table (courses_of plans) (mid ++ tail))
  legal = subst (λ g. IsTrue (is_legal table (courses_of plans) g)) whole_is done.0

  -- k is a number that nobody had before its start
  new : k ≡ length (starts mid) + 1
  new =
      let parts = and_parts (each_passes (may_come table (courses_of plans)) [] mid) (each_passes (may_come table (courses_of plans)) mid tail)
      (sym (each_passes-append (may_come table (courses_of plans)) [] mid tail) ∙ legal) in
      let now = (and_parts (may_come table (courses_of plans) mid (Start k)) (each_passes (may_come table (courses_of plans)) (mid ++ Start k ∷ []) (rest ++ completion (courses_of plans) h)) parts.1).0 in
      eqb-true k (length (starts mid) + 1) (and_parts (keeps_order (courses_of plans) mid (Start k)) (is_clear table (courses_of plans) mid (Start k)) now).0

  legal_first : IsTrue (is_legal table (courses_of plans) first)
  legal_first = is_legal-prefix table (courses_of plans) first (between ++ tail) (subst (λ g. IsTrue (is_legal table (courses_of plans) g)) (append_assoc first between tail) legal)

  k_later : Among k (ends first) → ⊥
  k_later is =
      let started = ends-started table (courses_of plans) first legal_first k (is_in-among k (ends first) is) in
      let bounds = legal-numbered table (courses_of plans) first legal_first k started in
      let high = bounds.1 in
      let more = ap length (starts-append first between) ∙ length-append (starts first) (starts between) in
      omega (arith, new, high, more)

  ends_are : ends whole ≡ ends first ++ ends (between ++ tail)
  ends_are = ap ends (whole_is ∙ append_assoc first between tail) ∙ ends-append first (between ++ tail)

  distinct : Distinct (ends first ++ ends (between ++ tail))
  distinct = subst Distinct ends_are (ends-distinct table (courses_of plans) whole done.0)

  i_first : Among i (ends first)
  i_first = subst (Among i) (sym (ends-append front (End i ∷ []))) (among-right i (ends front) (i ∷ []) (inl refl))

  pub stands_before : StandsBefore i k (trace_of (ends whole) (acts whole)).list
  stands_before = (
    flat_map (net_of whole) (ends first),
    flat_map (net_of whole) (ends (between ++ tail)),
    (reduction-law table (courses_of plans) whole good.symmetric (reducible-legal (courses_of plans) table whole done.0) done.1).nets
        ∙ (ap (flat_map (net_of whole)) ends_are ∙ flat_map-append (net_of whole) (ends first) (ends (between ++ tail))),
    none_of whole (ends first) k k_later,
    none_of whole (ends (between ++ tail)) i (λ is. not_twice (ends first) (ends (between ++ tail)) i distinct i_first is),
  )

pub order-is_of_real_time : OrderIsOfRealTime
order-is_of_real_time table plans front between rest i k good = stands_before table plans front between rest i k good
