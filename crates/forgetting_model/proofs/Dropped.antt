-- A history without some of its processes: what is said of the others stays, and nothing more stands against them.
use Rattle.std.proofs.Common.{◌≡◌, ℕ, Bool, true, false, not, cond, eqb, ltb, ◌&&◌, ◌||◌, if◌then◌else◌, List, [], ◌∷◌, ◌++◌, map, filter, sym, refl, ap, ◌∙◌, subst}
use Rattle.std.specs.Bool.{IsTrue}
use Rattle.std.specs.List.{list_any, list_all}
use Rattle.std.proofs.Math.Bool.{and-true, and_comm}
use Rattle.std.proofs.lemmas.Bool.{and_parts, eqb-true, false≢true}
use Rattle.process_tree.specs.Shape.{goes_on_to, is_end}
use Rattle.process_tree.specs.Recovery.{forward, class_of}
use Rattle.process_tree.specs.Entries.{access_of}
use Rattle.process_tree.specs.Conflicts.{same_access}
use Rattle.process_tree.specs.declared.entry.Entry.{Entry}
use Rattle.schedule_model.specs.declared.event.Event.{Event}
use Rattle.schedule_model.specs.declared.event.Event.TheVariants.{Start, Act, End}
use Rattle.schedule_model.specs.Course.{Course, access_at, shape}
use Rattle.schedule_model.specs.Histories.{active, acts, done_steps, doing, ends, is_active, is_in, net, net_acts, net_of, net_steps, of_process, same_step, starts, steps_of, takes_back}
use Rattle.schedule_model.specs.Recovery.{backward_entries, owed_after}
use Rattle.schedule_model.specs.OwnOrder.{goes_on, is_of_last, keeps_order}
use Rattle.schedule_model.specs.Holdings.{active_net, at_rest, behind, holders}
use Rattle.schedule_model.specs.Legal.{class_in}
use Rattle.schedule_model.proofs.Active.{is_in-filter}
use Rattle.schedule_model.proofs.Behind.{behind-filter, same_step-process}
use Rattle.schedule_model.proofs.Clear.{is_holder}
use Rattle.schedule_model.proofs.Frames.{Stays}
use Rattle.schedule_model.proofs.Members.{Among, among-filter, filter-agree}
use Rattle.schedule_model.proofs.Snoc.{backward_entries-by_net, filter_same, filter_through, filter_twice, owed-by_net}
use Rattle.forgetting_model.specs.Remaining.{events_of}

-- Filters.

any_step : {X : Type 0} (p : X → Bool) (x : X) (fs : List X) (ps a b : Bool) → (a ≡ true → b ≡ true) → list_any p fs ≡ ps → p x ≡ a
    → list_any p (cond b (x ∷ fs) fs) ≡ (a || ps)
any_step p x fs ps a true h e is = ap (λ t. t || list_any p fs) is ∙ ap (λ t. a || t) e
any_step p x fs ps true false h e is = absurd (false≢true (h refl))
any_step p x fs ps false false h e is = e

-- whether one passes a test is the same among those that a weaker test lets through
pub any_through : {X : Type 0} (p q : X → Bool) (xs : List X) → ((x : X) → p x ≡ true → q x ≡ true) → list_any p (filter q xs) ≡ list_any p xs
any_through p q [] h = refl
any_through p q (x ∷ xs) h = any_step p x (filter q xs) (list_any p xs) (p x) (q x) (h x) (any_through p q xs h) refl

-- two filters in either order
pub filters-either_way : {X : Type 0} (p q : X → Bool) (xs : List X) → filter q (filter p xs) ≡ filter p (filter q xs)
filters-either_way p q xs =
    filter_twice p q xs ∙ (filter_same (λ x. p x && q x) (λ x. q x && p x) xs (λ x. and_comm (p x) (q x)) ∙ sym (filter_twice q p xs))

module _ (keep : ℕ → Bool) where
  abbrev pub kept_entry : Entry → Bool
  kept_entry e = keep e.process

  -- The lists of a history.

  starts_in : (i : ℕ) (g : List Event) (xs : List ℕ) (t : Bool) → starts g ≡ xs → starts (cond t (Start i ∷ g) g) ≡ cond t (i ∷ xs) xs
  starts_in i g xs true e = ap (λ ys. i ∷ ys) e
  starts_in i g xs false e = e

  starts_out : (e : Event) (g : List Event) (xs : List ℕ) (t : Bool) → starts (e ∷ g) ≡ starts g → starts g ≡ xs → starts (cond t (e ∷ g) g) ≡ xs
  starts_out e g xs true same is = same ∙ is
  starts_out e g xs false same is = is

  pub starts-of : (h : List Event) → starts (events_of keep h) ≡ filter keep (starts h)
  starts-of [] = refl
  starts-of (Start i ∷ h) = starts_in i (events_of keep h) (filter keep (starts h)) (keep i) (starts-of h)
  starts-of (Act e ∷ h) = starts_out (Act e) (events_of keep h) (filter keep (starts h)) (keep e.process) refl (starts-of h)
  starts-of (End i ∷ h) = starts_out (End i) (events_of keep h) (filter keep (starts h)) (keep i) refl (starts-of h)

  ends_in : (i : ℕ) (g : List Event) (xs : List ℕ) (t : Bool) → ends g ≡ xs → ends (cond t (End i ∷ g) g) ≡ cond t (i ∷ xs) xs
  ends_in i g xs true e = ap (λ ys. i ∷ ys) e
  ends_in i g xs false e = e

  ends_out : (e : Event) (g : List Event) (xs : List ℕ) (t : Bool) → ends (e ∷ g) ≡ ends g → ends g ≡ xs → ends (cond t (e ∷ g) g) ≡ xs
  ends_out e g xs true same is = same ∙ is
  ends_out e g xs false same is = is

  pub ends-of : (h : List Event) → ends (events_of keep h) ≡ filter keep (ends h)
  ends-of [] = refl
  ends-of (Start i ∷ h) = ends_out (Start i) (events_of keep h) (filter keep (ends h)) (keep i) refl (ends-of h)
  ends-of (Act e ∷ h) = ends_out (Act e) (events_of keep h) (filter keep (ends h)) (keep e.process) refl (ends-of h)
  ends-of (End i ∷ h) = ends_in i (events_of keep h) (filter keep (ends h)) (keep i) (ends-of h)

  acts_in : (e : Entry) (g : List Event) (xs : List Entry) (t : Bool) → acts g ≡ xs → acts (cond t (Act e ∷ g) g) ≡ cond t (e ∷ xs) xs
  acts_in e g xs true is = ap (λ ys. e ∷ ys) is
  acts_in e g xs false is = is

  acts_out : (e : Event) (g : List Event) (xs : List Entry) (t : Bool) → acts (e ∷ g) ≡ acts g → acts g ≡ xs → acts (cond t (e ∷ g) g) ≡ xs
  acts_out e g xs true same is = same ∙ is
  acts_out e g xs false same is = is

  pub acts-of : (h : List Event) → acts (events_of keep h) ≡ filter kept_entry (acts h)
  acts-of [] = refl
  acts-of (Start i ∷ h) = acts_out (Start i) (events_of keep h) (filter kept_entry (acts h)) (keep i) refl (acts-of h)
  acts-of (Act e ∷ h) = acts_in e (events_of keep h) (filter kept_entry (acts h)) (keep e.process) (acts-of h)
  acts-of (End i ∷ h) = acts_out (End i) (events_of keep h) (filter kept_entry (acts h)) (keep i) refl (acts-of h)

  -- The net.

  net_out : (e : Entry) (ns : List Entry) (s : Bool) → keep e.process ≡ false → filter kept_entry ns ≡ filter kept_entry (cond s ns (e ∷ ns))
  net_out e ns true out = refl
  net_out e ns false out = sym (ap (λ t. cond t (e ∷ filter kept_entry ns) (filter kept_entry ns)) out)

  net_in : (e : Entry) (fs ns : List Entry) (s : Bool) → keep e.process ≡ true → fs ≡ filter kept_entry ns → cond s fs (e ∷ fs) ≡ filter kept_entry (cond s ns (e ∷ ns))
  net_in e fs ns true stays is = is
  net_in e fs ns false stays is = ap (λ xs. e ∷ xs) is ∙ sym (ap (λ t. cond t (e ∷ filter kept_entry ns) (filter kept_entry ns)) stays)

  taken_alike : (e : Entry) (es : List Entry) → keep e.process ≡ true → list_any (λ f. takes_back f e) (filter kept_entry es) ≡ list_any (λ f. takes_back f e) es
  taken_alike e es stays =
      any_through (λ f. takes_back f e) kept_entry es
      (λ f taken. ap keep (sym (eqb-true e.process f.process (and_parts (eqb e.process f.process) (eqb e.step f.step) (and_parts f.undo (same_step e f) taken).1).0)) ∙ stays)

  net_step : (e : Entry) (es : List Entry) (t : Bool) → keep e.process ≡ t → net_acts (filter kept_entry es) ≡ filter kept_entry (net_acts es)
      → net_acts (cond t (e ∷ filter kept_entry es) (filter kept_entry es)) ≡ filter kept_entry (net_acts (e ∷ es))
  net_step e es true stays rest =
      ap (λ s. cond (e.undo || s) (net_acts (filter kept_entry es)) (e ∷ net_acts (filter kept_entry es))) (taken_alike e es stays)
      ∙ net_in e (net_acts (filter kept_entry es)) (net_acts es) (e.undo || list_any (λ f. takes_back f e) es) stays rest
  net_step e es false out rest = rest ∙ net_out e (net_acts es) (e.undo || list_any (λ f. takes_back f e) es) out

  pub net_acts-of : (es : List Entry) → net_acts (filter kept_entry es) ≡ filter kept_entry (net_acts es)
  net_acts-of [] = refl
  net_acts-of (e ∷ es) = net_step e es (keep e.process) refl (net_acts-of es)

  pub net-kept : (h : List Event) → net (events_of keep h) ≡ filter kept_entry (net h)
  net-kept h = ap net_acts (acts-of h) ∙ net_acts-of (acts h)

  -- One process that is kept.

  pub in_kept : (i : ℕ) (xs : List ℕ) → keep i ≡ true → is_in i (filter keep xs) ≡ is_in i xs
  in_kept i xs stays = is_in-filter keep i xs ∙ (ap (λ t. is_in i xs && t) stays ∙ and-true (is_in i xs))

  pub ended-kept : (h : List Event) (i : ℕ) → keep i ≡ true → is_in i (ends (events_of keep h)) ≡ is_in i (ends h)
  ended-kept h i stays = ap (is_in i) (ends-of h) ∙ in_kept i (ends h) stays

  pub is_active-kept : (h : List Event) (i : ℕ) → keep i ≡ true → is_active (events_of keep h) i ≡ is_active h i
  is_active-kept h i stays =
      ap (λ t. t && not (is_in i (ends (events_of keep h)))) (ap (is_in i) (starts-of h) ∙ in_kept i (starts h) stays)
      ∙ ap (λ t. is_in i (starts h) && not t) (ended-kept h i stays)

  -- who is active is kept
  pub active_is_kept : (h : List Event) (i : ℕ) → IsTrue (is_active (events_of keep h) i) → keep i ≡ true
  active_is_kept h i goes =
      (and_parts (is_in i (starts h)) (keep i) (sym (ap (is_in i) (starts-of h) ∙ is_in-filter keep i (starts h)) ∙ (and_parts (is_in i (starts (events_of keep h))) (not (is_in i (ends (events_of keep h)))) goes).0)).1

  pub was_active : (h : List Event) (i : ℕ) → IsTrue (is_active (events_of keep h) i) → IsTrue (is_active h i)
  was_active h i goes = sym (is_active-kept h i (active_is_kept h i goes)) ∙ goes

  pub active-of : (h : List Event) → active (events_of keep h) ≡ filter keep (active h)
  active-of h =
      ap (λ is. filter (λ i. not (is_in i (ends (events_of keep h)))) is) (starts-of h)
      ∙ (filter-agree (λ i. not (is_in i (ends (events_of keep h)))) (λ i. not (is_in i (ends h))) (filter keep (starts h))
      (λ i among. ap not (ended-kept h i (among-filter keep i (starts h) among).1))
      ∙ filters-either_way keep (λ i. not (is_in i (ends h))) (starts h))

  pub of_kept : (i : ℕ) (es : List Entry) → keep i ≡ true → of_process i (filter kept_entry es) ≡ of_process i es
  of_kept i es stays = filter_through (λ e. eqb e.process i) kept_entry es (λ e own. ap keep (eqb-true e.process i own) ∙ stays)

  pub net_of-kept : (h : List Event) (i : ℕ) → keep i ≡ true → net_of (events_of keep h) i ≡ net_of h i
  net_of-kept h i stays = ap (of_process i) (net-kept h) ∙ of_kept i (net h) stays

  pub done-kept : (h : List Event) (i : ℕ) → keep i ≡ true → done_steps (events_of keep h) i ≡ done_steps h i
  done-kept h i stays =
      ap (λ es. steps_of (of_process i (filter (λ (e : Entry). not e.undo) es))) (acts-of h)
      ∙ (ap (λ es. steps_of (of_process i es)) (filters-either_way kept_entry (λ (e : Entry). not e.undo) (acts h))
      ∙ ap steps_of (of_kept i (filter (λ (e : Entry). not e.undo) (acts h)) stays))

  -- what is said of it is the same
  pub stays_kept : (courses : List Course) (h : List Event) (i : ℕ) → keep i ≡ true → Stays courses h (events_of keep h) i
  stays_kept courses h i stays =
      let net' = net_of-kept h i stays in
      let done' = done-kept h i stays in
      record {
        active = is_active-kept h i stays;
        net = net';
        done = done';
        backward = backward_entries-by_net courses (events_of keep h) h i net';
        owes = owed-by_net courses (events_of keep h) h i net';
        goes = λ b. ap (λ es. goes_on_to (shape courses i) (steps_of es) b && list_all (λ d. ltb d b) (done_steps (events_of keep h) i)) net'
            ∙ ap (λ ds. goes_on_to (shape courses i) (net_steps h i) b && list_all (λ d. ltb d b) ds) done';
        at_end = ap (λ es. is_end (shape courses i) (steps_of es)) net';
      }

  pub class-kept : (courses : List Course) (h : List Event) (i b : ℕ) → keep i ≡ true → class_in courses (events_of keep h) i b ≡ class_in courses h i b
  class-kept courses h i b stays = ap (λ es. class_of (shape courses i) (steps_of es) b) (net_of-kept h i stays)

  pub owed_after-kept : (courses : List Course) (h : List Event) (i b : ℕ) → keep i ≡ true → owed_after courses (events_of keep h) i b ≡ owed_after courses h i b
  owed_after-kept courses h i b stays = ap (λ es. map (doing courses i) (forward (shape courses i) (steps_of es ++ b ∷ []))) (net_of-kept h i stays)

  -- an act or an end of it keeps the own order of its process as before
  pub act_order-kept : (courses : List Course) (h : List Event) (e : Entry) → keep e.process ≡ true → keeps_order courses (events_of keep h) (Act e) ≡ keeps_order courses h (Act e)
  act_order-kept courses h e stays =
      let s = stays_kept courses h e.process stays in
      ap (λ t. t && same_access (access_of e) (access_at courses e.process e.step) && (if e.undo then is_of_last (backward_entries courses (events_of keep h) e.process) e else goes_on courses (events_of keep h) e.process e.step)) s.active
      ∙ (ap (λ es. is_active h e.process && same_access (access_of e) (access_at courses e.process e.step) && (if e.undo then is_of_last es e else goes_on courses (events_of keep h) e.process e.step)) s.backward
      ∙ ap (λ t. is_active h e.process && same_access (access_of e) (access_at courses e.process e.step) && (if e.undo then is_of_last (backward_entries courses h e.process) e else t)) (s.goes e.step))

  pub end_order-kept : (courses : List Course) (h : List Event) (i : ℕ) → keep i ≡ true → keeps_order courses (events_of keep h) (End i) ≡ keeps_order courses h (End i)
  end_order-kept courses h i stays =
      let s = stays_kept courses h i stays in
      ap (λ t. t && is_end (shape courses i) (net_steps (events_of keep h) i)) s.active ∙ ap (λ t. is_active h i && t) s.at_end

  -- What is held at rest.

  module _ (courses : List Course) (h : List Event) where
    pub holder-kept : (i : ℕ) → keep i ≡ true → is_in i (holders (at_rest courses (events_of keep h))) ≡ is_in i (holders (at_rest courses h))
    holder-kept i stays = is_holder courses (events_of keep h) i ∙ (is_active-kept h i stays ∙ sym (is_holder courses h i))

    pub active_net-of : active_net (at_rest courses (events_of keep h)) ≡ filter kept_entry (active_net (at_rest courses h))
    active_net-of =
        ap (filter (λ (e : Entry). is_in e.process (holders (at_rest courses (events_of keep h))))) (net-kept h)
        ∙ (filter-agree (λ (e : Entry). is_in e.process (holders (at_rest courses (events_of keep h)))) (λ (e : Entry). is_in e.process (holders (at_rest courses h))) (filter kept_entry (net h))
        (λ e among. holder-kept e.process (among-filter kept_entry e (net h) among).1)
        ∙ filters-either_way kept_entry (λ (e : Entry). is_in e.process (holders (at_rest courses h))) (net h))

    pub kept_active_net : (x : Entry) → Among x (active_net (at_rest courses (events_of keep h))) → Among x (active_net (at_rest courses h)) × (keep x.process ≡ true)
    kept_active_net x among = among-filter kept_entry x (active_net (at_rest courses h)) (subst (Among x) active_net-of among)

  -- what stands behind a kept entry
  pub behind-kept : (x : Entry) (es : List Entry) → keep x.process ≡ true → behind x (filter kept_entry es) ≡ filter kept_entry (behind x es)
  behind-kept x es stays = behind-filter kept_entry x es (λ f same. ap keep (sym (same_step-process x f same)) ∙ stays)
