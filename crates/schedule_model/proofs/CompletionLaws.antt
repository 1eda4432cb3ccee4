-- A completed history is in own order, nobody is active in it, and each process is at an end; cut off on the way, it is
-- completed to the same.
use Rattle.std.proofs.Common.{◌≡◌, ◌⊎◌, inl, inr, ⊎_elim, ℕ, zero, suc, Bool, true, false, not, eqb, ◌&&◌, List, [], ◌∷◌, ◌++◌, length, sym, refl, ap, ◌∙◌, subst, arith, append-nil, append_assoc}
use Rattle.std.proofs.Math.Bool.{and-false}
use Rattle.std.specs.Bool.{IsTrue}
use Rattle.std.proofs.lemmas.Bool.{and_from, or_cases, eqb-true, false≢true}
use Rattle.process_tree.specs.declared.entry.Entry.{Entry}
use Rattle.process_tree.specs.declared.plan.Plan.{Plan}
use Rattle.process_tree.specs.Shape.{is_end}
use Rattle.schedule_model.specs.declared.event.Event.{Event}
use Rattle.schedule_model.specs.declared.event.Event.TheVariants.{Start, Act, End}
use Rattle.schedule_model.specs.Course.{Course, courses_of, shape}
use Rattle.schedule_model.specs.Conflict.{ConflictRelation, no_conflict}
use Rattle.schedule_model.specs.Histories.{active, is_active, is_in, starts, ends, net_of, steps_of}
use Rattle.schedule_model.specs.Completion.{completion, completed}
use Rattle.schedule_model.specs.OwnOrder.{keeps_order, is_in_own_order, is_at_end}
use Rattle.schedule_model.specs.Legal.{may_come, is_legal}
use Rattle.schedule_model.specs.Laws.{AreGood, AllAtEnds, EndedAreAtEnds, OwnOrderCompletionLaw, CompletionIsStable}
use Rattle.schedule_model.proofs.Induction.{by_legal, passes-push}
use Rattle.schedule_model.proofs.Appends.{ends-append, is_in-append}
use Rattle.schedule_model.proofs.Snoc.{net_of-other, net_of-start, net_of-end}
use Rattle.schedule_model.proofs.Active.{is_active-is_in}
use Rattle.schedule_model.proofs.Acting.{act_active, end_in_order, order_of}
use Rattle.schedule_model.proofs.NoConflict.{legal-from_own_order}
use Rattle.schedule_model.proofs.CompletionFirst.{First, completes}

-- Ended processes are at ends.

module _ (courses : List Course) where
  abbrev pub EndedAtEnds : List Event → Type 0
  EndedAtEnds h = (i : ℕ) → IsTrue (is_in i (ends h)) → IsTrue (is_at_end courses h i)

  at_end-same : (g h : List Event) (i : ℕ) → net_of h i ≡ net_of g i → IsTrue (is_at_end courses g i) → IsTrue (is_at_end courses h i)
  at_end-same g h i same is = ap (λ es. is_end (shape courses i) (steps_of es)) same ∙ is

  ends_same : (h : List Event) (e : Event) → ends (h ++ e ∷ []) ≡ ends h → (i : ℕ) → IsTrue (is_in i (ends (h ++ e ∷ []))) → IsTrue (is_in i (ends h))
  ends_same h e same i is = sym (ap (is_in i) same) ∙ is

  -- one that ended isn't active
  pub ended-inactive : (h : List Event) (i : ℕ) → IsTrue (is_in i (ends h)) → is_active h i ≡ false
  ended-inactive h i is = ap (λ t. is_in i (starts h) && not t) is ∙ and-false (is_in i (starts h))

  -- so an entry that may come is of another
  pub ended-other : (table : ConflictRelation) (h : List Event) (e : Entry) (i : ℕ) → IsTrue (may_come table courses h (Act e)) → IsTrue (is_in i (ends h)) → eqb e.process i ≡ false
  ended-other table h e i may is = by_own (eqb e.process i) refl
    where
      by_own : (own : Bool) → eqb e.process i ≡ own → eqb e.process i ≡ false
      by_own true own =
          let out = ended-inactive h i is in
          let goes = act_active table courses h e may in
          absurd (false≢true (sym out ∙ (ap (is_active h) (sym (eqb-true e.process i own)) ∙ goes)))
      by_own false own = own

  ended_more : (h : List Event) (e : Event) → IsTrue (may_come no_conflict courses h e) → EndedAtEnds h → EndedAtEnds (h ++ e ∷ [])
  ended_more h (Start k) may at i is = at_end-same h (h ++ Start k ∷ []) i (net_of-start h k i) (at i (ends_same h (Start k) (ends-append h (Start k ∷ []) ∙ append-nil (ends h)) i is))
  ended_more h (Act e) may at i is =
      let was = ends_same h (Act e) (ends-append h (Act e ∷ []) ∙ append-nil (ends h)) i is in
      at_end-same h (h ++ Act e ∷ []) i (net_of-other h e i (ended-other no_conflict h e i may was)) (at i was)
  ended_more h (End k) may at i is =
      at_end-same h (h ++ End k ∷ []) i (net_of-end h k i)
      (⊎_elim (λ was. at i was) (λ now. by_now (or_cases (eqb i k) false now))
      (or_cases (is_in i (ends h)) (is_in i (k ∷ [])) (sym (ap (is_in i) (ends-append h (End k ∷ [])) ∙ is_in-append i (ends h) (k ∷ [])) ∙ is)))
    where
      by_now : (eqb i k ≡ true) ⊎ (false ≡ true) → IsTrue (is_at_end courses h i)
      by_now (inl same) = subst (λ j. IsTrue (is_at_end courses h j)) (sym (eqb-true i k same)) (end_in_order courses h k (order_of no_conflict courses h (End k) may)).1
      by_now (inr none) = absurd (false≢true none)

  pub ended-at_ends : (h : List Event) → IsTrue (is_legal no_conflict courses h) → EndedAtEnds h
  ended-at_ends h legal = by_legal no_conflict courses EndedAtEnds (λ g e before may at. ended_more g e may at) (λ i is. absurd (false≢true is)) h legal

  -- where nobody is active, each that started has ended
  pub all_ended : (h : List Event) → active h ≡ [] → (i : ℕ) → IsTrue (is_in i (starts h)) → IsTrue (is_in i (ends h))
  all_ended h none i is = by_end (is_in i (ends h)) refl
    where
      by_end : (e : Bool) → is_in i (ends h) ≡ e → IsTrue (is_in i (ends h))
      by_end true ended = ended
      by_end false open' =
          absurd (false≢true (sym (ap (is_in i) none) ∙ (is_active-is_in h i ∙ and_from (is_in i (starts h)) (not (is_in i (ends h))) is (ap not open'))))

  pub all-at_ends : (h : List Event) → IsTrue (is_legal no_conflict courses h) → active h ≡ [] → AllAtEnds courses h
  all-at_ends h legal none i is = ended-at_ends h legal i (all_ended h none i is)

module _ (plans : List Plan) (good : AreGood plans) where
  abbrev cs : List Course
  cs = courses_of plans

  -- what is kept along a completion: from each history to the one with the first event more
  pub along_completion : (P : List Event → Type 0) → ((h : List Event) (f : First cs h) → IsTrue (is_in_own_order cs h) → P h → P (h ++ f.event ∷ []))
      → (n : ℕ) (h : List Event) → length (completion cs h) ≡ n → IsTrue (is_in_own_order cs h) → P h
      → P (completed cs h) × IsTrue (is_in_own_order cs (completed cs h)) × (active (completed cs h) ≡ [])
  along_completion P kept zero h long own has =
      ⊎_elim
      (λ none.
      let same : h ≡ completed cs h = sym (append-nil h) ∙ ap (λ k. h ++ k) (sym none.0) in
      (subst P same has, subst (λ g. IsTrue (is_in_own_order cs g)) same own, subst (λ g. active g ≡ []) same none.1))
      (λ f. let l = ap length f.rest in absurd (omega arith))
      (completes plans good h (legal-from_own_order cs h own))
  along_completion P kept (suc n) h long own has =
      ⊎_elim
      (λ none. let l = ap length none.0 in absurd (omega arith))
      (λ f.
      let after = h ++ f.event ∷ [] in
      let same : completed cs after ≡ completed cs h = append_assoc h (f.event ∷ []) (completion cs after) ∙ ap (λ k. h ++ k) (sym f.rest) in
      subst (λ g. P g × IsTrue (is_in_own_order cs g) × (active g ≡ [])) same
      (along_completion P kept n after (let l = ap length f.rest in omega arith) (passes-push (keeps_order cs) h f.event own f.keeps) (kept h f own has)))
      (completes plans good h (legal-from_own_order cs h own))

  stable_on : (part rest h : List Event) → IsTrue (is_in_own_order cs h) → completion cs h ≡ part ++ rest → completion cs (h ++ part) ≡ rest
  stable_on [] rest h own is = ap (completion cs) (append-nil h) ∙ is
  stable_on (e ∷ part) rest h own is =
      ⊎_elim
      (λ none. let l = ap length (sym none.0 ∙ is) in absurd (omega arith))
      (λ f.
      let both : f.event ∷ completion cs (h ++ f.event ∷ []) ≡ e ∷ (part ++ rest) = sym f.rest ∙ is in
      let same : f.event ≡ e = cc in
      let later : completion cs (h ++ f.event ∷ []) ≡ part ++ rest = cc in
      ap (completion cs) (sym (append_assoc h (e ∷ []) part) ∙ ap (λ x. (h ++ x ∷ []) ++ part) (sym same))
      ∙ stable_on part rest (h ++ f.event ∷ []) (passes-push (keeps_order cs) h f.event own f.keeps) later)
      (completes plans good h (legal-from_own_order cs h own))

pub ended-are_at_ends : EndedAreAtEnds
ended-are_at_ends courses h i own is = ended-at_ends courses h (legal-from_own_order courses h own) i is

pub own_order-completion : OwnOrderCompletionLaw
own_order-completion plans h good own =
    let done = along_completion plans good (λ g. Unit {0}) (λ g f before has. tt) (length (completion (courses_of plans) h)) h refl own tt in
    (done.1, done.2, all-at_ends (courses_of plans) (completed (courses_of plans) h) (legal-from_own_order (courses_of plans) (completed (courses_of plans) h) done.1) done.2)

same_after : (h xs ys : List Event) → h ++ xs ≡ h ++ ys → xs ≡ ys
same_after [] xs ys e = e
same_after (x ∷ h) xs ys e = same_after h xs ys (let same : h ++ xs ≡ h ++ ys = cc in same)

pub completion-stable : CompletionIsStable
completion-stable plans h part rest good own is =
    let cs = courses_of plans in
    let split : completion cs h ≡ part ++ rest = same_after h (completion cs h) (part ++ rest) (is ∙ append_assoc h part rest) in
    let later = stable_on plans good part rest h own split in
    append_assoc h part (completion cs (h ++ part)) ∙ ap (λ k. h ++ k) (ap (λ k. part ++ k) later ∙ sym split)
