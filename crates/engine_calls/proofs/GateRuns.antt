-- What is by a gate: nothing, what ends no piece, one end of a piece, and what was kept in one run of calls after another.
use Rattle.std.proofs.Common.{◌≡◌, ◌∙◌, ◌≤◌, ◌<◌, ◌+◌, ◌-◌, ◌^◌, false, List, [], ◌∷◌, ◌++◌, length, drop, Option, refl, ap, subst, sym, append-nil, append_assoc, arith}
use Rattle.std.specs.Prelude.{⊤}
use Rattle.std.proofs.Math.Seq.{drop-append_seam}
use Rattle.process_tree.specs.Order.{Each}
use Rattle.process_tree.specs.Conflicts.{Table}
use Rattle.process_tree.specs.declared.plan.Plan.{Plan}
use Rattle.schedule_model.specs.declared.event.Event.{Event}
use Rattle.commute_table.specs.declared.catalog.Catalog.{Catalog}
use Rattle.machine_model.specs.declared.kept.Kept.{Kept}
use Rattle.machine_model.specs.declared.kept.Kept.TheVariants.{Start, Hand, Effect, Refuse, Abort, Victim, Restart}
use Rattle.machine_model.specs.Replies.{Handed}
use Rattle.process_core.specs.Cores.{CoreState}
use Rattle.process_core.specs.Handing.{with_all, with_kept, with_served}
use Rattle.process_engine.specs.declared.gates.Answer.{Answer}
use Rattle.engine_calls.specs.GateAnswers.{AreAnswered, AskedGate, GateCounts, IsAnswered, IsByGate, kept_since, refuses_unbarred, unbarred_refusals}

-- what was added is what was kept since
pub kept_is : (old new : CoreState) (added : List Kept) → new.kept ≡ old.kept ++ added → kept_since old new ≡ added
kept_is old new added is = ap (drop (length old.kept)) is ∙ drop-append_seam old.kept added

-- a core that keeps these, one after another
abbrev pub keeping : CoreState → List Kept → CoreState
keeping c [] = c
keeping c (k ∷ ks) = keeping (with_kept c k) ks

keeping_is : (c : CoreState) (ks : List Kept) → keeping c ks ≡ with_all c ks
keeping_is c [] = ap (λ xs. record { conflicts = c.conflicts; plans = c.plans; opening = c.opening; kept = xs; served = c.served }) (sym (append-nil c.kept))
keeping_is c (k ∷ ks) = keeping_is (with_kept c k) ks ∙ ap (λ xs. record { conflicts = c.conflicts; plans = c.plans; opening = c.opening; kept = xs; served = c.served }) (append_assoc c.kept (k ∷ []) ks)

-- an event that ends no piece
abbrev pub EndsNone : Kept → Type 0
EndsNone (Effect n) = ⊥
EndsNone (Refuse n) = ⊥
EndsNone (Start i) = ⊤
EndsNone (Hand piece process step work) = ⊤
EndsNone (Abort i) = ⊤
EndsNone (Victim i) = ⊤
EndsNone Restart = ⊤

module _ (answers : Handed → Option Answer) (catalog : Catalog) where
  answered-append : (c : CoreState) (ks js : List Kept) → AreAnswered answers catalog c ks → AreAnswered answers catalog (keeping c ks) js → AreAnswered answers catalog c (ks ++ js)
  answered-append c [] js one two = two
  answered-append c (k ∷ ks) js one two = (one.0, answered-append (with_kept c k) ks js one.1 two)

  refusals-append : (c : CoreState) (ks js : List Kept) → unbarred_refusals catalog c (ks ++ js) ≡ unbarred_refusals catalog c ks + unbarred_refusals catalog (keeping c ks) js
  refusals-append c [] js = omega arith
  refusals-append c (k ∷ ks) js = let rest = refusals-append (with_kept c k) ks js in omega (arith, rest)

  none_answered : (c : CoreState) (k : Kept) → EndsNone k → IsAnswered answers catalog c k × (refuses_unbarred catalog c k ≡ false)
  none_answered c (Effect n) none = absurd none
  none_answered c (Refuse n) none = absurd none
  none_answered c (Start i) none = (tt, refl)
  none_answered c (Hand piece process step work) none = (tt, refl)
  none_answered c (Abort i) none = (tt, refl)
  none_answered c (Victim i) none = (tt, refl)
  none_answered c Restart none = (tt, refl)

  all_answered : (c : CoreState) (ks : List Kept) → Each EndsNone ks → AreAnswered answers catalog c ks
  all_answered c [] none = tt
  all_answered c (k ∷ ks) none = ((none_answered c k none.0).0, all_answered (with_kept c k) ks none.1)

  none_refused : (c : CoreState) (ks : List Kept) → Each EndsNone ks → unbarred_refusals catalog c ks ≡ 0
  none_refused c [] none = refl
  none_refused c (k ∷ ks) none = let rest = none_refused (with_kept c k) ks none.1 in rw ((none_answered c k none.0).1) (omega (arith, rest))

  core_same : (old mid : CoreState) (added : List Kept) → mid.conflicts ≡ old.conflicts → mid.plans ≡ old.plans → mid.opening ≡ old.opening → mid.kept ≡ old.kept ++ added
      → with_served mid 0 ≡ with_all (with_served old 0) added
  core_same old mid added conflicts plans opening kept =
      ap (λ (t : Table). record { conflicts = t; plans = mid.plans; opening = mid.opening; kept = mid.kept; served = 0 }) conflicts
      ∙ (ap (λ (ps : List Plan). record { conflicts = old.conflicts; plans = ps; opening = mid.opening; kept = mid.kept; served = 0 }) plans
      ∙ (ap (λ (es : List Event). record { conflicts = old.conflicts; plans = old.plans; opening = es; kept = mid.kept; served = 0 }) opening
      ∙ ap (λ (ks : List Kept). record { conflicts = old.conflicts; plans = old.plans; opening = old.opening; kept = ks; served = 0 }) kept))

-- What ends no piece is by each gate.
pub by_gate_none : (gate : AskedGate) (catalog : Catalog) → gate.before.refusals ≤ gate.after.refusals
    → (old new : CoreState) (added : List Kept) → new.kept ≡ old.kept ++ added → Each EndsNone added → IsByGate gate catalog old new
by_gate_none gate catalog more old new added is none =
    let same = kept_is old new added is in
    let few = ap (unbarred_refusals catalog (with_served old 0)) same ∙ none_refused gate.answers catalog (with_served old 0) added none in
    record {
      answered = subst (AreAnswered gate.answers catalog (with_served old 0)) (sym same) (all_answered gate.answers catalog (with_served old 0) added none);
      counted = λ low. omega (arith, few, more);
      later = more;
    }

-- a gate of these answers whose counts were those and are these
abbrev pub gate_from : (Handed → Option Answer) → GateCounts → GateCounts → AskedGate
gate_from answers before after = record { answers = answers; before = before; after = after }

-- What was kept in one run of calls by a gate, and then in another by it, is by it, where no process started.
pub by_gate_then : (answers : Handed → Option Answer) (catalog : Catalog) (before between after : GateCounts) (old mid new : CoreState) (one two : List Kept)
    → mid.conflicts ≡ old.conflicts → mid.plans ≡ old.plans → mid.opening ≡ old.opening → mid.kept ≡ old.kept ++ one → new.kept ≡ mid.kept ++ two
    → IsByGate (gate_from answers before between) catalog old mid → IsByGate (gate_from answers between after) catalog mid new → IsByGate (gate_from answers before after) catalog old new
by_gate_then answers catalog before between after old mid new one two conflicts plans opening first second is_first is_second =
    let c = with_served old 0 in
    let all = kept_is old new (one ++ two) (second ∙ (ap (λ ks. ks ++ two) first ∙ append_assoc old.kept one two)) in
    let here = core_same answers catalog old mid one conflicts plans opening first ∙ sym (keeping_is c one) in
    let ones = kept_is old mid one first in
    let twos = kept_is mid new two second in
    let answered_one = subst (AreAnswered answers catalog c) ones is_first.answered in
    let answered_two = subst (λ d. AreAnswered answers catalog d two) here (subst (AreAnswered answers catalog (with_served mid 0)) twos is_second.answered) in
    let count_one = ap (unbarred_refusals catalog c) ones in
    let count_two = ap (unbarred_refusals catalog (with_served mid 0)) twos ∙ ap (λ d. unbarred_refusals catalog d two) here in
    let count = ap (unbarred_refusals catalog c) all ∙ refusals-append answers catalog c one two in
    record {
      answered = subst (AreAnswered answers catalog c) (sym all) (answered-append answers catalog c one two answered_one answered_two);
      counted = λ low.
          let low_mid : between.refusals < 2 ^ 64 - 1 = omega (arith, low, is_second.later) in
          let a = is_first.counted low_mid in
          let b = is_second.counted low in
          omega (arith, a, b, count, count_one, count_two);
      later = omega (arith, is_first.later, is_second.later);
    }
