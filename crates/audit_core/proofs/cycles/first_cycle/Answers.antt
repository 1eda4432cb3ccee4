use Rattle.std.proofs.Common.{◌≡◌, ◌⊎◌, inl, inr, ◌<◌, ◌≤◌, ◌+◌, ◌∙◌, List, ℕ, false, length, sym, refl, ap, subst, arith}
use Rattle.std.proofs.lemmas.Bool.{cases_lt}
use Rattle.bit_rows.specs.Cells.{cell}
use Rattle.schedule_model.specs.Graph.{Arrow, leads}
use Rattle.audit_core.specs.Arrows.{HasArrows, AreShortest, FindsLayers}
use Rattle.audit_core.proofs.Rounds.{leads-none, goes_round-back, goes_round-none, told}
use Rattle.audit_core.proofs.cycles.first_cycle.Goals as goal

pub cycle_through-requires-clause-layers : goal.cycle_through-requires-clause-layers
cycle_through-requires-clause-layers c =
    let rows = c.args.rows.now in
    let arrow : Arrow = λ i j. cell rows j i in
    let arrows : HasArrows arrow rows = record { count = c.requires.count; at = λ i j. refl } in (
      arrow,
      arrows,
      subst (AreShortest arrow c.loop-first.first) (sym c.deref.ensures.value)
          (subst (FindsLayers arrow c.loop-first.first c.args.most) c.in-Some.is (c.in_ok-sets.ensures arrow arrows)),
    )

pub returns-in-Some : goal.returns-in-Some
returns-in-Some c = λ arrow all arrows has_all few.
    let first = c.loop-first.first in
    let shortest = subst (FindsLayers arrow first c.args.most) c.in-Some.is (c.in_ok-sets.ensures arrow arrows) in
    let found = c.in_ok-cycle.ensures arrow arrows (subst (AreShortest arrow first) (sym c.deref.ensures.value) shortest) in (
      goes_round-back arrow all has_all first found.0 found.3.comes_back,
      told arrow all first c.in-Some.sets.items c.in_ok-cycle.cycle.items found.0 (c.loop-first.invariant arrow all arrows has_all few) shortest found.1
          (found.2 ∙ ap length c.deref.ensures.value) found.3,
    )

pub loop-first-preserved : goal.loop-first-preserved
loop-first-preserved c = λ arrow all arrows has_all few i less.
    let none = subst (FindsLayers arrow c.loop-first.first c.args.most) c.in_default.is (c.in_ok-sets.ensures arrow arrows) in
    by arrow all c.loop-first.first i less (c.loop-first.invariant arrow all arrows has_all few i) (leads-none arrow all c.loop-first.first c.args.most few none) (cases_lt i c.loop-first.first)
  where
    by : (arrow : Arrow) (all : List ℕ) (first i : ℕ) → i < first + 1 → (i < first → leads arrow all i i ≡ false) → leads arrow all first first ≡ false
        → (i < first) ⊎ (first ≤ i) → leads arrow all i i ≡ false
    by arrow all first i less before this (inl below) = before below
    by arrow all first i less before this (inr above) = subst (λ (k : ℕ). leads arrow all k k ≡ false) (omega (arith, less, above)) this

pub returns : goal.returns
returns c = λ arrow all arrows has_all few.
    goes_round-none arrow all has_all (λ i less. c.loop-first.invariant arrow all arrows has_all few i (omega (arith, less, c.loop-first-test.false)))
