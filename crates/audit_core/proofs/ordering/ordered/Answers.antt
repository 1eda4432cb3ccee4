use Rattle.std.proofs.Common.{◌≡◌, ℕ, ◌-◌, ◌<◌, ◌+◌, ◌++◌, ◌∷◌, ◌∙◌, [], Some, List, not, nat_eq, filter, sym, ap, subst, arith, append_assoc, add-one}
use Rattle.schedule_model.proofs.Members.{among-filter}
use Rattle.schedule_rules.proofs.ListTests.{each-among, each_from}
use Rattle.dependence_model.specs.SerialOrder.{first_free, ordered, then_others}
use Rattle.audit_core.specs.Arrows.{AreBelow, arrow_in, columns}
use Rattle.audit_core.proofs.ordering.ordered.Goals as goal

below-filter : (i : ℕ) (xs : List ℕ) → AreBelow xs → AreBelow (filter (λ k. not (nat_eq k i)) xs)
below-filter i xs below = each_from (λ (k : ℕ). k < columns) (filter (λ k. not (nat_eq k i)) xs)
    (λ k is. each-among (λ (j : ℕ). j < columns) k xs below (among-filter (λ j. not (nat_eq j i)) k xs is).0)

pub loop-left-preserved : goal.loop-left-preserved
loop-left-preserved c =
    let arrow = arrow_in c.args.rows.now in
    let all = c.loop-left.all.items in
    let i = c.in-Some.i in
    let kept = c.take_out.ensures in
    let free : Some i ≡ first_free arrow all all = subst (λ (xs : List ℕ). Some i ≡ first_free arrow xs xs) c.deref.ensures.value c.in-Some.ensures in
    let m : ℕ = c.loop-left.left - 1 in
    let one : c.loop-left.left ≡ m + 1 = omega (arith, c.loop-left-test.true) in
    let more : ordered c.loop-left.left arrow all ≡ i ∷ ordered m arrow (filter (λ k. not (nat_eq k i)) all) =
    ap (λ n. ordered n arrow all) (one ∙ add-one m) ∙ ap (λ o. then_others (ordered m arrow) all o) (sym free) in
    record {
      below = subst AreBelow (sym kept) (below-filter i all c.loop-left.invariant.below);
      order =
          ap (λ xs. xs ++ ordered m arrow c.take_out.new.all.items) c.in_ok-push.ensures.items
          ∙ (append_assoc c.loop-left.order.items (i ∷ []) (ordered m arrow c.take_out.new.all.items)
          ∙ (ap (λ xs. c.loop-left.order.items ++ i ∷ ordered m arrow xs) kept
          ∙ (ap (λ xs. c.loop-left.order.items ++ xs) (sym more) ∙ c.loop-left.invariant.order)));
    }
