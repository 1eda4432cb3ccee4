use Rattle.std.proofs.Common.{◌∙◌, sym, ap, subst, arith, suc, refl, length}
use Rattle.schedule_model.specs.Histories.{acts}
use Rattle.history_files.specs.Effects.{effects_from}
use Rattle.history_files.specs.Standing.{AreGoodBooks}
use Rattle.history_opening.specs.Comparing.{books_difference}
use Rattle.history_opening.proofs.Differing.{few_in_good, found_first, found_here, found_later}
use Rattle.history_opening.proofs.comparing.books_difference.Goals as goal

pub store_difference-difference-requires : goal.store_difference-difference-requires
store_difference-difference-requires g c =
    let few = few_in_good c.in-Some.store.now (subst AreGoodBooks c.in-Some.ensures.cases.0 c.loop-store.invariant.good 0 c.in-Some.store.now refl) in
    record { few = omega (arith, few) }

pub returns-then-is_some : goal.returns-then-is_some
returns-then-is_some g c =
    let ops = c.args.ops.now in
    let h = c.args.history.now in
    let q = c.loop-store.q in
    let store = c.in-Some.store.now in
    let effects_of = c.deref.ensures.value ∙ c.in_ok-acts.ensures ∙ ap (λ ps. effects_from ops ps q 0 (acts c.as_slice-events.result.now)) c.as_slice-plans.ensures ∙ ap (λ es. effects_from ops h.plans q 0 (acts es)) c.as_slice-events.ensures in
    found_first ops h q store c.in-Some.others.now c.store_difference-difference.result (found_here ops h q store c.deref.result.now c.store_difference-difference.result effects_of c.store_difference-difference.ensures)
    (sym c.is_some.ensures ∙ c.if-is_some.true)
    ∙ ap (books_difference ops h q) (sym c.in-Some.ensures.cases.0) ∙ c.loop-store.invariant.same

pub loop-store-preserved : goal.loop-store-preserved
loop-store-preserved g c =
    let ops = c.args.ops.now in
    let h = c.args.history.now in
    let q = c.loop-store.q in
    let store = c.in-Some.store.now in
    let split = c.in-Some.ensures.cases.0 in
    let effects_of = c.deref.ensures.value ∙ c.in_ok-acts.ensures ∙ ap (λ ps. effects_from ops ps q 0 (acts c.as_slice-events.result.now)) c.as_slice-plans.ensures ∙ ap (λ es. effects_from ops h.plans q 0 (acts es)) c.as_slice-events.ensures in
    record {
      same = found_later ops h q store c.in-Some.others.now c.store_difference-difference.result (found_here ops h q store c.deref.result.now c.store_difference-difference.result effects_of c.store_difference-difference.ensures)
          (sym c.is_some.ensures ∙ c.if-is_some.false)
          ∙ ap (books_difference ops h q) (sym split) ∙ c.loop-store.invariant.same;
      at = omega (arith, ap length split, c.loop-store.invariant.at);
      good = λ k s at. subst AreGoodBooks split c.loop-store.invariant.good (suc k) s at;
    }
