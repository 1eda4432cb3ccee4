use Rattle.std.proofs.Common.{◌≡◌, ◌∙◌, ◌==◌, List, [], length, ap, arith, sym}
use Rattle.std.proofs.lemmas.Option.{slice_get_within}
use Rattle.subsystem_store.specs.declared.effect.Effect.{Effect}
use Rattle.history_files.proofs.Places.{place_has}
use Rattle.history_files.proofs.files.Files.has_doubt.Goals as goal

pub returns-then-not-is_empty-clause-some : goal.returns-then-not-is_empty-clause-some
returns-then-not-is_empty-clause-some g c none =
    let q = c.loop-q.q in
    let stores = c.args.self.now.stores in
    let s = place_has stores q (omega (arith, c.loop-q-test.true, c.stores_hold.ensures.eight)) in
    let is : c.in_doubt.result.now ≡ [] = c.in_doubt.ensures s.0 s.1 ∙ none q s.0 s.1 in
    sym (c.is_empty.ensures ∙ ap (λ (es : List Effect). length es == 0) is) ∙ c.if-not-is_empty.true

pub returns-clause-settled : goal.returns-clause-settled
returns-clause-settled g c none q s at =
    let within = slice_get_within c.args.self.now.stores q s at in
    c.loop-q.invariant.below q s (omega (arith, within, c.loop-q-test.false, c.stores_hold.ensures.eight)) at
