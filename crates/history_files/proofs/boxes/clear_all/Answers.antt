use Rattle.std.proofs.Common.{◌≡◌, ◌∙◌, ap, [], arith}
use Rattle.std.proofs.lemmas.Option.{slice_get_within}
use Rattle.history_files.proofs.Clearing.{map-set, so_below}
use Rattle.history_files.proofs.boxes.clear_all.Goals as goal

pub loop-place-preserved : goal.loop-place-preserved
loop-place-preserved g c =
    let old = c.loop-place in
    record {
      empty = so_below (λ b. (g.B.Resource.meaning b).items ≡ []) old.boxes.items old.place c.clear.new.self old.invariant.empty c.clear.ensures.empty;
      kinds = map-set g.B.Resource.sort old.boxes.items old.place c.clear.new.self c.index_mut.result.now (omega (arith, c.loop-place-test.true, c.len.ensures, old.boxes.ok)) (c.clear.ensures.kind ∙ ap g.B.Resource.sort c.index_mut.ensures.value) ∙ old.invariant.kinds;
      capacity = old.invariant.capacity;
      within = omega (arith, c.loop-place-test.true, c.len.ensures);
    }

pub returns-clause-empty : goal.returns-clause-empty
returns-clause-empty g c q x at =
    let within = slice_get_within c.loop-place.boxes.items q x at in
    c.loop-place.invariant.empty q x (omega (arith, within, c.loop-place-test.false, c.len.ensures, c.loop-place.boxes.ok)) at
