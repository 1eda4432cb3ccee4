use Rattle.std.proofs.Common.{◌<◌, ℕ, length, slice_index_or}
use Rattle.std.proofs.iter.Serving.{serving}
use Rattle.well_formed.proofs.Rounds.{Each-at}
use Rattle.well_formed.proofs.outcomes.can_any_be_refused.Goals as goal

pub any-requires-clause-callable : goal.any-requires-clause-callable
any-requires-clause-callable c =
    let steps = c.args.steps.now in
    let within : (k d : ℕ) → k < length steps → slice_index_or steps k d < length c.args.kinds.now
    = λ k d less. Each-at _ steps k d less c.requires in
    grind (serving, within)
