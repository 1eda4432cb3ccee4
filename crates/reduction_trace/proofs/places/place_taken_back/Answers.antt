use Rattle.std.proofs.Common.{ap, sym, ◌∙◌}
use Rattle.std.specs.Prelude.{unwrap_or}
use Rattle.reduction_trace.proofs.EntryAt.{taken_back-by}
use Rattle.reduction_trace.proofs.places.place_taken_back.Goals as goal

pub returns-in-Some-clause-place : goal.returns-in-Some-clause-place
returns-in-Some-clause-place c =
    sym (taken_back-by c.args.list.now c.args.place _ c.requires.some c.requires.within
    ∙ ap (λ o. unwrap_or o 0) (sym c.first_taken_back.ensures.place ∙ c.in-Some.is))
