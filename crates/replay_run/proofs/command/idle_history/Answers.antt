use Rattle.std.proofs.Common.{inl, inr, refl, sym, ◌∙◌}
use Rattle.replay_run.proofs.command.idle_history.Goals as goal

pub returns-in-Some-clause-refused : goal.returns-in-Some-clause-refused
returns-in-Some-clause-refused g c =
    inr ((c.in_ok-catalog.catalog, c.in_ok-catalog.history), c.in_ok-catalog.ensures.opened, inl (c.in-Some.i, refl, sym c.first_active.ensures ∙ c.in-Some.is))
