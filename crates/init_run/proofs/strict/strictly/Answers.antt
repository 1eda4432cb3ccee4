use Rattle.std.proofs.Common.{◌≡◌, true, refl, inr, subst}
use Rattle.command_input.specs.Scenarios.{AreNoGoodPlans}
use Rattle.init_run.proofs.strict.strictly.Goals as goal

pub returns-in-Err-IllFormed-clause-held : goal.returns-in-Err-IllFormed-clause-held
returns-in-Err-IllFormed-clause-held c =
    let is : c.args.strict ≡ true = c.if-not-strict.false in
    let why = subst (AreNoGoodPlans c.args.c.now.ops c.args.processes.now) c.in-Err-IllFormed.field-0-is c.in-Err-IllFormed.ensures.refused in
    (is, inr (c.in-Err-IllFormed.text, why, first_of (cc, rw c.in-Err-IllFormed.field-0-is), refl))
