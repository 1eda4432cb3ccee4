use Rattle.std.proofs.Common.{rules, ◌≡◌, if◌then◌else◌}
use Rattle.command_refusals.specs.declared.status.Status.TheVariants.{Done, IllFormed}
use Rattle.command_refusals.specs.Verdicts.{AreLines}
use Rattle.process_top.proofs.Saying.{check_says}
use Rattle.process_top.proofs.check.check.Goals as goal
use Rattle.process_top.proofs.check.check.Goals.{then-any, else-any}

pub returns : goal.returns
returns g c =
    let ps = c.in_ok-processes.processes.items in
    let lines : AreLines ps c.in_ok-text.any c.in_ok-text.text.items = rw (← c.deref.ensures.value) c.in_ok-text.ensures in
    let status : c.if-any.status ≡ (if c.in_ok-text.any then IllFormed else Done) =
    elim c.if-any.branch [ then-any w ↦ search rules | else-any w ↦ search rules ] in
    check_says _ _ ps c.in_ok-text.any c.in_ok-text.text.items c.if-any.status c.in_ok-processes.ensures.read lines status
