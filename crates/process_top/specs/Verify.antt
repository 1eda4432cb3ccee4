-- The command `verify`.
use Rattle.std.specs.Prelude.{◌≡◌, ◌≤◌, [], ◌∷◌, length, IfSome}
use Rattle.std.specs.Io.KnownBytes.{IsAtEnd}
use Rattle.trace_verify.specs.declared.verdict.Verified.{Verified}
use Rattle.trace_verify.specs.declared.verdict.Verified.TheVariants as verdicts
use Rattle.trace_verify.specs.Verdicts.{verdict}
use Rattle.trace_verify.specs.Laws.{Means}
use Rattle.command_refusals.specs.declared.faults.ReportFault.{ReportFault}
use Rattle.command_refusals.specs.declared.faults.ReportFault.TheVariants.{BadText, StepRefused, NotSerial, SerialDiffers}
use Rattle.command_refusals.specs.declared.refusal.Refusal.TheVariants.{Report}
use Rattle.command_refusals.specs.declared.status.Status.{Status}
use Rattle.command_refusals.specs.declared.status.Status.TheVariants.{Done, BadInput, NotReduced, NoMemory}
use Rattle.command_refusals.specs.Statuses.{IsOneOf}
use Rattle.command_input.specs.Inputs.{Input, most_input, OnInput, IsRefused, input_tests}
use Rattle.process_top.specs.Replies.{Reply, accepted, refused}

-- the verdict that is this fault of a report
abbrev pub verdict_of : ReportFault → Verified
verdict_of (BadText n) = verdicts.BadText n
verdict_of (StepRefused k) = verdicts.StepRefused k
verdict_of (NotSerial n) = verdicts.NotSerial n
verdict_of (SerialDiffers n) = verdicts.SerialDiffers n

-- the source was read to its end, where it tells, and this is the verdict on its text; it means what it says
abbrev pub IsVerdictOn : Input → Input → Verified → Type 0
IsVerdictOn before after v = IsAtEnd after.left × OnInput before (λ text. (verdict text ≡ v) × Means text v)

-- that the report is accepted, or its fault; or what is refused of the input before it is read as a report
abbrev pub IsVerifyDue : Input → Input → Reply → Type 0
IsVerifyDue before after accepted = IsVerdictOn before after verdicts.Accepted
IsVerifyDue before after (refused (Report fault)) = IsVerdictOn before after (verdict_of fault)
IsVerifyDue before after (refused r) = IsRefused input_tests r before after
IsVerifyDue before after reply = ⊥

-- the status of a verdict
abbrev pub verified_status : Verified → Status
verified_status verdicts.Accepted = Done
verified_status (verdicts.BadText n) = BadInput
verified_status (verdicts.StepRefused k) = NotReduced
verified_status (verdicts.NotSerial n) = NotReduced
verified_status (verdicts.SerialDiffers n) = NotReduced
verified_status verdicts.NoMemory = NoMemory

-- an input within the limit has the status of the verdict on it, or memory is wanting; so a report that is accepted ends well
abbrev pub IsVerifyComplete : Input → Status → Type 0
IsVerifyComplete input status =
    IfSome input.left (λ text. length text ≤ most_input → IsOneOf status (verified_status (verdict text) ∷ NoMemory ∷ []))
