-- No refusal has the status of work that was done.
use Rattle.std.proofs.Common.{◌≡◌}
use Rattle.process_text.specs.declared.error.TextError.{TextError}
use Rattle.process_text.specs.declared.error.TextError.TheVariants as texts
use Rattle.command_refusals.specs.Refusals.{error_status, refusal_status, report_status}
use Rattle.command_refusals.specs.declared.faults.ReportFault.{ReportFault}
use Rattle.command_refusals.specs.declared.faults.ReportFault.TheVariants as faults
use Rattle.command_refusals.specs.declared.refusal.Refusal.{Refusal}
use Rattle.command_refusals.specs.declared.refusal.Refusal.TheVariants as refusals
use Rattle.command_refusals.specs.declared.status.Status.TheVariants.{Done}

text_undone : (e : TextError) → error_status e ≡ Done → ⊥
text_undone (texts.BadText line column expected) is = absurd (cc)
text_undone (texts.Limit what n) is = absurd (cc)
text_undone (texts.SameName line name) is = absurd (cc)
text_undone texts.NoMemory is = absurd (cc)

report_undone : (fault : ReportFault) → report_status fault ≡ Done → ⊥
report_undone (faults.BadText n) is = absurd (cc)
report_undone (faults.StepRefused k) is = absurd (cc)
report_undone (faults.NotSerial n) is = absurd (cc)
report_undone (faults.SerialDiffers n) is = absurd (cc)

pub refused_undone : (r : Refusal) → refusal_status r ≡ Done → ⊥
refused_undone refusals.BadWords is = absurd (cc)
refused_undone (refusals.Text e) is = text_undone e is
refused_undone (refusals.Scenario fault) is = absurd (cc)
refused_undone (refusals.Commuting a b) is = absurd (cc)
refused_undone (refusals.CatalogDiffers n) is = absurd (cc)
refused_undone (refusals.BadLine n) is = absurd (cc)
refused_undone (refusals.Limit quantity n) is = absurd (cc)
refused_undone (refusals.Unfinished i) is = absurd (cc)
refused_undone (refusals.File fault) is = absurd (cc)
refused_undone (refusals.BookDiffers q n) is = absurd (cc)
refused_undone (refusals.Report fault) is = report_undone fault is
refused_undone refusals.ReadFault is = absurd (cc)
refused_undone refusals.DiskFault is = absurd (cc)
refused_undone (refusals.Exhausted i step) is = absurd (cc)
refused_undone refusals.NoMemory is = absurd (cc)
