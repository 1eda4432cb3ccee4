use Rattle.process_report.proofs.ReportsAccepted.{printed_reports_are_accepted}
use Rattle.process_report.proofs.laws.printed_reports_are_accepted.Goals as goal

pub returns : goal.returns
returns c = printed_reports_are_accepted
