use Rattle.std.proofs.Common.{◌∙◌, ap}
use Rattle.gate_log.specs.LogFile.{records_size}
use Rattle.gate_log.proofs.Staging.{size_of}
use Rattle.gate_log.proofs.staged.Staged.size.Goals as goal

pub returns-clause-size : goal.returns-clause-size
returns-clause-size c =
    let was = c.self.invariant in
    size_of _ c.self.inside.size c.self.inside.bytes.items was.0 was.1 was.2 ∙ ap records_size c.self.view_is
