use Rattle.std.proofs.Common.{rules, refl}
use Rattle.process_top.specs.Replies.{accepted}
use Rattle.process_top.proofs.verify.verify.Goals as goal

pub returns : goal.returns
returns g c = (accepted, refl, search rules, search rules, refl)
