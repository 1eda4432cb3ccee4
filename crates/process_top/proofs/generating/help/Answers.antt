use Rattle.std.proofs.Common.{rules, refl}
use Rattle.process_top.specs.Replies.{printed}
use Rattle.process_top.proofs.generating.help.Goals as goal

pub returns : goal.returns
returns c = (printed c.in_ok-text.text.items, refl, search rules, refl, refl)
