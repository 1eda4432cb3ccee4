use Rattle.history_judging.proofs.Judged.{judged-empty}
use Rattle.history_judging.proofs.legality.Legality.new.Goals as goal

pub returns : goal.returns
returns c table plans known =
    judged-empty table plans known c.new.result.items c.new-2.result.items c.new-3.result.items c.new.ensures.items c.new-2.ensures.items c.new-3.ensures.items
