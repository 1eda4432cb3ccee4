use Rattle.std.proofs.Common.{ap, arith, length, length-drop}
use Rattle.line_reader.proofs.reader.LineReader.invariant_holds.Goals as goal

pub returns : goal.returns
returns c =
    let r = c.self.inside in
    omega (arith, c.self.invariant.1, length-drop r.at r.bytes.items, ap length c.self.view_is)
