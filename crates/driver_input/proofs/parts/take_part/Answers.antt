use Rattle.std.proofs.Common.{◌++◌}
use Rattle.driver_input.proofs.parts.take_part.Goals as goal

pub returns-in_ok-add-in-Ok-clause-part : goal.returns-in_ok-add-in-Ok-clause-part
returns-in_ok-add-in-Ok-clause-part g c =
    let t = c.in-Ok.ensures.taken in
    record {
      given = t.0;
      gave = t.1;
      part_is = c.in_ok-add-in-Ok.ensures.part (c.args.reader.now ++ t.0) c.take_line.new.self t.2;
      last = c.in_ok-add-in-Ok.ensures.last (g.S.Source.left c.take_line.new.source) t.3;
      needed = t.4;
    }
