use Rattle.std.proofs.Common.{sym}
use Rattle.scenario_warnings.proofs.lines.add_line.Goals as goal

pub returns-in-Unused : goal.returns-in-Unused
returns-in-Unused c = rw (c.in-Unused.is, sym c.op_name.ensures) c.add_one.ensures

pub returns-in-Commuting : goal.returns-in-Commuting
returns-in-Commuting c = rw (c.in-Commuting.is, sym c.op_name-a.ensures, sym c.op_name-b.ensures) c.add_two.ensures

pub returns-in-HoldOfNothing : goal.returns-in-HoldOfNothing
returns-in-HoldOfNothing c =
    rw (c.in-HoldOfNothing.is, sym c.step_name-step.ensures, sym c.process_name-process.ensures) c.add_two-in-HoldOfNothing.ensures

pub returns-in-NegativeTake : goal.returns-in-NegativeTake
returns-in-NegativeTake c =
    rw (c.in-NegativeTake.is, sym c.step_name-step-in-NegativeTake.ensures, sym c.process_name-process-in-NegativeTake.ensures)
    c.add_two-in-NegativeTake.ensures
