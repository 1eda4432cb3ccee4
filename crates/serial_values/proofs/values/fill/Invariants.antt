use Rattle.std.proofs.Common.{◌≡◌, take}
use Rattle.resource_box.specs.Table.{kind_of}
use Rattle.serial_values.specs.Told.{HasValuesOf}
use Rattle.serial_values.proofs.values.fill.Given as goal

abbrev pub invariant-loop-at : goal.invariant-loop-at
invariant-loop-at g l = record {
  kind : g.B.Resource.sort l.resource ≡ kind_of l.q;
  values : HasValuesOf l.ops l.plans (take l.at l.steps) l.q (g.B.Resource.meaning l.resource).items;
}
