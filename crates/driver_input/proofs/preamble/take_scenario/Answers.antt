use Rattle.std.proofs.Common.{◌+◌, ◌<◌, ◌∙◌, inl, length, arith}
use Rattle.command_input.specs.Inputs.{input, most_input}
use Rattle.driver_input.proofs.InFront.{line_on, mark_taken, end_taken}
use Rattle.driver_input.proofs.Told.{too_many, too_long, end_too_long, taken_within, refused_within}
use Rattle.driver_input.proofs.preamble.take_scenario.Goals as goal

pub loop-alloc-preserved : goal.loop-alloc-preserved
loop-alloc-preserved g c =
    let part = rw c.in-Line.is at c.in_ok-take_part.ensures.part in
    record {
      in_front = line_on _ _ _ _ _ _ _ _ c.loop-alloc.invariant.in_front part;
      quiet = c.in_ok-take_part.ensures.quiet ∙ c.loop-alloc.invariant.quiet;
      little = c.take_part.ensures.ahead;
    }

pub returns-in-Mark-clause-taken : goal.returns-in-Mark-clause-taken
returns-in-Mark-clause-taken g c =
    let part = rw c.in-Mark.is at c.in_ok-take_part.ensures.part in
    taken_within c.within.result c.take_part.new.scenario.items (c.loop-alloc.number + 1) _ _ _ c.within.ensures.same (mark_taken _ _ _ _ _ _ _ _ c.loop-alloc.invariant.in_front part)

pub returns-in-End-clause-taken : goal.returns-in-End-clause-taken
returns-in-End-clause-taken g c =
    let part = rw c.in-End.is at c.in_ok-take_part.ensures.part in
    taken_within c.within-in-End.result c.take_part.new.scenario.items c.loop-alloc.number _ _ _ c.within-in-End.ensures.same (end_taken _ _ _ _ _ _ _ _ c.loop-alloc.number c.loop-alloc.invariant.in_front part)

pub returns-in-End-clause-refused : goal.returns-in-End-clause-refused
returns-in-End-clause-refused g c =
    let part = rw c.in-End.is at c.in_ok-take_part.ensures.part in
    refused_within c.within-in-End.result c.take_part.new.scenario.items (input g.S.Source c.args.source.now) (input g.S.Source c.take_part.new.source) c.within-in-End.ensures.refused (end_too_long _ _ _ _ _ _ _ _ c.loop-alloc.invariant.in_front part)

pub returns-in-Long-clause-refused : goal.returns-in-Long-clause-refused
returns-in-Long-clause-refused g c =
    let part = rw c.in-Long.is at c.in_ok-take_part.ensures.part in
    inl (c.too_long.ensures, too_long _ _ _ _ _ _ _ _ c.loop-alloc.invariant.in_front part)

pub returns-clause-refused : goal.returns-clause-refused
returns-clause-refused g c =
    let many : most_input < length c.loop-alloc.scenario.items = omega arith in
    inl (c.too_long-2.ensures, too_many _ _ _ _ _ c.loop-alloc.invariant.in_front many)
