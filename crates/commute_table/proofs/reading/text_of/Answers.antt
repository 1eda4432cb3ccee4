use Rattle.std.proofs.Common.{◌≡◌, ◌+◌, ◌-◌, arith, true, false, take, sym, ◌∙◌}
use Rattle.commute_table.specs.Reading.{can_be_new}
use Rattle.commute_table.proofs.Loops.{name_goes_on, name_refused, name_cut, name_done}
use Rattle.commute_table.proofs.reading.text_of.Goals as goal

pub returns-then-place-bytes : goal.returns-then-place-bytes
returns-then-place-bytes c = name_cut c.args.earlier.now c.args.count c.loop-place.place c.args.bytes.now _ c.loop-place-test.true c.if-place-bytes.true c.loop-place.invariant.same

pub returns-then-not-branch : goal.returns-then-not-branch
returns-then-not-branch c =
    let tested : can_be_new c.args.earlier.now (c.args.count - c.loop-place.place - 1) (take (c.loop-place.place + 1) c.args.bytes.now) ≡ false = sym c.in_ok-can_be_new.ensures ∙ c.if-not-branch.true in
    name_refused c.args.earlier.now c.args.count c.loop-place.place c.args.bytes.now _ c.loop-place-test.true c.if-place-bytes.false tested c.loop-place.invariant.same

pub loop-place-preserved : goal.loop-place-preserved
loop-place-preserved c =
    let tested : can_be_new c.args.earlier.now (c.args.count - c.loop-place.place - 1) (take (c.loop-place.place + 1) c.args.bytes.now) ≡ true = sym c.in_ok-can_be_new.ensures ∙ c.if-not-branch.false in
    record {
      within = omega (arith, c.if-place-bytes.false);
      same = name_goes_on c.args.earlier.now c.args.count c.loop-place.place c.args.bytes.now _ c.loop-place-test.true c.if-place-bytes.false tested c.loop-place.invariant.same;
    }

pub returns : goal.returns
returns c =
    rw (c.split_at.ensures.front, c.split_at.ensures.back)
    (name_done c.args.earlier.now c.args.count c.loop-place.place c.args.bytes.now _ c.loop-place-test.false (omega arith) c.loop-place.invariant.same)
