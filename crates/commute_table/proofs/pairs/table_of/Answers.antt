use Rattle.std.proofs.Common.{◌≡◌, true, false, Ok, length, ap, sym, ◌∙◌}
use Rattle.commute_table.specs.Document.{some_disagree}
use Rattle.commute_table.proofs.Agreeing.{are_of, two_disagree, none_disagree}
use Rattle.commute_table.proofs.pairs.table_of.Goals as goal

pub all_stand-requires : goal.all_stand-requires
all_stand-requires c = record { within = are_of (length c.args.ops.now) c.in_ok-conflicts.conflicts c.args.pairs.now c.requires.within c.in_ok-conflicts.ensures }

pub returns-then-not-all_stand : goal.returns-then-not-all_stand
returns-then-not-all_stand c =
    let two : some_disagree c.args.pairs.now ≡ true = two_disagree (length c.args.ops.now) c.in_ok-conflicts.conflicts c.args.pairs.now c.requires.within c.in_ok-conflicts.ensures (sym c.all_stand.ensures ∙ c.if-not-all_stand.true) in
    rw two c.refuse.ensures

pub returns : goal.returns
returns c =
    let none : some_disagree c.args.pairs.now ≡ false = none_disagree c.in_ok-conflicts.conflicts c.args.pairs.now (sym c.all_stand.ensures ∙ c.if-not-all_stand.false) in
    rw none (ap Ok (sym c.in_ok-conflicts.ensures))
