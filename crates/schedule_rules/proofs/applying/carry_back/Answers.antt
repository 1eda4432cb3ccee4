use Rattle.std.proofs.Common.{refl, sym, ap, ◌∙◌, arith, ◌-◌, suc, Some, take, drop, get_or}
use Rattle.schedule_rules.proofs.applying.carry_back.Goals.{then-to-eq0-via-then-to-eq0, then-to-eq0-via-else-to-eq0+then-not-can_be_passed}
use Rattle.process_tree.specs.Conflicts.{do_conflict}
use Rattle.std.specs.List.{slice_range}
use Rattle.schedule_rules.proofs.Moves.{blank, none_to_zero, moves_back, moves_not_back, back_before, back_many, back_split}
use Rattle.schedule_rules.proofs.applying.carry_back.Goals as goal

pub returns-then-to-eq0-clause-answers : goal.returns-then-to-eq0-clause-answers
returns-then-to-eq0-clause-answers c =
    let xs = c.args.list.now in
    let table = do_conflict c.args.c.now in
    elim c.then-to-eq0.branch [ then-to-eq0-via-then-to-eq0 w ↦ (none_to_zero table xs blank c.args.from c.args.to w.if-to-eq0.true c.requires.earlier, refl) | then-to-eq0-via-else-to-eq0+then-not-can_be_passed w ↦ (moves_not_back table xs blank c.args.from c.args.to w.if-to-eq0.false c.requires.earlier c.requires.within (sym w.can_be_passed.ensures ∙ w.if-not-can_be_passed.true), refl) ]

pub returns-clause-answers : goal.returns-clause-answers
returns-clause-answers c =
    let xs = c.args.list.now in
    let from = c.args.from in
    let to = c.args.to in
    let some = c.if-to-eq0.false in
    let table = do_conflict c.args.c.now in
    let before = back_before table xs blank from to some c.requires.earlier c.requires.within in
    let many = back_many table xs blank from to some c.requires.earlier c.requires.within in
    moves_back table xs blank from to some c.requires.earlier c.requires.within (sym c.can_be_passed.ensures ∙ c.if-not-can_be_passed.false)
    ∙ ap Some (sym (c.last_to_first.ensures.turned (take (to - 1) xs) (get_or xs (from - 1) blank) (slice_range xs (to - 1) (from - 1)) (drop (suc (from - 1)) xs)
    (back_split table xs blank from to some c.requires.earlier c.requires.within) before (omega (arith, many, some))))
