use Rattle.std.proofs.Common.{refl, sym, ap, ◌∙◌, arith, ◌-◌, Some, take, drop, get_or}
use Rattle.schedule_rules.proofs.applying.carry_on.Goals.{then-from-eq0-via-then-from-eq0, then-from-eq0-via-else-from-eq0+then-list-to, then-from-eq0-via-else-from-eq0+else-list-to+then-not-can_pass}
use Rattle.process_tree.specs.Conflicts.{do_conflict}
use Rattle.std.specs.List.{slice_range}
use Rattle.schedule_rules.proofs.Moves.{blank, none_from_zero, none_past, moves_on, moves_not_on, on_before, on_many, on_split}
use Rattle.schedule_rules.proofs.applying.carry_on.Goals as goal

pub returns-then-from-eq0-clause-answers : goal.returns-then-from-eq0-clause-answers
returns-then-from-eq0-clause-answers c =
    let xs = c.args.list.now in
    let table = do_conflict c.args.c.now in
    elim c.then-from-eq0.branch [ then-from-eq0-via-then-from-eq0 w ↦ (none_from_zero table xs blank c.args.from c.args.to w.if-from-eq0.true c.requires.later, refl) | then-from-eq0-via-else-from-eq0+then-list-to w ↦ (none_past table xs blank c.args.from c.args.to w.if-list-to.true c.requires.later, refl) | then-from-eq0-via-else-from-eq0+else-list-to+then-not-can_pass w ↦ (moves_not_on table xs blank c.args.from c.args.to w.if-from-eq0.false c.requires.later w.if-list-to.false (sym w.can_pass.ensures ∙ w.if-not-can_pass.true), refl) ]

pub returns-clause-answers : goal.returns-clause-answers
returns-clause-answers c =
    let xs = c.args.list.now in
    let from = c.args.from in
    let to = c.args.to in
    let some = c.if-from-eq0.false in
    let within = c.if-list-to.false in
    let table = do_conflict c.args.c.now in
    let before = on_before table xs blank from to some c.requires.later within in
    let many = on_many table xs blank from to some c.requires.later within in
    moves_on table xs blank from to some c.requires.later within (sym c.can_pass.ensures ∙ c.if-not-can_pass.false)
    ∙ ap Some (sym (c.first_to_last.ensures.turned (take (from - 1) xs) (get_or xs (from - 1) blank) (slice_range xs from to) (drop to xs)
    (on_split table xs blank from to some c.requires.later within) before (omega (arith, many, some))))
