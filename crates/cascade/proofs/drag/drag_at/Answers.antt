use Rattle.std.proofs.Common.{length, sym, subst}
use Rattle.process_tree.specs.Conflicts.{Table}
use Rattle.cascade.specs.Walking.{IsWithin}
use Rattle.cascade.proofs.Marking.{each_at}
use Rattle.cascade.proofs.drag.drag_at.Goals as goal

pub drag_behind-requires-clause-first : goal.drag_behind-requires-clause-first
drag_behind-requires-clause-first c =
    let within = IsWithin c.args.holds.now.conflicts (length c.args.marks.now) in
    subst within (sym (c.net_at-x.ensures.entry c.net_at-x.result)) (each_at within c.args.holds.now.net c.args.place c.net_at-x.result c.requires.place c.requires.net)

pub drag_running-requires-clause-first : goal.drag_running-requires-clause-first
drag_running-requires-clause-first c =
    let within = IsWithin c.args.holds.now.conflicts (length c.args.marks.now) in
    let its = subst within (sym (c.net_at-x.ensures.entry c.net_at-x.result)) (each_at within c.args.holds.now.net c.args.place c.net_at-x.result c.requires.place c.requires.net) in
    subst (λ (t : Table). IsWithin t (length c.drag_behind.new.marks) c.net_at-x.result) (sym c.conflicts.ensures.table) (subst (λ n. IsWithin c.args.holds.now.conflicts n c.net_at-x.result) (sym c.drag_behind.ensures.count) its)
