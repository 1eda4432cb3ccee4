use Rattle.std.proofs.Common.{◌∙◌, List, sym, ap, subst}
use Rattle.process_tree.specs.Conflicts.{do_conflict}
use Rattle.schedule_model.specs.Histories.{is_in}
use Rattle.machine_model.specs.Cascade.{IsCascade}
use Rattle.hold_tables.specs.Tables.{holdings_of}
use Rattle.cascade.specs.declared.marks.Mark.{Mark}
use Rattle.cascade.specs.Sets.{listed}
use Rattle.cascade.specs.Walking.{last_entries}
use Rattle.cascade.proofs.Closed.{is_cascade, is_computed, written_over}
use Rattle.cascade.proofs.spread.closure.Goals as goal

pub returns-clause-least : goal.returns-clause-least
returns-clause-least c =
    let t = c.args.holds.now in
    let whole = written_over c.into.inside.marks.len c.go_on.new.marks c.into.inside.marks.items (c.go_on.ensures.count ∙ c.deref_mut.ensures.len) in
    subst (λ (marks : List Mark). IsCascade (do_conflict t.conflicts) (holdings_of t) c.args.root (last_entries t c.args.root c.args.count) (listed 0 marks)) (sym whole)
    (is_cascade t c.args.root c.args.count c.go_on.new.marks c.go_on.ensures.way c.go_on.ensures.all)

pub returns-clause-computed : goal.returns-clause-computed
returns-clause-computed c k =
    let t = c.args.holds.now in
    let whole = written_over c.into.inside.marks.len c.go_on.new.marks c.into.inside.marks.items (c.go_on.ensures.count ∙ c.deref_mut.ensures.len) in
    ap (λ (marks : List Mark). is_in k (listed 0 marks)) whole
    ∙ is_computed t c.args.root c.args.count (listed 0 c.go_on.new.marks) c.requires.root (is_cascade t c.args.root c.args.count c.go_on.new.marks c.go_on.ensures.way c.go_on.ensures.all) k
