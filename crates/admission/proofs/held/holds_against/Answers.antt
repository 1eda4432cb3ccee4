use Rattle.std.proofs.Common.{sym, ap, ◌∙◌}
use Rattle.process_tree.specs.Conflicts.{do_conflict}
use Rattle.machine_model.specs.declared.blocked.Rule.TheVariants.{A1}
use Rattle.hold_tables.specs.Tables.{kept_of, reserved_of}
use Rattle.admission.specs.Least.{least_on, lesser_of}
use Rattle.admission.specs.Parts.{pending_of}
use Rattle.admission.proofs.HeldUp.{some_first, some_in}
use Rattle.admission.proofs.held.holds_against.Goals as goal

pub returns : goal.returns
returns c is =
    let found = some_in c.least_of_process.result (sym c.is_some-2.ensures ∙ is) in
    (found.0, sym c.least_of_process.ensures ∙ found.1)

pub returns-then-is_some : goal.returns-then-is_some
returns-then-is_some c is =
    let t = c.args.holds.now in
    let r = kept_of t c.args.process in
    let table = do_conflict t.conflicts in
    let rest = lesser_of (least_on table A1 c.args.own (reserved_of r)) (least_on table A1 c.args.own (pending_of t.net r)) in
    let found = some_in c.least_running.result (sym c.is_some.ensures ∙ c.if-is_some.true) in
    let first = some_first found.0 rest in
    (first.0, ap (λ o. lesser_of o rest) (sym c.least_running.ensures ∙ found.1) ∙ first.1)
