use Rattle.std.proofs.Common.{◌∙◌, ap, arith, length}
use Rattle.process_tree.specs.Conflicts.{do_conflict}
use Rattle.trace_verify.specs.Names.{op_names, schedule, conflicts, conflicts_of}
use Rattle.trace_verify.specs.Verdicts.{of_outcome, outcome_from}
use Rattle.trace_verify.proofs.Tables.{same-relation, few-names, once-names, known-entries}
use Rattle.trace_verify.proofs.verdict.of_report.Goals as goal

pub table_of-requires-clause-few : goal.table_of-requires-clause-few
table_of-requires-clause-few c =
    few-names c.deref.result.now c.in_ok-entries.field-0.ops c.in_ok-entries.ensures.ops (let long = ap length c.deref.ensures.value in omega (arith, long, c.report.invariant.0))

pub table_of-requires-clause-once : goal.table_of-requires-clause-once
table_of-requires-clause-once c = once-names c.deref.result.now c.in_ok-entries.field-0.ops c.in_ok-entries.ensures.ops

pub of_entries-requires-clause-known : goal.of_entries-requires-clause-known
of_entries-requires-clause-known c =
    known-entries c.in_ok-table.table c.deref.result.now c.in_ok-entries.field-0.entries.items c.in_ok-entries.ensures.entries
    (c.in_ok-table.ensures.count ∙ ap length c.in_ok-entries.ensures.ops)

pub returns : goal.returns
returns c =
    let r = c.args.report.now in
    let acts = c.deref.ensures.value ∙ ap (λ x. x.acts) c.report.view_is in
    let pairs = c.deref-2.ensures.value ∙ ap (λ x. x.pairs) c.report.view_is in
    let ops = c.in_ok-entries.ensures.ops ∙ ap op_names acts in
    let entries = c.in_ok-entries.ensures.entries ∙ ap schedule acts in
    let relation = same-relation (do_conflict c.in_ok-table.table) (conflicts c.deref-2.result.now c.in_ok-entries.field-0.ops) c.in_ok-table.ensures.pairs
    ∙ (ap (λ ps. conflicts ps c.in_ok-entries.field-0.ops) pairs ∙ ap (conflicts r.pairs) ops) in
    c.of_entries.ensures
    ∙ (ap (λ t. of_outcome r (outcome_from t 1 r.steps c.in_ok-entries.field-0.entries.items)) relation
    ∙ ap (λ es. of_outcome r (outcome_from (conflicts_of r) 1 r.steps es)) entries)
