use Rattle.std.proofs.Common.{sym, ap, ◌∙◌, if◌then◌else◌, Option, None}
use Rattle.std.specs.Prelude.{take}
use Rattle.std.proofs.lemmas.Bool.{eq-eqb, ne_eqb}
use Rattle.process_tree.specs.Conflicts.{do_conflict}
use Rattle.machine_model.specs.declared.blocked.Blocked.{Blocked}
use Rattle.machine_model.specs.declared.blocked.Rule.TheVariants.{A3}
use Rattle.admission.specs.Least.{least_on, lesser_of}
use Rattle.admission.specs.Parts.{least_front}
use Rattle.admission.proofs.net.least_at.Goals as goal

pub returns-then-y-process : goal.returns-then-y-process
returns-then-y-process c = λ d.
    let t = c.args.holds.now in
    let y = c.net_at-y.result in
    let found : Option Blocked = least_on (do_conflict t.conflicts) A3 y (take c.args.place t.net) in
    c.least_before.ensures
    ∙ ap (λ b. lesser_of (if b then found else None) c.args.found) (sym (eq-eqb y.process c.args.process c.if-y-process.true))
    ∙ ap (λ e. lesser_of (least_front (do_conflict t.conflicts) c.args.process (take c.args.place t.net) e) c.args.found) (c.net_at-y.ensures.entry d)

pub returns-else-y-process : goal.returns-else-y-process
returns-else-y-process c = λ d.
    let t = c.args.holds.now in
    let y = c.net_at-y.result in
    let found : Option Blocked = least_on (do_conflict t.conflicts) A3 y (take c.args.place t.net) in
    ap (λ b. lesser_of (if b then found else None) c.args.found) (sym (ne_eqb y.process c.args.process c.if-y-process.false))
    ∙ ap (λ e. lesser_of (least_front (do_conflict t.conflicts) c.args.process (take c.args.place t.net) e) c.args.found) (c.net_at-y.ensures.entry d)
