use Rattle.std.proofs.Common.{List, None, sym, ap, ◌∙◌}
use Rattle.std.specs.Prelude.{filter, flat_map}
use Rattle.process_tree.specs.Conflicts.{Access}
use Rattle.process_tree.specs.declared.entry.Entry.{Entry}
use Rattle.hold_tables.specs.Tables.{Tables, OpenProcess, reserved_of, running_of}
use Rattle.hold_tables.specs.Reading.{holder_against, is_against, least_step}
use Rattle.hold_tables.proofs.Tidy.{tables}
use Rattle.hold_tables.proofs.Least.{holder-is}
use Rattle.hold_tables.proofs.holds.Holds.holder_against.Goals as goal

pub returns : goal.returns
returns c =
    let i = c.args.process in
    let access : Access = record { op = c.args.op; key = c.args.key } in
    let net = c.self.inside.net.items in
    let rows = c.self.inside.rows.items in
    let test = is_against c.self.inside.conflicts i access in
    let reserved = c.least_reserved-reserved.ensures ∙ ap (λ (rs : List OpenProcess). least_step None (filter test (flat_map reserved_of rs))) c.deref.ensures.value in
    let running = c.least_running-running.ensures ∙ ap (λ (rs : List OpenProcess). least_step c.least_reserved-reserved.result (filter test (flat_map running_of rs))) c.deref-2.ensures.value in
    c.least_of.ensures ∙ ap (λ (es : List Entry). least_step c.least_running-running.result (filter test es)) c.deref-3.ensures.value
    ∙ ap (λ o. least_step o (filter test net)) (running ∙ ap (λ o. least_step o (filter test (flat_map running_of rows))) reserved)
    ∙ sym (holder-is (tables c.self.inside.conflicts net rows) i access) ∙ ap (λ (t : Tables). holder_against t i access) c.self.view_is
