use Rattle.std.proofs.Common.{◌++◌, ap, ◌∙◌}
use Rattle.command_refusals.proofs.Lines.{line_added}
use Rattle.command_refusals.proofs.verdict.add_verdict.Goals as goal

pub returns : goal.returns
returns c =
    line_added c.args.process.now c.add_fault.result c.args.text.now.items c.extend_from_slice.new.self.items c.add_fault.new.text.items
    (c.in_ok-extend_from_slice.ensures.items ∙ ap (λ n. c.args.text.now.items ++ n) c.bytes.ensures.bytes) c.add_fault.ensures
