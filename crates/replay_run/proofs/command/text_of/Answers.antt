use Rattle.std.proofs.Common.{◌≡◌, ◌++◌, ◌∙◌, map, ap, subst, rules}
use Rattle.std.specs.Prelude.{codes}
use Rattle.process_report.specs.Lines.{text_of}
use Rattle.value_replay.specs.Replays.{lines_of}
use Rattle.replay_run.specs.Boxes.{boxes_lines, HaveKeysOf}
use Rattle.replay_run.specs.Printed.{step_line}
use Rattle.replay_run.proofs.PrintedText.{text_written}
use Rattle.replay_run.proofs.command.text_of.Goals as goal

pub returns : goal.returns
returns g c =
    let catalog = c.args.c.now in
    let h = c.args.h.now in
    let start : c.in_ok-text.text.items ≡ codes "serial\n" = search rules in
    let titled : c.extend_from_slice.new.self.items ≡ c.put_steps.new.out.items ++ codes "values\n" = search rules in
    let steps : c.put_steps.new.out.items ≡ codes "serial\n" ++ text_of (map (step_line h.plans catalog.ops) (lines_of catalog h)) =
    c.in_ok-put_steps.ensures
    ∙ (ap (λ s. s ++ text_of (map (step_line c.as_slice-plans.result.now c.as_slice-ops.result.now) c.args.lines.now)) start
    ∙ (ap (λ ps. codes "serial\n" ++ text_of (map (step_line ps c.as_slice-ops.result.now) c.args.lines.now)) c.as_slice-plans.ensures
    ∙ (ap (λ os. codes "serial\n" ++ text_of (map (step_line h.plans os) c.args.lines.now)) c.as_slice-ops.ensures
    ∙ ap (λ ls. codes "serial\n" ++ text_of (map (step_line h.plans catalog.ops) ls)) c.requires.lines))) in
    let have : HaveKeysOf h.plans (lines_of catalog h) c.in_ok-keys.keys.items =
    subst (λ ls. HaveKeysOf h.plans ls c.in_ok-keys.keys.items) c.requires.lines
    (subst (λ ps. HaveKeysOf ps c.args.lines.now c.in_ok-keys.keys.items) c.as_slice-plans.ensures c.in_ok-keys.ensures.all) in
    text_written g.B.Resource.sort (λ b. (g.B.Resource.meaning b).items) c.args.boxes.now catalog h c.in_ok-keys.keys.items c.put_steps.new.out.items c.extend_from_slice.new.self.items
    c.put_boxes.new.out.items c.requires.boxes have c.in_ok-keys.ensures.sorted c.requires.values steps titled
    (subst (λ ks. c.put_boxes.new.out.items ≡ c.extend_from_slice.new.self.items ++ text_of (boxes_lines (λ b. (g.B.Resource.meaning b).items) ks 0 c.args.boxes.now)) c.deref.ensures.value
    c.in_ok-put_boxes.ensures)
