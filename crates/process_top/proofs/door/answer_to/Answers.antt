use Rattle.std.proofs.Common.{◌≡◌, ap}
use Rattle.std.proofs.lemmas.Result.{IfOk-weaker}
use Rattle.std.specs.Prelude.{Some}
use Rattle.process_disk.specs.Disk.{Told}
use Rattle.command_refusals.specs.declared.status.Status.TheVariants.{Done}
use Rattle.restart_run.specs.Boxes.{HaveValuesOf}
use Rattle.replay_run.specs.Replay.{HaveValuesOfFile}
use Rattle.command_input.specs.FilesLeft.{files}
use Rattle.process_top.specs.Commands.{at_once}
use Rattle.process_top.specs.Worlds.{BoxState, boxes, gates, output, world}
use Rattle.process_top.proofs.AtOnce.{others_at_once}
use Rattle.process_top.proofs.BoxKinds.{told_are_boxes}
use Rattle.process_top.proofs.BoxValues.{told_have_file_values, told_have_values}
use Rattle.process_top.proofs.Answered.{due_so, ending_is_answered}
use Rattle.process_top.proofs.door.answer_to.Goals as goal

pub returns : goal.returns
returns g c =
    let done = c.done-served.ensures in
    let ended = c.tell_served.ensures in
    let ending = c.done-served.result.ending in
    let left = c.done-served.result.parts in
    let now = c.tell_served.result in
    let disk = g.R.Rack.disk left.rack in
    let b = g.B.Resource in
    let o = at_once (Some c.args.command) in
    let answered = ending_is_answered c.printed_lists_keep_values.ensures o
    (world g.S.Source g.K.Sink g.R.Rack g.B.Resource g.G.Gate c.args.source.now c.args.sink.now c.args.rack c.args.resources.items c.args.gates.items)
    (world g.S.Source g.K.Sink g.R.Rack g.B.Resource g.G.Gate c.done-served.new.source c.tell_served.new.sink left.rack left.resources.items c.done-served.new.gates.items)
    now.status now.refused ended.told.0 ended.told.1 done.left
    (told_are_boxes g.B.Resource left.resources.items done.boxes) (λ none. ap (λ kept. boxes g.B.Resource kept.items) (done.kept none)) (others_at_once (Some c.args.command) _ _ done.gates)
    (λ none. ap (gates g.G.Gate) (done.unasked none)) done.untouched done.unread (output g.K.Sink c.done-served.new.sink) ending done.due ended.told.2 ended.refused ended.later done.worked done.early done.verdict
    (λ asks. due_so (λ found. IfOk-weaker found (λ s. s.status ≡ Done → Told disk → HaveValuesOf (λ x. (b.meaning x).items) disk.files left.resources.items)
    (λ s. s.status ≡ Done → Told disk → HaveValuesOf (λ (x : BoxState). x.values) disk.files (boxes b left.resources.items))
    (λ s has done told. told_have_values b disk.files left.resources.items (has done told))) ending (done.values asks))
    (λ asks. due_so (λ found. IfOk-weaker found (λ s. s.status ≡ Done → HaveValuesOfFile (λ x. (b.meaning x).items) (files g.R.Rack c.args.rack) (files g.R.Rack left.rack) left.resources.items)
    (λ s. s.status ≡ Done → HaveValuesOfFile (λ (x : BoxState). x.values) (files g.R.Rack c.args.rack) (files g.R.Rack left.rack) (boxes b left.resources.items))
    (λ s has done. told_have_file_values b (files g.R.Rack c.args.rack) (files g.R.Rack left.rack) left.resources.items (has done))) ending (done.replayed asks)) in
    rw (ended.rack, ended.resources, ended.gates) answered
