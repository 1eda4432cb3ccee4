use Rattle.process_top.specs.Worlds.{output, world}
use Rattle.init_run.proofs.FilesMade.{untouched}
use Rattle.process_top.proofs.BoxKinds.{told_are_boxes}
use Rattle.process_top.proofs.Unread.{unread_is_answered}
use Rattle.process_top.proofs.door.unread.Goals as goal

pub returns : goal.returns
returns g c =
    let ended = c.tell_served.ensures in
    λ command bad. rw (ended.rack, ended.resources, ended.gates)
    (unread_is_answered c.printed_lists_keep_values.ensures command
    (world g.S.Source g.K.Sink g.R.Rack g.B.Resource g.G.Gate c.args.source.now c.args.sink.now c.args.rack c.args.resources.items c.args.gates.items)
    c.tell_served.new.sink (output g.K.Sink c.tell_served.new.sink) c.tell_served.result.status c.tell_served.result.refused ended.told.0 c.args.why c.words_refusal.result c.words_refusal.ensures ended.refused bad ended.told.1
    (untouched (g.R.Rack.disk c.args.rack) (g.met.R.Rack.honest c.args.rack)) (told_are_boxes g.B.Resource c.args.resources.items c.requires.boxes) ended.told.2 ended.later)
