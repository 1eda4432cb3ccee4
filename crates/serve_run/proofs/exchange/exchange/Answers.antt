use Rattle.std.proofs.Common.{◌≡◌, ℕ, List, IfNone, IfSome, subst}
use Rattle.std.specs.Io.KnownBytes.{Appends}
use Rattle.std.proofs.KnownBytes.{Appends-nil}
use Rattle.driver_answers.specs.Serving.{DriverState, IsLineAnswered}
use Rattle.serve_run.specs.Dialogue.{IsBetween, IsCutAmid}
use Rattle.session_play.specs.AtHand.{hand_of}
use Rattle.serve_run.proofs.Turns.{answered_short, between_still, exchanged, goes_still, over_amid, over_by_fault, over_by_stop, refused, refused_amid}
use Rattle.serve_run.proofs.exchange.exchange.Goals as goal

pub returns-in-Ok-Line-clause-on : goal.returns-in-Ok-Line-clause-on
returns-in-Ok-Line-clause-on g c =
    let next = rw c.in-Ok-Line.field-0-is at c.in-Ok-Line.ensures.next in
    let line = c.in-Ok-Line.line.items in
    let cat = c.args.engine.now.catalog in
    let old : DriverState = record { core = c.args.engine.now.core; hand = hand_of c.args.hand.now } in
    let new : DriverState = record { core = c.respond.new.engine.core; hand = hand_of c.respond.new.hand } in
    let taken = g.K.Sink.taken in
    let faults = g.K.Sink.faults in
    let on = subst (λ l. IfNone c.respond.result ((text : List ℕ) × IsLineAnswered cat c.args.plans.now old c.args.number l new text × Appends (taken c.args.sink.now) (taken c.respond.new.sink) text
    × (faults c.respond.new.sink ≡ faults c.args.sink.now))) c.deref.ensures.value c.respond.ensures.on in
    exchanged g.S.Source g.K.Sink g.R.Rack c.args.plans.now c.args.source.now c.next_line.new.source c.args.reader.now c.next_line.new.reader c.args.sink.now c.respond.new.sink c.args.engine.now c.respond.new.engine
    (hand_of c.args.hand.now) (hand_of c.respond.new.hand) c.args.number next.0 next.1 next.4 c.respond.result line next.2 c.next_line.ensures.ahead c.in-Ok-Line.ensures.quiet c.respond.ensures.goes c.respond.ensures.between
    (answered_short g.S.Source g.K.Sink g.R.Rack c.args.plans.now c.args.source.now c.next_line.new.source c.args.reader.now c.next_line.new.reader c.args.sink.now c.respond.new.sink c.args.engine.now c.respond.new.engine
    (hand_of c.args.hand.now) (hand_of c.respond.new.hand) c.args.number next.0 next.1 next.4 c.respond.result line next.3 on)

pub returns-in-Ok-Line-clause-over : goal.returns-in-Ok-Line-clause-over
returns-in-Ok-Line-clause-over g c =
    let next = rw c.in-Ok-Line.field-0-is at c.in-Ok-Line.ensures.next in
    over_amid g.S.Source g.K.Sink g.R.Rack c.args.plans.now c.args.source.now c.next_line.new.source c.args.reader.now c.next_line.new.reader c.args.sink.now c.respond.new.sink c.args.engine.now c.respond.new.engine
    (hand_of c.args.hand.now) (hand_of c.respond.new.hand) c.args.number next.0 next.1 next.4 c.respond.result c.in-Ok-Line.line.items next.2 c.next_line.ensures.later
    (subst (λ l. IfSome c.respond.result (IsCutAmid g.K.Sink g.R.Rack c.args.plans.now (record { core = c.args.engine.now.core; hand = hand_of c.args.hand.now }) c.args.number l c.args.sink.now c.respond.new.sink c.args.engine.now c.respond.new.engine)) c.deref.ensures.value c.respond.ensures.over)

pub returns-in-Ok-LongLine-clause-on : goal.returns-in-Ok-LongLine-clause-on
returns-in-Ok-LongLine-clause-on g c =
    let at : IsBetween g.R.Rack c.args.engine.now = record { machine = c.invariant_holds.ensures.run; settled = c.requires.ready.settled; read = c.invariant_holds.ensures.read c.requires.ready.settled; each = c.invariant_holds.ensures.each c.requires.ready.settled } in
    let next = rw c.in-Ok-LongLine.field-0-is at c.in-Ok-LongLine.ensures.next in
    exchanged g.S.Source g.K.Sink g.R.Rack c.args.plans.now c.args.source.now c.next_line.new.source c.args.reader.now c.next_line.new.reader c.args.sink.now c.refuse.new.sink c.args.engine.now c.args.engine.now
    (hand_of c.args.hand.now) (hand_of c.args.hand.now) c.args.number next.0 next.2 next.5 c.refuse.result next.1 next.3 c.next_line.ensures.ahead c.in-Ok-LongLine.ensures.quiet
    (goes_still g.S.Source g.K.Sink g.R.Rack c.args.plans.now c.args.source.now c.next_line.new.source c.args.reader.now c.next_line.new.reader c.args.sink.now c.refuse.new.sink c.args.engine.now (hand_of c.args.hand.now) c.args.number at c.refuse.result)
    (between_still g.S.Source g.K.Sink g.R.Rack c.args.plans.now c.args.source.now c.next_line.new.source c.args.reader.now c.next_line.new.reader c.args.sink.now c.refuse.new.sink c.args.engine.now (hand_of c.args.hand.now) c.args.number at c.refuse.result)
    (refused g.S.Source g.K.Sink g.R.Rack c.args.plans.now c.args.source.now c.next_line.new.source c.args.reader.now c.next_line.new.reader c.args.sink.now c.refuse.new.sink c.args.engine.now (hand_of c.args.hand.now) c.args.number at c.refuse.result next.1 next.4 c.refuse.ensures.whole)

pub returns-in-Ok-LongLine-clause-over : goal.returns-in-Ok-LongLine-clause-over
returns-in-Ok-LongLine-clause-over g c =
    let at : IsBetween g.R.Rack c.args.engine.now = record { machine = c.invariant_holds.ensures.run; settled = c.requires.ready.settled; read = c.invariant_holds.ensures.read c.requires.ready.settled; each = c.invariant_holds.ensures.each c.requires.ready.settled } in
    let next = rw c.in-Ok-LongLine.field-0-is at c.in-Ok-LongLine.ensures.next in
    over_amid g.S.Source g.K.Sink g.R.Rack c.args.plans.now c.args.source.now c.next_line.new.source c.args.reader.now c.next_line.new.reader c.args.sink.now c.refuse.new.sink c.args.engine.now c.args.engine.now
    (hand_of c.args.hand.now) (hand_of c.args.hand.now) c.args.number next.0 next.2 next.5 c.refuse.result next.1 next.3 c.next_line.ensures.later
    (refused_amid g.S.Source g.K.Sink g.R.Rack c.args.plans.now c.args.source.now c.next_line.new.source c.args.reader.now c.next_line.new.reader c.args.sink.now c.refuse.new.sink c.args.engine.now (hand_of c.args.hand.now) c.args.number at c.refuse.result next.1 next.4 c.refuse.ensures.part)

pub returns-in-Ok-Stop-clause-over : goal.returns-in-Ok-Stop-clause-over
returns-in-Ok-Stop-clause-over g c =
    let at : IsBetween g.R.Rack c.args.engine.now = record { machine = c.invariant_holds.ensures.run; settled = c.requires.ready.settled; read = c.invariant_holds.ensures.read c.requires.ready.settled; each = c.invariant_holds.ensures.each c.requires.ready.settled } in
    let next = rw c.in-Ok-Stop.field-0-is at c.in-Ok-Stop.ensures.next in
    over_by_stop g.S.Source g.K.Sink g.R.Rack c.args.plans.now c.args.source.now c.next_line.new.source c.args.reader.now c.next_line.new.reader c.args.sink.now c.args.sink.now c.args.engine.now (hand_of c.args.hand.now) c.args.number at
    next.0 next.1 next.3 c.next_line.ensures.later next.2 (Appends-nil (g.K.Sink.taken c.args.sink.now))

pub returns-in-Err-clause-over : goal.returns-in-Err-clause-over
returns-in-Err-clause-over g c =
    let at : IsBetween g.R.Rack c.args.engine.now = record { machine = c.invariant_holds.ensures.run; settled = c.requires.ready.settled; read = c.invariant_holds.ensures.read c.requires.ready.settled; each = c.invariant_holds.ensures.each c.requires.ready.settled } in
    let gave = c.in-Err.ensures.gave in
    over_by_fault g.S.Source g.K.Sink g.R.Rack c.args.plans.now c.args.source.now c.next_line.new.source c.args.reader.now c.next_line.new.reader c.args.sink.now c.tell_fault.new.sink c.args.engine.now (hand_of c.args.hand.now) c.args.number at
    c.in-Err.fault c.tell_fault.result gave.0 gave.1 gave.2 gave.3 c.next_line.ensures.later c.in-Err.ensures.fault c.tell_fault.ensures
