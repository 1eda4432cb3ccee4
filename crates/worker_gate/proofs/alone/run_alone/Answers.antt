use Rattle.std.proofs.Common.{◌≡◌, ◌<◌, ◌≤◌, Some, [], length, ap, refl, arith}
use Rattle.engine_calls.specs.GateAnswers.{counts_of}
use Rattle.process_core.specs.Room.{room_of}
use Rattle.worker_gate.proofs.AloneTurns.{room_same, within_room}
use Rattle.worker_gate.proofs.RanRuns.{ran_none, ran_then}
use Rattle.worker_gate.proofs.alone.run_alone.Goals as goal

pub turns-init : goal.turns-init
turns-init g c = record {
  ran = ran_none g.R.Rack g.G.Gate.answers (counts_of g.G.Gate c.args.gate.now) c.args.engine.now c.invariant_holds.ensures.run (c.invariant_holds.ensures.each c.requires.ready.settled);
  ready = c.requires.ready;
  idle = c.requires.alone;
  core = c.invariant_holds.ensures.run;
}

pub returns-in-Some-clause-ran : goal.returns-in-Some-clause-ran
returns-in-Some-clause-ran g c =
    let so_far = c.turns.invariant in
    ran_then g.R.Rack g.G.Gate.answers (counts_of g.G.Gate c.args.gate.now) (counts_of g.G.Gate c.turns.gate) (counts_of g.G.Gate c.turn.new.gate) c.args.engine.now c.turns.engine c.turn.new.engine
    so_far.ready.settled so_far.core (g.met.R.Rack.honest c.turn.new.engine.files.rack) so_far.ran c.in-Some.ensures.ran

pub turns-smaller : goal.turns-smaller
turns-smaller g c =
    let ran = c.in-None.ensures.ran in
    let same : room_of c.turn.new.engine.core ≡ room_of c.turns.engine.core =
    room_same c.turns.engine.core c.turn.new.engine.core c.turns.invariant.core c.invariant_holds-in-None.ensures.run ran.plans (ran.goes []).opening in
    let most : length c.turn.new.engine.core.kept ≤ room_of c.turn.new.engine.core = within_room c.turn.new.engine.core c.invariant_holds-in-None.ensures.run in
    let more : length c.turns.engine.core.kept < length c.turn.new.engine.core.kept = c.in-None.ensures.more refl in
    omega (arith, same, most, more)

pub turns-preserved : goal.turns-preserved
turns-preserved g c =
    let so_far = c.turns.invariant in
    record {
      ran = ran_then g.R.Rack g.G.Gate.answers (counts_of g.G.Gate c.args.gate.now) (counts_of g.G.Gate c.turns.gate) (counts_of g.G.Gate c.turn.new.gate) c.args.engine.now c.turns.engine c.turn.new.engine
          so_far.ready.settled so_far.core (g.met.R.Rack.honest c.turn.new.engine.files.rack) so_far.ran c.in-None.ensures.ran;
      ready = c.in-None.ensures.ready (λ other. cc);
      idle = c.in-None.ensures.idle refl;
      core = c.invariant_holds-in-None.ensures.run;
    }

pub returns-in-Some-clause-fault : goal.returns-in-Some-clause-fault
returns-in-Some-clause-fault g c is =
    let rose = c.in-Some.ensures.fault (ap Some is) in
    let before = (c.turns.invariant.ran.goes []).later in
    search (arith, rose, before)
