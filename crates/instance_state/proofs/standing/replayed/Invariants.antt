use Rattle.std.proofs.Common.{drop, take}
use Rattle.instance_state.proofs.Replays.{HasReplayed}
use Rattle.instance_state.proofs.standing.replayed.Given as goal

abbrev pub invariant-loop-act : goal.invariant-loop-act
invariant-loop-act l = HasReplayed l.rows (take l.act-index l.acts) (drop l.act-index l.acts) l.at
