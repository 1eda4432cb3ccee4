use Rattle.std.proofs.Common.{◌≡◌, ◌++◌, List, length}
use Rattle.schedule_model.specs.declared.event.Event.{Event}
use Rattle.history_judging.specs.Keeping.{IsJudged}
use Rattle.history_judging.proofs.legal_history.legal.Given as goal

abbrev pub invariant-loop-rest : goal.invariant-loop-rest
invariant-loop-rest l = record {
  past : List Event;
  split : l.h.events ≡ past ++ l.rest;
  judged : IsJudged l.c l.h.plans past l.legality;
  place : l.place ≡ length past;
}

abbrev pub decreases-loop-rest : goal.decreases-loop-rest
decreases-loop-rest l = length l.rest
