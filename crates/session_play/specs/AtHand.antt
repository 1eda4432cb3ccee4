-- What a session has at hand.
use Rattle.std.specs.Prelude.{List, []}
use Rattle.machine_model.specs.Replies.{Handed}
use Rattle.process_core.specs.Cores.{CoreState}
use Rattle.engine_steps.specs.Engines.{EngineState}
use Rattle.process_engine.specs.Queues.{AreQueued}
use Rattle.session_play.specs.declared.at_hand.AtHand.{AtHand}
use Rattle.session_play.specs.Pieces.{AreHandedBy, session_of}
use Rattle.session_play.specs.Playing.{SessionState}

-- The pieces that a line may still finish or queue, and those that are queued.
pub record Hand : Type 0 where
  pub unfinished : List Handed
  pub queued : List Handed

-- the same of what lies in memory
abbrev pub hand_of : AtHand → Hand
hand_of hand = record { unfinished = hand.unfinished.items; queued = hand.queued }

-- no piece is at hand
abbrev pub none_at_hand : Hand
none_at_hand = record { unfinished = []; queued = [] }

-- the session of this core with these pieces at hand
abbrev pub session_with : CoreState → AtHand → SessionState
session_with core hand = session_of core hand.unfinished.items hand.queued

-- each unfinished piece was handed out by this engine, and what is queued may be
pub record AreAtHand {R B : Type 0} (e : EngineState R B) (hand : AtHand) : Type 0 where
  pub handed : AreHandedBy e.core hand.unfinished.items
  pub queued : AreQueued e hand.queued
