-- A turn, after a write through `state`.
use Rattle.history_lock.specs.declared.desk.Turn.{Turn}

abbrev pub with_state : {S X : Type 0} → Turn S X → S → Turn S X
with_state turn w = record turn { state = w }
