-- Pieces that a core handed out.
use Rattle.std.specs.Prelude.{List}
use Rattle.process_tree.specs.Order.{Each}
use Rattle.machine_model.specs.Moment.{Piece}
use Rattle.machine_model.specs.Replies.{Handed}
use Rattle.process_core.specs.Cores.{CoreState, IsHandedBy}

-- each of these was handed out by this core
abbrev pub AreHandedBy : CoreState → List Handed → Type 0
AreHandedBy c ds = Each (λ (d : Handed). IsHandedBy c d.piece) ds

-- what one handed out, the other did
abbrev pub StayHanded : CoreState → CoreState → Type 0
StayHanded c d = (p : Piece) → IsHandedBy c p → IsHandedBy d p
