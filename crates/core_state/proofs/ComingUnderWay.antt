-- What comes under way, by its class.
use Rattle.std.proofs.Common.{◌≡◌, true, refl}
use Rattle.std.proofs.lemmas.Bool.{false≢true}
use Rattle.process_tree.specs.Recovery.{StepClass, reserved, committing, undoable}
use Rattle.core_state.specs.UnderWay.{is_committing}

-- a class that is one of new commit points is that
pub committing_is : (k : StepClass) → is_committing k ≡ true → k ≡ committing
committing_is reserved is = absurd (false≢true is)
committing_is undoable is = absurd (false≢true is)
committing_is committing is = refl
