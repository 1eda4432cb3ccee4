-- What is found in rotation, where a process that comes before is blocked.
use Rattle.std.proofs.Common.{◌≡◌, true, false, is_none, is_some, Option, Some, None, refl, sym}
use Rattle.std.specs.Option.{option_or}
use Rattle.std.proofs.lemmas.Bool.{false≢true}
use Rattle.process_core.specs.declared.replies.Found.{Found}
use Rattle.process_core.specs.declared.replies.Found.TheVariants.{Piece, Waiting as IsWaiting}
use Rattle.process_core.specs.declared.replies.Waiting.{Waiting}
use Rattle.process_core.specs.Rotation.{IfWaiting, found_after, piece_found}

pub none_is : {X : Type 0} (o : Option X) → is_none o ≡ true → o ≡ None
none_is None is = refl
none_is (Some x) is = absurd (false≢true is)

pub some_is : {X : Type 0} (o : Option X) → is_none o ≡ false → is_some o ≡ true
some_is None is = absurd (false≢true (sym is))
some_is (Some x) is = refl

-- the piece is that of the later ones
pub piece_after : (first : Option Waiting) (later : Found) → piece_found (found_after first later) ≡ piece_found later
piece_after first (Piece d) = refl
piece_after first (IsWaiting w) = refl

-- what holds of the first blocked process
pub waiting_after : (first : Option Waiting) (later : Found) (Q P : Option Waiting → Type 0) → ((w : Option Waiting) → Q w → P (option_or first w))
    → IfWaiting later Q → IfWaiting (found_after first later) P
waiting_after first (Piece d) Q P each if = tt
waiting_after first (IsWaiting w) Q P each if = each w if
