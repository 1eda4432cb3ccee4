-- A log stands for its list while bodies are staged.
use Rattle.std.proofs.Common.{◌≡◌, ◌∙◌, ℕ, List, [], ◌∷◌, ◌++◌, refl, sym, ap, subst}
use Rattle.process_disk.specs.Disk.{Disk}
use Rattle.gate_log.specs.LogFile.{records_size}
use Rattle.gate_log.specs.Standing.{LogState, StandsFor, IsOpen, CanRetract, CanRetractLast, EndsIn}
use Rattle.gate_log.specs.Staging.{staging}

-- so an empty one is open with three staged
pub open_with_three : (log one two three : LogState) (a b c : List ℕ) (disk : Disk) → one ≡ staging log a → two ≡ staging one b → three ≡ staging two c → StandsFor log [] disk → IsOpen three disk
open_with_three log one two three a b c disk first second third stands =
    subst (λ l. IsOpen l disk) (sym (third ∙ ap (λ l. staging l c) (second ∙ ap (λ l. staging l b) first))) (record {
      bodies = [];
      stands = record { count = stands.count; end = stands.end; read = stands.read; each = stands.each };
    })

-- with two staged it stands for the list of before,
pub stands_with_two : (log one two : LogState) (bodies : List (List ℕ)) (a b : List ℕ) (disk : Disk) → one ≡ staging log a → two ≡ staging one b → StandsFor log bodies disk → StandsFor two bodies disk
stands_with_two log one two bodies a b disk first second stands =
    subst (λ l. StandsFor l bodies disk) (sym (second ∙ ap (λ l. staging l b) first)) (record { count = stands.count; end = stands.end; read = stands.read; each = stands.each })

-- and they are these two
pub two_are : (log one two : LogState) (a b : List ℕ) → log.staged ≡ [] → one ≡ staging log a → two ≡ staging one b → two.staged ≡ a ∷ b ∷ []
two_are log one two a b none first second =
    ap (λ l. l.staged) second ∙ ap (λ l. l.staged ++ b ∷ []) first ∙ ap (λ (bs : List (List ℕ)). (bs ++ a ∷ []) ++ b ∷ []) none

-- Two that were staged together can be retracted together.
pub two_can_go : (staged : List (List ℕ)) (new : LogState) (a b : List ℕ) → staged ≡ a ∷ b ∷ [] → CanRetractLast staged new → CanRetract 2 (records_size (a ∷ b ∷ [])) new
two_can_go staged new a b are last = last [] (a ∷ b ∷ []) are (λ none. cc)

-- After an append a log ends in its body,
pub ends_in_one : (log new : LogState) (bodies : List (List ℕ)) (body : List ℕ) (size : ℕ) (old disk : Disk) → StandsFor log bodies old
    → ((bs : List (List ℕ)) → StandsFor log bs old → StandsFor new (bs ++ body ∷ []) disk) → records_size (body ∷ []) ≡ size → EndsIn 1 size new disk
ends_in_one log new bodies body size old disk stands adds is = record { bodies = bodies; last = body ∷ []; stands = adds bodies stands; number_is = refl; size_is = is }

-- and after one of what was staged, in that.
pub ends_in_two : (log new : LogState) (bodies staged : List (List ℕ)) (a b : List ℕ) (size : ℕ) (old disk : Disk) → StandsFor log bodies old
    → ((bs : List (List ℕ)) → StandsFor log bs old → StandsFor new (bs ++ staged) disk) → staged ≡ a ∷ b ∷ [] → records_size (a ∷ b ∷ []) ≡ size → EndsIn 2 size new disk
ends_in_two log new bodies staged a b size old disk stands adds are is = record {
  bodies = bodies;
  last = a ∷ b ∷ [];
  stands = subst (λ (l : List (List ℕ)). StandsFor new (bodies ++ l) disk) are (adds bodies stands);
  number_is = refl;
  size_is = is;
}
