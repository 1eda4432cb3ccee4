-- Words that are a command by themselves name no folder.
use Rattle.std.proofs.Common.{◌≡◌, Bool, true, false, List, [], ◌∷◌, refl, subst, ap}
use Rattle.std.specs.Prelude.{Some, None, Result, Ok, Err, IfOk, codes, if◌then◌else◌}
use Rattle.std.specs.Str.{bytes_eq}
use Rattle.std.proofs.lemmas.Slice.Eq.{bytes_eq-Decides}
use Rattle.clap.specs.Walk.{Text}
use Rattle.program_words.specs.Commands.{asked}
use Rattle.program_words.specs.declared.reading.Command.{Command}
use Rattle.call_words.specs.Parts.{behind_folder}

-- a command doesn't begin with `-C`
no_command : (folder : Text) (rest : List Text) (c : Command) → asked (codes "-C" ∷ folder ∷ rest) ≡ Some c → ⊥
no_command folder rest c is =
    let none : None ≡ Some c = is in
    cc

not_in_front : (next : Bool) (option folder : Text) (rest : List Text) (c : Command) → bytes_eq option (codes "-C") ≡ next → asked (option ∷ folder ∷ rest) ≡ Some c → next ≡ false
not_in_front false option folder rest c is command = refl
not_in_front true option folder rest c is command =
    absurd (no_command folder rest c (subst (λ (o : Text). asked (o ∷ folder ∷ rest) ≡ Some c) ((bytes_eq-Decides option (codes "-C")).0 is) command))

-- all words of a command stand behind the folder that isn't named
pub all_behind : (words : List Text) (c : Command) → asked words ≡ Some c → behind_folder words ≡ words
all_behind [] c is = refl
all_behind (word ∷ []) c is = refl
all_behind (option ∷ folder ∷ rest) c is =
    ap (λ (b : Bool). if b then rest else (option ∷ folder ∷ rest)) (not_in_front (bytes_eq option (codes "-C")) option folder rest c refl is)

-- what holds of any value holds of the one that there is
pub of_any : {T E : Type 0} (P : T → Type 0) → ((x : T) → P x) → (r : Result T E) → IfOk r P
of_any P holds (Ok x) = holds x
of_any P holds (Err e) = tt
