-- `clap` finds no fault in the forms, and finds their texts.
use Rattle.std.proofs.Common.{◌≡◌, ℕ, true, false, List, [], ◌∷◌, refl, ◌==◌}
use Rattle.std.specs.Prelude.{Some, codes, pos}
use Rattle.clap.specs.Walk.{Text, one_of}
use Rattle.clap.specs.Simple.{matches_of}
use Rattle.clap.specs.Faults.{fault_of}
use Rattle.clap.specs.ValueTests.{accepts}
use Rattle.clap.specs.declared.builder.value_parser.ValueParser.TheVariants as vp
use Rattle.clap.proofs.OnLiterals.{clap_on_literals}
use Rattle.program_words.specs.Apps.{numbers_app, plain_app, workers_app}
use Rattle.program_words.specs.Asked.{flag_asked, flags_asked}

pub nothing_passes : (name : Text) → fault_of (plain_app name) [] ≡ []
unfolding clap_on_literals
nothing_passes name = refl

pub options_left_out : (name : Text) → flags_asked name (codes "values") (codes "strict") [] ≡ Some (false, false)
unfolding clap_on_literals
options_left_out name = refl

pub values_given : (name : Text) → flags_asked name (codes "values") (codes "strict") (codes "--values" ∷ []) ≡ Some (true, false)
unfolding clap_on_literals
values_given name = refl

pub strict_given : (name : Text) → flags_asked name (codes "values") (codes "strict") (codes "--strict" ∷ []) ≡ Some (false, true)
unfolding clap_on_literals
strict_given name = refl

pub values_strict_given : (name : Text) → flags_asked name (codes "values") (codes "strict") (codes "--values" ∷ codes "--strict" ∷ []) ≡ Some (true, true)
unfolding clap_on_literals
values_strict_given name = refl

pub strict_values_given : (name : Text) → flags_asked name (codes "values") (codes "strict") (codes "--strict" ∷ codes "--values" ∷ []) ≡ Some (true, true)
unfolding clap_on_literals
strict_values_given name = refl

pub history_left_out : (name : Text) → flag_asked name (codes "history") [] ≡ Some false
unfolding clap_on_literals
history_left_out name = refl

pub history_given : (name : Text) → flag_asked name (codes "history") (codes "--history" ∷ []) ≡ Some true
unfolding clap_on_literals
history_given name = refl

pub no_workers_pass : (name : Text) → fault_of (workers_app name) [] ≡ []
unfolding clap_on_literals
no_workers_pass name = refl

pub one_worker : (name : Text) → one_of (codes "workers") (matches_of (workers_app name) []) ≡ Some (codes "1")
unfolding clap_on_literals
one_worker name = refl

pub workers_pass : (name : Text) (d : ℕ) (ds : List ℕ) → (d == 45) ≡ false → accepts false (vp.Signed (pos 1) (pos 16)) (d ∷ ds) ≡ true
    → fault_of (workers_app name) (codes "--workers" ∷ (d ∷ ds) ∷ []) ≡ []
unfolding clap_on_literals
workers_pass name d ds minus accepted =
    let passed = simp minus at accepted in
    simp (minus, passed)

pub workers_number : (name : Text) (d : ℕ) (ds : List ℕ) → (d == 45) ≡ false
    → one_of (codes "workers") (matches_of (workers_app name) (codes "--workers" ∷ (d ∷ ds) ∷ [])) ≡ Some (d ∷ ds)
unfolding clap_on_literals
workers_number name d ds minus = simp minus

pub numbers_pass : (name : Text) (d e : ℕ) (ds es : List ℕ) → (d == 45) ≡ false → (e == 45) ≡ false
    → accepts false (vp.Unsigned 0 18446744073709551615) (d ∷ ds) ≡ true → accepts false (vp.Signed (pos 1) (pos 256)) (e ∷ es) ≡ true
    → fault_of (numbers_app name) ((d ∷ ds) ∷ (e ∷ es) ∷ []) ≡ []
unfolding clap_on_literals
numbers_pass name d e ds es minus other accepted counted =
    let passed = simp other at counted in
    simp (minus, other, accepted, passed)

pub numbers_number : (name : Text) (d e : ℕ) (ds es : List ℕ) → (d == 45) ≡ false → (e == 45) ≡ false
    → one_of (codes "number") (matches_of (numbers_app name) ((d ∷ ds) ∷ (e ∷ es) ∷ [])) ≡ Some (d ∷ ds)
unfolding clap_on_literals
numbers_number name d e ds es minus other = simp (minus, other)

pub numbers_count : (name : Text) (d e : ℕ) (ds es : List ℕ) → (d == 45) ≡ false → (e == 45) ≡ false
    → one_of (codes "count") (matches_of (numbers_app name) ((d ∷ ds) ∷ (e ∷ es) ∷ [])) ≡ Some (e ∷ es)
unfolding clap_on_literals
numbers_count name d e ds es minus other = simp (minus, other)
