-- Which words a command with no argument takes: none, or `--` alone.
use Rattle.std.proofs.Common.{◌≡◌, ◌⊎◌, ℕ, Bool, true, false, List, [], ◌∷◌, refl, ap, subst, inl, inr}
use Rattle.std.specs.Prelude.{Option, Some, None, codes, slice_get}
use Rattle.std.specs.Str.{bytes_eq, chars}
use Rattle.std.proofs.lemmas.Slice.Eq.{bytes_eq-Decides}
use Rattle.clap.specs.Lexer.{long_of, short_of}
use Rattle.clap.specs.Walk.{Text}
use Rattle.clap.specs.Faults.{fault_of}
use Rattle.clap.proofs.OnLiterals.{clap_on_literals}
use Rattle.program_words.specs.Apps.{plain_app}

after_dashes : (name : Text) (y : Text) (ys : List Text) → fault_of (plain_app name) ((45 ∷ 45 ∷ []) ∷ y ∷ ys) ≡ [] → ⊥
unfolding clap_on_literals
after_dashes name y ys h = cc

long_refused : (name : Text) (x : Text) (rest : List Text) (p : Text × Option Text) → bytes_eq x (45 ∷ 45 ∷ []) ≡ false → long_of x ≡ Some p
    → fault_of (plain_app name) (x ∷ rest) ≡ [] → ⊥
unfolding clap_on_literals
long_refused name x rest p dashes long h =
    let bad = simp (dashes, long) at h in
    cc

word_refused : (name : Text) (x : Text) (rest : List Text) → bytes_eq x (45 ∷ 45 ∷ []) ≡ false → long_of x ≡ None → short_of x ≡ None
    → fault_of (plain_app name) (x ∷ rest) ≡ [] → ⊥
unfolding clap_on_literals
word_refused name x rest dashes long short h =
    let bad = simp (dashes, long, short) at h in
    cc

flags_refused : (name : Text) (x : Text) (rest : List Text) (f : ℕ) (fs : Text) (o : Option ℕ) → bytes_eq x (45 ∷ 45 ∷ []) ≡ false → long_of x ≡ None
    → short_of x ≡ Some (f ∷ fs) → slice_get (chars (f ∷ fs)) 0 ≡ o
    → fault_of (plain_app name) (x ∷ rest) ≡ [] → ⊥
unfolding clap_on_literals
flags_refused name x rest f fs None dashes long short first h =
    let bad = simp (dashes, long, short, first) at h in
    cc
flags_refused name x rest f fs (Some c) dashes long short first h =
    let bad = simp (dashes, long, short, first) at h in
    cc

no_flags_refused : (name : Text) (x : Text) (rest : List Text) → bytes_eq x (45 ∷ 45 ∷ []) ≡ false → long_of x ≡ None
    → short_of x ≡ Some []
    → fault_of (plain_app name) (x ∷ rest) ≡ [] → ⊥
unfolding clap_on_literals
no_flags_refused name x rest dashes long short h =
    let bad = simp (dashes, long, short) at h in
    cc

refused_by_short : (name : Text) (x : Text) (rest : List Text) (s : Option Text) → bytes_eq x (45 ∷ 45 ∷ []) ≡ false → long_of x ≡ None
    → short_of x ≡ s → fault_of (plain_app name) (x ∷ rest) ≡ [] → ⊥
refused_by_short name x rest None dashes long short h = word_refused name x rest dashes long short h
refused_by_short name x rest (Some []) dashes long short h = no_flags_refused name x rest dashes long short h
refused_by_short name x rest (Some (f ∷ fs)) dashes long short h = flags_refused name x rest f fs (slice_get (chars (f ∷ fs)) 0) dashes long short refl h

refused_by_long : (name : Text) (x : Text) (rest : List Text) (l : Option (Text × Option Text)) → bytes_eq x (45 ∷ 45 ∷ []) ≡ false → long_of x ≡ l
    → fault_of (plain_app name) (x ∷ rest) ≡ [] → ⊥
refused_by_long name x rest None dashes long h = refused_by_short name x rest (short_of x) dashes long refl h
refused_by_long name x rest (Some p) dashes long h = long_refused name x rest p dashes long h

only_dashes : (name : Text) (x : Text) (rest : List Text) (b : Bool) → bytes_eq x (45 ∷ 45 ∷ []) ≡ b
    → fault_of (plain_app name) (x ∷ rest) ≡ [] → x ∷ rest ≡ (45 ∷ 45 ∷ []) ∷ []
only_dashes name x [] true dashes h = ap (λ (w : Text). w ∷ []) ((bytes_eq-Decides x (45 ∷ 45 ∷ [])).0 dashes)
only_dashes name x (y ∷ ys) true dashes h =
    absurd (after_dashes name y ys (subst (λ (w : Text). fault_of (plain_app name) (w ∷ y ∷ ys) ≡ []) ((bytes_eq-Decides x (45 ∷ 45 ∷ [])).0 dashes) h))
only_dashes name x rest false dashes h = absurd (refused_by_long name x rest (long_of x) dashes refl h)

dashes_pass : (name : Text) → fault_of (plain_app name) (codes "--" ∷ []) ≡ []
unfolding clap_on_literals
dashes_pass name = refl

-- a command with no argument takes no word, or `--` alone
pub plain_takes : (name : Text) (words : List Text) → fault_of (plain_app name) words ≡ [] → (words ≡ []) ⊎ (words ≡ codes "--" ∷ [])
plain_takes name [] h = inl refl
plain_takes name (x ∷ rest) h = inr (only_dashes name x rest (bytes_eq x (45 ∷ 45 ∷ [])) refl h)
