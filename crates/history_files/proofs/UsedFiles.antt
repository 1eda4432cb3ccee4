-- The first file that has a byte.
use Rattle.std.proofs.Common.{◌⊎◌, inl, inr, nat_eq, ◌≡◌, ◌≢◌, ◌<◌, ◌≤◌, ◌+◌, ◌-◌, ℕ, zero, suc, true, false, List, [], ◌∷◌, length, Option, Some, None, refl, sym, ◌∙◌, ap, subst, arith}
use Rattle.std.specs.Prelude.{if◌then◌else◌}
use Rattle.std.proofs.lemmas.Option.{none-some}
use Rattle.std.proofs.lemmas.Bool.Decides.{eqb_tells}
use Rattle.process_disk.specs.Disk.{FileSet, file_of}
use Rattle.history_files.specs.Creating.{first_used_from, has_byte}
use Rattle.process_disk.specs.Disk.{Disk}
use Rattle.history_files.specs.Creating.{AreLeftUnmade, first_used}
use Rattle.history_files.specs.declared.faults.CreateError.{CreateError}
use Rattle.history_files.specs.declared.faults.CreateError.TheVariants.{DiskFault, NotEmpty, NoMemory}

-- a file has a byte, or none
is_used : (file : List ℕ) → 0 < length file → has_byte file ≡ true
is_used [] more = absurd (omega (arith, more))
is_used (b ∷ file) more = refl

is_unused : (file : List ℕ) → length file ≤ 0 → has_byte file ≡ false
is_unused [] none = refl
is_unused (b ∷ file) none = absurd (omega (arith, none))

-- the next one has a byte,
pub used_here : (q : ℕ) (files : FileSet) → q < 9 → 0 < length (file_of files q) → first_used_from (9 - q) q files ≡ Some q
used_here q files within used =
    let more : suc (9 - (q + 1)) ≡ 9 - q = omega (arith, within) in
    subst (λ n. first_used_from n q files ≡ Some q) more (ap (λ b. if b then Some q else first_used_from (9 - (q + 1)) (q + 1) files) (is_used (file_of files q) used))

-- or none, so it is one of the others
pub used_later : (q : ℕ) (files : FileSet) → q < 9 → length (file_of files q) ≤ 0 → first_used_from (9 - (q + 1)) (q + 1) files ≡ first_used_from (9 - q) q files
used_later q files within none =
    let more : suc (9 - (q + 1)) ≡ 9 - q = omega (arith, within) in
    subst (λ n. first_used_from (9 - (q + 1)) (q + 1) files ≡ first_used_from n q files) more
    (sym (ap (λ b. if b then Some q else first_used_from (9 - (q + 1)) (q + 1) files) (is_unused (file_of files q) none)))

-- the first of some files is empty, and the first that has a byte is one of the others
empty_first : (file : List ℕ) (q : ℕ) (later : Option ℕ) → (if has_byte file then Some q else later) ≡ None → (file ≡ []) × (later ≡ None)
empty_first [] q later none = (refl, none)
empty_first (b ∷ file) q later none = absurd (none-some q (sym none))

-- a file is the first of some or one of the others
first_or_other : {P : Type 0} (q k : ℕ) → q ≤ k → (q ≡ k → P) → (q + 1 ≤ k → P) → P
first_or_other {P} q k from here there = by (eqb_tells q k)
  where
    by : ((nat_eq q k ≡ true) × (q ≡ k)) ⊎ ((nat_eq q k ≡ false) × (q ≢ k)) → P
    by (inl same) = here same.1
    by (inr other) = there (omega (arith, from, other.1))

-- where there is none, each file is empty
pub none_used : (n q : ℕ) (files : FileSet) → first_used_from n q files ≡ None → (k : ℕ) → q ≤ k → k < q + n → file_of files k ≡ []
none_used zero q files none k from within = absurd (omega (arith, from, within))
none_used (suc n) q files none k from within =
    let first = empty_first (file_of files q) q (first_used_from n (q + 1) files) none in
    first_or_other q k from (λ here. ap (file_of files) (sym here) ∙ first.0) (λ there. none_used n (q + 1) files first.1 k there (omega (arith, within)))

-- where no file has a byte, a refusal that names no file leaves what it may
pub unused_left : (why : CreateError) (old new : Disk) {F : Type 0} → (why ≢ NoMemory → (why ≡ DiskFault) × F) → first_used old.files ≡ None → AreLeftUnmade why old new
unused_left DiskFault old new refused none = inr none
unused_left (NotEmpty q) old new refused none = let fault : NotEmpty q ≡ DiskFault = (refused (λ same. absurd cc)).0 in absurd cc
unused_left NoMemory old new refused none = inr none
