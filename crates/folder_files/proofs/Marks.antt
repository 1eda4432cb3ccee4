-- Marks of files that a crash may leave otherwise than they read.
use Rattle.std.specs.Prelude.{slice_set, List, [], ◌∷◌, Bool, true, false, Result, Ok, Err, OnErr}
use Rattle.std.proofs.Common.{◌≡◌, ◌<◌, ◌∙◌, ℕ, zero, suc, length, refl, sym, subst, inl, inr, ◌⊎◌}
use Rattle.std.proofs.lemmas.Bool.{cases_eq, false≢true}
use Rattle.std.proofs.lemmas.List.{get_or-set_same, get_or-set_other}
use Rattle.process_disk.specs.Disk.{Disk, Told, Looks}
use Rattle.folder_files.specs.Folder.{IsUnmarked, SomeMarked, NoneMarked, AreKept}
use Rattle.process_disk.proofs.Images.{told_before}
use Rattle.folder_files.proofs.WholeCalls.{kept_by_look}

some_or_none : (marks : List Bool) → SomeMarked marks ⊎ NoneMarked marks
some_or_none [] = inr (λ k. refl)
some_or_none (true ∷ marks) = inl (0, refl)
some_or_none (false ∷ marks) = behind (some_or_none marks)
  where
    behind : SomeMarked marks ⊎ NoneMarked marks → SomeMarked (false ∷ marks) ⊎ NoneMarked (false ∷ marks)
    behind (inl some) = inl (suc some.0, some.1)
    behind (inr none) = inr (λ k. unmarked k)
      where
        unmarked : (k : ℕ) → IsUnmarked (false ∷ marks) k
        unmarked zero = refl
        unmarked (suc k) = none k

-- where not all are unmarked some is marked
pub some_marked : (marks : List Bool) → ¬ NoneMarked marks → SomeMarked marks
some_marked marks not_none = elim (some_or_none marks) [ inl some ↦ some | inr none ↦ absurd (not_none none) ]

-- one that was marked just now is
pub not_none_set : (marks : List Bool) (k : ℕ) → k < length marks → ¬ NoneMarked (slice_set marks k true)
not_none_set marks k there none = false≢true (sym (none k) ∙ get_or-set_same marks k true false there)

-- marking a file takes no other out of those that are kept
pub kept_set : (marks : List Bool) (k : ℕ) (disk : Disk) → k < length marks → AreKept marks disk → AreKept (slice_set marks k true) disk
kept_set marks k disk there kept told j below unmarked = elim (cases_eq j k) [
  | inl same ↦ absurd (false≢true (sym (subst (IsUnmarked (slice_set marks k true)) same unmarked) ∙ get_or-set_same marks k true false there))
  | inr other ↦ kept told j below (sym (get_or-set_other marks k j true false other) ∙ unmarked)
]

-- what is so where a call fails
pub on_err : {T E P : Type 0} → (result : Result T E) → P → OnErr result P
on_err (Ok value) holds = tt
on_err (Err error) holds = holds

-- A look leaves kept what was kept.
pub kept_by_looks : (marks : List Bool) (old new : Disk) → new.tells ≡ old.tells → (Told old → Looks old new) → AreKept marks old → AreKept marks new
kept_by_looks marks old new tells looks kept told k below unmarked =
    let told_old = told_before old new tells told in
    kept_by_look k old new (looks told_old) (kept told_old k below unmarked)
