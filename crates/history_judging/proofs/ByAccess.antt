-- Entries that conflict, by what they do.
use Rattle.std.proofs.Common.{◌≡◌, ℕ, Bool, true, false, not, eqb, ◌&&◌, ◌||◌, List, [], ◌∷◌, ◌++◌, sym, refl, ap, ◌∙◌}
use Rattle.std.specs.List.{list_any}
use Rattle.std.proofs.lemmas.Bool.{eq-eqb, eqb-true, ne_eqb, or_left, or_right}
use Rattle.std.proofs.lemmas.List.Folds.{list_any-append}
use Rattle.process_tree.proofs.Entries.{same_access-true}
use Rattle.process_tree.specs.Entries.{access_of}
use Rattle.process_tree.specs.Conflicts.{Access, same_access}
use Rattle.process_tree.specs.declared.entry.Entry.{Entry}
use Rattle.process_tree.specs.Order.{Each}
use Rattle.schedule_model.specs.Conflict.{ConflictRelation, conflict}
use Rattle.schedule_model.proofs.Members.{among-any, any-among, not_any}
use Rattle.history_judging.specs.Conflicting.{any_conflicts, access_conflicts, conflicts_in_front}
use Rattle.schedule_rules.proofs.ListTests.{any-same, any-swapped, each-among}

module _ (table : ConflictRelation) where
  -- an access that is listed adds none
  pub conflicts-listed : (a x : Access) (accesses : List Access) → list_any (same_access a) accesses ≡ true → access_conflicts table accesses x ≡ (table a x || access_conflicts table accesses x)
  conflicts-listed a x accesses listed = by_test (table a x) refl
    where
      by_test : (t : Bool) → table a x ≡ t → access_conflicts table accesses x ≡ (t || access_conflicts table accesses x)
      by_test true is =
          let found = among-any (same_access a) accesses listed in
          any-among (λ y. table y x) found.0 accesses found.1 (ap (λ y. table y x) (sym (same_access-true a found.0 found.2)) ∙ is)
      by_test false is = refl

  -- Steps of one process, against the entries of others.

  own_conflict : (i : ℕ) (b x : Entry) → b.process ≡ i → conflict table b x ≡ (not (eqb i x.process) && table (access_of b) (access_of x))
  own_conflict i b x own = ap (λ k. not (eqb k x.process) && table (access_of b) (access_of x)) own

  any_and : (t : Bool) (p : Entry → Bool) (bs : List Entry) → list_any (λ b. t && p b) bs ≡ (t && list_any p bs)
  any_and true p bs = refl
  any_and false p [] = refl
  any_and false p (b ∷ bs) = any_and false p bs

  -- they conflict with an entry exactly where it is of another process and what it does conflicts with what one of theirs does
  own_conflicts : (i : ℕ) (bs : List Entry) (accesses : List Access) (x : Entry) → Each (λ b. b.process ≡ i) bs
      → ((a : Access) → access_conflicts table accesses a ≡ list_any (λ b. table (access_of b) a) bs)
      → (not (eqb i x.process) && access_conflicts table accesses (access_of x)) ≡ list_any (λ b. conflict table b x) bs
  own_conflicts i bs accesses x own conflicts =
      ap (λ t. not (eqb i x.process) && t) (conflicts (access_of x))
      ∙ (sym (any_and (not (eqb i x.process)) (λ b. table (access_of b) (access_of x)) bs)
      ∙ sym (any-same (λ b. conflict table b x) (λ b. not (eqb i x.process) && table (access_of b) (access_of x)) bs (λ b is. own_conflict i b x (each-among (λ b. b.process ≡ i) b bs own is))))

  own_conflicts_all : (i : ℕ) (bs : List Entry) (accesses : List Access) (es : List Entry) → Each (λ b. b.process ≡ i) bs
      → ((a : Access) → access_conflicts table accesses a ≡ list_any (λ b. table (access_of b) a) bs)
      → list_any (λ x. not (eqb i x.process) && access_conflicts table accesses (access_of x)) es ≡ any_conflicts table bs es
  own_conflicts_all i bs accesses es own conflicts =
      any-same (λ x. not (eqb i x.process) && access_conflicts table accesses (access_of x)) (λ x. list_any (λ b. conflict table b x) bs) es (λ x is. own_conflicts i bs accesses x own conflicts)
      ∙ sym (any-swapped (conflict table) bs es)

  -- of two lists of entries
  pub any_conflicts-both : (i : ℕ) (bs : List Entry) (accesses : List Access) (es fs : List Entry) (met : Bool) → Each (λ b. b.process ≡ i) bs
      → ((a : Access) → access_conflicts table accesses a ≡ list_any (λ b. table (access_of b) a) bs)
      → met ≡ (list_any (λ x. not (eqb i x.process) && access_conflicts table accesses (access_of x)) es || list_any (λ x. not (eqb i x.process) && access_conflicts table accesses (access_of x)) fs)
      → met ≡ any_conflicts table bs (es ++ fs)
  any_conflicts-both i bs accesses es fs met own conflicts is =
      is
      ∙ (sym (list_any-append (λ x. not (eqb i x.process) && access_conflicts table accesses (access_of x)) es fs) ∙ own_conflicts_all i bs accesses (es ++ fs) own conflicts)

  -- Entries of process i, and what conflicts with them in front.
  module _ (i : ℕ) where
    -- a later entry of the process conflicts with an earlier one
    abbrev pub back : Entry → Entry → Bool
    back x y = eqb y.process i && conflict table y x

    -- an entry of the process conflicts by what it does
    abbrev pub own_met : List Entry → Access → Bool
    own_met seen a = list_any (λ y. eqb y.process i && table (access_of y) a) seen

    own_apart : (x y : Entry) (t : Bool) → eqb y.process i ≡ t → x.process ≡ i → (t && conflict table y x) ≡ false
    own_apart x y false is own = refl
    own_apart x y true is own = ap (λ s. not s && table (access_of y) (access_of x)) (eq-eqb y.process x.process (eqb-true y.process i is ∙ sym own))

    -- an entry of the process itself conflicts with none of its own
    pub own_none : (x : Entry) (seen : List Entry) → x.process ≡ i → list_any (back x) seen ≡ false
    own_none x seen own = not_any (back x) seen (λ y is. own_apart x y (eqb y.process i) refl own)

    other_same : (x y : Entry) (t : Bool) → eqb y.process i ≡ t → (x.process ≡ i → ⊥) → (t && conflict table y x) ≡ (t && table (access_of y) (access_of x))
    other_same x y false is other = refl
    other_same x y true is other = ap (λ s. not s && table (access_of y) (access_of x)) (ne_eqb y.process x.process (λ same. other (sym same ∙ eqb-true y.process i is)))

    -- one of another process conflicts with those that do what its own access conflicts with
    pub other_front : (x : Entry) (seen : List Entry) → (x.process ≡ i → ⊥) → list_any (back x) seen ≡ own_met seen (access_of x)
    other_front x seen other = any-same (back x) (λ y. eqb y.process i && table (access_of y) (access_of x)) seen (λ y is. other_same x y (eqb y.process i) refl other)

    -- one more entry in front
    pub front-own : (x : Entry) (seen : List Entry) → x.process ≡ i → conflicts_in_front table i seen ≡ false → conflicts_in_front table i (x ∷ seen) ≡ false
    front-own x seen own none = ap (λ t. t || conflicts_in_front table i seen) (own_none x seen own) ∙ none

    pub front-other : (x : Entry) (seen : List Entry) → (x.process ≡ i → ⊥) → own_met seen (access_of x) ≡ false → conflicts_in_front table i seen ≡ false → conflicts_in_front table i (x ∷ seen) ≡ false
    front-other x seen other apart none = ap (λ t. t || conflicts_in_front table i seen) (other_front x seen other ∙ apart) ∙ none

    pub accesses-own : (x : Entry) (seen : List Entry) (a : Access) → x.process ≡ i → own_met (x ∷ seen) a ≡ (table (access_of x) a || own_met seen a)
    accesses-own x seen a own = ap (λ t. (t && table (access_of x) a) || own_met seen a) (eq-eqb x.process i own)

    pub accesses-other : (x : Entry) (seen : List Entry) (a : Access) → (x.process ≡ i → ⊥) → own_met (x ∷ seen) a ≡ own_met seen a
    accesses-other x seen a other = ap (λ t. (t && table (access_of x) a) || own_met seen a) (ne_eqb x.process i other)

    -- what is met stays so with more in front
    pub front-more : (xs es : List Entry) → conflicts_in_front table i es ≡ true → conflicts_in_front table i (xs ++ es) ≡ true
    front-more [] es is = is
    front-more (x ∷ xs) es is = or_right (list_any (back x) (xs ++ es)) (conflicts_in_front table i (xs ++ es)) (front-more xs es is)

    pub front-met : (x : Entry) (seen : List Entry) → (x.process ≡ i → ⊥) → own_met seen (access_of x) ≡ true → conflicts_in_front table i (x ∷ seen) ≡ true
    front-met x seen other met = or_left (list_any (back x) seen) (conflicts_in_front table i seen) (other_front x seen other ∙ met)
