-- The operations of accesses answer for them: which are known, and whether a pair conflicts on all keys or on none.
use Rattle.std.proofs.Common.{◌≡◌, ◌<◌, ℕ, Bool, true, false, not, eqb, ◌||◌, List, [], ◌∷◌, sym, refl, ap, ◌∙◌, subst}
use Rattle.std.specs.List.{list_any}
use Rattle.std.proofs.lemmas.Bool.{eq-eqb, eqb-true, false≢true, or_left, or_right}
use Rattle.process_tree.specs.declared.conflicts.Mode.{Mode}
use Rattle.process_tree.specs.declared.conflicts.Mode.TheVariants.{Never, Key, Always}
use Rattle.process_tree.specs.Conflicts.{Access, Table, covers, do_conflict, mode_of}
use Rattle.process_tree.specs.Order.{Each}
use Rattle.schedule_model.proofs.Members.{among-any, any-among}
use Rattle.schedule_rules.proofs.ListTests.{each-among}
use Rattle.history_judging.specs.Conflicting.{AreOperationsOf, access_conflicts, is_always, is_never}

-- what is so of one of them by a weaker test
any_weaker : {A : Type 0} (p q : A → Bool) (xs : List A) → ((x : A) → p x ≡ true → q x ≡ true) → list_any p xs ≡ true → list_any q xs ≡ true
any_weaker p q xs then is = let found = among-any p xs is in any-among q found.0 xs found.1 (then found.0 found.2)

-- the operations of known accesses are known
pub ops_known : (n : ℕ) (ops : List ℕ) (accesses : List Access) → AreOperationsOf ops accesses → Each (λ a. a.op < n) accesses → Each (λ o. o < n) ops
ops_known n ops accesses same known = each ops (λ o is. is)
  where
    known_one : (o : ℕ) → list_any (eqb o) ops ≡ true → o < n
    known_one o is =
        let found = among-any (λ (a : Access). eqb o a.op) accesses (sym (same (eqb o)) ∙ is) in
        subst (λ k. k < n) (sym (eqb-true o (found.0).op found.2)) (each-among (λ (a : Access). a.op < n) found.0 accesses known found.1)

    each : (os : List ℕ) → ((o : ℕ) → list_any (eqb o) os ≡ true → list_any (eqb o) ops ≡ true) → Each (λ o. o < n) os
    each [] there = tt
    each (o ∷ os) there = (
      known_one o (there o (or_left (eqb o o) (list_any (eqb o) os) (eq-eqb o o refl))),
      each os (λ p is. there p (or_right (eqb p o) (list_any (eqb p) os) is)),
    )

always_covers : (mode : Mode) (k m : ℕ) → is_always mode ≡ true → covers mode k m ≡ true
always_covers Never k m is = absurd (false≢true is)
always_covers Key k m is = absurd (false≢true is)
always_covers Always k m is = refl

covers_sometimes : (mode : Mode) (k m : ℕ) → covers mode k m ≡ true → not (is_never mode) ≡ true
covers_sometimes Never k m is = absurd (false≢true is)
covers_sometimes Key k m is = refl
covers_sometimes Always k m is = refl

-- where one of the operations conflicts on all keys, one of the accesses conflicts
pub always_met : (t : Table) (ops : List ℕ) (accesses : List Access) (b : Access) → AreOperationsOf ops accesses
    → list_any (λ o. is_always (mode_of t o b.op)) ops ≡ true → access_conflicts (do_conflict t) accesses b ≡ true
always_met t ops accesses b same is =
    any_weaker (λ (a : Access). is_always (mode_of t a.op b.op)) (λ a. do_conflict t a b) accesses (λ a all. always_covers (mode_of t a.op b.op) a.key b.key all)
    (sym (same (λ o. is_always (mode_of t o b.op))) ∙ is)

-- where each of them conflicts on no key, no access conflicts
pub never_met : (t : Table) (ops : List ℕ) (accesses : List Access) (b : Access) → AreOperationsOf ops accesses
    → list_any (λ o. not (is_never (mode_of t o b.op))) ops ≡ false → access_conflicts (do_conflict t) accesses b ≡ false
never_met t ops accesses b same none = by (access_conflicts (do_conflict t) accesses b) refl
  where
    by : (met : Bool) → access_conflicts (do_conflict t) accesses b ≡ met → met ≡ false
    by false is = refl
    by true is =
        absurd (false≢true (sym none ∙ (same (λ o. not (is_never (mode_of t o b.op)))
        ∙ any_weaker (λ a. do_conflict t a b) (λ (a : Access). not (is_never (mode_of t a.op b.op))) accesses (λ a met. covers_sometimes (mode_of t a.op b.op) a.key b.key met) is)))

-- an operation that is listed adds none
pub op-listed : (p : ℕ → Bool) (op : ℕ) (ops : List ℕ) → list_any (eqb op) ops ≡ true → list_any p ops ≡ (p op || list_any p ops)
op-listed p op ops listed = by (p op) refl
  where
    by : (t : Bool) → p op ≡ t → list_any p ops ≡ (t || list_any p ops)
    by true is = let found = among-any (eqb op) ops listed in any-among p found.0 ops found.1 (ap p (sym (eqb-true op found.0 found.2)) ∙ is)
    by false is = refl
