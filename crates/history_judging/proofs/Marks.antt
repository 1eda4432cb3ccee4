-- Marked processes, and sets of processes out of which no arrow leads.
use Rattle.std.proofs.Common.{◌≡◌, ◌⊎◌, inl, inr, ℕ, zero, suc, ◌<◌, Bool, true, false, not, eqb, ◌&&◌, ◌||◌, List, [], ◌∷◌, ◌++◌, length, replicate, set, sym, refl, ap, ◌∙◌, arith}
use Rattle.std.specs.List.{list_any}
use Rattle.std.proofs.lemmas.Bool.{and_from, and_parts, eqb-true, false≢true, not-true}
use Rattle.process_tree.specs.Entries.{access_of}
use Rattle.process_tree.specs.Conflicts.{Access}
use Rattle.process_tree.specs.declared.entry.Entry.{Entry}
use Rattle.schedule_model.specs.Conflict.{ConflictRelation, conflict}
use Rattle.schedule_model.proofs.Members.{Among, among-any, any-among, not_any}
use Rattle.history_judging.specs.Conflicting.{in_turn, is_closed, is_marked, unmarked}
use Rattle.history_judging.proofs.Pairs.{in_turn-at, in_turn-push}
use Rattle.schedule_rules.proofs.ListTests.{not_passed}

-- Marks.

pub none_marked : (n k : ℕ) → is_marked (replicate n false) k ≡ true → ⊥
none_marked zero zero is = false≢true is
none_marked zero (suc k) is = false≢true is
none_marked (suc n) zero is = false≢true is
none_marked (suc n) (suc k) is = none_marked n k is

-- a process that is marked now is the one that was marked, or was marked before
pub marked_now : (marks : List Bool) (i k : ℕ) → is_marked (set marks i true) k ≡ true → (k ≡ i) ⊎ (is_marked marks k ≡ true)
marked_now [] i k is = inr is
marked_now (m ∷ marks) zero zero is = inl refl
marked_now (m ∷ marks) zero (suc k) is = inr is
marked_now (m ∷ marks) (suc i) zero is = inr is
marked_now (m ∷ marks) (suc i) (suc k) is = by_rest (marked_now marks i k is)
  where
    by_rest : (k ≡ i) ⊎ (is_marked marks k ≡ true) → (suc k ≡ suc i) ⊎ (is_marked marks k ≡ true)
    by_rest (inl same) = inl (ap suc same)
    by_rest (inr before) = inr before

pub marked_self : (marks : List Bool) (i : ℕ) → i < length marks → is_marked (set marks i true) i ≡ true
marked_self [] i less = absurd (omega arith)
marked_self (m ∷ marks) zero less = refl
marked_self (m ∷ marks) (suc i) less = marked_self marks i (omega arith)

pub marked_stays : (marks : List Bool) (i k : ℕ) → is_marked marks k ≡ true → is_marked (set marks i true) k ≡ true
marked_stays [] i k is = is
marked_stays (m ∷ marks) zero zero is = refl
marked_stays (m ∷ marks) zero (suc k) is = is
marked_stays (m ∷ marks) (suc i) zero is = is
marked_stays (m ∷ marks) (suc i) (suc k) is = marked_stays marks i k is

-- one less is unmarked
pub unmarked-less : (marks : List Bool) (i : ℕ) → i < length marks → is_marked marks i ≡ false → unmarked (set marks i true) < unmarked marks
unmarked-less [] i less is = absurd (omega arith)
unmarked-less (true ∷ marks) zero less is = absurd (false≢true (sym is))
unmarked-less (false ∷ marks) zero less is = omega arith
unmarked-less (true ∷ marks) (suc i) less is = unmarked-less marks i (omega arith) is
unmarked-less (false ∷ marks) (suc i) less is = let l = unmarked-less marks i (omega arith) is in omega arith

module _ (table : ConflictRelation) where
  -- an entry of one of these processes conflicts by what it does
  abbrev pub led : (ℕ → Bool) → List Entry → Access → Bool
  led p seen a = list_any (λ x. p x.process && table (access_of x) a) seen

  -- an arrow leads out of the set
  abbrev pub leads_out : (ℕ → Bool) → Entry → Entry → Bool
  leads_out p x y = p x.process && (not (p y.process) && conflict table x y)

  -- more processes lead to more
  pub led-more : (p q : ℕ → Bool) (seen : List Entry) (a : Access) → ((k : ℕ) → p k ≡ true → q k ≡ true) → led p seen a ≡ true → led q seen a ≡ true
  led-more p q seen a more is =
      let found = among-any (λ x. p x.process && table (access_of x) a) seen is in
      let x = found.0 in
      let parts = and_parts (p x.process) (table (access_of x) a) found.2 in
      any-among (λ x. q x.process && table (access_of x) a) x seen found.1 (and_from (q x.process) (table (access_of x) a) (more x.process parts.0) parts.1)

  out_of : (p : ℕ → Bool) (x y : Entry) (t : Bool) → eqb x.process y.process ≡ t → (t ≡ true → x.process ≡ y.process) → p x.process ≡ true → p y.process ≡ false → table (access_of x) (access_of y) ≡ true → leads_out p x y ≡ true
  out_of p x y true is same there away clash = absurd (false≢true (sym away ∙ (ap p (sym (same refl)) ∙ there)))
  out_of p x y false is same there away clash =
      and_from (p x.process) (not (p y.process) && conflict table x y) there
      (and_from (not (p y.process)) (conflict table x y) (ap not away) (and_from (not (eqb x.process y.process)) (table (access_of x) (access_of y)) (ap not is) clash))

  -- of a set out of which no arrow leads, one that is led to
  pub led-in : (p : ℕ → Bool) (seen rest : List Entry) (y : Entry) → is_closed table p (seen ++ y ∷ rest) ≡ true → led p seen (access_of y) ≡ true → p y.process ≡ true
  led-in p seen rest y closed is = by_test (p y.process) refl
    where
      by_test : (t : Bool) → p y.process ≡ t → p y.process ≡ true
      by_test true in' = in'
      by_test false away =
          let found = among-any (λ x. p x.process && table (access_of x) (access_of y)) seen is in
          let x = found.0 in
          let parts = and_parts (p x.process) (table (access_of x) (access_of y)) found.2 in
          let out : leads_out p x y ≡ true = out_of p x y (eqb x.process y.process) refl (eqb-true x.process y.process) parts.0 away parts.1 in
          absurd (false≢true (sym (not-true (in_turn (leads_out p) (seen ++ y ∷ rest)) closed) ∙ in_turn-at (leads_out p) x y seen rest found.1 out))

  -- one more entry, which is of the set or isn't led to
  pub closed-push : (p : ℕ → Bool) (seen : List Entry) (y : Entry) → is_closed table p seen ≡ true → (p y.process ≡ true) ⊎ (led p seen (access_of y) ≡ false) → is_closed table p (seen ++ y ∷ []) ≡ true
  closed-push p seen y closed why =
      ap not (in_turn-push (leads_out p) seen y)
      ∙ (ap (λ t. not (t || list_any (λ x. leads_out p x y) seen)) (not-true (in_turn (leads_out p) seen) closed)
      ∙ ap not (not_any (λ x. leads_out p x y) seen (λ x is. stays x is why)))
    where
      stays : (x : Entry) → Among x seen → (p y.process ≡ true) ⊎ (led p seen (access_of y) ≡ false) → leads_out p x y ≡ false
      stays x is (inl in') = not_passed (leads_out p x y) (λ out. false≢true (ap not (sym in') ∙ (and_parts (not (p y.process)) (conflict table x y) (and_parts (p x.process) (not (p y.process) && conflict table x y) out).1).0))
      stays x is (inr none) =
          not_passed (leads_out p x y)
          (λ out.
          let parts = and_parts (p x.process) (not (p y.process) && conflict table x y) out in
          let later = and_parts (not (p y.process)) (conflict table x y) parts.1 in
          let clash = and_parts (not (eqb x.process y.process)) (table (access_of x) (access_of y)) later.1 in
          false≢true (sym none ∙ any-among (λ x. p x.process && table (access_of x) (access_of y)) x seen is (and_from (p x.process) (table (access_of x) (access_of y)) parts.0 clash.1)))
