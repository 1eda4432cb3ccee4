-- The least number of a process from a number on.
use Rattle.std.proofs.Common.{◌≡◌, ◌≢◌, ℕ, ◌+◌, ◌<◌, ◌≤◌, Bool, true, false, if◌then◌else◌, List, [], ◌∷◌, map, Option, Some, None, sym, refl, subst, ◌∙◌, arith}
use Rattle.std.specs.Prelude.{nat_eq, nat_le, nat_lt}
use Rattle.std.proofs.lemmas.Bool.{eq-eqb, eqb-false, leb-true, leb-false, le-leb, lt-leb, ltb-true, ltb-false, or_left, or_right}
use Rattle.process_tree.specs.Order.{Each}
use Rattle.hold_tables.specs.Tables.{OpenProcess, has_number}
use Rattle.hold_tables.specs.Reading.{least_from, lesser_number}
use Rattle.hold_tables.proofs.Tidy.{each_entry}

-- what is known of the least number of these that is at least n
abbrev pub IsLeastFrom : ℕ → List OpenProcess → Option ℕ → Type 0
IsLeastFrom n rows None = Each (λ r. r.process < n) rows
IsLeastFrom n rows (Some k) = (n ≤ k) × (has_number k rows ≡ true) × Each (λ r. n ≤ r.process → k ≤ r.process) rows

one_more : (n : ℕ) (r : OpenProcess) (rows : List OpenProcess) (o : Option ℕ) (t : Bool) → nat_le n r.process ≡ t → IsLeastFrom n rows o
    → IsLeastFrom n (r ∷ rows) (if t then lesser_number r.process o else o)
one_more n r rows None true is known = (
  leb-true n r.process is,
  or_left (nat_eq r.process r.process) (has_number r.process rows) (eq-eqb r.process r.process refl),
  ((λ le. omega arith), each_entry rows (λ x less le. absurd (omega (arith, less, le))) known),
)
one_more n r rows None false is known = (leb-false n r.process is, known)
one_more n r rows (Some j) true is known = by (nat_lt j r.process) refl
  where
    by : (s : Bool) → nat_lt j r.process ≡ s → IsLeastFrom n (r ∷ rows) (if s then Some j else Some r.process)
    by true less = (known.0, or_right (nat_eq r.process j) (has_number j rows) known.1, ((λ le. let l = ltb-true j r.process less in omega (arith, l)), known.2))
    by false most =
        let lower : r.process ≤ j = ltb-false j r.process most in (
          leb-true n r.process is,
          or_left (nat_eq r.process r.process) (has_number r.process rows) (eq-eqb r.process r.process refl),
          ((λ le. omega arith), each_entry rows (λ x above le. let a : j ≤ x.process = above le in omega (arith, a, lower)) known.2),
        )
one_more n r rows (Some j) false is known =
    (known.0, or_right (nat_eq r.process j) (has_number j rows) known.1, ((λ le. let l = leb-false n r.process is in absurd (omega (arith, l, le))), known.2))

pub known_from : (n : ℕ) (rows : List OpenProcess) → IsLeastFrom n rows (least_from n (map (λ r. r.process) rows))
known_from n [] = tt
known_from n (r ∷ rows) = one_more n r rows (least_from n (map (λ r. r.process) rows)) (nat_le n r.process) refl (known_from n rows)

-- the least number from n on is that of one of these
pub is_one : (n k : ℕ) (rows : List OpenProcess) → least_from n (map (λ r. r.process) rows) ≡ Some k → (n ≤ k) × (has_number k rows ≡ true)
is_one n k rows is = let known = subst (IsLeastFrom n rows) is (known_from n rows) in (known.0, known.1)

-- none is behind all numbers
pub none_behind : (n : ℕ) (rows : List OpenProcess) → Each (λ r. r.process < n) rows → least_from n (map (λ r. r.process) rows) ≡ None
none_behind n [] each = refl
none_behind n (r ∷ rows) each = rw (lt-leb n r.process each.0) (none_behind n rows each.1)

pub same_test : (n k p : ℕ) → n ≤ k → (n ≤ p → k ≤ p) → nat_le n p ≡ nat_le k p
same_test n k p below on = by (nat_le n p) refl
  where
    by : (t : Bool) → nat_le n p ≡ t → nat_le n p ≡ nat_le k p
    by true is = is ∙ sym (le-leb k p (on (leb-true n p is)))
    by false is = is ∙ sym (lt-leb k p (let l = leb-false n p is in omega (arith, l, below)))

pub next_test : (k p : ℕ) → nat_eq p k ≡ false → nat_le k p ≡ nat_le (k + 1) p
next_test k p other = same_test k (k + 1) p (omega arith) (λ le. let apart : p ≢ k = eqb-false p k other in omega (arith, le, apart))
