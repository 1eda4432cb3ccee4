-- Processes by number, and how many entries they have.
use Rattle.std.proofs.Common.{◌≡◌, ◌≢◌, ℕ, ◌+◌, Bool, true, false, not, ◌||◌, ◌&&◌, List, [], ◌∷◌, length, map, filter, flat_map, Option, Some, None, sym, refl, ap, subst, ◌∙◌, arith}
use Rattle.std.specs.Prelude.{nat_eq, nat_le}
use Rattle.std.specs.List.{list_any}
use Rattle.std.proofs.Math.Bool.{or_assoc}
use Rattle.std.proofs.lemmas.Bool.{and_parts, eq-eqb, ne_eqb, eqb-true, le-leb, lt-leb, not-true}
use Rattle.std.proofs.lemmas.List.Folds.{list_any-append}
use Rattle.std.proofs.lemmas.List.Elements.{filter-append}
use Rattle.process_tree.specs.declared.entry.Entry.{Entry}
use Rattle.process_tree.specs.Order.{Each}
use Rattle.schedule_model.specs.Histories.{of_process}
use Rattle.hold_tables.specs.Tables.{OpenProcess, has_number, numbered, running_of}
use Rattle.hold_tables.specs.Kept.{are_numbered}
use Rattle.hold_tables.specs.Reading.{least_from}
use Rattle.hold_tables.specs.Walks.{steps_under_way}
use Rattle.hold_tables.proofs.Tidy.{each_entry}
use Rattle.hold_tables.proofs.Numbers.{IsLeastFrom, known_from, next_test, same_test}

-- one entry more of the process
pub one_counted : (i : ℕ) (e : Entry) (es : List Entry) → e.process ≡ i → length (of_process i (e ∷ es)) ≡ length (of_process i es) + 1
one_counted i e es own = rw (eq-eqb e.process i own) (omega arith)

pub none_counted : (i : ℕ) (e : Entry) (es : List Entry) → e.process ≢ i → length (of_process i (e ∷ es)) ≡ length (of_process i es)
none_counted i e es other = rw (ne_eqb e.process i other) refl

module _ (q : OpenProcess → Bool) where
  -- one of these passes, and its number is at least n
  abbrev pub any_from : ℕ → List OpenProcess → Bool
  any_from n rows = list_any (λ r. nat_le n r.process && q r) rows

  -- the same from this number on, if there is one
  abbrev pub any_on : Option ℕ → List OpenProcess → Bool
  any_on None rows = false
  any_on (Some k) rows = any_from k rows

  pub any_all : (rows : List OpenProcess) → any_from 0 rows ≡ list_any q rows
  any_all [] = refl
  any_all (r ∷ rows) = rw (le-leb 0 r.process (omega arith)) (ap (q r ||◌) (any_all rows))

  none_from : (n : ℕ) (rows : List OpenProcess) → Each (λ r. nat_le n r.process ≡ false) rows → any_from n rows ≡ false
  none_from n [] each = refl
  none_from n (r ∷ rows) each = rw each.0 (none_from n rows each.1)

  same_from : (n k : ℕ) (rows : List OpenProcess) → Each (λ r. nat_le n r.process ≡ nat_le k r.process) rows → any_from n rows ≡ any_from k rows
  same_from n k [] each = refl
  same_from n k (r ∷ rows) each = rw each.0 (ap (λ t. (nat_le k r.process && q r) || t) (same_from n k rows each.1))

module _ (q : OpenProcess → Bool) where
  -- those from n on are those from the least number on that is at least n
  any_from-least : (n : ℕ) (rows : List OpenProcess) → any_from q n rows ≡ any_on q (least_from n (map (λ r. r.process) rows)) rows
  any_from-least n rows = by (least_from n (map (λ r. r.process) rows)) (known_from n rows)
    where
      by : (o : Option ℕ) → IsLeastFrom n rows o → any_from q n rows ≡ any_on q o rows
      by None known = none_from q n rows (each_entry rows (λ r less. lt-leb n r.process less) known)
      by (Some k) known = same_from q n k rows (each_entry rows (λ r on. same_test n k r.process known.0 on) known.2)

  none_of_it : (k : ℕ) (rows : List OpenProcess) → has_number k rows ≡ false → any_from q k rows ≡ any_from q (k + 1) rows
  none_of_it k [] none = refl
  none_of_it k (r ∷ rows) none = by (nat_eq r.process k) refl (none_of_it k rows)
    where
      by : (b : Bool) → nat_eq r.process k ≡ b → (has_number k rows ≡ false → any_from q k rows ≡ any_from q (k + 1) rows) → any_from q k (r ∷ rows) ≡ any_from q (k + 1) (r ∷ rows)
      by true is rest = absurd (let no : true ≡ false = subst (λ b. (b || has_number k rows) ≡ false) is none in cc)
      by false is rest = rw (next_test k r.process is) (ap (λ t. (nat_le (k + 1) r.process && q r) || t) (rest (subst (λ b. (b || has_number k rows) ≡ false) is none)))

  first_two : (a b c : Bool) → (a || (b || c)) ≡ (b || (a || c))
  first_two true true c = refl
  first_two true false c = refl
  first_two false true c = refl
  first_two false false c = refl

  -- first the process of this number, and then all behind it
  step : (k : ℕ) (rows : List OpenProcess) → are_numbered rows ≡ true → has_number k rows ≡ true → any_from q k rows ≡ (q (numbered k rows) || any_from q (k + 1) rows)
  step k [] distinct has = absurd cc
  step k (r ∷ rows) distinct has = by (nat_eq r.process k) refl (step k rows)
    where
      apart : (not (has_number r.process rows) ≡ true) × (are_numbered rows ≡ true)
      apart = and_parts (not (has_number r.process rows)) (are_numbered rows) distinct

      by : (t : Bool) → nat_eq r.process k ≡ t → (are_numbered rows ≡ true → has_number k rows ≡ true → any_from q k rows ≡ (q (numbered k rows) || any_from q (k + 1) rows))
          → any_from q k (r ∷ rows) ≡ (q (numbered k (r ∷ rows)) || any_from q (k + 1) (r ∷ rows))
      by true is on =
          let same = eqb-true r.process k is in
          let none : has_number k rows ≡ false = subst (λ n. has_number n rows ≡ false) same (not-true (has_number r.process rows) apart.0) in
          rw (is, le-leb k r.process (omega (arith, same)), lt-leb (k + 1) r.process (omega (arith, same))) (ap (q r ||◌) (none_of_it k rows none))
      by false is on =
          let further : has_number k rows ≡ true = subst (λ t. (t || has_number k rows) ≡ true) is has in
          rw (is, next_test k r.process is) (ap (λ t. (nat_le (k + 1) r.process && q r) || t) (on apart.1 further)
          ∙ first_two (nat_le (k + 1) r.process && q r) (q (numbered k rows)) (any_from q (k + 1) rows))

  -- what is found so far and from this process on is what is found with it and behind it
  pub one_on : (k : ℕ) (rows : List OpenProcess) (found : Bool) → are_numbered rows ≡ true → has_number k rows ≡ true
      → ((found || q (numbered k rows)) || any_on q (least_from (k + 1) (map (λ r. r.process) rows)) rows) ≡ (found || any_on q (Some k) rows)
  one_on k rows found distinct has =
      or_assoc found (q (numbered k rows)) (any_on q (least_from (k + 1) (map (λ r. r.process) rows)) rows)
      ∙ ap (found ||◌) (ap (q (numbered k rows) ||◌) (sym (any_from-least (k + 1) rows)) ∙ sym (step k rows distinct has))

  -- all are those from the least number on
  pub all_on : (rows : List OpenProcess) → any_on q (least_from 0 (map (λ r. r.process) rows)) rows ≡ list_any q rows
  all_on rows = sym (any_from-least 0 rows) ∙ any_all q rows

-- one of the steps under way passes where one of a process does
pub any_step : (p : Entry → Bool) (rows : List OpenProcess) → list_any p (steps_under_way rows) ≡ list_any (λ r. list_any p (filter (λ e. not e.undo) (running_of r))) rows
any_step p [] = refl
any_step p (r ∷ rows) =
    ap (list_any p) (filter-append (λ (e : Entry). not e.undo) (running_of r) (flat_map running_of rows))
    ∙ list_any-append p (filter (λ (e : Entry). not e.undo) (running_of r)) (steps_under_way rows)
    ∙ ap (λ t. list_any p (filter (λ (e : Entry). not e.undo) (running_of r)) || t) (any_step p rows)
