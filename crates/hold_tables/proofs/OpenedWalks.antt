-- A process that opens has no arrow: the counts and the marks of the others stay, and it has none.
use Rattle.std.proofs.Common.{◌≡◌, ◌<◌, ◌+◌, ℕ, suc, Bool, true, false, ◌||◌, List, [], ◌∷◌, ◌++◌, length, sym, refl, ap, ◌∙◌, subst, arith, length-append}
use Rattle.std.specs.Prelude.{if◌then◌else◌, nat_eq}
use Rattle.std.proofs.lemmas.Bool.{eq-eqb, false≢true, ltb-false, ne_eqb, or_left}
use Rattle.process_tree.specs.declared.entry.Entry.{Entry}
use Rattle.process_tree.specs.Conflicts.{Table, do_conflict}
use Rattle.schedule_model.specs.Holdings.{reaches}
use Rattle.hold_tables.specs.Tables.{OpenProcess, Tables, has_number, holdings_of, holds_nothing}
use Rattle.hold_tables.specs.Kept.{AreTidy}
use Rattle.hold_tables.specs.Places.{place_of}
use Rattle.hold_tables.specs.Arrows.{arrows_in}
use Rattle.bit_rows.specs.Cells.{IsCleared, cell_or}
use Rattle.hold_tables.specs.Counts.{TellCounts, pairs_from, pairs_in}
use Rattle.hold_tables.specs.Walks.{AreRows, TellWalks, arrows_from, step_of, steps_under_way}
use Rattle.hold_tables.proofs.Arrows.{steps_first}
use Rattle.hold_tables.proofs.Extended.{place_within}
use Rattle.bit_rows.proofs.Cells.{past_cleared}
use Rattle.hold_tables.proofs.Pairs.{arrow_counted}
use Rattle.hold_tables.proofs.Opening.{number_more}
use Rattle.hold_tables.proofs.SameGraph.{same_reach}
use Rattle.hold_tables.proofs.Tidy.{tables}
use Rattle.hold_tables.proofs.WalkEnds.{open_ends, reach_ends}

-- where a process was open, it keeps its place
place_stays : (k : ℕ) (rows others : List OpenProcess) → has_number k rows ≡ true → place_of k (rows ++ others) ≡ place_of k rows
place_stays k [] others has = absurd (false≢true has)
place_stays k (r ∷ rows) others has = by (nat_eq r.process k) refl (place_stays k rows others)
  where
    by : (b : Bool) → nat_eq r.process k ≡ b → (has_number k rows ≡ true → place_of k (rows ++ others) ≡ place_of k rows) → place_of k (r ∷ (rows ++ others)) ≡ place_of k (r ∷ rows)
    by true is rest = rw is refl
    by false is rest = rw is (ap suc (rest (subst (λ b. (b || has_number k rows) ≡ true) is has)))

-- the place of one more
place_more : (k : ℕ) (rows : List OpenProcess) (r : OpenProcess) → has_number k rows ≡ false → nat_eq r.process k ≡ true → place_of k (rows ++ r ∷ []) ≡ length rows
place_more k [] r none is = rw is refl
place_more k (x ∷ rows) r none is = by (nat_eq x.process k) refl (place_more k rows r)
  where
    by : (b : Bool) → nat_eq x.process k ≡ b → (has_number k rows ≡ false → nat_eq r.process k ≡ true → place_of k (rows ++ r ∷ []) ≡ length rows) → place_of k (x ∷ (rows ++ r ∷ [])) ≡ length (x ∷ rows)
    by true test rest = absurd (false≢true (sym none ∙ or_left (nat_eq x.process k) (has_number k rows) test))
    by false test rest = rw test (ap suc (rest (subst (λ b. (b || has_number k rows) ≡ false) test none) is))

steps_of_more : (i steps : ℕ) (rows : List OpenProcess) → steps_under_way (rows ++ holds_nothing i steps ∷ []) ≡ steps_under_way rows
steps_of_more i steps [] = refl
steps_of_more i steps (r ∷ rows) = steps_first r (rows ++ holds_nothing i steps ∷ []) ∙ ap (step_of r.running ++◌) (steps_of_more i steps rows) ∙ sym (steps_first r rows)

-- the pairs stay
pub pairs_of_more : (i steps : ℕ) (table : Table) (net : List Entry) (rows : List OpenProcess) (j k : ℕ)
    → pairs_in (tables table net (rows ++ holds_nothing i steps ∷ [])) j k ≡ pairs_in (tables table net rows) j k
pairs_of_more i steps table net rows j k = ap (λ es. pairs_from (do_conflict table) es net j k) (steps_of_more i steps rows)

-- and so do the arrows
pub arrows_of_more : (i steps : ℕ) (table : Table) (net : List Entry) (rows : List OpenProcess) (j k : ℕ)
    → arrows_in (tables table net (rows ++ holds_nothing i steps ∷ [])) j k ≡ arrows_in (tables table net rows) j k
arrows_of_more i steps table net rows j k = ap (λ es. arrows_from (do_conflict table) es net j k) (steps_of_more i steps rows)

not_so : (b : Bool) → (b ≡ true → false ≡ true) → b ≡ false
not_so true denied = absurd (false≢true (denied refl))
not_so false denied = refl

module _ {A : Type 0} (none : A) (i steps : ℕ) (rows : List OpenProcess) (old new : List (List A)) (count : length old ≡ length rows) (cleared : IsCleared none (length rows) old new)
    (was now : ℕ → ℕ → A) (stays : (j k : ℕ) → now j k ≡ was j k) (from : (j k : ℕ) → has_number j rows ≡ false → was j k ≡ none) (to : (j k : ℕ) → has_number k rows ≡ false → was j k ≡ none)
    (tells : (j k : ℕ) → has_number j rows ≡ true → has_number k rows ≡ true → cell_or none old (place_of j rows) (place_of k rows) ≡ was j k) where
  abbrev after : List OpenProcess
  after = rows ++ holds_nothing i steps ∷ []

  abbrev found : ℕ → ℕ → A
  found j k = cell_or none new (place_of j after) (place_of k after)

  place_new : (k : ℕ) → has_number k after ≡ true → has_number k rows ≡ false → place_of k after ≡ length rows
  place_new k there away = place_more k rows (holds_nothing i steps) away (sym (ap (λ b. b || nat_eq i k) away) ∙ sym (number_more k rows (holds_nothing i steps)) ∙ there)

  told_open : (j k : ℕ) → has_number j rows ≡ true → has_number k rows ≡ true → found j k ≡ now j k
  told_open j k here there =
      let within = place_within rows k there in
      ap (λ a. cell_or none new a (place_of k after)) (place_stays j rows (holds_nothing i steps ∷ []) here)
      ∙ ap (cell_or none new (place_of j rows)) (place_stays k rows (holds_nothing i steps ∷ []) there)
      ∙ cleared (place_of j rows) (place_of k rows)
      ∙ ap (λ b. if b then none else cell_or none old (place_of j rows) (place_of k rows)) (ne_eqb (place_of k rows) (length rows) (λ same. omega (arith, within, same)))
      ∙ tells j k here there ∙ sym (stays j k)

  told_from : (j k : ℕ) → has_number j after ≡ true → has_number j rows ≡ false → found j k ≡ now j k
  told_from j k here away =
      ap (λ a. cell_or none new a (place_of k after)) (place_new j here away)
      ∙ cleared (length rows) (place_of k after)
      ∙ past_cleared none old (length rows) (length rows) (place_of k after) (omega (arith, count))
      ∙ sym (stays j k ∙ from j k away)

  told_to : (j k : ℕ) → has_number k after ≡ true → has_number k rows ≡ false → found j k ≡ now j k
  told_to j k there away =
      ap (cell_or none new (place_of j after)) (place_new k there away)
      ∙ cleared (place_of j after) (length rows)
      ∙ ap (λ b. if b then none else cell_or none old (place_of j after) (length rows)) (eq-eqb (length rows) (length rows) refl)
      ∙ sym (stays j k ∙ to j k away)

  -- rows go on telling what is between open processes, with a process more where nothing is
  pub opened_told : (j k : ℕ) → has_number j after ≡ true → has_number k after ≡ true → found j k ≡ now j k
  opened_told j k here there = by (has_number j rows) (has_number k rows) refl refl
    where
      by : (s t : Bool) → has_number j rows ≡ s → has_number k rows ≡ t → found j k ≡ now j k
      by true true first last = told_open j k first last
      by true false first last = told_to j k there last
      by false t first last = told_from j k here first

-- a row more
rows_more : {A : Type 0} (i steps : ℕ) (rows : List OpenProcess) (new : List A) → length rows < 256 → length new ≡ length rows + 1 → AreRows (rows ++ holds_nothing i steps ∷ []) new
rows_more i steps rows new few count = let longer = length-append rows (holds_nothing i steps ∷ []) in (omega (arith, longer, count), omega (arith, longer, few))

module _ (i steps : ℕ) (table : Table) (net : List Entry) (rows : List OpenProcess) (tidy_was : AreTidy (tables table net rows)) (few : length rows < 256) where
  abbrev t_was : Tables
  t_was = tables table net rows

  abbrev t_now : Tables
  t_now = tables table net (rows ++ holds_nothing i steps ∷ [])

  -- walks lead where they led
  reach_stays : AreTidy t_now → (j k : ℕ) → reaches (do_conflict table) (holdings_of t_now) j k ≡ reaches (do_conflict table) (holdings_of t_was) j k
  reach_stays tidy_now = same_reach t_now t_was tidy_now tidy_was
      (λ j k is a. let arrow = sym (arrows_of_more i steps table net rows j k) ∙ a in ((open_ends t_was tidy_was j k arrow).1, arrow))
      (λ j k is a. (number_more k rows (holds_nothing i steps) ∙ or_left (has_number k rows) (nat_eq i k) is, arrows_of_more i steps table net rows j k ∙ a))

  -- the marks tell where walks lead, with a process more
  pub opened_tells : (old new : List (List Bool)) → IsCleared false (length rows) old new → length new ≡ length rows + 1 → AreTidy t_now → TellWalks t_was old → TellWalks t_now new
  opened_tells old new cleared count tidy_now tells =
      let led = reaches (do_conflict table) (holdings_of t_was) in
      record {
        rows = rows_more i steps rows new few count;
        tell = opened_told false i steps rows old new tells.rows.0 cleared led (reaches (do_conflict table) (holdings_of t_now)) (reach_stays tidy_now)
            (λ j k away. not_so (led j k) (λ is. sym away ∙ (reach_ends t_was tidy_was j k is).0)) (λ j k away. not_so (led j k) (λ is. sym away ∙ (reach_ends t_was tidy_was j k is).1)) tells.tell;
      }

  -- where no arrow is, there are no pairs
  none_made : (j k : ℕ) → arrows_in t_was j k ≡ false → pairs_in t_was j k ≡ 0
  none_made j k none = let most = ltb-false 0 (pairs_in t_was j k) (arrow_counted t_was j k ∙ none) in omega (arith, most)

  -- and the counts tell the pairs
  pub opened_counts : (old new : List (List ℕ)) → IsCleared 0 (length rows) old new → length new ≡ length rows + 1 → TellCounts t_was old → TellCounts t_now new
  opened_counts old new cleared count tells = record {
    rows = rows_more i steps rows new few count;
    tell = opened_told 0 i steps rows old new tells.rows.0 cleared (pairs_in t_was) (pairs_in t_now) (pairs_of_more i steps table net rows)
        (λ j k away. none_made j k (not_so (arrows_in t_was j k) (λ is. sym away ∙ (open_ends t_was tidy_was j k is).0)))
        (λ j k away. none_made j k (not_so (arrows_in t_was j k) (λ is. sym away ∙ (open_ends t_was tidy_was j k is).1))) tells.tell;
  }
