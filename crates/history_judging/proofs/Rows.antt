-- What is kept of each process, once one row changes or is added.
use Rattle.std.proofs.Common.{◌≡◌, ℕ, ◌+◌, ◌-◌, ◌<◌, ◌≤◌, false, eqb, List, [], ◌∷◌, ◌++◌, length, get_or-set_same, get_or-set_other, length-set, sym, ◌∙◌, arith}
use Rattle.std.proofs.lemmas.Bool.{eq-eqb, false≢true}
use Rattle.std.proofs.lemmas.List.{get_or_append_left, get_or_at}
use Rattle.history_judging.specs.declared.legality.ProcessRow.{ProcessRow}
use Rattle.history_judging.specs.Keeping.{not_started, row_of, with_row}

pub row-push : (rows : List ProcessRow) (row : ProcessRow) (i : ℕ) → 0 < i → i ≤ length rows → row_of (rows ++ row ∷ []) i ≡ row_of rows i
row-push rows row i some within = get_or_append_left rows (row ∷ []) not_started (i - 1) (omega (arith, some, within))

pub row-new : (rows : List ProcessRow) (row : ProcessRow) (i : ℕ) → i ≡ length rows + 1 → row_of (rows ++ row ∷ []) i ≡ row
row-new rows row i next = get_or_at rows row [] not_started (i - 1) (omega (arith, next))

module _ (change : ProcessRow → ProcessRow) (i : ℕ) (rows : List ProcessRow) where
  pub rows-count : length (with_row change i rows) ≡ length rows
  rows-count = length-set rows (i - 1) (change (row_of rows i))

  pub row-own : 0 < i → i ≤ length rows → row_of (with_row change i rows) i ≡ change (row_of rows i)
  row-own some within = get_or-set_same rows (i - 1) (change (row_of rows i)) not_started (omega (arith, some, within))

  pub row-other : (k : ℕ) → 0 < i → 0 < k → eqb i k ≡ false → row_of (with_row change i rows) k ≡ row_of rows k
  row-other k one two other =
      get_or-set_other rows (i - 1) (k - 1) (change (row_of rows i)) not_started
      (λ same. false≢true (sym other ∙ eq-eqb i k (omega (arith, one, two, same))))
