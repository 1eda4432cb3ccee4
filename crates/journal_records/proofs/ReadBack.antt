-- Records are read back from their bytes, and bytes from their record.
use Rattle.std.specs.Prelude.{if◌then◌else◌}
use Rattle.std.specs.Int.{from_le_bytes, to_le_bytes, w16, w32}
use Rattle.std.specs.Option.{IfSome}
use Rattle.std.proofs.Common.{◌≡◌, ℕ, zero, suc, ◌<◌, Bool, true, false, List, [], ◌∷◌, ◌++◌, length, get_or, Option, Some, None, eqb, refl, sym, ap, ◌∙◌, subst, arith}
use Rattle.std.proofs.lemmas.Bool.{eqb-true}
use Rattle.std.proofs.lemmas.Nat.{from_le_bytes-to_le_bytes_2, from_le_bytes-to_le_bytes_4, le_bytes_2, le_bytes_4}
use Rattle.journal_records.specs.declared.record.Record.{Record}
use Rattle.journal_records.specs.declared.record.Record.TheVariants.{Setup, Start, Act, End}
use Rattle.journal_records.specs.Bytes.{act_by, bytes_of, entry_told}
use Rattle.journal_records.specs.Laws.{RecordsAreReadBack}

-- the last byte of a step or an undo is read as what it is
undo_back : (i b : ℕ) (undo : Bool) → act_by i b (if undo then 1 else 0) ≡ Some (Act (entry_told i b undo))
undo_back i b true = refl
undo_back i b false = refl

pub records_are_read_back : RecordsAreReadBack
records_are_read_back (Setup catalog) fits = refl
records_are_read_back (Start i text) fits = ap (λ n. Some (Start n text)) (from_le_bytes-to_le_bytes_4 i fits)
records_are_read_back (Act e) fits =
    rw (from_le_bytes-to_le_bytes_4 e.process fits.0, from_le_bytes-to_le_bytes_2 e.step fits.1) (undo_back e.process e.step e.undo)
records_are_read_back (End i) fits = ap (λ n. Some (End n)) (from_le_bytes-to_le_bytes_4 i fits)

-- the bytes of a step or an undo, by its last byte
abbrev pub acted : ℕ → ℕ → ℕ → List ℕ
acted i b last = 2 ∷ to_le_bytes w32 i ++ to_le_bytes w16 b ++ last ∷ []

-- the bytes that were read as one are its bytes
pub act_told : (i b last : ℕ) (body : List ℕ) (found : Option Record) → found ≡ act_by i b last → acted i b last ≡ body → IfSome found (λ r. bytes_of r ≡ body)
act_told i b last body found is all = subst (λ f. IfSome f (λ r. bytes_of r ≡ body)) (sym is) (by_test (eqb last 0) (eqb last 1) refl refl)
  where
    by_test : (z o : Bool) → eqb last 0 ≡ z → eqb last 1 ≡ o
        → IfSome (if z then Some (Act (entry_told i b false)) else (if o then Some (Act (entry_told i b true)) else None)) (λ r. bytes_of r ≡ body)
    by_test true o none one = ap (acted i b) (sym (eqb-true last 0 none)) ∙ all
    by_test false true none one = ap (acted i b) (sym (eqb-true last 1 one)) ∙ all
    by_test false false none one = tt

-- each of these four bytes fits
four_fit : (a b c d : ℕ) → a < 256 → b < 256 → c < 256 → d < 256 → (k : ℕ) → get_or (a ∷ b ∷ c ∷ d ∷ []) k 0 < 256
four_fit a b c d is_a is_b is_c is_d zero = is_a
four_fit a b c d is_a is_b is_c is_d (suc zero) = is_b
four_fit a b c d is_a is_b is_c is_d (suc (suc zero)) = is_c
four_fit a b c d is_a is_b is_c is_d (suc (suc (suc zero))) = is_d
four_fit a b c d is_a is_b is_c is_d (suc (suc (suc (suc k)))) = omega arith

two_fit : (a b : ℕ) → a < 256 → b < 256 → (k : ℕ) → get_or (a ∷ b ∷ []) k 0 < 256
two_fit a b is_a is_b zero = is_a
two_fit a b is_a is_b (suc zero) = is_b
two_fit a b is_a is_b (suc (suc k)) = omega arith

-- eight bytes of which the first is 2 are those of the step or the undo that they tell
pub eight_told : (xs : List ℕ) (i b : ℕ) → length xs ≡ 8 → get_or xs 0 0 ≡ 2 → ((k : ℕ) → get_or xs k 0 < 256)
    → i ≡ from_le_bytes w32 (get_or xs 1 0 ∷ get_or xs 2 0 ∷ get_or xs 3 0 ∷ get_or xs 4 0 ∷ []) → b ≡ from_le_bytes w16 (get_or xs 5 0 ∷ get_or xs 6 0 ∷ [])
    → acted i b (get_or xs 7 0) ≡ xs
eight_told (x0 ∷ x1 ∷ x2 ∷ x3 ∷ x4 ∷ x5 ∷ x6 ∷ x7 ∷ []) i b eight two fit is_process is_step =
    let process = le_bytes_4 (x1 ∷ x2 ∷ x3 ∷ x4 ∷ []) i refl (four_fit x1 x2 x3 x4 (fit 1) (fit 2) (fit 3) (fit 4)) is_process in
    let step = le_bytes_2 (x5 ∷ x6 ∷ []) b refl (two_fit x5 x6 (fit 5) (fit 6)) is_step in
    ap (λ x. x ∷ to_le_bytes w32 i ++ to_le_bytes w16 b ++ x7 ∷ []) (sym two)
    ∙ (ap (λ ps. x0 ∷ ps ++ to_le_bytes w16 b ++ x7 ∷ []) process ∙ ap (λ ss. x0 ∷ (x1 ∷ x2 ∷ x3 ∷ x4 ∷ []) ++ ss ++ x7 ∷ []) step)
eight_told xs i b eight two fit is_process is_step = absurd (omega arith)
