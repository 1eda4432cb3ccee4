-- The bytes of a record are read back as that record.
use Rattle.std.specs.Prelude.{◌==◌, ◌^◌, if◌then◌else◌, nat_lt, negsuc, pos, FitsSigned}
use Rattle.std.specs.Int.{from_le_bytes, to_le_bytes, cast_signed, cast_unsigned, w16, w32, w64}
use Rattle.std.proofs.Common.{◌≡◌, ◌<◌, ◌≤◌, ℕ, ℤ, Bool, true, false, not, List, Some, None, refl, sym, ap, ◌∙◌, arith, subst}
use Rattle.std.proofs.lemmas.Nat.{from_le_bytes-to_le_bytes_2, from_le_bytes-to_le_bytes_4, from_le_bytes-to_le_bytes_8}
use Rattle.std.proofs.Math.Facts.{Fits-of_z, Fits-lt-pow}
use Rattle.std.proofs.lemmas.Int.{to_z-of_z, fits_signed_from_abs}
use Rattle.std.proofs.lemmas.Bool.{ltb-false, not-true}
use Rattle.std.proofs.Math.Bool.{and-true}
use Rattle.std.proofs.lemmas.Slice.Eq.{bytes_eq-Decides}
use Rattle.commute_table.specs.declared.op.Verb.{Verb}
use Rattle.commute_table.specs.declared.op.Verb.TheVariants.{Add, Take, Look, Put, Hold, Free}
use Rattle.commute_table.specs.Bytes.{verb_code}
use Rattle.process_tree.specs.Making.{same_text}
use Rattle.subsystem_store.specs.declared.effect.Effect.{Effect}
use Rattle.subsystem_store.specs.declared.effect.Record.TheVariants.{Prepared, Committed}
use Rattle.subsystem_store.specs.Bodies.{prepared_bytes, committed_bytes, verb_of, effect_at, number_of, is_amount, record_of}
use Rattle.subsystem_store.specs.Laws.{FitsItsBytes}
use Rattle.subsystem_store.proofs.Records.{is_prepared, prepared_is}

-- a text is the same as itself
same_as_itself : (xs ys : List ℕ) → xs ≡ ys → same_text xs ys ≡ true
same_as_itself xs ys is = (bytes_eq-Decides xs ys).1 is

-- the code of a verb is read as that verb,
verb_back : (verb : Verb) → verb_of (verb_code verb) ≡ verb
verb_back Add = refl
verb_back Take = refl
verb_back Look = refl
verb_back Put = refl
verb_back Hold = refl
verb_back Free = refl

-- and the byte of an undo as whether it is one
undo_back : (undo : Bool) → ((if undo then 1 else 0) == 1) ≡ undo
undo_back true = refl
undo_back false = refl

-- a number that isn't above another is that at most
at_most : (most n : ℕ) → not (nat_lt most n) ≡ true → n ≤ most
at_most most n is = ltb-false most n (not-true (nat_lt most n) is)

-- an amount within its limit fits 64 bits
amount_fits : (a : ℤ) → is_amount a ≡ true → FitsSigned w64 a
amount_fits (pos n) within = fits_signed_from_abs w64 (pos n) (omega (arith, at_most 1000000000 n within))
amount_fits (negsuc n) within = fits_signed_from_abs w64 (negsuc n) (omega (arith, at_most 999999999 n (sym (and-true (not (nat_lt 999999999 n))) ∙ within)))

-- so it is read back from them
amount_back : (a : ℤ) → is_amount a ≡ true → cast_signed w64 (from_le_bytes w64 (to_le_bytes w64 (cast_unsigned w64 a))) ≡ a
amount_back a within =
    let fits = amount_fits a within in
    ap (cast_signed w64) (from_le_bytes-to_le_bytes_8 (cast_unsigned w64 a) (Fits-lt-pow (Fits-of_z fits))) ∙ to_z-of_z w64 a fits

-- the effect of its bytes is itself
effect_back : (e : Effect) → FitsItsBytes e → effect_at (prepared_bytes e) ≡ e
effect_back e fits =
    rw (from_le_bytes-to_le_bytes_4 e.number fits.number, from_le_bytes-to_le_bytes_4 e.process fits.process, from_le_bytes-to_le_bytes_2 e.step fits.step, undo_back e.undo, verb_back e.call.verb, from_le_bytes-to_le_bytes_4 e.call.key fits.key, amount_back e.call.amount fits.amount) refl

-- the bytes of an effect are read as that effect,
pub prepared_back : (e : Effect) → FitsItsBytes e → record_of (prepared_bytes e) ≡ Some (Prepared e)
prepared_back e fits =
    let back = effect_back e fits in
    is_prepared (prepared_bytes e) (same_as_itself (prepared_bytes (effect_at (prepared_bytes e))) (prepared_bytes e) (ap prepared_bytes back)) (ap (λ (f : Effect). is_amount f.call.amount) back ∙ fits.amount)
    ∙ ap (λ (f : Effect). Some (Prepared f)) back

-- and those of a committed number as that number
pub committed_back : (number : ℕ) → number < 2 ^ 32 → record_of (committed_bytes number) ≡ Some (Committed number)
committed_back number fits =
    let back : number_of (committed_bytes number) ≡ number = from_le_bytes-to_le_bytes_4 number fits in
    let same = same_as_itself (committed_bytes (number_of (committed_bytes number))) (committed_bytes number) (ap committed_bytes back) in
    ap (λ s. if s then Some (Committed (number_of (committed_bytes number))) else None) same ∙ ap (λ n. Some (Committed n)) back

-- so many bytes make no larger number
below_2 : (n : ℕ) → from_le_bytes w16 (to_le_bytes w16 n) < 2 ^ 16
below_2 n = omega arith

below_4 : (n : ℕ) → from_le_bytes w32 (to_le_bytes w32 n) < 2 ^ 32
below_4 n = omega arith

-- So an effect that is read fits its bytes.
pub read_fits : (body : List ℕ) (e : Effect) → record_of body ≡ Some (Prepared e) → FitsItsBytes e
read_fits body e is =
    let read = prepared_is body e is in
    let back : effect_at (prepared_bytes e) ≡ e = ap effect_at read.bytes ∙ read.at in
    record {
      number = subst (λ n. n < 2 ^ 32) (ap (λ (f : Effect). f.number) back) (below_4 e.number);
      process = subst (λ n. n < 2 ^ 32) (ap (λ (f : Effect). f.process) back) (below_4 e.process);
      step = subst (λ n. n < 2 ^ 16) (ap (λ (f : Effect). f.step) back) (below_2 e.step);
      key = subst (λ n. n < 2 ^ 32) (ap (λ (f : Effect). f.call.key) back) (below_4 e.call.key);
      amount = read.amount;
    }
