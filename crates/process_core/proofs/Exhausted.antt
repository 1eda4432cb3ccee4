-- The least exhausted process, where nothing runs.
use Rattle.std.proofs.Common.{◌≡◌, ℕ, zero, suc, ◌+◌, ◌≤◌, Bool, true, false, not, eqb, ◌&&◌, if◌then◌else◌, List, ◌∷◌, filter, length, Option, Some, None, is_some, sym, refl, ap, ◌∙◌, arith}
use Rattle.std.specs.Option.{option_or}
use Rattle.std.proofs.lemmas.Bool.{lt-ltb}
use Rattle.process_tree.specs.Blocks.{numbers_from}
use Rattle.process_tree.specs.Shape.{least, lesser}
use Rattle.schedule_model.specs.Conflict.{ConflictRelation}
use Rattle.schedule_model.specs.Course.{Course}
use Rattle.schedule_model.specs.Histories.{active, ends, is_active, is_in, starts}
use Rattle.schedule_model.proofs.Active.{is_active-is_in}
use Rattle.machine_model.specs.declared.blocked.Blocked.{Blocked}
use Rattle.machine_model.specs.Moment.{Moment}
use Rattle.machine_model.specs.Replies.{Admit, admit_by_active, admit_by_known, admit_reply, blocked, ended, exhausted, piece, piece_unless, running, unknown}
use Rattle.machine_model.specs.State.{block_of, is_exhausted}
use Rattle.process_core.specs.declared.replies.Admit.{Admit as Given}
use Rattle.process_core.specs.declared.replies.Admit.TheVariants.{Piece as IsPiece, Blocked as IsBlocked, Running, Unknown, Ended, Exhausted}
use Rattle.process_core.specs.Handing.{admit_reply_of}
use Rattle.process_core.specs.Rotation.{exhausted_in, first_told}
use Rattle.process_core.proofs.Rotations.{same_told}
use Rattle.core_state.proofs.SeatReplies.{reply_parts, started_if}
use Rattle.process_core.proofs.Stalls.{active_numbered, nobody}

-- a reply that isn't 'exhausted'
pub not_exhausted : (i : ℕ) (r : Given) → ((b : ℕ) → r ≡ Exhausted b → ⊥) → exhausted_in i (admit_reply_of r) ≡ None
not_exhausted i (IsPiece d) none = refl
not_exhausted i (IsBlocked b) none = refl
not_exhausted i Running none = refl
not_exhausted i Unknown none = refl
not_exhausted i Ended none = refl
not_exhausted i (Exhausted b) none = absurd (none b refl)

abbrev passing : (ℕ → Bool) → ℕ → Option ℕ
passing q i = if q i then Some i else None

-- numbers that are told are no less than the first
told_above : (q : ℕ → Bool) (a n y : ℕ) → first_told (passing q) (numbers_from a n) ≡ Some y → a ≤ y
told_above q a zero y is = absurd (cc)
told_above q a (suc n) y is = by_first (q a) (told_above q (a + 1) n y) is
  where
    by_first : (t : Bool) → (first_told (passing q) (numbers_from (a + 1) n) ≡ Some y → a + 1 ≤ y) → option_or (if t then Some a else None) (first_told (passing q) (numbers_from (a + 1) n)) ≡ Some y → a ≤ y
    by_first true later at = let same : a ≡ y = cc in omega arith
    by_first false later at = let more = later at in omega arith

-- the least that passes is told first
least_told : (q : ℕ → Bool) (a n : ℕ) → least (filter q (numbers_from a n)) ≡ first_told (passing q) (numbers_from a n)
least_told q a zero = refl
least_told q a (suc n) = by_first (q a) (least_told q (a + 1) n)
  where
    by_rest : (o : Option ℕ) → ((y : ℕ) → o ≡ Some y → a + 1 ≤ y) → lesser a o ≡ Some a
    by_rest None above = refl
    by_rest (Some y) above = let more = above y refl in ap (λ t. if t then Some a else Some y) (lt-ltb a y (omega arith))

    by_first : (t : Bool) → least (filter q (numbers_from (a + 1) n)) ≡ first_told (passing q) (numbers_from (a + 1) n)
        → least (if t then a ∷ filter q (numbers_from (a + 1) n) else filter q (numbers_from (a + 1) n)) ≡ option_or (if t then Some a else None) (first_told (passing q) (numbers_from (a + 1) n))
    by_first true rest = by_rest (least (filter q (numbers_from (a + 1) n))) (λ y is. told_above q (a + 1) n y (sym rest ∙ is))
    by_first false rest = rest

its_number : (i : ℕ) (r : Admit) → (if is_some (exhausted_in i r) then Some i else None) ≡ exhausted_in i r
its_number i (piece d) = refl
its_number i (blocked b) = refl
its_number i running = refl
its_number i unknown = refl
its_number i ended = refl
its_number i (exhausted b) = refl

module _ (table : ConflictRelation) (courses : List Course) (m : Moment) where
  abbrev told : ℕ → Bool
  told i = is_some (exhausted_in i (admit_reply table courses m i))

  ended_told : (i : ℕ) → not (is_in i (ends m.events)) ≡ false → told i ≡ false
  ended_told i is = by_started (is_in i (starts m.events)) refl
    where
      by_started : (t : Bool) → is_in i (starts m.events) ≡ t → told i ≡ false
      by_started false at = ap (λ t. is_some (exhausted_in i (admit_by_known table courses m i t))) at
      by_started true at =
          ap (λ t. is_some (exhausted_in i (admit_by_known table courses m i t))) at
          ∙ ap (λ a. is_some (exhausted_in i (admit_by_active table courses m i a))) (ap (λ t. t && not (is_in i (ends m.events))) at ∙ is)

  module _ (idle : eqb (length m.out) 0 ≡ true) where
    exhausted_by : (i : ℕ) (e : Bool) (k : Option Blocked) → is_active m.events i ≡ true → is_exhausted courses m i ≡ e → block_of table courses m i ≡ k → e ≡ told i
    exhausted_by i true k active' left block = sym (ap (λ r. is_some (exhausted_in i r)) (reply_parts courses m i table (started_if m.events i active') true None true active' (nobody table courses m idle i) left))
    exhausted_by i false None active' left block = sym
        (ap (λ r. is_some (exhausted_in i r)) (reply_parts courses m i table (started_if m.events i active') true None false active' (nobody table courses m idle i) left) ∙ ap (λ b. is_some (exhausted_in i (piece_unless courses m i b))) block)
    exhausted_by i false (Some b) active' left block = sym
        (ap (λ r. is_some (exhausted_in i r)) (reply_parts courses m i table (started_if m.events i active') true None false active' (nobody table courses m idle i) left) ∙ ap (λ b. is_some (exhausted_in i (piece_unless courses m i b))) block)

    -- it is the first of which that is replied
    pub least_exhausted_told : (n : ℕ) → starts m.events ≡ numbers_from 1 n
        → least (filter (is_exhausted courses m) (active m.events)) ≡ first_told (λ i. exhausted_in i (admit_reply table courses m i)) (numbers_from 1 n)
    least_exhausted_told n numbered =
        ap least (active_numbered m n (is_exhausted courses m) told numbered
        (λ i listed. exhausted_by i (is_exhausted courses m i) (block_of table courses m i) (sym (is_active-is_in m.events i) ∙ listed) refl refl) ended_told)
        ∙ (least_told told 1 n ∙ same_told (passing told) (λ i. exhausted_in i (admit_reply table courses m i)) (numbers_from 1 n) (λ i. its_number i (admit_reply table courses m i)))
