-- The first blocked process in rotation.
use Rattle.std.proofs.Common.{◌≡◌, ℕ, ◌+◌, ◌-◌, Bool, true, false, not, ltb, leb, ◌&&◌, if◌then◌else◌, List, [], ◌∷◌, filter, min, Option, Some, None, is_none, is_some, sym, refl, ap, ◌∙◌}
use Rattle.std.specs.List.{cons_option, filter_map, slice_get}
use Rattle.std.specs.Option.{option_map, option_or}
use Rattle.process_tree.specs.Blocks.{numbers_from}
use Rattle.process_tree.specs.Order.{Each}
use Rattle.process_tree.proofs.Every.{Each-append, Each-weaker}
use Rattle.schedule_model.specs.Conflict.{ConflictRelation}
use Rattle.schedule_model.specs.Course.{Course}
use Rattle.schedule_model.specs.Histories.{active, ends, is_active, is_in, starts}
use Rattle.schedule_model.proofs.Active.{is_active-is_in}
use Rattle.machine_model.specs.declared.blocked.Blocked.{Blocked}
use Rattle.machine_model.specs.Moment.{Moment, Piece}
use Rattle.machine_model.specs.Pieces.{running_of}
use Rattle.machine_model.specs.Replies.{BlockedProcess, admit_by_active, admit_by_known, admit_reply, blocked_in_rotation, piece_unless, rotation, waiting_process}
use Rattle.machine_model.specs.State.{block_of, is_exhausted}
use Rattle.machine_model.proofs.OpenCascade.{each_listed}
use Rattle.machine_model.proofs.TidyMoments.{Each-filter}
use Rattle.process_core.specs.Rotation.{first_told, waiting_in, waiting_of}
use Rattle.process_core.specs.declared.replies.Waiting.{Waiting}
use Rattle.process_core.specs.declared.replies.Admit.{Admit as Given}
use Rattle.process_core.specs.declared.replies.Admit.TheVariants.{Piece as IsPiece, Blocked as IsBlocked, Running, Unknown, Ended, Exhausted}
use Rattle.process_core.specs.Handing.{admit_reply_of}
use Rattle.process_core.proofs.Rotations.{in_rotation}
use Rattle.core_state.proofs.SeatReplies.{reply_parts, started_if}

-- the first that is mapped is told first
mapped_told : {X : Type 0} (f : ℕ → Option X) (xs : List ℕ) → slice_get (filter_map f xs) 0 ≡ first_told f xs
mapped_told f [] = refl
mapped_told {X = X} f (x ∷ xs) = by_first (f x) (mapped_told f xs)
  where
    by_first : (o : Option X) → slice_get (filter_map f xs) 0 ≡ first_told f xs → slice_get (cons_option o (filter_map f xs)) 0 ≡ option_or o (first_told f xs)
    by_first None rest = rest
    by_first (Some y) rest = refl

told-map : {X Y : Type 0} (v : X → Y) (f : ℕ → Option X) (xs : List ℕ) → first_told (λ i. option_map v (f i)) xs ≡ option_map v (first_told f xs)
told-map v f [] = refl
told-map {X = X} v f (x ∷ xs) = by_first (f x) (told-map v f xs)
  where
    by_first : (o : Option X) → first_told (λ i. option_map v (f i)) xs ≡ option_map v (first_told f xs) → option_or (option_map v o) (first_told (λ i. option_map v (f i)) xs) ≡ option_map v (option_or o (first_told f xs))
    by_first None rest = rest
    by_first (Some y) rest = refl

same_on : {X : Type 0} (f g : ℕ → Option X) (xs : List ℕ) → Each (λ i. f i ≡ g i) xs → first_told f xs ≡ first_told g xs
same_on f g [] same = refl
same_on f g (x ∷ xs) same = ap (λ o. option_or o (first_told f xs)) same.0 ∙ ap (option_or (g x)) (same_on f g xs same.1)

-- a reply without a block
pub no_block : (i : ℕ) (r : Given) → ((b : Blocked) → r ≡ IsBlocked b → ⊥) → waiting_in i (admit_reply_of r) ≡ None
no_block i (IsPiece d) none = refl
no_block i (IsBlocked b) none = absurd (none b refl)
no_block i Running none = refl
no_block i Unknown none = refl
no_block i Ended none = refl
no_block i (Exhausted b) none = refl

module _ (table : ConflictRelation) (courses : List Course) (m : Moment) where
  -- who waits, by its running piece, its tries and its block
  abbrev waits : ℕ → Option Piece → Bool → Option Blocked → Option BlockedProcess
  waits i o e k = if is_none o && (not e && is_some k) then option_map (λ b. record { process = i; block = b }) k else None

  waits_by : (i : ℕ) (o : Option Piece) (e : Bool) (k : Option Blocked) → is_active m.events i ≡ true → running_of m i ≡ o → is_exhausted courses m i ≡ e → block_of table courses m i ≡ k
      → waits i o e k ≡ option_map waiting_of (waiting_in i (admit_reply table courses m i))
  waits_by i (Some p) e k active' runs left block = sym (ap (λ r. option_map waiting_of (waiting_in i r)) (reply_parts courses m i table (started_if m.events i active') true (Some p) e active' runs left))
  waits_by i None true k active' runs left block = sym (ap (λ r. option_map waiting_of (waiting_in i r)) (reply_parts courses m i table (started_if m.events i active') true None true active' runs left))
  waits_by i None false None active' runs left block =
      sym (ap (λ r. option_map waiting_of (waiting_in i r)) (reply_parts courses m i table (started_if m.events i active') true None false active' runs left) ∙ ap (λ b. option_map waiting_of (waiting_in i (piece_unless courses m i b))) block)
  waits_by i None false (Some b) active' runs left block =
      sym (ap (λ r. option_map waiting_of (waiting_in i r)) (reply_parts courses m i table (started_if m.events i active') true None false active' runs left) ∙ ap (λ b. option_map waiting_of (waiting_in i (piece_unless courses m i b))) block)

  waiting_told : (i : ℕ) → is_in i (active m.events) ≡ true → waiting_process table courses m i ≡ option_map waiting_of (waiting_in i (admit_reply table courses m i))
  waiting_told i listed = waits_by i (running_of m i) (is_exhausted courses m i) (block_of table courses m i) (sym (is_active-is_in m.events i) ∙ listed) refl refl refl

  ended_waits : (i : ℕ) → is_in i (ends m.events) ≡ true → waiting_in i (admit_reply table courses m i) ≡ None
  ended_waits i is = by_started (is_in i (starts m.events)) refl
    where
      by_started : (t : Bool) → is_in i (starts m.events) ≡ t → waiting_in i (admit_reply table courses m i) ≡ None
      by_started false at = ap (λ t. waiting_in i (admit_by_known table courses m i t)) at
      by_started true at =
          ap (λ t. waiting_in i (admit_by_known table courses m i t)) at
          ∙ ap (λ a. waiting_in i (admit_by_active table courses m i a)) (ap (λ t. t && not (is_in i (ends m.events))) at ∙ ap not is)

  rotation_active : (served : ℕ) → Each (λ i. is_in i (active m.events) ≡ true) (rotation m served)
  rotation_active served = Each-append _ (filter (λ i. ltb served i) (active m.events)) (filter (λ i. leb i served) (active m.events))
      (Each-filter _ (λ i. ltb served i) (active m.events) (each_listed (active m.events))) (Each-filter _ (λ i. leb i served) (active m.events) (each_listed (active m.events)))

  -- the first that waits in rotation
  pub waiting_in_rotation : (n served : ℕ) → starts m.events ≡ numbers_from 1 n
      → slice_get (blocked_in_rotation table courses m served) 0
      ≡ option_map waiting_of (option_or (first_told (λ i. waiting_in i (admit_reply table courses m i)) (numbers_from (min served n + 1) (n - min served n))) (first_told (λ i. waiting_in i (admit_reply table courses m i)) (numbers_from 1 (min served n))))
  waiting_in_rotation n served numbered =
      let f : ℕ → Option Waiting = λ i. waiting_in i (admit_reply table courses m i) in
      mapped_told (waiting_process table courses m) (rotation m served)
      ∙ (same_on (waiting_process table courses m) (λ i. option_map waiting_of (f i)) (rotation m served)
      (Each-weaker (λ i. is_in i (active m.events) ≡ true) (λ i. waiting_process table courses m i ≡ option_map waiting_of (f i)) waiting_told (rotation m served) (rotation_active served))
      ∙ (told-map waiting_of f (rotation m served) ∙ ap (option_map waiting_of) (in_rotation f m n numbered ended_waits served)))
