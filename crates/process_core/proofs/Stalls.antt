-- A stall, by what is replied to requests for a piece of each process.
use Rattle.std.proofs.Common.{◌≡◌, ℕ, ◌+◌, ◌-◌, Bool, true, false, not, eqb, ◌&&◌, ◌||◌, if◌then◌else◌, List, [], ◌∷◌, filter, find, length, min, Option, Some, None, is_none, is_some, sym, refl, ap, ◌∙◌, arith}
use Rattle.std.specs.List.{list_all}
use Rattle.std.specs.Option.{option_map, option_or}
use Rattle.std.proofs.lemmas.Bool.{eqb-true, false≢true, not-true}
use Rattle.process_tree.specs.Blocks.{numbers_from}
use Rattle.process_tree.specs.Order.{Each}
use Rattle.process_tree.specs.Shape.{greatest}
use Rattle.process_tree.proofs.Every.{Each-weaker}
use Rattle.schedule_model.specs.Conflict.{ConflictRelation}
use Rattle.schedule_model.specs.Course.{Course}
use Rattle.schedule_model.specs.Histories.{active, ends, is_active, is_in, starts}
use Rattle.schedule_model.proofs.Active.{is_active-is_in}
use Rattle.machine_model.specs.declared.blocked.Blocked.{Blocked}
use Rattle.machine_model.specs.Moment.{Moment, Piece, has_begun}
use Rattle.machine_model.specs.Pieces.{running_of}
use Rattle.machine_model.specs.Replies.{Handed, admit_by_active, admit_by_known, admit_reply, hand_to, piece_unless, rotation}
use Rattle.machine_model.specs.State.{block_of, is_blocked, is_exhausted, is_free, is_stalled, victim_of}
use Rattle.machine_model.proofs.CallsKept.{find-passes}
use Rattle.machine_model.proofs.OpenCascade.{each_listed}
use Rattle.machine_model.proofs.OpenHoldings.{filter-kept}
use Rattle.process_core.specs.Rotation.{can_be_victim, first_told, piece_in}
use Rattle.process_core.proofs.Rotations.{ended_reply, free_in_rotation, free_told, numbers_split, same_told, told-append, told-filter}
use Rattle.core_state.proofs.SeatReplies.{reply_parts, started_if}

-- nothing is told where none passes
none_told : {X : Type 0} (q : ℕ → Bool) (g : ℕ → X) (xs : List ℕ) → is_none (first_told (λ i. if q i then Some (g i) else None) xs) ≡ list_all (λ i. not (q i)) xs
none_told q g [] = refl
none_told {X = X} q g (x ∷ xs) = by_first (q x) (none_told q g xs)
  where
    by_first : (t : Bool) → is_none (first_told (λ i. if q i then Some (g i) else None) xs) ≡ list_all (λ i. not (q i)) xs
        → is_none (option_or (if t then Some (g x) else None) (first_told (λ i. if q i then Some (g i) else None) xs)) ≡ (not t && list_all (λ i. not (q i)) xs)
    by_first true rest = refl
    by_first false rest = rest

all_alike : (p q : ℕ → Bool) (xs : List ℕ) → Each (λ i. p i ≡ q i) xs → list_all p xs ≡ list_all q xs
all_alike p q [] same = refl
all_alike p q (x ∷ xs) same = ap (λ t. t && list_all p xs) same.0 ∙ ap (λ t. q x && t) (all_alike p q xs same.1)

and_false : (t : Bool) → (t && false) ≡ false
and_false true = refl
and_false false = refl

one_fails : (p : ℕ → Bool) (i : ℕ) (xs : List ℕ) → is_in i xs ≡ true → p i ≡ false → list_all p xs ≡ false
one_fails p i [] listed fails = absurd (false≢true listed)
one_fails p i (x ∷ xs) listed fails = by_first (eqb i x) refl listed (λ later. one_fails p i xs later fails)
  where
    by_first : (t : Bool) → eqb i x ≡ t → (t || is_in i xs) ≡ true → (is_in i xs ≡ true → list_all p xs ≡ false) → (p x && list_all p xs) ≡ false
    by_first true at among later = ap (λ t. t && list_all p xs) (ap p (sym (eqb-true i x at)) ∙ fails)
    by_first false at among later = ap (λ t. p x && t) (later among) ∙ and_false (p x)

filter_alike : (p q : ℕ → Bool) (xs : List ℕ) → Each (λ i. p i ≡ q i) xs → filter p xs ≡ filter q xs
filter_alike p q [] same = refl
filter_alike p q (x ∷ xs) same = ap (λ t. if t then x ∷ filter p xs else filter p xs) same.0 ∙ ap (λ ys. if q x then x ∷ ys else ys) (filter_alike p q xs same.1)

all_have : (P : ℕ → Type 0) (xs : List ℕ) → ((i : ℕ) → P i) → Each P xs
all_have P [] each = tt
all_have P (x ∷ xs) each = (each x, all_have P xs each)

not-false : (t : Bool) → not t ≡ false → t ≡ true
not-false true is = refl
not-false false is = absurd (false≢true (sym is))

none_some : {X : Type 0} (o : Option X) → is_some o ≡ false → is_none o ≡ true
none_some None is = refl
none_some (Some x) is = absurd (false≢true (sym is))

nothing : {X : Type 0} (xs : List X) → length xs ≡ 0 → xs ≡ []
nothing [] is = refl
nothing (x ∷ xs) is = absurd (omega arith)

-- the active that pass, of all numbers
pub active_numbered : (m : Moment) (n : ℕ) (p q : ℕ → Bool) → starts m.events ≡ numbers_from 1 n → ((i : ℕ) → is_in i (active m.events) ≡ true → p i ≡ q i) → ((i : ℕ) → not (is_in i (ends m.events)) ≡ false → q i ≡ false)
    → filter p (active m.events) ≡ filter q (numbers_from 1 n)
active_numbered m n p q numbered same ended =
    filter_alike p q (active m.events) (Each-weaker (λ i. is_in i (active m.events) ≡ true) (λ i. p i ≡ q i) same (active m.events) (each_listed (active m.events)))
    ∙ (filter-kept q (λ i. not (is_in i (ends m.events))) (starts m.events) (all_have (λ i. not (is_in i (ends m.events)) ≡ false → q i ≡ false) (starts m.events) ended)
    ∙ ap (filter q) numbered)

pub idle_now : (m : Moment) → not (eqb (length m.out) 0) ≡ false → eqb (length m.out) 0 ≡ true
idle_now m is = not-false (eqb (length m.out) 0) is

pub runs_now : (m : Moment) → not (eqb (length m.out) 0) ≡ true → eqb (length m.out) 0 ≡ false
runs_now m is = not-true (eqb (length m.out) 0) is

either_way : {X : Type 0} (o p : Option X) → is_some (option_or o p) ≡ is_some (option_or p o)
either_way None None = refl
either_way None (Some y) = refl
either_way (Some x) None = refl
either_way (Some x) (Some y) = refl

module _ (table : ConflictRelation) (courses : List Course) (m : Moment) where
  -- whether a process can be the victim
  abbrev pub victim_at : ℕ → Bool
  victim_at i = can_be_victim (has_begun m i) (admit_reply table courses m i)

  ended_victim : (i : ℕ) → not (is_in i (ends m.events)) ≡ false → victim_at i ≡ false
  ended_victim i is = by_started (is_in i (starts m.events)) refl
    where
      by_started : (t : Bool) → is_in i (starts m.events) ≡ t → victim_at i ≡ false
      by_started false at = ap (λ t. can_be_victim (has_begun m i) (admit_by_known table courses m i t)) at
      by_started true at =
          ap (λ t. can_be_victim (has_begun m i) (admit_by_known table courses m i t)) at
          ∙ ap (λ a. can_be_victim (has_begun m i) (admit_by_active table courses m i a)) (ap (λ t. t && not (is_in i (ends m.events))) at ∙ is)

  abbrev pieces : ℕ → Option Handed
  pieces i = piece_in (admit_reply table courses m i)

  module _ (idle : eqb (length m.out) 0 ≡ true) where
    pub nobody : (i : ℕ) → running_of m i ≡ None
    nobody i = ap (λ (ps : List Piece). find (λ (p : Piece). eqb p.process i) ps) (nothing m.out (eqb-true (length m.out) 0 idle))

    -- an active process isn't free where it is exhausted or blocked
    not_free : (i : ℕ) → is_in i (active m.events) ≡ true → not (is_free table courses m i) ≡ (is_exhausted courses m i || is_blocked table courses m i)
    not_free i listed =
        ap (λ a. not (a && is_none (running_of m i) && not (is_exhausted courses m i) && is_none (block_of table courses m i))) (sym (is_active-is_in m.events i) ∙ listed)
        ∙ (ap (λ (o : Option Piece). not (true && is_none o && not (is_exhausted courses m i) && is_none (block_of table courses m i))) (nobody i)
        ∙ by_both (is_exhausted courses m i) (block_of table courses m i))
      where
        by_both : (e : Bool) (k : Option Blocked) → not (true && true && not e && is_none k) ≡ (e || (not e && is_some k))
        by_both true k = refl
        by_both false None = refl
        by_both false (Some b) = refl

    victim_by : (i : ℕ) (e : Bool) (k : Option Blocked) → is_active m.events i ≡ true → is_exhausted courses m i ≡ e → block_of table courses m i ≡ k
        → victim_at i ≡ ((not e && is_some k) && not (has_begun m i))
    victim_by i true k active' left block = ap (can_be_victim (has_begun m i)) (reply_parts courses m i table (started_if m.events i active') true None true active' (nobody i) left)
    victim_by i false None active' left block =
        ap (can_be_victim (has_begun m i)) (reply_parts courses m i table (started_if m.events i active') true None false active' (nobody i) left) ∙ ap (λ b. can_be_victim (has_begun m i) (piece_unless courses m i b)) block
    victim_by i false (Some b) active' left block =
        ap (can_be_victim (has_begun m i)) (reply_parts courses m i table (started_if m.events i active') true None false active' (nobody i) left) ∙ ap (λ b. can_be_victim (has_begun m i) (piece_unless courses m i b)) block

    victim_told : (i : ℕ) → is_in i (active m.events) ≡ true → victim_at i ≡ (is_blocked table courses m i && not (has_begun m i))
    victim_told i listed = victim_by i (is_exhausted courses m i) (block_of table courses m i) (sym (is_active-is_in m.events i) ∙ listed) refl refl

    -- who can be the victim, of all numbers
    pub victims_numbered : (n : ℕ) → starts m.events ≡ numbers_from 1 n
        → filter (λ i. is_blocked table courses m i && not (has_begun m i)) (active m.events) ≡ filter victim_at (numbers_from 1 n)
    victims_numbered n numbered = active_numbered m n (λ i. is_blocked table courses m i && not (has_begun m i)) victim_at numbered (λ i listed. sym (victim_told i listed)) ended_victim

    -- each active process is blocked or exhausted exactly where no piece is free
    pub stalled_told : (n : ℕ) → starts m.events ≡ numbers_from 1 n → is_stalled table courses m ≡ is_none (first_told (λ i. piece_in (admit_reply table courses m i)) (numbers_from 1 n))
    stalled_told n numbered =
        ap (λ t. t && list_all (λ i. is_exhausted courses m i || is_blocked table courses m i) (active m.events)) idle
        ∙ sym (ap (λ is. is_none (first_told pieces is)) (sym numbered)
        ∙ (ap is_none (sym (told-filter pieces (λ i. not (is_in i (ends m.events))) (starts m.events) (λ i is. free_told table courses m i ∙ ap (λ t. if t then Some (hand_to courses m i) else None) (ended_reply table courses m i (not-false (is_in i (ends m.events)) is))))
        ∙ same_told pieces (λ i. if is_free table courses m i then Some (hand_to courses m i) else None) (active m.events) (free_told table courses m))
        ∙ (none_told (is_free table courses m) (hand_to courses m) (active m.events)
        ∙ all_alike (λ i. not (is_free table courses m i)) (λ i. is_exhausted courses m i || is_blocked table courses m i) (active m.events)
        (Each-weaker (λ i. is_in i (active m.events) ≡ true) (λ i. not (is_free table courses m i) ≡ (is_exhausted courses m i || is_blocked table courses m i)) not_free (active m.events) (each_listed (active m.events))))))

    -- none is, so it is the greatest that can be
    stall_victim : (n : ℕ) → starts m.events ≡ numbers_from 1 n → is_some (first_told (λ i. piece_in (admit_reply table courses m i)) (numbers_from 1 n)) ≡ false
        → victim_of table courses m ≡ greatest (filter (λ i. can_be_victim (has_begun m i) (admit_reply table courses m i)) (numbers_from 1 n))
    stall_victim n numbered is =
        ap (λ t. if t then greatest (filter (λ i. is_blocked table courses m i && not (has_begun m i)) (active m.events)) else None)
        (stalled_told n numbered ∙ none_some (first_told pieces (numbers_from 1 n)) is)
        ∙ ap greatest (victims_numbered n numbered)

  -- a piece runs, so there is no victim
  pub runs_on : eqb (length m.out) 0 ≡ false → victim_of table courses m ≡ None
  runs_on is = ap (λ t. if t && list_all (λ i. is_exhausted courses m i || is_blocked table courses m i) (active m.events) then greatest (filter (λ i. is_blocked table courses m i && not (has_begun m i)) (active m.events)) else None) is

  module _ (n served : ℕ) (numbered : starts m.events ≡ numbers_from 1 n) where
    -- one is free in rotation exactly where one is at all
    free_somewhere : is_some (option_map (hand_to courses m) (find (is_free table courses m) (rotation m served))) ≡ is_some (first_told pieces (numbers_from 1 n))
    free_somewhere =
        let s = min served n in
        let e : s + (n - s) ≡ n = omega arith in
        let f : 1 + s ≡ s + 1 = omega arith in
        ap is_some (free_in_rotation table courses m n served numbered)
        ∙ (either_way (first_told pieces (numbers_from (s + 1) (n - s))) (first_told pieces (numbers_from 1 s))
        ∙ ap is_some (sym (ap (λ k. first_told pieces (numbers_from 1 k)) (sym e) ∙ (ap (first_told pieces) (numbers_split 1 s (n - s))
        ∙ (told-append pieces (numbers_from 1 s) (numbers_from (1 + s) (n - s)) ∙ ap (λ k. option_or (first_told pieces (numbers_from 1 s)) (first_told pieces (numbers_from k (n - s)))) f)))))

    -- none is, and nothing runs
    pub blocked_victim : eqb (length m.out) 0 ≡ true → find (is_free table courses m) (rotation m served) ≡ None
        → victim_of table courses m ≡ greatest (filter (λ i. can_be_victim (has_begun m i) (admit_reply table courses m i)) (numbers_from 1 n))
    blocked_victim idle none = stall_victim idle n numbered (sym free_somewhere ∙ ap (λ o. is_some (option_map (hand_to courses m) o)) none)

  -- whoever is free is neither exhausted nor blocked
  free_stall : (i : ℕ) → is_free table courses m i ≡ true → victim_of table courses m ≡ None
  free_stall i free =
      let parts = by_parts (is_active m.events i) (is_none (running_of m i)) (is_exhausted courses m i) (block_of table courses m i) free in
      ap (λ t. if eqb (length m.out) 0 && t then greatest (filter (λ i. is_blocked table courses m i && not (has_begun m i)) (active m.events)) else None)
      (one_fails (λ i. is_exhausted courses m i || is_blocked table courses m i) i (active m.events) (is_active-is_in m.events i ∙ parts.0) parts.1)
      ∙ ap (λ t. if t then greatest (filter (λ i. is_blocked table courses m i && not (has_begun m i)) (active m.events)) else None) (and_false (eqb (length m.out) 0))
    where
      by_parts : (a r e : Bool) (k : Option Blocked) → (a && r && not e && is_none k) ≡ true → (a ≡ true) × ((e || (not e && is_some k)) ≡ false)
      by_parts false r e k is = absurd (false≢true is)
      by_parts true false e k is = absurd (false≢true is)
      by_parts true true true k is = absurd (false≢true is)
      by_parts true true false None is = (refl, refl)
      by_parts true true false (Some b) is = absurd (false≢true is)

  -- there is no victim where one is free
  pub free_victim : (served : ℕ) (d : Handed) → Some d ≡ option_map (hand_to courses m) (find (is_free table courses m) (rotation m served)) → victim_of table courses m ≡ None
  free_victim served d is = by_found (find (is_free table courses m) (rotation m served)) refl is
    where
      by_found : (o : Option ℕ) → find (is_free table courses m) (rotation m served) ≡ o → Some d ≡ option_map (hand_to courses m) o → victim_of table courses m ≡ None
      by_found None found given = absurd (cc)
      by_found (Some i) found given = free_stall i (find-passes (is_free table courses m) (rotation m served) i found)
