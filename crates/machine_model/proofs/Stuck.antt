-- A request for any piece answers that one is stuck where nothing runs and nobody can go on or go back, at whatever moment.
use Rattle.std.proofs.Common.{◌≡◌, ◌≢◌, ◌⊎◌, inl, inr, ℕ, Bool, true, false, not, cond, eqb, ltb, leb, if◌then◌else◌, ◌&&◌, ◌||◌, List, [], ◌∷◌, length, filter, find, Option, Some, None, is_some, is_none, unwrap_or, sym, refl, ap, ◌∙◌, arith}
use Rattle.std.specs.Bool.{IsTrue}
use Rattle.std.specs.List.{list_any, list_all}
use Rattle.std.proofs.lemmas.Option.{none-some}
use Rattle.std.proofs.lemmas.Bool.{and_parts, and_from, and_left, and_right, or_left, or_right, or_cases, eqb-true, eq-eqb, ne_eqb, false≢true, ltb-false, le-leb}
use Rattle.process_tree.specs.Shape.{greatest, greater}
use Rattle.schedule_model.specs.Course.{Course}
use Rattle.schedule_model.specs.Conflict.{ConflictRelation}
use Rattle.schedule_model.specs.Histories.{active, is_active, is_in}
use Rattle.schedule_model.proofs.Active.{is_in-filter, is_active-is_in}
use Rattle.schedule_model.proofs.Appends.{is_in-append}
use Rattle.machine_model.specs.declared.blocked.Blocked.{Blocked}
use Rattle.machine_model.specs.Moment.{Moment, Piece, has_begun}
use Rattle.machine_model.specs.State.{block_of, is_blocked, is_exhausted, is_free, is_stalled, victim_of}
use Rattle.machine_model.specs.Replies.{Next, chosen, wait, all_ended, stuck, rotation, least_exhausted, none_free_by_active, none_free_by_running, none_free_reply, piece_of_free, next_reply}
use Rattle.machine_model.specs.CallLaws.{IsStuck}

abbrev stuck_number : ℕ → Next → ℕ
stuck_number d (stuck i) = i
stuck_number d (chosen h) = d
stuck_number d (wait w) = d
stuck_number d all_ended = d

abbrev is_stuck : Next → Bool
is_stuck (stuck i) = true
is_stuck (chosen h) = false
is_stuck (wait w) = false
is_stuck all_ended = false

passes_step : {X : Type 0} (p : X → Bool) (x : X) (xs : List X) (t : Bool) → p x ≡ t → (find p xs ≡ None → list_any p xs ≡ false) → cond t (Some x) (find p xs) ≡ None → (t || list_any p xs) ≡ false
passes_step p x xs true at rest found = absurd (none-some x (sym found))
passes_step p x xs false at rest found = rest found

-- where nothing is found nothing passes
pub none_passes : {X : Type 0} (p : X → Bool) (xs : List X) → find p xs ≡ None → list_any p xs ≡ false
none_passes p [] is = refl
none_passes p (x ∷ xs) is = passes_step p x xs (p x) refl (none_passes p xs) is

found_step : {X : Type 0} (p : X → Bool) (x : X) (xs : List X) (t : Bool) → p x ≡ t → (list_any p xs ≡ false → find p xs ≡ None) → (t || list_any p xs) ≡ false → cond t (Some x) (find p xs) ≡ None
found_step p x xs true at rest none = absurd (false≢true (sym none))
found_step p x xs false at rest none = rest none

-- and the converse
pub none_found : {X : Type 0} (p : X → Bool) (xs : List X) → list_any p xs ≡ false → find p xs ≡ None
none_found p [] is = refl
none_found p (x ∷ xs) is = found_step p x xs (p x) refl (none_found p xs) is

fails_step : (p : ℕ → Bool) (x i : ℕ) (xs : List ℕ) (t : Bool) → p x ≡ t → (list_any p xs ≡ false → is_in i xs ≡ true → p i ≡ false)
    → (t || list_any p xs) ≡ false → (eqb i x ≡ true) ⊎ (is_in i xs ≡ true) → p i ≡ false
fails_step p x i xs true at rest none listed = absurd (false≢true (sym none))
fails_step p x i xs false at rest none (inl same) = ap p (eqb-true i x same) ∙ at
fails_step p x i xs false at rest none (inr later) = rest none later

-- where none passes, none of those listed does
listed_fails : (p : ℕ → Bool) (xs : List ℕ) (i : ℕ) → list_any p xs ≡ false → is_in i xs ≡ true → p i ≡ false
listed_fails p [] i none listed = absurd (false≢true listed)
listed_fails p (x ∷ xs) i none listed = fails_step p x i xs (p x) refl (listed_fails p xs i) none (or_cases (eqb i x) (is_in i xs) listed)

all_fail : (p : ℕ → Bool) (xs : List ℕ) → ((i : ℕ) → is_in i xs ≡ true → p i ≡ false) → list_any p xs ≡ false
all_fail p [] fails = refl
all_fail p (x ∷ xs) fails = rw (fails x (or_left (eqb x x) (is_in x xs) (eq-eqb x x refl))) (all_fail p xs (λ i listed. fails i (or_right (eqb i x) (is_in i xs) listed)))

all_pass_listed : (p : ℕ → Bool) (xs : List ℕ) → ((i : ℕ) → is_in i xs ≡ true → p i ≡ true) → list_all p xs ≡ true
all_pass_listed p [] passes = refl
all_pass_listed p (x ∷ xs) passes = and_from _ _ (passes x (or_left (eqb x x) (is_in x xs) (eq-eqb x x refl))) (all_pass_listed p xs (λ i listed. passes i (or_right (eqb i x) (is_in i xs) listed)))

-- the rotation has the active processes, and no others
in_rotation : (m : Moment) (served k : ℕ) → is_in k (rotation m served) ≡ true → is_in k (active m.events) ≡ true
in_rotation m served k listed = by_part (or_cases _ _ (sym (is_in-append k (filter (λ i. ltb served i) (active m.events)) (filter (λ i. leb i served) (active m.events))) ∙ listed))
  where
    by_part : (is_in k (filter (λ i. ltb served i) (active m.events)) ≡ true) ⊎ (is_in k (filter (λ i. leb i served) (active m.events)) ≡ true) → is_in k (active m.events) ≡ true
    by_part (inl first) = (and_parts _ _ (sym (is_in-filter (λ i. ltb served i) k (active m.events)) ∙ first)).0
    by_part (inr second) = (and_parts _ _ (sym (is_in-filter (λ i. leb i served) k (active m.events)) ∙ second)).0

of_rotation : (m : Moment) (served k : ℕ) → is_in k (active m.events) ≡ true → is_in k (rotation m served) ≡ true
of_rotation m served k listed = is_in-append k (filter (λ i. ltb served i) (active m.events)) (filter (λ i. leb i served) (active m.events)) ∙ by_order (ltb served k) refl
  where
    by_order : (t : Bool) → ltb served k ≡ t → (is_in k (filter (λ i. ltb served i) (active m.events)) || is_in k (filter (λ i. leb i served) (active m.events))) ≡ true
    by_order true after = or_left _ _ (is_in-filter (λ i. ltb served i) k (active m.events) ∙ and_from _ _ listed after)
    by_order false before = or_right _ _ (is_in-filter (λ i. leb i served) k (active m.events) ∙ and_from _ _ listed (le-leb k served (ltb-false served k before)))

no_greatest : (xs : List ℕ) (k : ℕ) → greatest xs ≡ None → is_in k xs ≡ true → ⊥
no_greatest [] k is listed = false≢true listed
no_greatest (x ∷ xs) k is listed = by_rest (greatest xs) is
  where
    by_rest : (o : Option ℕ) → greater x o ≡ None → ⊥
    by_rest None e = none-some x (sym e)
    by_rest (Some y) e = by_test (ltb y x) e
      where
        by_test : (t : Bool) → (if t then Some x else Some y) ≡ None → ⊥
        by_test true e' = none-some x (sym e')
        by_test false e' = none-some y (sym e')

-- What the answer says at any moment: as where one is stuck, but the number is 0 where none is exhausted.
pub record SaysStuck (table : ConflictRelation) (courses : List Course) (m : Moment) (i : ℕ) : Type 0 where
  pub some_active : active m.events ≢ []
  pub nothing_runs : m.out ≡ []
  pub nobody_goes : (k : ℕ) → IsTrue (is_active m.events k)
      → IsTrue (is_exhausted courses m k) ⊎ (IsTrue (has_begun m k) × IsTrue (is_blocked table courses m k))
  pub least : i ≡ least_exhausted courses m

module _ (table : ConflictRelation) (courses : List Course) (m : Moment) (dry : victim_of table courses m ≡ None) where
  -- where nothing runs, whoever isn't free is exhausted or blocked
  not_free : (k : ℕ) → m.out ≡ [] → is_active m.events k ≡ true → is_free table courses m k ≡ false → (is_exhausted courses m k || is_blocked table courses m k) ≡ true
  not_free k idle active not_free' = by_tries (is_exhausted courses m k) refl (is_some (block_of table courses m k)) refl
    where
      none_some : (o : Option Blocked) → is_some o ≡ false → is_none o ≡ true
      none_some None is = refl
      none_some (Some b) is = absurd (false≢true (sym is))

      by_tries : (t : Bool) → is_exhausted courses m k ≡ t → (u : Bool) → is_some (block_of table courses m k) ≡ u → (is_exhausted courses m k || is_blocked table courses m k) ≡ true
      by_tries true is u at = or_left _ _ is
      by_tries false is true at = or_right _ _ (and_from _ _ (ap not is) at)
      by_tries false is false at = absurd (false≢true (sym not_free'
          ∙ and_from _ _ (and_from _ _ (and_from _ _ active (ap (λ ps. is_none (find (λ p. eqb p.process k) ps)) idle)) (ap not is)) (none_some (block_of table courses m k) at)))

  -- in a stall without a victim, whoever is blocked has begun to complete
  blocked_has_begun : (k : ℕ) → is_stalled table courses m ≡ true → is_in k (active m.events) ≡ true → is_blocked table courses m k ≡ true → has_begun m k ≡ true
  blocked_has_begun k stalled listed blocked = by_begun (has_begun m k) refl
    where
      by_greatest : is_in k (filter (λ i. is_blocked table courses m i && not (has_begun m i)) (active m.events)) ≡ true → (o : Option ℕ)
          → greatest (filter (λ i. is_blocked table courses m i && not (has_begun m i)) (active m.events)) ≡ o → has_begun m k ≡ true
      by_greatest among (Some d) is = absurd (none-some d (sym dry ∙ (ap (λ t. if t then greatest (filter (λ i. is_blocked table courses m i && not (has_begun m i)) (active m.events)) else None) stalled ∙ is)))
      by_greatest among None is = absurd (no_greatest (filter (λ i. is_blocked table courses m i && not (has_begun m i)) (active m.events)) k is among)

      by_begun : (t : Bool) → has_begun m k ≡ t → has_begun m k ≡ true
      by_begun true is = is
      by_begun false is = by_greatest (is_in-filter (λ i. is_blocked table courses m i && not (has_begun m i)) k (active m.events) ∙ and_from _ _ listed (and_from _ _ blocked (ap not is))) _ refl

  stalled_from : m.out ≡ [] → ((k : ℕ) → is_in k (active m.events) ≡ true → (is_exhausted courses m k || is_blocked table courses m k) ≡ true) → is_stalled table courses m ≡ true
  stalled_from idle each = and_from _ _ (ap (λ ps. eqb (length ps) 0) idle) (all_pass_listed (λ i. is_exhausted courses m i || is_blocked table courses m i) (active m.events) each)

  -- nobody is free, and nothing runs
  stuck_facts : (i : ℕ) → list_any (is_free table courses m) (active m.events) ≡ false → active m.events ≢ [] → m.out ≡ [] → i ≡ least_exhausted courses m → SaysStuck table courses m i
  stuck_facts i none some idle least = record {
    some_active = some;
    nothing_runs = idle;
    nobody_goes = λ k active'. by_tries k (sym (is_active-is_in m.events k)) active';
    least = least;
  }
    where
      each : (k : ℕ) → is_in k (active m.events) ≡ true → (is_exhausted courses m k || is_blocked table courses m k) ≡ true
      each k listed = not_free k idle (sym (is_active-is_in m.events k) ∙ listed) (listed_fails (is_free table courses m) (active m.events) k none listed)

      by_tries : (k : ℕ) → is_active m.events k ≡ is_in k (active m.events) → is_active m.events k ≡ true
          → IsTrue (is_exhausted courses m k) ⊎ (IsTrue (has_begun m k) × IsTrue (is_blocked table courses m k))
      by_tries k same active' = by_either (or_cases _ _ (each k (sym same ∙ active')))
        where
          by_either : (is_exhausted courses m k ≡ true) ⊎ (is_blocked table courses m k ≡ true) → IsTrue (is_exhausted courses m k) ⊎ (IsTrue (has_begun m k) × IsTrue (is_blocked table courses m k))
          by_either (inl tries) = inl tries
          by_either (inr blocked) = inr (blocked_has_begun k (stalled_from idle each) (sym same ∙ active') blocked, blocked)

  none_active : (xs : List ℕ) → eqb (length xs) 0 ≡ false → xs ≢ []
  none_active [] is e = false≢true (sym is)
  none_active (x ∷ xs) is e = absurd (cc)

  nothing_out : (ps : List Piece) → eqb (length ps) 0 ≡ true → ps ≡ []
  nothing_out [] is = refl
  nothing_out (p ∷ ps) is = let e = eqb-true (length (p ∷ ps)) 0 is in absurd (omega arith)

  by_running : (served i : ℕ) → list_any (is_free table courses m) (active m.events) ≡ false → active m.events ≢ [] → (t : Bool) → eqb (length m.out) 0 ≡ t
      → none_free_by_running table courses m served t ≡ stuck i → SaysStuck table courses m i
  by_running served i none some true idle is = stuck_facts i none some (nothing_out m.out idle) (sym (ap (stuck_number 0) is))
  by_running served i none some false idle is = absurd (false≢true (ap is_stuck is))

  by_active : (served i : ℕ) → list_any (is_free table courses m) (active m.events) ≡ false → (t : Bool) → eqb (length (active m.events)) 0 ≡ t
      → none_free_by_active table courses m served t ≡ stuck i → SaysStuck table courses m i
  by_active served i none true some is = absurd (false≢true (ap is_stuck is))
  by_active served i none false some is = by_running served i none (none_active (active m.events) some) (eqb (length m.out) 0) refl is

  by_free : (served i : ℕ) (o : Option ℕ) → find (is_free table courses m) (rotation m served) ≡ o → piece_of_free courses m (none_free_reply table courses m served) o ≡ stuck i → SaysStuck table courses m i
  by_free served i (Some j) found is = absurd (false≢true (ap is_stuck is))
  by_free served i None found is =
      by_active served i (all_fail (is_free table courses m) (active m.events)
      (λ k listed. listed_fails (is_free table courses m) (rotation m served) k (none_passes (is_free table courses m) (rotation m served) found) (of_rotation m served k listed)))
      (eqb (length (active m.events)) 0) refl is

  pub stuck-only : (served i : ℕ) → next_reply table courses m served ≡ stuck i → SaysStuck table courses m i
  stuck-only served i is = by_free served i (find (is_free table courses m) (rotation m served)) refl is

-- whoever is exhausted or blocked isn't free
module _ (table : ConflictRelation) (courses : List Course) (m : Moment) where
  exhausted_not_free : (k : ℕ) → is_exhausted courses m k ≡ true → is_free table courses m k ≡ false
  exhausted_not_free k is = and_left _ _ (and_right _ _ (ap not is))

  blocked_not_free : (k : ℕ) → is_blocked table courses m k ≡ true → is_free table courses m k ≡ false
  blocked_not_free k is = and_right _ _ (by_block (block_of table courses m k) (and_parts _ _ is).1)
    where
      by_block : (o : Option Blocked) → is_some o ≡ true → is_none o ≡ false
      by_block None at = absurd (false≢true at)
      by_block (Some b) at = refl

  stuck_free : (i k : ℕ) → IsStuck table courses m i → is_active m.events k ≡ true → is_free table courses m k ≡ false
  stuck_free i k stuck' active' = by_either (stuck'.nobody_goes k active')
    where
      by_either : IsTrue (is_exhausted courses m k) ⊎ (IsTrue (has_begun m k) × IsTrue (is_blocked table courses m k)) → is_free table courses m k ≡ false
      by_either (inl tries) = exhausted_not_free k tries
      by_either (inr blocked) = blocked_not_free k blocked.1

  some_length : (xs : List ℕ) → xs ≢ [] → eqb (length xs) 0 ≡ false
  some_length [] some = absurd (some refl)
  some_length (x ∷ xs) some = ne_eqb (length (x ∷ xs)) 0 (λ e. omega arith)

  pub stuck-if : (served i : ℕ) → IsStuck table courses m i → next_reply table courses m served ≡ stuck i
  stuck-if served i is =
      let none = none_found (is_free table courses m) (rotation m served)
      (all_fail (is_free table courses m) (rotation m served) (λ k listed. stuck_free i k is (sym (is_active-is_in m.events k) ∙ in_rotation m served k listed))) in
      ap (piece_of_free courses m (none_free_reply table courses m served)) none
      ∙ (ap (none_free_by_active table courses m served) (some_length (active m.events) is.some_active)
      ∙ (ap (none_free_by_running table courses m served) (ap (λ ps. eqb (length ps) 0) is.nothing_runs) ∙ ap (λ o. stuck (unwrap_or o 0)) is.is_least))
