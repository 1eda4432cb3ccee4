-- Ways on: from which beginning of the net one goes on, and that what is pending is a tail of what can be undone.
use Rattle.std.proofs.Common.{◌≡◌, ◌⊎◌, inl, inr, ℕ, zero, suc, ◌+◌, ◌-◌, ◌≤◌, ◌<◌, Bool, true, false, if◌then◌else◌, eqb, ltb, leb, ◌||◌, List, [], ◌∷◌, ◌++◌, length, take, drop, filter, flat_map, find, Option, Some, None, is_some, sym, refl, ap, subst, ◌∙◌, length-append, arith}
use Rattle.std.specs.List.{list_any, list_all}
use Rattle.std.specs.Option.{unwrap_or}
use Rattle.std.proofs.lemmas.Option.{none-some, same_Some}
use Rattle.std.proofs.lemmas.Bool.{and_parts, and_from, eq-eqb, leb-true, lt-ltb, cases_lt, false≢true}
use Rattle.std.proofs.lemmas.List.{drop-append-le, length-take, length-map, map-append}
use Rattle.process_tree.specs.Order.{Each}
use Rattle.process_tree.specs.Blocks.{numbers_from}
use Rattle.process_tree.specs.Shape.{Shape, is_whole, next_steps, goes_on_to, least, fixed_len, last_of}
use Rattle.process_tree.specs.Play.{kept_prefixes, kept_for}
use Rattle.process_tree.proofs.Numbers.{least_is}
use Rattle.process_tree.proofs.Every.{Each-map, Each-weaker}
use Rattle.process_tree.specs.declared.entry.Entry.{Entry}
use Rattle.process_tree.proofs.Fixed.{fixed_le}
use Rattle.schedule_model.specs.Course.{Course}
use Rattle.schedule_model.specs.Histories.{doing, undoing, is_in, steps_of}
use Rattle.schedule_model.specs.OwnOrder.{is_of_last}
use Rattle.schedule_model.proofs.Active.{is_in-filter}
use Rattle.schedule_model.proofs.Appends.{is_in-append}
use Rattle.schedule_model.proofs.UndoPhase.{of_last}
use Rattle.machine_model.specs.Progress.{Progress, above, staying, staying_for, way_on}
use Rattle.machine_model.proofs.Counting.{found-any}
use Rattle.machine_model.proofs.CallsKept.{find-passes}
use Rattle.machine_model.proofs.LastElements.{HasEnd, has_end, last_of-push, Each-last}
use Rattle.machine_model.proofs.TidyMoments.{Each-find}

-- what is in some of these lists
pub is_in-flat : {X : Type 0} (d : ℕ) (f : X → List ℕ) (xs : List X) → is_in d (flat_map f xs) ≡ list_any (λ x. is_in d (f x)) xs
is_in-flat d f [] = refl
is_in-flat d f (x ∷ xs) = is_in-append d (f x) (flat_map f xs) ∙ ap (λ t. is_in d (f x) || t) (is_in-flat d f xs)

-- v is a beginning of w with all its commit points
pub record IsKeptPrefix (t : Shape) (w v : List ℕ) : Type 0 where
  pub count : ℕ
  pub fixed : fixed_len t w ≤ count
  pub within : count ≤ length w
  pub is : v ≡ take count w

numbers_within : (lo n : ℕ) → Each (λ k. (lo ≤ k) × (k < lo + n)) (numbers_from lo n)
numbers_within lo zero = tt
numbers_within lo (suc n) = ((omega arith, omega arith), Each-weaker (λ k. (lo + 1 ≤ k) × (k < lo + 1 + n)) (λ k. (lo ≤ k) × (k < lo + suc n)) (λ k is. let a = is.0 in let b = is.1 in (omega arith, omega arith)) (numbers_from (lo + 1) n) (numbers_within (lo + 1) n))

pub kept_are_kept : (t : Shape) (w : List ℕ) → Each (IsKeptPrefix t w) (kept_prefixes t w)
kept_are_kept t w = Each-map (IsKeptPrefix t w) (λ k. take k w) (numbers_from (fixed_len t w) (length w - fixed_len t w + 1))
    (Each-weaker (λ k. (fixed_len t w ≤ k) × (k < fixed_len t w + (length w - fixed_len t w + 1))) (λ k. IsKeptPrefix t w (take k w))
    (λ k is. let most = fixed_le t w in let a = is.0 in let b = is.1 in record { count = k; fixed = a; within = omega arith; is = refl })
    (numbers_from (fixed_len t w) (length w - fixed_len t w + 1)) (numbers_within (fixed_len t w) (length w - fixed_len t w + 1)))

-- d is a way on of a process: it goes on from a kept beginning, and is at its bound or above
pub record IsWayOn (s : Progress) (d : ℕ) : Type 0 where
  pub from : IsKeptPrefix s.shape s.net (kept_for s.shape s.net d)
  pub on : goes_on_to s.shape (kept_for s.shape s.net d) d ≡ true
  pub bound : s.onward ≤ d

kept_by : (t : Shape) (w : List ℕ) (d : ℕ) (o : Option (List ℕ)) → find (λ v. goes_on_to t v d) (kept_prefixes t w) ≡ o → is_some o ≡ true
    → IsKeptPrefix t w (unwrap_or o []) × (goes_on_to t (unwrap_or o []) d ≡ true)
kept_by t w d None found is = absurd (false≢true is)
kept_by t w d (Some v) found is = (Each-find (IsKeptPrefix t w) (λ v. goes_on_to t v d) (kept_prefixes t w) v (kept_are_kept t w) found, find-passes (λ v. goes_on_to t v d) (kept_prefixes t w) v found)

least_is_way_on : (s : Progress) (d : ℕ) → least (filter (λ d. leb s.onward d) (flat_map (next_steps s.shape) (kept_prefixes s.shape s.net))) ≡ Some d → IsWayOn s d
least_is_way_on s d is =
    let among = sym (is_in-filter (λ x. leb s.onward x) d (flat_map (next_steps s.shape) (kept_prefixes s.shape s.net))) ∙ (least_is (filter (λ x. leb s.onward x) (flat_map (next_steps s.shape) (kept_prefixes s.shape s.net))) d is).0 in
    let parts = and_parts (is_in d (flat_map (next_steps s.shape) (kept_prefixes s.shape s.net))) (leb s.onward d) among in
    let some = found-any (λ v. goes_on_to s.shape v d) (kept_prefixes s.shape s.net) ∙ (sym (is_in-flat d (next_steps s.shape) (kept_prefixes s.shape s.net)) ∙ parts.0) in
    let kept = kept_by s.shape s.net d (find (λ v. goes_on_to s.shape v d) (kept_prefixes s.shape s.net)) refl some in
    record { from = kept.0; on = kept.1; bound = leb-true s.onward d parts.1 }

way_by : (s : Progress) (b whole : Bool) (d : ℕ) → (if b then None else (if whole then None else least (filter (λ d. leb s.onward d) (flat_map (next_steps s.shape) (kept_prefixes s.shape s.net))))) ≡ Some d → IsWayOn s d
way_by s true whole d is = absurd (none-some d is)
way_by s false true d is = absurd (none-some d is)
way_by s false false d is = least_is_way_on s d is

pub way_on-is : (s : Progress) (d : ℕ) → way_on s ≡ Some d → IsWayOn s d
way_on-is s d is = way_by s s.begun (is_whole s.shape s.net) d is

length_kept : (t : Shape) (w v : List ℕ) → IsKeptPrefix t w v → fixed_len t w ≤ length v
length_kept t w v is = let f = is.fixed in let n = is.within in let l = ap length is.is in let k = length-take is.count w in omega arith

stays_by : (s : Progress) (o : Option ℕ) → way_on s ≡ o → fixed_len s.shape s.net ≤ staying_for s o
stays_by s None is = omega arith
stays_by s (Some d) is = length_kept s.shape s.net (kept_for s.shape s.net d) (way_on-is s d is).from

stays_least : (s : Progress) (b whole : Bool) → fixed_len s.shape s.net ≤ (if b then fixed_len s.shape s.net else (if whole then length s.net else staying_for s (way_on s)))
stays_least s true whole = omega arith
stays_least s false true = fixed_le s.shape s.net
stays_least s false false = stays_by s (way_on s) refl

-- pending is a tail of what can be undone
pub staying-least : (s : Progress) → fixed_len s.shape s.net ≤ staying s
staying-least s = stays_least s s.begun (is_whole s.shape s.net)

pub drop_past : {X : Type 0} (n : ℕ) (xs : List X) → length xs ≤ n → drop n xs ≡ []
drop_past zero [] few = refl
drop_past (suc n) [] few = refl
drop_past zero (x ∷ xs) few = absurd (omega arith)
drop_past (suc n) (x ∷ xs) few = drop_past n xs (omega arith)

-- the undo of the last pending step is of the last entry that can be undone
pub undo_of_last : (courses : List Course) (i b k f : ℕ) (es : List Entry) → Each (λ (e : Entry). eqb e.process i ≡ true) es → f ≤ k → last_of (drop k (steps_of es)) ≡ Some b
    → is_of_last (drop f es) (undoing (doing courses i b)) ≡ true
undo_of_last courses i b k f es own less last = by_end (has_end es)
  where
    by_end : (es ≡ []) ⊎ HasEnd es → is_of_last (drop f es) (undoing (doing courses i b)) ≡ true
    by_end (inl none) = absurd (none-some b (sym (ap (λ xs. last_of (drop k (steps_of xs))) none ∙ ap last_of (drop_past {X = ℕ} k [] (omega arith))) ∙ last))
    by_end (inr ends) = by_length (cases_lt (length ends.front) k)
      where
        steps : steps_of es ≡ steps_of ends.front ++ ends.last.step ∷ []
        steps = ap steps_of ends.is ∙ map-append (λ (e : Entry). e.step) ends.front (ends.last ∷ [])

        by_length : (length ends.front < k) ⊎ (k ≤ length ends.front) → is_of_last (drop f es) (undoing (doing courses i b)) ≡ true
        by_length (inl past) =
            let l = ap length steps in let a = length-append (steps_of ends.front) (ends.last.step ∷ []) in let m = length-map ends.front (λ (e : Entry). e.step) in
            absurd (none-some b (sym (ap last_of (drop_past k (steps_of es) (omega arith))) ∙ last))
        by_length (inr before) =
            let m = length-map ends.front (λ (e : Entry). e.step) in
            let tail = ap (drop k) steps ∙ drop-append-le k (steps_of ends.front) (ends.last.step ∷ []) (omega arith) in
            let step : ends.last.step ≡ b = same_Some ends.last.step b (sym (ap last_of tail ∙ last_of-push (drop k (steps_of ends.front)) ends.last.step) ∙ last) in
            let its = Each-last (λ (e : Entry). eqb e.process i ≡ true) ends.front ends.last (subst (Each (λ (e : Entry). eqb e.process i ≡ true)) ends.is own) in
            ap (λ xs. is_of_last xs (undoing (doing courses i b))) (ap (drop f) ends.is ∙ drop-append-le f ends.front (ends.last ∷ []) (omega arith))
            ∙ (of_last (drop f ends.front) ends.last (undoing (doing courses i b)) ∙ and_from (eqb ends.last.process i) (eqb ends.last.step b) its (eq-eqb ends.last.step b step))

-- a list of which no one is at the bound or above is below it
pub below_bound : (bs : List ℕ) (d : ℕ) → above bs ≤ d → list_all (λ b. ltb b d) bs ≡ true
below_bound [] d bound = refl
below_bound (b ∷ bs) d bound = and_from (ltb b d) (list_all (λ x. ltb x d) bs) (lt-ltb b d (omega arith)) (below_bound bs d (omega arith))
