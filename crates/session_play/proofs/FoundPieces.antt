-- Pieces at hand, found by their numbers and taken out.
use Rattle.std.proofs.Common.{◌≡◌, ◌∙◌, ◌<◌, ℕ, zero, suc, Bool, true, false, List, [], ◌∷◌, ◌||◌, eqb, length, map, slice_index_or, if◌then◌else◌, Option, Some, None, refl, ap, sym, subst, arith}
use Rattle.std.specs.List.{remove}
use Rattle.std.specs.Option.{option_map}
use Rattle.std.proofs.lemmas.Bool.{eq-eqb, eqb-true, ne_eqb}
use Rattle.process_tree.specs.Order.{Each}
use Rattle.schedule_model.specs.Histories.{is_in}
use Rattle.machine_model.specs.Replies.{Handed}
use Rattle.session_play.specs.Pieces.{number_of, place_in}
use Rattle.session_play.specs.Playing.{without}

-- equality of numbers goes both ways
swap_by : (a b : ℕ) (t : Bool) → eqb a b ≡ t → eqb a b ≡ eqb b a
swap_by a b true is = subst (λ x. eqb a x ≡ eqb x a) (eqb-true a b is) refl
swap_by a b false is = is ∙ sym (ne_eqb b a (λ same. absurd (let so = eq-eqb a b (sym same) in cc)))

eqb_swap : (a b : ℕ) → eqb a b ≡ eqb b a
eqb_swap a b = swap_by a b (eqb a b) refl

-- What a place at which a number was looked for says.
abbrev pub IsPlaceOf : ℕ → List Handed → Option ℕ → Type 0
IsPlaceOf n hs None = is_in n (map number_of hs) ≡ false
IsPlaceOf n hs (Some k) = (is_in n (map number_of hs) ≡ true) × (k < length hs) × ((d : Handed) → number_of (slice_index_or hs k d) ≡ n) × (map number_of (remove hs k) ≡ without n (map number_of hs))

later : (n : ℕ) (h : Handed) (hs : List Handed) (o : Option ℕ) → eqb (number_of h) n ≡ false → IsPlaceOf n hs o → IsPlaceOf n (h ∷ hs) (option_map suc o)
later n h hs None other is = ap (λ b. b || is_in n (map number_of hs)) (eqb_swap n (number_of h) ∙ other) ∙ is
later n h hs (Some k) other (among, within, at, rest) = (
  ap (λ b. b || is_in n (map number_of hs)) (eqb_swap n (number_of h) ∙ other) ∙ among,
  omega (arith, within),
  at,
  ap (λ ns. number_of h ∷ ns) rest ∙ sym (ap (λ b. if b then map number_of hs else number_of h ∷ without n (map number_of hs)) other),
)

place_by : (n : ℕ) (h : Handed) (hs : List Handed) (b : Bool) → eqb (number_of h) n ≡ b → IsPlaceOf n hs (place_in n (map number_of hs)) → IsPlaceOf n (h ∷ hs) (if b then Some 0 else option_map suc (place_in n (map number_of hs)))
place_by n h hs true same is = (
  ap (λ b. b || is_in n (map number_of hs)) (eqb_swap n (number_of h) ∙ same),
  omega arith,
  (λ d. eqb-true (number_of h) n same),
  sym (ap (λ b. if b then map number_of hs else number_of h ∷ without n (map number_of hs)) same),
)
place_by n h hs false other is = later n h hs (place_in n (map number_of hs)) other is

-- It says so.
pub is_place : (n : ℕ) (hs : List Handed) → IsPlaceOf n hs (place_in n (map number_of hs))
is_place n [] = refl
is_place n (h ∷ hs) = place_by n h hs (eqb (number_of h) n) refl (is_place n hs)

-- What each has, the one at a place has,
pub each_at : (P : Handed → Type 0) (hs : List Handed) (k : ℕ) (d : Handed) → k < length hs → Each P hs → P (slice_index_or hs k d)
each_at P [] k d within each = absurd (omega (arith, within))
each_at P (h ∷ hs) zero d within each = each.0
each_at P (h ∷ hs) (suc k) d within each = each_at P hs k d (omega (arith, within)) each.1

-- and so do those that are left without it.
pub each_left : (P : Handed → Type 0) (hs : List Handed) (k : ℕ) → Each P hs → Each P (remove hs k)
each_left P [] zero each = tt
each_left P [] (suc k) each = tt
each_left P (h ∷ hs) zero each = each.1
each_left P (h ∷ hs) (suc k) each = (each.0, each_left P hs k each.1)
