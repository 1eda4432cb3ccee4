-- Pairs in the order of their keys: those that read alike are alike, but for zeros.
use Rattle.std.proofs.Common.{◌≡◌, ◌≢◌, ℕ, ℤ, pos, Bool, true, false, not, cond, List, [], ◌∷◌, filter, Some, None, refl, sym, ap, ◌∙◌, subst}
use Rattle.std.specs.Prelude.{unwrap_or, ⊤}
use Rattle.std.specs.List.{AllByRecursion}
use Rattle.std.specs.Map.{keys_of, lookup}
use Rattle.std.specs.Ordering.{nat_cmp, int_eq, is_eq, eq_by_cmp, match_ordering, ordering_reverse}
use Rattle.std.specs.declared.cmp.Ordering.{Ordering}
use Rattle.std.specs.declared.cmp.Ordering.TheVariants.{Less, Equal, Greater}
use Rattle.std.specs.BTreeMap.{is_at}
use Rattle.std.specs.Cmp.{nat_cmp_total, eq_by_cmp_equiv}
use Rattle.std.proofs.lemmas.Bool.{true≢false}
use Rattle.std.proofs.lemmas.Bool.Decides.{Decides-int_eq}
use Rattle.std.proofs.lemmas.Map.Lookups.{exact_unsigned}
use Rattle.std.proofs.lemmas.Map.Views.{tells_apart}
use Rattle.resource_box.specs.Meaning.{value_at, with_value}
use Rattle.replay_run.specs.Printed.{isnt_zero}

-- each key is below those behind it
abbrev pub IsBelow : ℕ → List (ℕ × ℤ) → Type 0
IsBelow k pairs = AllByRecursion (λ y. nat_cmp k y ≡ Less) (keys_of pairs)

abbrev pub AreSorted : List (ℕ × ℤ) → Type 0
AreSorted [] = ⊤
AreSorted (x ∷ pairs) = IsBelow x.0 pairs × AreSorted pairs

-- all keys with a value that is set
all_with : (P : ℕ → Type 0) (pairs : List (ℕ × ℤ)) (k : ℕ) (v : ℤ) → AllByRecursion P (keys_of pairs) → P k → AllByRecursion P (keys_of (with_value pairs k v))
all_with P [] k v all is = (is, tt)
all_with P (x ∷ pairs) k v all is = by (nat_cmp k x.0) (all_with P pairs k v all.1 is)
  where
    by : (r : Ordering) → AllByRecursion P (keys_of (with_value pairs k v)) → AllByRecursion P (keys_of (match_ordering r ((k, v) ∷ x ∷ pairs) ((x.0, v) ∷ pairs) (x ∷ with_value pairs k v)))
    by Less rest = (is, all)
    by Equal rest = all
    by Greater rest = (all.0, rest)

all_less : (k m : ℕ) (ks : List ℕ) → nat_cmp k m ≡ Less → AllByRecursion (λ y. nat_cmp m y ≡ Less) ks → AllByRecursion (λ y. nat_cmp k y ≡ Less) ks
all_less k m [] low all = tt
all_less k m (x ∷ ks) low all = (nat_cmp_total.trans k m x low all.0, all_less k m ks low all.1)

turned : (k m : ℕ) → nat_cmp k m ≡ Greater → nat_cmp m k ≡ Less
turned k m r = nat_cmp_total.antisymm m k ∙ ap ordering_reverse r

-- A value that is set keeps the order.
pub sorted_with : (pairs : List (ℕ × ℤ)) (k : ℕ) (v : ℤ) → AreSorted pairs → AreSorted (with_value pairs k v)
sorted_with [] k v sorted = (tt, tt)
sorted_with (x ∷ pairs) k v sorted = by (nat_cmp k x.0) refl (sorted_with pairs k v sorted.1)
  where
    by : (r : Ordering) → nat_cmp k x.0 ≡ r → AreSorted (with_value pairs k v) → AreSorted (match_ordering r ((k, v) ∷ x ∷ pairs) ((x.0, v) ∷ pairs) (x ∷ with_value pairs k v))
    by Less r rest = ((r, all_less k x.0 (keys_of pairs) r sorted.0), sorted)
    by Equal r rest = sorted
    by Greater r rest = (all_with (λ y. nat_cmp x.0 y ≡ Less) pairs k v sorted.0 (turned k x.0 r), rest)

-- nothing is found at a key below all
absent : (k : ℕ) (pairs : List (ℕ × ℤ)) → IsBelow k pairs → lookup (is_at (nat_cmp k)) pairs ≡ None
absent k [] below = refl
absent k (x ∷ pairs) below = ap (λ r. cond (is_eq r) (Some x.1) (lookup (is_at (nat_cmp k)) pairs)) below.0 ∙ absent k pairs below.1

zero_below : (k : ℕ) (pairs : List (ℕ × ℤ)) → IsBelow k pairs → value_at pairs k ≡ pos 0
zero_below k pairs below = ap (λ o. unwrap_or o (pos 0)) (absent k pairs below)

-- what is read of the first pair, and of those behind it
first_read : (x : ℕ × ℤ) (pairs : List (ℕ × ℤ)) (k : ℕ) → eq_by_cmp nat_cmp k x.0 ≡ true → value_at (x ∷ pairs) k ≡ x.1
first_read x pairs k at = ap (λ b. unwrap_or (cond b (Some x.1) (lookup (is_at (nat_cmp k)) pairs)) (pos 0)) at

later_read : (x : ℕ × ℤ) (pairs : List (ℕ × ℤ)) (k : ℕ) → eq_by_cmp nat_cmp k x.0 ≡ false → value_at (x ∷ pairs) k ≡ value_at pairs k
later_read x pairs k off = ap (λ b. unwrap_or (cond b (Some x.1) (lookup (is_at (nat_cmp k)) pairs)) (pos 0)) off

own_read : (x : ℕ × ℤ) (pairs : List (ℕ × ℤ)) → value_at (x ∷ pairs) x.0 ≡ x.1
own_read x pairs = first_read x pairs x.0 ((eq_by_cmp_equiv nat_cmp_total).refl x.0)

-- a filter keeps the order
all_filtered : (P : ℕ → Type 0) (pairs : List (ℕ × ℤ)) → AllByRecursion P (keys_of pairs) → AllByRecursion P (keys_of (filter isnt_zero pairs))
all_filtered P [] all = tt
all_filtered P (x ∷ pairs) all = by (isnt_zero x) (all_filtered P pairs all.1)
  where
    by : (b : Bool) → AllByRecursion P (keys_of (filter isnt_zero pairs)) → AllByRecursion P (keys_of (cond b (x ∷ filter isnt_zero pairs) (filter isnt_zero pairs)))
    by true rest = (all.0, rest)
    by false rest = rest

sorted_filter : (pairs : List (ℕ × ℤ)) → AreSorted pairs → AreSorted (filter isnt_zero pairs)
sorted_filter [] sorted = tt
sorted_filter (x ∷ pairs) sorted = by (isnt_zero x) (sorted_filter pairs sorted.1)
  where
    by : (b : Bool) → AreSorted (filter isnt_zero pairs) → AreSorted (cond b (x ∷ filter isnt_zero pairs) (filter isnt_zero pairs))
    by true rest = (all_filtered (λ y. nat_cmp x.0 y ≡ Less) pairs sorted.0, rest)
    by false rest = rest

not_false : (b : Bool) → not b ≡ false → b ≡ true
not_false true is = refl
not_false false is = absurd (true≢false is)

-- and what is read
filter_read : (pairs : List (ℕ × ℤ)) (k : ℕ) → AreSorted pairs → value_at (filter isnt_zero pairs) k ≡ value_at pairs k
filter_read [] k sorted = refl
filter_read (x ∷ pairs) k sorted = by (isnt_zero x) refl (eq_by_cmp nat_cmp k x.0) refl (filter_read pairs k sorted.1)
  where
    zero_of : isnt_zero x ≡ false → pos 0 ≡ x.1
    zero_of is = sym ((Decides-int_eq x.1 (pos 0)).0 (not_false (int_eq x.1 (pos 0)) is))

    by : (b : Bool) → isnt_zero x ≡ b → (e : Bool) → eq_by_cmp nat_cmp k x.0 ≡ e → value_at (filter isnt_zero pairs) k ≡ value_at pairs k
        → value_at (cond b (x ∷ filter isnt_zero pairs) (filter isnt_zero pairs)) k ≡ value_at (x ∷ pairs) k
    by true is true at rest = first_read x (filter isnt_zero pairs) k at ∙ sym (first_read x pairs k at)
    by true is false off rest = later_read x (filter isnt_zero pairs) k off ∙ (rest ∙ sym (later_read x pairs k off))
    by false is true at rest =
        rest
        ∙ (zero_below k pairs (subst (λ j. IsBelow j pairs) (sym (tells_apart exact_unsigned k x.0 at)) sorted.0) ∙ (zero_of is ∙ sym (first_read x pairs k at)))
    by false is false off rest = rest ∙ sym (later_read x pairs k off)

-- no value is 0
abbrev AreNotZero : List (ℕ × ℤ) → Type 0
AreNotZero pairs = AllByRecursion (λ x. isnt_zero x ≡ true) pairs

none_zero : (pairs : List (ℕ × ℤ)) → AreNotZero (filter isnt_zero pairs)
none_zero [] = tt
none_zero (x ∷ pairs) = by (isnt_zero x) refl (none_zero pairs)
  where
    by : (b : Bool) → isnt_zero x ≡ b → AreNotZero (filter isnt_zero pairs) → AreNotZero (cond b (x ∷ filter isnt_zero pairs) (filter isnt_zero pairs))
    by true is rest = (is, rest)
    by false is rest = rest

not_zero : (x : ℕ × ℤ) → isnt_zero x ≡ true → x.1 ≢ pos 0
not_zero x is zero = true≢false (sym is ∙ ap (λ v. not (int_eq v (pos 0))) zero)

-- without zeros, those that read alike are the same
same_lists : (xs ys : List (ℕ × ℤ)) → AreSorted xs → AreSorted ys → AreNotZero xs → AreNotZero ys → ((k : ℕ) → value_at xs k ≡ value_at ys k) → xs ≡ ys
same_lists [] [] s t n m alike = refl
same_lists [] (y ∷ ys) s t n m alike = absurd (not_zero y m.0 (sym (alike y.0 ∙ own_read y ys)))
same_lists (x ∷ xs) [] s t n m alike = absurd (not_zero x n.0 (sym (own_read x xs) ∙ alike x.0))
same_lists (x ∷ xs) (y ∷ ys) s t n m alike =
    by (nat_cmp x.0 y.0) refl (λ later. same_lists xs ys s.1 t.1 n.1 m.1 later)
  where
    same_key : nat_cmp x.0 y.0 ≡ Equal → x.0 ≡ y.0
    same_key r = exact_unsigned x.0 y.0 r

    tails : x.0 ≡ y.0 → (k : ℕ) (b : Bool) → eq_by_cmp nat_cmp k x.0 ≡ b → value_at xs k ≡ value_at ys k
    tails same k true at =
        zero_below k xs (subst (λ j. IsBelow j xs) (sym (tells_apart exact_unsigned k x.0 at)) s.0)
        ∙ sym (zero_below k ys (subst (λ j. IsBelow j ys) (sym (tells_apart exact_unsigned k x.0 at ∙ same)) t.0))
    tails same k false off =
        sym (later_read x xs k off) ∙ (alike k ∙ later_read y ys k (subst (λ j. eq_by_cmp nat_cmp k j ≡ false) same off))

    by : (r : Ordering) → nat_cmp x.0 y.0 ≡ r → (((k : ℕ) → value_at xs k ≡ value_at ys k) → xs ≡ ys) → (x ∷ xs) ≡ (y ∷ ys)
    by Less r rest =
        absurd (not_zero x n.0 (sym (own_read x xs) ∙ (alike x.0 ∙ zero_below x.0 (y ∷ ys) (r, all_less x.0 y.0 (keys_of ys) r t.0))))
    by Equal r rest =
        let key = same_key r in
        let value : x.1 ≡ y.1 = sym (own_read x xs) ∙ (alike x.0 ∙ (ap (value_at (y ∷ ys)) key ∙ own_read y ys)) in
        let tail = rest (λ k. tails key k (eq_by_cmp nat_cmp k x.0) refl) in
        λ i. (key i, value i) ∷ tail i
    by Greater r rest =
        let low = turned x.0 y.0 r in
        absurd (not_zero y m.0 (sym (own_read y ys) ∙ (sym (alike y.0) ∙ zero_below y.0 (x ∷ xs) (low, all_less y.0 x.0 (keys_of xs) low s.0))))

-- Sorted pairs that read alike have the same pairs that aren't 0.
pub same_pairs : (a b : List (ℕ × ℤ)) → AreSorted a → AreSorted b → ((k : ℕ) → value_at a k ≡ value_at b k) → filter isnt_zero a ≡ filter isnt_zero b
same_pairs a b one two alike =
    same_lists (filter isnt_zero a) (filter isnt_zero b) (sorted_filter a one) (sorted_filter b two) (none_zero a) (none_zero b)
    (λ k. filter_read a k one ∙ (alike k ∙ sym (filter_read b k two)))
