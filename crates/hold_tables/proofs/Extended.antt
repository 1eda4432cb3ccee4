-- What marks tell, extended by arrows: by none, by one, and by some after others.
use Rattle.std.proofs.Common.{◌≡◌, ◌<◌, ◌⊎◌, inl, inr, ℕ, Bool, true, false, ◌||◌, ◌&&◌, List, [], ◌∷◌, length, sym, refl, ap, ◌∙◌, subst, arith}
use Rattle.std.specs.Prelude.{nat_eq}
use Rattle.std.proofs.Math.Dec.{eqb-suc-suc, eqb-suc-zero, eqb-zero-suc}
use Rattle.std.proofs.lemmas.Bool.{eqb-true, eq-eqb, ne_eqb, eqb-false, false≢true, or_left, or_right, or_cases, and_parts, and_from}
use Rattle.schedule_model.specs.Graph.{Arrow}
use Rattle.hold_tables.specs.Tables.{OpenProcess, has_number}
use Rattle.hold_tables.specs.Places.{place_of}
use Rattle.hold_tables.specs.Walks.{AreDistinctRows, Implies, IsExtended, IsTransitive, told}
use Rattle.bit_rows.specs.Cells.{IsJoined, is_or}

-- processes have one place where they are one
pub same_place : (rows : List OpenProcess) (i p : ℕ) → has_number i rows ≡ true → has_number p rows ≡ true → nat_eq (place_of i rows) (place_of p rows) ≡ nat_eq i p
same_place [] i p has other = absurd (false≢true has)
same_place (r ∷ rows) i p has other = by (nat_eq r.process i) (nat_eq r.process p) refl refl (same_place rows i p)
  where
    by : (s t : Bool) → nat_eq r.process i ≡ s → nat_eq r.process p ≡ t → (has_number i rows ≡ true → has_number p rows ≡ true → nat_eq (place_of i rows) (place_of p rows) ≡ nat_eq i p)
        → nat_eq (place_of i (r ∷ rows)) (place_of p (r ∷ rows)) ≡ nat_eq i p
    by true true is at rest = rw (is, at) (sym (eq-eqb i p (sym (eqb-true r.process i is) ∙ eqb-true r.process p at)))
    by true false is at rest = rw (is, at) (eqb-zero-suc (place_of p rows) ∙ sym (ne_eqb i p (λ same. eqb-false r.process p at (eqb-true r.process i is ∙ same))))
    by false true is at rest = rw (is, at) (eqb-suc-zero (place_of i rows) ∙ sym (ne_eqb i p (λ same. eqb-false r.process i is (eqb-true r.process p at ∙ sym same))))
    by false false is at rest = rw (is, at) (eqb-suc-suc (place_of i rows) (place_of p rows) ∙ rest (subst (λ b. (b || has_number i rows) ≡ true) is has) (subst (λ b. (b || has_number p rows) ≡ true) at other))

-- and it is a place of theirs
pub place_within : (rows : List OpenProcess) (i : ℕ) → has_number i rows ≡ true → place_of i rows < length rows
place_within [] i has = absurd (false≢true has)
place_within (r ∷ rows) i has = by (nat_eq r.process i) refl (place_within rows i)
  where
    by : (s : Bool) → nat_eq r.process i ≡ s → (has_number i rows ≡ true → place_of i rows < length rows) → place_of i (r ∷ rows) < length (r ∷ rows)
    by true is rest = rw is (omega arith)
    by false is rest = let less = rest (subst (λ b. (b || has_number i rows) ≡ true) is has) in rw is (omega (arith, less))

-- what an arrow joined to the marks adds to what they tell
pub told_joined : (rows : List OpenProcess) (p q : ℕ) (old new : List (List Bool)) → AreDistinctRows rows old → has_number p rows ≡ true → has_number q rows ≡ true
    → IsJoined (place_of p rows) (place_of q rows) old new → (i k : ℕ) → has_number i rows ≡ true → has_number k rows ≡ true
    → told rows new i k ≡ (told rows old i k || (is_or (told rows old i p) i p && is_or (told rows old q k) k q))
told_joined rows p q old new are from to joined i k here there =
    let first = place_within rows i here in
    let last = place_within rows k there in
    let count = are.0 in
    let few = are.1 in
    let within : place_of i rows < length old = omega (arith, first, count) in
    let small : place_of k rows < 256 = omega (arith, last, few) in
    joined.1 (place_of i rows) (place_of k rows) within small
    ∙ ap (λ t. told rows old i k || ((t || told rows old i p) && (nat_eq (place_of k rows) (place_of q rows) || told rows old q k))) (same_place rows i p here from)
    ∙ ap (λ t. told rows old i k || (is_or (told rows old i p) i p && (t || told rows old q k))) (same_place rows k q there to)

-- an arrow from p to q alone
abbrev pub one : ℕ → ℕ → Arrow
one p q i k = nat_eq p i && nat_eq q k

module _ (rows : List OpenProcess) (p q : ℕ) (old new : List (List Bool)) (from : has_number p rows ≡ true) (to : has_number q rows ≡ true)
    (is : (i k : ℕ) → has_number i rows ≡ true → has_number k rows ≡ true → told rows new i k ≡ (told rows old i k || (is_or (told rows old i p) i p && is_or (told rows old q k) k q))) where
  -- i comes to p, and q comes to k
  abbrev Over : ℕ → ℕ → Type 0
  Over i k = (is_or (told rows old i p) i p ≡ true) × (is_or (told rows old q k) k q ≡ true)

  was_or_over : (i k : ℕ) → has_number i rows ≡ true → has_number k rows ≡ true → told rows new i k ≡ true → (told rows old i k ≡ true) ⊎ Over i k
  was_or_over i k here there tells = by (or_cases (told rows old i k) (is_or (told rows old i p) i p && is_or (told rows old q k) k q) (sym (is i k here there) ∙ tells))
    where
      by : (told rows old i k ≡ true) ⊎ ((is_or (told rows old i p) i p && is_or (told rows old q k) k q) ≡ true) → (told rows old i k ≡ true) ⊎ Over i k
      by (inl was) = inl was
      by (inr over) = inr (and_parts (is_or (told rows old i p) i p) (is_or (told rows old q k) k q) over)

  over_tells : (i k : ℕ) → has_number i rows ≡ true → has_number k rows ≡ true → Over i k → told rows new i k ≡ true
  over_tells i k here there over = is i k here there ∙ or_right (told rows old i k) (is_or (told rows old i p) i p && is_or (told rows old q k) k q) (and_from (is_or (told rows old i p) i p) (is_or (told rows old q k) k q) over.0 over.1)

  was_tells : (i k : ℕ) → has_number i rows ≡ true → has_number k rows ≡ true → told rows old i k ≡ true → told rows new i k ≡ true
  was_tells i k here there was = is i k here there ∙ or_left (told rows old i k) (is_or (told rows old i p) i p && is_or (told rows old q k) k q) was

  itself : (i k : ℕ) (b : Bool) → i ≡ k → is_or b i k ≡ true
  itself i k b same = or_left (nat_eq i k) b (eq-eqb i k same)

  -- whoever comes to i, which comes to p, comes to p
  before : (i j : ℕ) → has_number i rows ≡ true → has_number j rows ≡ true → IsTransitive rows (told rows old) → told rows old i j ≡ true → is_or (told rows old j p) j p ≡ true → is_or (told rows old i p) i p ≡ true
  before i j here there on was comes = or_right (nat_eq i p) (told rows old i p) (by (or_cases (nat_eq j p) (told rows old j p) comes))
    where
      by : (nat_eq j p ≡ true) ⊎ (told rows old j p ≡ true) → told rows old i p ≡ true
      by (inl same) = subst (λ n. told rows old i n ≡ true) (eqb-true j p same) was
      by (inr later) = on i j p here there from was later

  behind : (j k : ℕ) → has_number j rows ≡ true → has_number k rows ≡ true → IsTransitive rows (told rows old) → is_or (told rows old q j) j q ≡ true → told rows old j k ≡ true → is_or (told rows old q k) k q ≡ true
  behind j k here there on comes was = or_right (nat_eq k q) (told rows old q k) (by (or_cases (nat_eq j q) (told rows old q j) comes))
    where
      by : (nat_eq j q ≡ true) ⊎ (told rows old q j ≡ true) → told rows old q k ≡ true
      by (inl same) = subst (λ n. told rows old n k ≡ true) (eqb-true j q same) was
      by (inr earlier) = on q j k to here there earlier was

  joins_on : IsTransitive rows (told rows old) → IsTransitive rows (told rows new)
  joins_on on i j k here mid there first second = by (was_or_over i j here mid first) (was_or_over j k mid there second)
    where
      by : (told rows old i j ≡ true) ⊎ Over i j → (told rows old j k ≡ true) ⊎ Over j k → told rows new i k ≡ true
      by (inl a) (inl b) = was_tells i k here there (on i j k here mid there a b)
      by (inl a) (inr b) = over_tells i k here there (before i j here mid on a b.0, b.1)
      by (inr a) (inl b) = over_tells i k here there (a.0, behind j k mid there on a.1 b)
      by (inr a) (inr b) = over_tells i k here there (a.0, b.1)

  joins_least : (led : Arrow) → IsTransitive rows led → Implies rows (told rows old) led → Implies rows (one p q) led → Implies rows (told rows new) led
  joins_least led on within added i k here there tells = by (was_or_over i k here there tells)
    where
      over : led p q ≡ true
      over = added p q from to (and_from (nat_eq p p) (nat_eq q q) (eq-eqb p p refl) (eq-eqb q q refl))

      to_q : (nat_eq i p ≡ true) ⊎ (told rows old i p ≡ true) → led i q ≡ true
      to_q (inl same) = subst (λ n. led n q ≡ true) (sym (eqb-true i p same)) over
      to_q (inr was) = on i p q here from to (within i p here from was) over

      to_k : led i q ≡ true → (nat_eq k q ≡ true) ⊎ (told rows old q k ≡ true) → led i k ≡ true
      to_k led_q (inl same) = subst (λ n. led i n ≡ true) (sym (eqb-true k q same)) led_q
      to_k led_q (inr was) = on i q k here to there led_q (within q k to there was)

      by : (told rows old i k ≡ true) ⊎ Over i k → led i k ≡ true
      by (inl was) = within i k here there was
      by (inr both) = to_k (to_q (or_cases (nat_eq i p) (told rows old i p) both.0)) (or_cases (nat_eq k q) (told rows old q k) both.1)

  has_one : Implies rows (one p q) (told rows new)
  has_one i k here there arrow =
      let ends = and_parts (nat_eq p i) (nat_eq q k) arrow in
      over_tells i k here there (itself i p (told rows old i p) (sym (eqb-true p i ends.0)), itself k q (told rows old q k) (sym (eqb-true q k ends.1)))

  -- what the marks tell is extended by one arrow
  pub extended_one : length new ≡ length old → IsExtended rows (one p q) old new
  extended_one count = record { count = count; more = was_tells; has = has_one; transitive = joins_on; least = joins_least }

-- arrows that the marks tell already extend nothing
pub extended_none : (rows : List OpenProcess) (added : Arrow) (marks : List (List Bool)) → Implies rows added (told rows marks) → IsExtended rows added marks marks
extended_none rows added marks told_so = record { count = refl; more = λ i k here there tells. tells; has = told_so; transitive = λ on. on; least = λ led on within new. within }

-- and so do arrows that are the same
pub extended_same : (rows : List OpenProcess) (added other : Arrow) (old new : List (List Bool)) → ((i k : ℕ) → added i k ≡ other i k) → IsExtended rows added old new → IsExtended rows other old new
extended_same rows added other old new same e = record {
  count = e.count;
  more = e.more;
  has = λ i k here there arrow. e.has i k here there (same i k ∙ arrow);
  transitive = e.transitive;
  least = λ led on within new'. e.least led on within (λ i k here there arrow. new' i k here there (sym (same i k) ∙ arrow));
}

-- some arrows after others are all of them
pub extended_on : (rows : List OpenProcess) (first second all : Arrow) (old mid new : List (List Bool)) → ((i k : ℕ) → all i k ≡ (first i k || second i k))
    → IsExtended rows first old mid → IsExtended rows second mid new → IsExtended rows all old new
extended_on rows first second all old mid new same e f = record {
  count = f.count ∙ e.count;
  more = λ i k here there tells. f.more i k here there (e.more i k here there tells);
  has = λ i k here there arrow. by i k here there (or_cases (first i k) (second i k) (sym (same i k) ∙ arrow));
  transitive = λ on. f.transitive (e.transitive on);
  least = λ led on within added. f.least led on
      (e.least led on within (λ i k here there arrow. added i k here there (same i k ∙ or_left (first i k) (second i k) arrow)))
      (λ i k here there arrow. added i k here there (same i k ∙ or_right (first i k) (second i k) arrow));
}
  where
    by : (i k : ℕ) → has_number i rows ≡ true → has_number k rows ≡ true → (first i k ≡ true) ⊎ (second i k ≡ true) → told rows new i k ≡ true
    by i k here there (inl a) = f.more i k here there (e.has i k here there a)
    by i k here there (inr b) = f.has i k here there b

-- an arrow that the marks tell already extends nothing
pub told_one : (rows : List OpenProcess) (p q : ℕ) (marks : List (List Bool)) → told rows marks p q ≡ true → IsExtended rows (one p q) marks marks
told_one rows p q marks tells = extended_none rows (one p q) marks (λ i k here there arrow.
    let ends = and_parts (nat_eq p i) (nat_eq q k) arrow in
    subst (λ n. told rows marks n k ≡ true) (eqb-true p i ends.0) (subst (λ n. told rows marks p n ≡ true) (eqb-true q k ends.1) tells))
