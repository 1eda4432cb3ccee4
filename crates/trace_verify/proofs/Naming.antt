-- Names and their numbers.
use Rattle.std.proofs.Common.{◌≡◌, ℕ, zero, suc, ◌+◌, ◌<◌, ◌≤◌, get_or, Bool, true, false, cond, ◌||◌, List, [], ◌∷◌, ◌++◌, length, map, Option, Some, None, IfSome, sym, refl, ap, ◌∙◌, subst, arith, add-one}
use Rattle.std.specs.Ordering.{nat_cmp}
use Rattle.std.proofs.lemmas.List.{map-append, length-map}
use Rattle.std.specs.Cmp.Lexicographic.{slice_cmp, same_text as texts_are_same}
use Rattle.std.specs.BTreeMap.{BTreeMap, UpdatesBy}
use Rattle.std.proofs.lemmas.Map.Text.{btree_map_updates_str}
use denote.Ref.{Bor}
use Rattle.process_tree.specs.Making.{same_text}
use Rattle.process_text.proofs.NumberWords.{are_same-refl}
use Rattle.trace_verify.specs.Names.{is_among, number_among, found, is_named}
use Rattle.trace_verify.specs.Numbered.{AreNumbered}

pub same : (w v : List ℕ) → same_text w v ≡ true → w ≡ v
same w v e = texts_are_same w v (sym e)

-- a name is among names and one more where it is among them or is that one
pub among-snoc : (names : List (List ℕ)) (v w : List ℕ) → is_among (names ++ v ∷ []) w ≡ (is_among names w || same_text w v)
among-snoc [] v w = by (same_text w v)
  where
    by : (b : Bool) → (b || false) ≡ (false || b)
    by true = refl
    by false = refl
among-snoc (n ∷ names) v w = ap (λ b. same_text w n || b) (among-snoc names v w) ∙ by (same_text w n)
  where
    by : (b : Bool) → (b || (is_among names w || same_text w v)) ≡ ((b || is_among names w) || same_text w v)
    by true = refl
    by false = refl

-- the number of a name that is there stays when names come behind
pub number-in_front : (names more : List (List ℕ)) (w : List ℕ) → is_among names w ≡ true → number_among (names ++ more) w ≡ number_among names w
number-in_front [] more w is = absurd (cc)
number-in_front (n ∷ names) more w is = by (same_text w n) (number-in_front names more w) is
  where
    by : (b : Bool) → (is_among names w ≡ true → number_among (names ++ more) w ≡ number_among names w) → (b || is_among names w) ≡ true
        → cond b 0 (number_among (names ++ more) w + 1) ≡ cond b 0 (number_among names w + 1)
    by true rest is = refl
    by false rest is = ap (λ k. k + 1) (rest is)

-- a new name has the next number
pub number-new : (names : List (List ℕ)) (w : List ℕ) → is_among names w ≡ false → number_among (names ++ w ∷ []) w ≡ length names
number-new [] w new = ap (λ b. cond b 0 (0 + 1)) (are_same-refl w)
number-new (n ∷ names) w new = by (same_text w n) (number-new names w) new
  where
    by : (b : Bool) → (is_among names w ≡ false → number_among (names ++ w ∷ []) w ≡ length names) → (b || is_among names w) ≡ false
        → cond b 0 (number_among (names ++ w ∷ []) w + 1) ≡ suc (length names)
    by true rest is = absurd (cc)
    by false rest is = ap (λ k. k + 1) (rest is) ∙ add-one (length names)

-- a test of two texts is the same both ways
pub same-sym : (w v : List ℕ) → same_text w v ≡ same_text v w
same-sym w v = by (same_text w v) refl (same_text v w) refl
  where
    turned : (x y : List ℕ) → same_text x y ≡ true → same_text y x ≡ true
    turned x y e = subst (λ (z : List ℕ). same_text z x ≡ true) (same x y e) (are_same-refl x)

    by : (b : Bool) → same_text w v ≡ b → (c : Bool) → same_text v w ≡ c → b ≡ c
    by true is true also = refl
    by true is false also = sym (turned w v is) ∙ also
    by false is true also = sym is ∙ turned v w also
    by false is false also = refl

-- what is found among names and a new one
pub found-added : (names : List (List ℕ)) (v : List ℕ) → is_among names v ≡ false → (w : List ℕ)
    → found (names ++ v ∷ []) w ≡ cond (same_text v w) (Some (length names)) (found names w)
found-added names v new w = by (same_text v w) refl (is_among names w) refl
  where
    here : v ≡ w → found (names ++ v ∷ []) w ≡ Some (length names)
    here e =
        let P : List ℕ → Type 0 = λ x. found (names ++ v ∷ []) x ≡ Some (length names) in
        let there : is_among (names ++ v ∷ []) v ≡ true = among-snoc names v v ∙ (ap (λ b. b || same_text v v) new ∙ are_same-refl v) in
        subst P e (ap (λ b. cond b (Some (number_among (names ++ v ∷ []) v)) None) there ∙ ap Some (number-new names v new))

    by : (b : Bool) → same_text v w ≡ b → (c : Bool) → is_among names w ≡ c → found (names ++ v ∷ []) w ≡ cond b (Some (length names)) (found names w)
    by true is c among = here (same v w is)
    by false is true among =
        ap (λ b. cond b (Some (number_among (names ++ v ∷ []) w)) None) (among-snoc names v w ∙ ap (λ b. b || same_text w v) among)
        ∙ (ap Some (number-in_front names (v ∷ []) w among) ∙ sym (ap (λ b. cond b (Some (number_among names w)) None) among))
    by false is false among =
        ap (λ b. cond b (Some (number_among (names ++ v ∷ []) w)) None) (among-snoc names v w ∙ (ap (λ b. b || same_text w v) among ∙ (same-sym w v ∙ is)))
        ∙ sym (ap (λ b. cond b (Some (number_among names w)) None) among)

-- nothing is found: the name is new
pub not-among : (names : List (List ℕ)) (w : List ℕ) → found names w ≡ None → is_among names w ≡ false
not-among names w none = by (is_among names w) none
  where
    by : (b : Bool) → cond b (Some (number_among names w)) None ≡ None → b ≡ false
    by true e = absurd (cc)
    by false e = refl

-- its number is found: the name is there
pub is-among : (names : List (List ℕ)) (w : List ℕ) (n : ℕ) → found names w ≡ Some n → (is_among names w ≡ true) × (n ≡ number_among names w)
is-among names w n some = by (is_among names w) refl some
  where
    by : (b : Bool) → is_among names w ≡ b → cond b (Some (number_among names w)) None ≡ Some n → (is_among names w ≡ true) × (n ≡ number_among names w)
    by true is e = (is, cc)
    by false is e = absurd (cc)

-- a map with a new name's number more is that of the names with it
pub numbered-added : (m n : BTreeMap (Bor (List ℕ)) ℕ) (names : List (List ℕ)) (v : List ℕ) → AreNumbered m names → is_among names v ≡ false
    → UpdatesBy (λ x y. slice_cmp nat_cmp x.now y.now) (λ k. slice_cmp nat_cmp v k.now) m n (Some (length names)) → AreNumbered n (names ++ v ∷ [])
numbered-added m n names v are new updates w =
    btree_map_updates_str v m n (Some (length names)) updates w
    ∙ (ap (λ o. cond (same_text v w) (Some (length names)) o) (are w) ∙ sym (found-added names v new w))

-- the name of a number
pub named-at : (names : List (Bor (List ℕ))) (k : ℕ) (d : Bor (List ℕ)) (w : List ℕ) → k < length names
    → is_named (map (λ n. n.now) names) k w ≡ same_text w (get_or names k d).now
named-at [] k d w less = absurd (omega arith)
named-at (n ∷ names) zero d w less = refl
named-at (n ∷ names) (suc k) d w less = named-at names k d w (omega arith)

-- there is none behind the last
pub named-past : (names : List (Bor (List ℕ))) (k : ℕ) (w : List ℕ) → length names ≤ k → is_named (map (λ n. n.now) names) k w ≡ false
named-past [] k w le = refl
named-past (n ∷ names) zero w le = absurd (omega arith)
named-past (n ∷ names) (suc k) w le = named-past names k w (omega arith)

-- the names of a list with one more at its end
pub names-pushed : (items new : List (Bor (List ℕ))) (name : Bor (List ℕ)) → new ≡ items ++ name ∷ [] → map (λ n. n.now) new ≡ map (λ n. n.now) items ++ name.now ∷ []
names-pushed items new name e = ap (map (λ n. n.now)) e ∙ map-append (λ n. n.now) items (name ∷ [])

-- and the map that is made with it
pub numbered-pushed : (m n : BTreeMap (Bor (List ℕ)) ℕ) (items new : List (Bor (List ℕ))) (name : Bor (List ℕ)) (k : ℕ) → AreNumbered m (map (λ n. n.now) items)
    → found (map (λ n. n.now) items) name.now ≡ None → new ≡ items ++ name ∷ [] → k ≡ length items
    → UpdatesBy (λ x y. slice_cmp nat_cmp x.now y.now) (λ k. slice_cmp nat_cmp name.now k.now) m n (Some k) → AreNumbered n (map (λ n. n.now) new)
numbered-pushed m n items new name k are none pushed is updates w =
    let names : List (List ℕ) = map (λ n. n.now) items in
    let Updates : ℕ → Type 0 = λ k. UpdatesBy (λ x y. slice_cmp nat_cmp x.now y.now) (λ k. slice_cmp nat_cmp name.now k.now) m n (Some k) in
    numbered-added m n names name.now are (not-among names name.now none) (subst Updates (is ∙ sym (length-map items (λ n. n.now))) updates) w
    ∙ ap (λ ns. found ns w) (sym (names-pushed items new name pushed))

-- the number of the new one
pub number-pushed : (items new : List (Bor (List ℕ))) (name : Bor (List ℕ)) (k : ℕ) → found (map (λ n. n.now) items) name.now ≡ None → new ≡ items ++ name ∷ []
    → k ≡ length items → k ≡ number_among (map (λ n. n.now) new) name.now
number-pushed items new name k none pushed is =
    let names : List (List ℕ) = map (λ n. n.now) items in
    (is ∙ sym (length-map items (λ n. n.now)))
    ∙ (sym (number-new names name.now (not-among names name.now none)) ∙ ap (λ ns. number_among ns name.now) (sym (names-pushed items new name pushed)))

-- its number is below how many they are
pub number-below : (names : List (List ℕ)) (w : List ℕ) → is_among names w ≡ true → number_among names w < length names
number-below [] w is = absurd (cc)
number-below (n ∷ names) w is = by (same_text w n) (number-below names w) is
  where
    by : (b : Bool) → (is_among names w ≡ true → number_among names w < length names) → (b || is_among names w) ≡ true
        → cond b 0 (number_among names w + 1) < suc (length names)
    by true rest is = omega arith
    by false rest is = let less = rest is in omega (arith, less)

-- so is a number that is found
pub found-below : (names : List (List ℕ)) (w : List ℕ) (n : ℕ) → found names w ≡ Some n → n < length names
found-below names w n some =
    let among = is-among names w n some in
    let less = number-below names w among.0 in
    omega (arith, less, among.1)

pub some-below : (names : List (List ℕ)) (w : List ℕ) (o : Option ℕ) → o ≡ found names w → IfSome o (λ n. n < length names)
some-below names w None e = tt
some-below names w (Some n) e = found-below names w n (sym e)
