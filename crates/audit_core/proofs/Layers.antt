-- Layers: who comes back to the first through how many others.
use Rattle.std.proofs.Common.{◌≡◌, ◌⊎◌, inl, inr, ℕ, ◌<◌, ◌≤◌, ◌+◌, Bool, true, false, List, [], ◌∷◌, ◌++◌, length, sym, refl, ap, ◌∙◌, subst, arith, append_assoc, append-nil, length-append, take, get_or, add-one}
use Rattle.std.proofs.Math.Seq.{take-suc}
use Rattle.std.proofs.lemmas.List.{take_all}
use Rattle.std.specs.Prelude.{slice_index_or}
use Rattle.std.proofs.lemmas.Bool.{false≢true, cases_lt, cases_order}
use Rattle.std.proofs.lemmas.List.{get_or_past}
use Rattle.bit_rows.specs.Cells.{cell}
use Rattle.schedule_model.specs.Graph.{Arrow}
use Rattle.dependence_model.specs.Audited.{ComesBack, StandsBefore}
use Rattle.audit_core.specs.Arrows.{has, HasArrows, IsStepBack, IsLayer, AreLayers, AreShortest, IsLeastBack, IsOnWay, IsNext, columns}

-- behind the last row there is nothing
pub within_rows : (rows : List (List Bool)) (j k : ℕ) → length rows ≡ columns → cell rows j k ≡ true → j < columns
within_rows rows j k count is = by (cases_lt j columns)
  where
    by : (j < columns) ⊎ (columns ≤ j) → j < columns
    by (inl less) = less
    by (inr past) = absurd (false≢true (sym (ap (λ row. slice_index_or row k false) (get_or_past rows j [] (omega (arith, past, count)))) ∙ is))

-- so many sets and one more
pub one_more_set : (sets : List (List Bool)) (set : List Bool) (n m : ℕ) → m ≡ n + 1 → n < length sets → set ≡ get_or sets n set → take m sets ≡ take n sets ++ set ∷ []
one_more_set sets set n m next within is =
    ap (λ k. take k sets) (next ∙ add-one n) ∙ (take-suc sets n set within ∙ ap (λ s. take n sets ++ s ∷ []) (sym is))

-- the last of the sets
pub last_set : (sets : List (List Bool)) (n : ℕ) → length sets ≡ n + 1 → sets ≡ take n sets ++ get_or sets n [] ∷ []
last_set sets n long = sym (take_all (length sets) sets (omega arith)) ∙ (ap (λ k. take k sets) (long ∙ add-one n) ∙ take-suc sets n [] (omega (arith, long)))

module _ (arrow : Arrow) (rows : List (List Bool)) (arrows : HasArrows arrow rows) (first : ℕ) where
  pub first_layer : (set : List Bool) → ((k : ℕ) → has set k ≡ cell rows first k) → IsLayer arrow first 0 set
  first_layer set is = record {
    sound = λ k in'. ([], refl, sym (arrows.at k first) ∙ (sym (is k) ∙ in'));
    complete = complete;
  }
    where
      complete : (k : ℕ) (ks : List ℕ) → length ks ≡ 0 → ComesBack arrow first k ks → has set k ≡ true
      complete k [] none back = is k ∙ (arrows.at k first ∙ back)
      complete k (j ∷ ks) none back = absurd (omega (arith, none))

  pub next_layer : (n : ℕ) (set before : List Bool) → IsLayer arrow first n set → IsStepBack rows set before → IsLayer arrow first (n + 1) before
  next_layer n set before layer back = record { sound = sound; complete = complete }
    where
      sound : (k : ℕ) → has before k ≡ true → (ks : List ℕ) × (length ks ≡ n + 1) × ComesBack arrow first k ks
      sound k in' =
          let from = back.sound k in' in
          let way = layer.sound from.0 from.1 in
          (from.0 ∷ way.0, omega (arith, way.1), (sym (arrows.at k from.0) ∙ from.2, way.2))

      complete : (k : ℕ) (ks : List ℕ) → length ks ≡ n + 1 → ComesBack arrow first k ks → has before k ≡ true
      complete k [] long way = absurd (omega (arith, long))
      complete k (j ∷ ks) long way =
          let set' = arrows.at k j ∙ way.0 in
          back.complete j k (within_rows rows j k arrows.count set') (layer.complete j ks (omega (arith, long)) way.1) set'

  -- one layer more
  pub layers-more : (m : ℕ) (sets : List (List Bool)) (set : List Bool) → AreLayers arrow first m sets → IsLayer arrow first (m + length sets) set → AreLayers arrow first m (sets ++ set ∷ [])
  layers-more m [] set before new = (subst (λ n. IsLayer arrow first n set) (omega arith) new, tt)
  layers-more m (s ∷ sets) set before new = (before.0, layers-more (m + 1) sets set before.1 (subst (λ n. IsLayer arrow first n set) (omega arith) new))

  -- the last of layers
  pub layers-last : (m : ℕ) (sets : List (List Bool)) (set : List Bool) → AreLayers arrow first m (sets ++ set ∷ []) → AreLayers arrow first m sets × IsLayer arrow first (m + length sets) set
  layers-last m [] set all = (tt, subst (λ n. IsLayer arrow first n set) (omega arith) all.0)
  layers-last m (s ∷ sets) set all =
      let more = layers-last (m + 1) sets set all.1 in
      ((all.0, more.0), subst (λ n. IsLayer arrow first n set) (omega arith) more.1)

  -- a longer way back has a rest of each length
  pub shorter : (k n : ℕ) (ks : List ℕ) → ComesBack arrow first k ks → n ≤ length ks → (j : ℕ) × (js : List ℕ) × (length js ≡ n) × ComesBack arrow first j js
  shorter k n [] back least = (k, [], omega (arith, least), back)
  shorter k n (j ∷ ks) back least = by (cases_order n (length (j ∷ ks))) (λ less. shorter j n ks back.1 less)
    where
      by : (n ≡ length (j ∷ ks)) ⊎ ((n < length (j ∷ ks)) ⊎ (length (j ∷ ks) < n)) → (n ≤ length ks → (i : ℕ) × (js : List ℕ) × (length js ≡ n) × ComesBack arrow first i js)
          → (i : ℕ) × (js : List ℕ) × (length js ≡ n) × ComesBack arrow first i js
      by (inl same) rest = (k, j ∷ ks, sym same, back)
      by (inr (inl less)) rest = rest (omega (arith, less))
      by (inr (inr more)) rest = absurd (omega (arith, more, least))

  -- where a layer has nobody, no way back is as long
  pub none_longer : (n : ℕ) (set : List Bool) → IsLayer arrow first n set → ((k : ℕ) → has set k ≡ false) → (ks : List ℕ) → ComesBack arrow first first ks → length ks < n
  none_longer n set layer empty ks back = by (cases_lt (length ks) n)
    where
      by : (length ks < n) ⊎ (n ≤ length ks) → length ks < n
      by (inl less) = less
      by (inr long) =
          let rest = shorter first n ks back long in
          absurd (false≢true (sym (empty rest.0) ∙ layer.complete rest.0 rest.1 rest.2 rest.3))

  -- where the first isn't in a layer, it doesn't come back so
  pub none_more : (n : ℕ) (set : List Bool) → IsLayer arrow first n set → has set first ≡ false → ((ks : List ℕ) → length ks < n → ComesBack arrow first first ks → ⊥)
      → (ks : List ℕ) → length ks < n + 1 → ComesBack arrow first first ks → ⊥
  none_more n set layer out before ks less back = by (cases_lt (length ks) n)
    where
      by : (length ks < n) ⊎ (n ≤ length ks) → ⊥
      by (inl short) = before ks short back
      by (inr long) = false≢true (sym out ∙ layer.complete first ks (omega (arith, less, long)) back)

  -- where it is, they go as far as it comes back
  pub is_shortest : (sets : List (List Bool)) (set : List Bool) → AreLayers arrow first 0 sets → IsLayer arrow first (length sets) set → has set first ≡ true
      → ((ks : List ℕ) → length ks < length sets → ComesBack arrow first first ks → ⊥) → AreShortest arrow first (sets ++ set ∷ [])
  is_shortest sets set before layer in' none =
      let way = layer.sound first in' in
      let long = length-append sets (set ∷ []) in
      record {
        layers = layers-more 0 sets set before (subst (λ n. IsLayer arrow first n set) (omega arith) layer);
        others = way.0;
        count = omega (arith, way.1, long);
        comes_back = way.2;
        fewest = fewest;
      }
    where
      fewest : (ks : List ℕ) → ComesBack arrow first first ks → length (sets ++ set ∷ []) ≤ length ks + 1
      fewest ks back = by (cases_lt (length ks) (length sets))
        where
          by : (length ks < length sets) ⊎ (length sets ≤ length ks) → length (sets ++ set ∷ []) ≤ length ks + 1
          by (inl less) = absurd (none ks less back)
          by (inr most) = let long = length-append sets (set ∷ []) in omega (arith, most, long)

  -- The way that is chosen.

  -- through the least next one, and the least way from there
  pub least-more : (i k m : ℕ) (set : List Bool) (tail : List ℕ) → IsLayer arrow first m set → IsNext rows set i k → ((j : ℕ) → j < k → IsNext rows set i j → ⊥)
      → IsLeastBack arrow first k m tail → IsLeastBack arrow first i (m + 1) (k ∷ tail)
  least-more i k m set tail layer next none back = record {
    count = omega (arith, back.count);
    comes_back = (sym (arrows.at i k) ∙ next.arrow, back.comes_back);
    least = least;
  }
    where
      least : (ks : List ℕ) → ComesBack arrow first i ks → length ks ≡ m + 1 → StandsBefore ks (k ∷ tail) → ⊥
      least [] way long before = before
      least (j ∷ ks) way long (inl less) =
          none j less (record { in' = layer.complete j ks (omega (arith, long)) way.1; arrow = arrows.at i j ∙ way.0 })
      least (j ∷ ks) way long (inr same) =
          back.least ks (subst (λ (n : ℕ). ComesBack arrow first n ks) same.0 way.1) (omega (arith, long)) same.1

  -- there is a next one
  pub has_next : (i m : ℕ) (set : List Bool) (rest : List ℕ) → IsLayer arrow first m set → length rest ≡ m + 1 → ComesBack arrow first i rest
      → (k : ℕ) × (k < columns) × IsNext rows set i k
  has_next i m set [] layer long way = absurd (omega (arith, long))
  has_next i m set (k ∷ ks) layer long way =
      let set' = arrows.at i k ∙ way.0 in
      (k, within_rows rows k i arrows.count set', record { in' = layer.complete k ks (omega (arith, long)) way.1; arrow = set' })

  -- on the way, before the first choice
  pub on_way-begins : (sets shorter' : List (List Bool)) (set : List Bool) → first < columns → AreShortest arrow first sets → sets ≡ shorter' ++ set ∷ []
      → IsOnWay arrow first (length sets) shorter' first (first ∷ [])
  on_way-begins sets shorter' set within shortest is =
      let parts = layers-last 0 shorter' set (subst (AreLayers arrow first 0) is shortest.layers) in
      let long = ap length is ∙ length-append shorter' (set ∷ []) in
      record {
        within = within;
        layers = parts.0;
        rest = shortest.others;
        rest_count = omega (arith, shortest.count, long);
        rest_back = shortest.comes_back;
        chosen = [];
        is = refl;
        all = omega (arith, long);
        least = λ tail back. subst (λ n. IsLeastBack arrow first first n tail) (omega arith) back;
      }

  -- there is a further one
  pub on_way-next : (count last : ℕ) (sets shorter' : List (List Bool)) (set : List Bool) (cycle : List ℕ) → IsOnWay arrow first count sets last cycle
      → sets ≡ shorter' ++ set ∷ [] → (k : ℕ) × (k < columns) × IsNext rows set last k
  on_way-next count last sets shorter' set cycle way is =
      let parts = layers-last 0 shorter' set (subst (AreLayers arrow first 0) is way.layers) in
      let long : length sets ≡ length shorter' + 1 = ap length is ∙ length-append shorter' (set ∷ []) in
      has_next last (length shorter') set way.rest (subst (λ n. IsLayer arrow first n set) (omega arith) parts.1) (way.rest_count ∙ long) way.rest_back

  -- and behind one more
  pub on_way-more : (count last next : ℕ) (sets shorter' : List (List Bool)) (set : List Bool) (cycle : List ℕ) → IsOnWay arrow first count sets last cycle
      → sets ≡ shorter' ++ set ∷ [] → next < columns → IsNext rows set last next → ((k : ℕ) → k < next → IsNext rows set last k → ⊥)
      → IsOnWay arrow first count shorter' next (cycle ++ next ∷ [])
  on_way-more count last next sets shorter' set cycle way is within here none =
      let parts = layers-last 0 shorter' set (subst (AreLayers arrow first 0) is way.layers) in
      let long = ap length is ∙ length-append shorter' (set ∷ []) in
      let layer : IsLayer arrow first (length shorter') set = subst (λ n. IsLayer arrow first n set) (omega arith) parts.1 in
      let rest = layer.sound next here.in' in
      let chosen = length-append way.chosen (next ∷ []) in
      record {
        within = within;
        layers = parts.0;
        rest = rest.0;
        rest_count = rest.1;
        rest_back = rest.2;
        chosen = way.chosen ++ next ∷ [];
        is = ap (λ c. c ++ next ∷ []) way.is;
        all = omega (arith, way.all, long, chosen);
        least = λ tail back.
            subst (IsLeastBack arrow first first (length (way.chosen ++ next ∷ []) + length shorter')) (sym (append_assoc way.chosen (next ∷ []) tail))
            (subst (λ n. IsLeastBack arrow first first n (way.chosen ++ next ∷ tail)) (omega (arith, long, chosen))
            (way.least (next ∷ tail) (subst (λ n. IsLeastBack arrow first last n (next ∷ tail)) (omega (arith, long)) (least-more last next (length shorter') set tail layer here none back))));
      }

  -- at its end
  pub on_way-ends : (count last : ℕ) (sets : List (List Bool)) (cycle : List ℕ) → length sets ≡ 0 → IsOnWay arrow first count sets last cycle
      → (others : List ℕ) × (cycle ≡ first ∷ others) × (length others + 1 ≡ count) × IsLeastBack arrow first first (length others) others
  on_way-ends count last (s ∷ sets) cycle none way = absurd (omega (arith, none))
  on_way-ends count last [] cycle none way = (
    way.chosen,
    way.is,
    omega (arith, way.all),
    subst (IsLeastBack arrow first first (length way.chosen)) (append-nil way.chosen)
        (subst (λ n. IsLeastBack arrow first first n (way.chosen ++ [])) (omega arith) (way.least [] (last_back way.rest way.rest_count way.rest_back))),
  )
    where
      last_back : (rest : List ℕ) → length rest ≡ 0 → ComesBack arrow first last rest → IsLeastBack arrow first last 0 []
      last_back [] none back = record { count = refl; comes_back = back; least = least }
        where
          least : (ks : List ℕ) → ComesBack arrow first last ks → length ks ≡ 0 → StandsBefore ks [] → ⊥
          least [] way long before = before
          least (k ∷ ks) way long before = before
      last_back (k ∷ ks) none back = absurd (omega (arith, none))
