-- Steps that apply to a list apply to it with other names, where what may change places still may and a step and its undo are still such.
use Rattle.std.proofs.Common.{◌≡◌, ℕ, zero, suc, ◌+◌, ◌-◌, Bool, true, false, cond, not, ◌&&◌, ◌||◌, nat_eq, nat_lt, nat_le, List, [], ◌∷◌, length, map, Option, Some, None, refl, ap, ◌∙◌, subst}
use Rattle.std.specs.List.{list_any}
use Rattle.std.specs.Option.{option_map}
use Rattle.std.proofs.lemmas.List.{length-map}
use Rattle.process_tree.specs.declared.entry.Entry.{Entry}
use Rattle.process_tree.specs.Order.{Each}
use Rattle.schedule_model.specs.declared.trace_step.TraceStep.{TraceStep}
use Rattle.schedule_model.specs.declared.trace_step.TraceStep.TheVariants.{Move, Cancel}
use Rattle.schedule_model.specs.Conflict.{ConflictRelation}
use Rattle.schedule_model.specs.Reduction.{can_change, is_pair, exchanged, cancelled, and_then, carried_on, carried_back, applied, applied_all, is_out_of_place, not_serial_from}

module _ (T S : ConflictRelation) (f : Entry → Entry) (P : Entry → Type 0)
    (change : (a b : Entry) → P a → P b → can_change T a b ≡ true → can_change S (f a) (f b) ≡ true)
    (pair : (a b : Entry) → is_pair a b ≡ true → is_pair (f a) (f b) ≡ true) where
  exchanged-renamed : (at : ℕ) (xs ys : List Entry) → Each P xs → exchanged T at xs ≡ Some ys → (exchanged S at (map f xs) ≡ Some (map f ys)) × Each P ys
  exchanged-renamed at [] ys are e = absurd (cc)
  exchanged-renamed zero (a ∷ xs) ys are e = absurd (cc)
  exchanged-renamed (suc zero) (a ∷ []) ys are e = absurd (cc)
  exchanged-renamed (suc zero) (a ∷ b ∷ xs) ys are e = by (can_change T a b) refl e
    where
      by : (t : Bool) → can_change T a b ≡ t → cond t (Some (b ∷ a ∷ xs)) None ≡ Some ys
          → (cond (can_change S (f a) (f b)) (Some (f b ∷ f a ∷ map f xs)) None ≡ Some (map f ys)) × Each P ys
      by true is g =
          let same : b ∷ a ∷ xs ≡ ys = cc in
          (ap (λ t. cond t (Some (f b ∷ f a ∷ map f xs)) None) (change a b are.0 are.1.0 is) ∙ ap (λ (zs : List Entry). Some (map f zs)) same, subst (Each P) same (are.1.0, (are.0, are.1.1)))
      by false is g = absurd (cc)
  exchanged-renamed (suc (suc at)) (a ∷ xs) ys are e = by (exchanged T (suc at) xs) (λ zs g. exchanged-renamed (suc at) xs zs are.1 g) e
    where
      by : (o : Option (List Entry)) → ((zs : List Entry) → o ≡ Some zs → (exchanged S (suc at) (map f xs) ≡ Some (map f zs)) × Each P zs)
          → option_map (λ zs. a ∷ zs) o ≡ Some ys → (option_map (λ zs. f a ∷ zs) (exchanged S (suc at) (map f xs)) ≡ Some (map f ys)) × Each P ys
      by None rest g = absurd (cc)
      by (Some zs) rest g =
          let same : a ∷ zs ≡ ys = cc in
          let one = rest zs refl in
          (ap (option_map (λ ws. f a ∷ ws)) one.0 ∙ ap (λ (ws : List Entry). Some (map f ws)) same, subst (Each P) same (are.0, one.1))

  cancelled-renamed : (at : ℕ) (xs ys : List Entry) → Each P xs → cancelled at xs ≡ Some ys → (cancelled at (map f xs) ≡ Some (map f ys)) × Each P ys
  cancelled-renamed at [] ys are e = absurd (cc)
  cancelled-renamed zero (a ∷ xs) ys are e = absurd (cc)
  cancelled-renamed (suc zero) (a ∷ []) ys are e = absurd (cc)
  cancelled-renamed (suc zero) (a ∷ b ∷ xs) ys are e = by (is_pair a b) refl e
    where
      by : (t : Bool) → is_pair a b ≡ t → cond t (Some xs) None ≡ Some ys → (cond (is_pair (f a) (f b)) (Some (map f xs)) None ≡ Some (map f ys)) × Each P ys
      by true is g =
          let same : xs ≡ ys = cc in
          (ap (λ t. cond t (Some (map f xs)) None) (pair a b is) ∙ ap (λ (zs : List Entry). Some (map f zs)) same, subst (Each P) same are.1.1)
      by false is g = absurd (cc)
  cancelled-renamed (suc (suc at)) (a ∷ xs) ys are e = by (cancelled (suc at) xs) (λ zs g. cancelled-renamed (suc at) xs zs are.1 g) e
    where
      by : (o : Option (List Entry)) → ((zs : List Entry) → o ≡ Some zs → (cancelled (suc at) (map f xs) ≡ Some (map f zs)) × Each P zs)
          → option_map (λ zs. a ∷ zs) o ≡ Some ys → (option_map (λ zs. f a ∷ zs) (cancelled (suc at) (map f xs)) ≡ Some (map f ys)) × Each P ys
      by None rest g = absurd (cc)
      by (Some zs) rest g =
          let same : a ∷ zs ≡ ys = cc in
          let one = rest zs refl in
          (ap (option_map (λ ws. f a ∷ ws)) one.0 ∙ ap (λ (ws : List Entry). Some (map f ws)) same, subst (Each P) same (are.0, one.1))

  -- one step, and then others
  then-renamed : (xs ys : List Entry) (o p : Option (List Entry)) (g h : List Entry → Option (List Entry))
      → ((zs : List Entry) → o ≡ Some zs → (p ≡ Some (map f zs)) × Each P zs)
      → ((zs : List Entry) → Each P zs → g zs ≡ Some ys → (h (map f zs) ≡ Some (map f ys)) × Each P ys)
      → and_then o g ≡ Some ys → (and_then p h ≡ Some (map f ys)) × Each P ys
  then-renamed xs ys None p g h first rest e = absurd (cc)
  then-renamed xs ys (Some zs) p g h first rest e =
      let one = first zs refl in
      let later = rest zs one.1 e in
      (ap (λ o. and_then o h) one.0 ∙ later.0, later.1)

  none-left : (xs ys : List Entry) → Each P xs → Some xs ≡ Some ys → (Some (map f xs) ≡ Some (map f ys)) × Each P ys
  none-left xs ys are e = let same : xs ≡ ys = cc in (ap (λ (zs : List Entry). Some (map f zs)) same, subst (Each P) same are)

  on-renamed : (n from : ℕ) (xs ys : List Entry) → Each P xs → carried_on T n from xs ≡ Some ys → (carried_on S n from (map f xs) ≡ Some (map f ys)) × Each P ys
  on-renamed zero from xs ys are e = none-left xs ys are e
  on-renamed (suc n) from xs ys are e =
      then-renamed xs ys (exchanged T from xs) (exchanged S from (map f xs)) (carried_on T n (from + 1)) (carried_on S n (from + 1))
      (λ zs g. exchanged-renamed from xs zs are g) (λ zs also g. on-renamed n (from + 1) zs ys also g) e

  back-renamed : (n from : ℕ) (xs ys : List Entry) → Each P xs → carried_back T n from xs ≡ Some ys → (carried_back S n from (map f xs) ≡ Some (map f ys)) × Each P ys
  back-renamed zero from xs ys are e = none-left xs ys are e
  back-renamed (suc n) from xs ys are e =
      then-renamed xs ys (exchanged T (from - 1) xs) (exchanged S (from - 1) (map f xs)) (carried_back T n (from - 1)) (carried_back S n (from - 1))
      (λ zs g. exchanged-renamed (from - 1) xs zs are g) (λ zs also g. back-renamed n (from - 1) zs ys also g) e

  one-renamed : (s : TraceStep) (xs ys : List Entry) → Each P xs → applied T s xs ≡ Some ys → (applied S s (map f xs) ≡ Some (map f ys)) × Each P ys
  one-renamed (Cancel at) xs ys are e = cancelled-renamed at xs ys are e
  one-renamed (Move from to) xs ys are e = by (nat_lt from to) e
    where
      back : (t : Bool) → cond t (carried_back T (from - to) from xs) None ≡ Some ys → (cond t (carried_back S (from - to) from (map f xs)) None ≡ Some (map f ys)) × Each P ys
      back true g = back-renamed (from - to) from xs ys are g
      back false g = absurd (cc)

      by : (t : Bool) → cond t (carried_on T (to - from) from xs) (cond (nat_lt to from && nat_le from (length xs)) (carried_back T (from - to) from xs) None) ≡ Some ys
          → (cond t (carried_on S (to - from) from (map f xs)) (cond (nat_lt to from && nat_le from (length (map f xs))) (carried_back S (from - to) from (map f xs)) None) ≡ Some (map f ys)) × Each P ys
      by true g = on-renamed (to - from) from xs ys are g
      by false g =
          let one = back (nat_lt to from && nat_le from (length xs)) g in
          (ap (λ n. cond (nat_lt to from && nat_le from n) (carried_back S (from - to) from (map f xs)) None) (length-map xs f) ∙ one.0, one.1)

  pub all-renamed : (ss : List TraceStep) (xs ys : List Entry) → Each P xs → applied_all T ss xs ≡ Some ys → (applied_all S ss (map f xs) ≡ Some (map f ys)) × Each P ys
  all-renamed [] xs ys are e = none-left xs ys are e
  all-renamed (s ∷ ss) xs ys are e =
      then-renamed xs ys (applied T s xs) (applied S s (map f xs)) (applied_all T ss) (applied_all S ss) (λ zs g. one-renamed s xs zs are g) (λ zs also g. all-renamed ss zs ys also g) e

-- What is serial stays so.
module _ (f : Entry → Entry) (process : (e : Entry) → (f e).process ≡ e.process) (undo : (e : Entry) → (f e).undo ≡ e.undo) where
  any-renamed : (i : ℕ) (xs : List Entry) → list_any (λ y. nat_eq y.process i) (map f xs) ≡ list_any (λ y. nat_eq y.process i) xs
  any-renamed i [] = refl
  any-renamed i (x ∷ xs) =
      ap (λ n. nat_eq n i || list_any (λ y. nat_eq y.process i) (map f xs)) (process x) ∙ ap (λ b. nat_eq x.process i || b) (any-renamed i xs)

  place-renamed : (before : List Entry) (e : Entry) → is_out_of_place (map f before) (f e) ≡ is_out_of_place before e
  place-renamed [] e = undo e
  place-renamed (x ∷ xs) e =
      ap (λ u. u || (not (nat_eq (f x).process (f e).process) && list_any (λ y. nat_eq y.process (f e).process) (map f xs))) (undo e)
      ∙ (ap (λ n. e.undo || (not (nat_eq (f x).process n) && list_any (λ y. nat_eq y.process n) (map f xs))) (process e)
      ∙ (ap (λ n. e.undo || (not (nat_eq n e.process) && list_any (λ y. nat_eq y.process e.process) (map f xs))) (process x)
      ∙ ap (λ b. e.undo || (not (nat_eq x.process e.process) && b)) (any-renamed e.process xs)))

  pub serial-renamed : (n : ℕ) (before es : List Entry) → not_serial_from n (map f before) (map f es) ≡ not_serial_from n before es
  serial-renamed n before [] = refl
  serial-renamed n before (e ∷ es) =
      ap (λ t. cond t (Some n) (not_serial_from (n + 1) (map f (e ∷ before)) (map f es))) (place-renamed before e)
      ∙ ap (λ o. cond (is_out_of_place before e) (Some n) o) (serial-renamed (n + 1) (e ∷ before) es)
