-- Whole paths: none begins another, and what nothing goes on from is one.
use Rattle.std.proofs.Math.Bool.{or-true}
use Rattle.std.proofs.lemmas.Bool.{eq-eqb, ne_eqb, cases_Bool}
use Rattle.std.proofs.Common.{◌≡◌, ◌⊎◌, inl, inr, ⊎_elim, subst, ℕ, ◌<◌, Bool, true, false, ◌||◌, List, [], ◌∷◌, ◌++◌, Option, Some, None, refl, sym, ap, ◌∙◌, arith, nat_eq, if◌then◌else◌}
use Rattle.std.proofs.lemmas.Slice.Eq.{bytes_eq-Decides}
use Rattle.std.specs.List.{list_any, filter_map, cons_option}
use Rattle.process_tree.specs.Order.{PartsBelow, AreInOrder, has}
use Rattle.process_tree.specs.Shape.{Shape, first_of, same_steps, is_whole, next_steps, goes_on_to}
use Rattle.process_tree.proofs.Branches.{Among, Each-among}
use Rattle.process_tree.proofs.Onward.{onward, onward_both, next_is, goes_along, goes_on}

-- the same steps are the same list
pub same_is : (p q : List ℕ) → same_steps p q ≡ true → p ≡ q
same_is p q e = (bytes_eq-Decides p q).0 e

pub is_same : (p : List ℕ) → same_steps p p ≡ true
is_same p = (bytes_eq-Decides p p).1 refl

-- a whole path is one of the whole paths
pub whole_among : (w : List ℕ) (ps : List (List ℕ)) → list_any (same_steps w) ps ≡ true → Among w ps
whole_among w [] e = absurd (cc)
whole_among w (p ∷ ps) e =
    ⊎_elim
    (λ t. inl (same_is w p t))
    (λ f. inr (whole_among w ps (sym (ap (λ c. c || list_any (same_steps w) ps) f) ∙ e)))
    (cases_Bool (same_steps w p))

pub among_whole : (w : List ℕ) (ps : List (List ℕ)) → Among w ps → list_any (same_steps w) ps ≡ true
among_whole w [] inw = absurd inw
among_whole w (p ∷ ps) inw =
    ⊎_elim
    (λ e. ap (λ c. c || list_any (same_steps w) ps) (ap (same_steps w) (sym e) ∙ is_same w))
    (λ later. ap (λ c. same_steps w p || c) (among_whole w ps later) ∙ or-true (same_steps w p))
    inw

-- of two paths, they are the same or one parts below the other
pub paths_part : (ps : List (List ℕ)) (p q : List ℕ) → AreInOrder ps → Among p ps → Among q ps → (p ≡ q) ⊎ (PartsBelow p q ⊎ PartsBelow q p)
paths_part [] p q order inp inq = absurd inp
paths_part (r ∷ ps) p q order inp inq =
    ⊎_elim
    (λ e. ⊎_elim
    (λ f. inl (e ∙ sym f))
    (λ later. inr (inl (subst (λ z. PartsBelow z q) (sym e) (Each-among (PartsBelow r) ps q order.0 later))))
    inq)
    (λ later. ⊎_elim
    (λ f. inr (inr (subst (λ z. PartsBelow z p) (sym f) (Each-among (PartsBelow r) ps p order.0 later))))
    (λ too. paths_part ps p q order.1 later too)
    inq)
    inp

-- nothing goes on from a path along itself, nor along one that parts from it
onward_none : (p : List ℕ) → onward p p ≡ None
onward_none [] = refl
onward_none (x ∷ p) = ap (λ c. if c then onward p p else None) (eq-eqb x x refl) ∙ onward_none p

none_either : (c : Bool) (o : Option ℕ) → o ≡ None → (if c then o else None) ≡ None
none_either true o e = e
none_either false o e = refl

onward_below : (p q : List ℕ) → PartsBelow p q → onward p q ≡ None
onward_below [] q part = absurd part
onward_below (x ∷ p) [] part = absurd part
onward_below (x ∷ p) (y ∷ q) part =
    ⊎_elim
    (λ same. none_either (nat_eq x y) (onward p q) (onward_below p q same.1))
    (λ below. ap (λ c. if c then onward p q else None) (ne_eqb x y (λ e. let lt : x < y = below.0 in omega arith)))
    part

onward_above : (p q : List ℕ) → PartsBelow p q → onward q p ≡ None
onward_above [] q part = absurd part
onward_above (x ∷ p) [] part = absurd part
onward_above (x ∷ p) (y ∷ q) part =
    ⊎_elim
    (λ same. none_either (nat_eq y x) (onward q p) (onward_above p q same.1))
    (λ below. ap (λ c. if c then onward q p else None) (ne_eqb y x (λ e. let lt : x < y = below.0 in omega arith)))
    part

filter_map-none : (f : List ℕ → Option ℕ) (ps : List (List ℕ)) → ((p : List ℕ) → Among p ps → f p ≡ None) → filter_map f ps ≡ []
filter_map-none f [] none = refl
filter_map-none f (p ∷ ps) none =
    ap (λ o. cons_option o (filter_map f ps)) (none p (inl refl)) ∙ filter_map-none f ps (λ q inq. none q (inr inq))

-- no whole path begins another
pub whole_ends : (t : Shape) (w : List ℕ) → AreInOrder t.paths → is_whole t w ≡ true → next_steps t w ≡ []
whole_ends t w order whole =
    next_is t w ∙ filter_map-none (onward w) t.paths (λ p inp.
    ⊎_elim
    (λ e. ap (onward w) (sym e) ∙ onward_none w)
    (λ part. ⊎_elim (λ below. onward_below w p below) (λ above. onward_above p w above) part)
    (paths_part t.paths w p order (whole_among w t.paths whole) inp))

-- a path that nothing goes on from behind v and b ends there
ends_there : (v p : List ℕ) (b : ℕ) → onward v p ≡ Some b → onward (v ++ b ∷ []) p ≡ None → p ≡ v ++ b ∷ []
ends_there [] [] b on none = absurd (cc)
ends_there [] (y ∷ []) b on none = let same : y ≡ b = cc in ap (λ z. z ∷ []) same
ends_there [] (y ∷ z ∷ p) b on none =
    let same : y ≡ b = cc in
    let some : Some z ≡ None = sym (ap (λ c. if c then first_of (z ∷ p) else None) (eq-eqb b y (sym same))) ∙ none in
    absurd (cc)
ends_there (x ∷ v) [] b on none = absurd (cc)
ends_there (x ∷ v) (y ∷ p) b on none =
    let both = onward_both x y b v p on in
    let rest : onward (v ++ b ∷ []) p ≡ None = sym (ap (λ c. if c then onward (v ++ b ∷ []) p else None) (eq-eqb x y both.0)) ∙ none in
    ap (λ z. z ∷ p) (sym both.0) ∙ ap (λ zs. x ∷ zs) (ends_there v p b both.1 rest)

no_step : (o : Option ℕ) (d : ℕ) → ((d : ℕ) → o ≡ Some d → ⊥) → o ≡ None
no_step None d h = refl
no_step (Some x) d h = absurd (h x refl)

-- where nothing goes on, the path is whole
pub end_is_whole : (t : Shape) (v : List ℕ) (b : ℕ) → goes_on_to t v b ≡ true → next_steps t (v ++ b ∷ []) ≡ [] → is_whole t (v ++ b ∷ []) ≡ true
end_is_whole t v b on none =
    let along = goes_along t v b on in
    let p = along.0 in
    let stops = no_step (onward (v ++ b ∷ []) p) 0 (λ d e. let more = goes_on t (v ++ b ∷ []) d p along.1 e in let f = ap (has d) none in cc) in
    let same = ends_there v p b along.2 stops in
    ap (λ w. list_any (same_steps w) t.paths) (sym same) ∙ among_whole p t.paths along.1
