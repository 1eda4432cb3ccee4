-- Where the first entry of a step stands, and what is behind it.
use Rattle.std.proofs.Common.{◌≡◌, ℕ, suc, ◌+◌, ◌-◌, ◌<◌, ◌≤◌, Bool, true, false, if◌then◌else◌, List, [], ◌∷◌, length, drop, Option, Some, None, IfSome, sym, refl, ap, subst, ◌∙◌, arith}
use Rattle.std.specs.Prelude.{find, nat_eq, slice_index_or}
use Rattle.std.proofs.lemmas.Bool.{and_parts, eqb-true}
use Rattle.process_tree.specs.declared.entry.Entry.{Entry}
use Rattle.schedule_model.specs.Histories.{same_step}
use Rattle.schedule_model.specs.Holdings.{behind}
use Rattle.admission.specs.Admission.{is_of_step}
use Rattle.admission.specs.Parts.{further, place_of_step}
use Rattle.admission.proofs.Places.{rest_back}

further_on : (k : ℕ) (o : Option ℕ) → 0 < k → further (k - 1) (further 1 o) ≡ further k o
further_on k None some = refl
further_on k (Some n) some = let same : (k - 1) + (1 + n) ≡ k + n = omega arith in ap Some same

pub at_front : (o : Option ℕ) → further 0 o ≡ o
at_front None = refl
at_front (Some n) = let same : 0 + n ≡ n = omega arith in ap Some same

module _ (i b : ℕ) (net : List Entry) (place : ℕ) (e : Entry) (some : 0 < place) (most : place ≤ length net) (is : (d : Entry) → e ≡ slice_index_or net (place - 1) d) where
  one_more : further (place - 1) (place_of_step i b (drop (place - 1) net)) ≡ further (place - 1) (if is_of_step i b e then Some 0 else further 1 (place_of_step i b (drop place net)))
  one_more = ap (λ es. further (place - 1) (place_of_step i b es)) (rest_back net place e some most is)

  -- it is here
  pub found_here : is_of_step i b e ≡ true → Some (place - 1) ≡ further (place - 1) (place_of_step i b (drop (place - 1) net))
  found_here own = let same : place - 1 ≡ (place - 1) + 0 = omega arith in
      ap Some same ∙ sym (one_more ∙ ap (λ t. further (place - 1) (if t then Some 0 else further 1 (place_of_step i b (drop place net)))) own)

  -- or further behind
  pub found_behind : is_of_step i b e ≡ false → further place (place_of_step i b (drop place net)) ≡ further (place - 1) (place_of_step i b (drop (place - 1) net))
  found_behind other = sym (one_more ∙ ap (λ t. further (place - 1) (if t then Some 0 else further 1 (place_of_step i b (drop place net)))) other
      ∙ further_on place (place_of_step i b (drop place net)) some)

-- at its place stands the first entry of the step, and behind that what is behind it
pub record IsFirst (i b : ℕ) (net : List Entry) (place : ℕ) (d : Entry) : Type 0 where
  pub within : place < length net
  pub found : find (is_of_step i b) net ≡ Some (slice_index_or net place d)
  pub behind : behind (slice_index_or net place d) net ≡ drop (suc place) net

-- no entry is of the step
pub none_found : (i b : ℕ) (net : List Entry) → place_of_step i b net ≡ None → find (is_of_step i b) net ≡ None
none_found i b [] is = refl
none_found i b (e ∷ es) is = by (is_of_step i b e) (place_of_step i b es) refl refl (none_found i b es) is
  where
    by : (t : Bool) (o : Option ℕ) → is_of_step i b e ≡ t → place_of_step i b es ≡ o → (place_of_step i b es ≡ None → find (is_of_step i b) es ≡ None)
        → (if is_of_step i b e then Some 0 else further 1 (place_of_step i b es)) ≡ None → find (is_of_step i b) (e ∷ es) ≡ None
    by true o test more rest none = absurd (let no : Some 0 ≡ None = subst (λ t. (if t then Some 0 else further 1 (place_of_step i b es)) ≡ None) test none in cc)
    by false None test more rest none = rw test (rest more)
    by false (Some n) test more rest none = absurd (let no : Some (1 + n) ≡ None = subst (λ o. further 1 o ≡ None) more (subst (λ t. (if t then Some 0 else further 1 (place_of_step i b es)) ≡ None) test none) in cc)

test_of : (i b : ℕ) (e : Entry) → is_of_step i b e ≡ true → (e.process ≡ i) × (e.step ≡ b)
test_of i b e is = let parts = and_parts (nat_eq i e.process) (nat_eq b e.step) is in (sym (eqb-true i e.process parts.0), sym (eqb-true b e.step parts.1))

same_by : (i b : ℕ) (x e : Entry) → is_of_step i b x ≡ true → same_step x e ≡ is_of_step i b e
same_by i b x e is = let (process, step) = test_of i b x is in rw (process, step) refl

found_passes : (i b : ℕ) (es : List Entry) (x : Entry) → find (is_of_step i b) es ≡ Some x → is_of_step i b x ≡ true
found_passes i b [] x is = absurd cc
found_passes i b (e ∷ es) x is = by (is_of_step i b e) refl (found_passes i b es x) is
  where
    by : (t : Bool) → is_of_step i b e ≡ t → (find (is_of_step i b) es ≡ Some x → is_of_step i b x ≡ true) → find (is_of_step i b) (e ∷ es) ≡ Some x → is_of_step i b x ≡ true
    by true test rest found = let same : e ≡ x = let here : Some e ≡ Some x = sym (ap (λ t. if t then Some e else find (is_of_step i b) es) test) ∙ found in cc in ap (is_of_step i b) (sym same) ∙ test
    by false test rest found = rest (sym (ap (λ t. if t then Some e else find (is_of_step i b) es) test) ∙ found)

pub first_found : (i b : ℕ) (net : List Entry) (place : ℕ) (d : Entry) → place_of_step i b net ≡ Some place → IsFirst i b net place d
first_found i b [] place d is = absurd cc
first_found i b (e ∷ es) place d is = by (is_of_step i b e) (place_of_step i b es) refl refl (λ n more. first_found i b es n d more) is
  where
    by : (t : Bool) (o : Option ℕ) → is_of_step i b e ≡ t → place_of_step i b es ≡ o → ((n : ℕ) → place_of_step i b es ≡ Some n → IsFirst i b es n d)
        → (if is_of_step i b e then Some 0 else further 1 (place_of_step i b es)) ≡ Some place → IsFirst i b (e ∷ es) place d
    by true o test more rest found =
        let here : 0 ≡ place = let same : Some 0 ≡ Some place = subst (λ t. (if t then Some 0 else further 1 (place_of_step i b es)) ≡ Some place) test found in cc in
        subst (λ n. IsFirst i b (e ∷ es) n d) here (record {
          within = omega arith;
          found = rw test refl;
          behind = ap (λ t. if t then es else behind e es) (same_by i b e e test ∙ test);
        })
    by false None test more rest found =
        absurd (let no : None ≡ Some place = subst (λ o. further 1 o ≡ Some place) more (subst (λ t. (if t then Some 0 else further 1 (place_of_step i b es)) ≡ Some place) test found) in cc)
    by false (Some n) test more rest found =
        let here : 1 + n ≡ place = let same : Some (1 + n) ≡ Some place = subst (λ o. further 1 o ≡ Some place) more (subst (λ t. (if t then Some 0 else further 1 (place_of_step i b es)) ≡ Some place) test found) in cc in
        let first = rest n more in
        let next : suc n ≡ place = omega arith in
        let x = slice_index_or es n d in
        subst (λ n. IsFirst i b (e ∷ es) n d) next (record {
          within = let low = first.within in omega arith;
          found = rw test first.found;
          behind = ap (λ t. if t then es else behind x es) (same_by i b x e (found_passes i b es x first.found) ∙ test) ∙ first.behind;
        })

-- it is one of the places of the net
pub place_within : (i b : ℕ) (net : List Entry) (o : Option ℕ) → o ≡ place_of_step i b net → IfSome o (λ place. place < length net)
place_within i b net None is = tt
place_within i b net (Some place) is = (first_found i b net place (record { process = 0; step = 0; op = 0; key = 0; undo = false }) (sym is)).within
