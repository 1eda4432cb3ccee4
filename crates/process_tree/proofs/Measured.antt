-- How large a choice is, alternative by alternative.
use Rattle.std.proofs.Math.Bool.{or-false}
use Rattle.std.proofs.Common.{◌≡◌, ℕ, ◌+◌, min, Bool, true, false, ◌||◌, List, [], ◌∷◌, length, map, Option, Some, None, ap, ◌∙◌, sym, refl, arith, length-append, ◌<◌, ◌≤◌, get_or, drop, drop-cons, add-one, nat_lt, suc}
use Rattle.std.proofs.lemmas.List.{drop_all, length-map}
use Rattle.std.specs.List.{list_any}
use Rattle.process_tree.specs.declared.step.Step.{Step}
use Rattle.process_tree.specs.declared.block.Block.{Block}
use Rattle.process_tree.specs.declared.measure.Measure.{Measure}
use Rattle.process_tree.specs.Blocks.{Outline, all_steps, deepest, first_odd, outline, outline_at_choice}
use Rattle.process_tree.specs.Measures.{clipped, odd_number, earlier, clipped_if, joined, measure_of}

-- how large several are together
abbrev pub measure_of_all : List Outline → Measure
measure_of_all os = record {
  has_empty = list_any (λ o. o.has_empty) os;
  steps = clipped (length (all_steps os));
  nesting = clipped (deepest os);
  odd_choice = clipped_if (first_odd os);
}

or_assoc : (a b c : Bool) → ((a || b) || c) ≡ (a || (b || c))
or_assoc true b c = refl
or_assoc false b c = refl

earlier_assoc : (a b c : Option ℕ) → earlier (earlier a b) c ≡ earlier a (earlier b c)
earlier_assoc None b c = refl
earlier_assoc (Some n) b c = refl

clipped_if-earlier : (a b : Option ℕ) → clipped_if (earlier a b) ≡ earlier (clipped_if a) (clipped_if b)
clipped_if-earlier None b = refl
clipped_if-earlier (Some n) b = refl

-- four equal numbers make equal measures
same_measure : {h h' : Bool} {s s' n n' : ℕ} {o o' : Option ℕ} → h ≡ h' → s ≡ s' → n ≡ n' → o ≡ o' →
    (let m : Measure = record { has_empty = h; steps = s; nesting = n; odd_choice = o } in m)
    ≡ (let m : Measure = record { has_empty = h'; steps = s'; nesting = n'; odd_choice = o' } in m)
same_measure a b c d = cc

-- one alternative more
pub joined-measure_of_all : (all : Measure) (o : Outline) (os : List Outline) → joined (joined all (measure_of o)) (measure_of_all os) ≡ joined all (measure_of_all (o ∷ os))
joined-measure_of_all all o os =
    same_measure
    (or_assoc all.has_empty o.has_empty (list_any (λ o. o.has_empty) os))
    (omega (arith, length-append o.steps (all_steps os)))
    (omega arith)
    (earlier_assoc all.odd_choice (clipped_if o.odd_choice) (clipped_if (first_odd os)) ∙ ap (earlier all.odd_choice) (sym (clipped_if-earlier o.odd_choice (first_odd os))))

-- none are left
pub joined-measure_of_none : (all : Measure) → all.steps ≤ 4294967295 → joined all (measure_of_all []) ≡ all
joined-measure_of_none all le =
    same_measure {h' = all.has_empty} {s' = all.steps} {n' = all.nesting} {o' = all.odd_choice} (or-false all.has_empty) (omega arith) (omega arith) (earlier_None all.odd_choice)
  where
    earlier_None : (a : Option ℕ) → earlier a None ≡ a
    earlier_None None = refl
    earlier_None (Some n) = refl

-- one alternative more, of those behind i
pub joined-drop : (all : Measure) (os : List Outline) (i : ℕ) (o : Outline) → i < length os →
    joined (joined all (measure_of (get_or os i o))) (measure_of_all (drop (i + 1) os)) ≡ joined all (measure_of_all (drop i os))
joined-drop all os i o lt = rw (add-one, drop-cons os i o) (joined-measure_of_all all (get_or os i o) (drop (suc i) os))

-- a loop over alternatives goes on
pub joined-next : (start all all' next : Measure) (b : Block) (bs : List Block) (i : ℕ) → i < length bs → b ≡ get_or bs i b → next ≡ measure_of (outline b) → all' ≡ joined all next → joined all (measure_of_all (map outline (drop i bs))) ≡ start → joined all' (measure_of_all (map outline (drop (i + 1) bs))) ≡ start
joined-next start all all' next b bs i lt is e e' inv =
    let item : drop i bs ≡ b ∷ drop (i + 1) bs = rw (add-one, drop-cons bs i b, ← is) refl in
    let more = joined-measure_of_all all (outline b) (map outline (drop (i + 1) bs)) in
    let whole = ap (λ xs. joined all (measure_of_all (map outline xs))) item in
    rw (e', e) (more ∙ sym whole ∙ inv)

-- the first choice that is odd, this one or one within
odd_here : (n : ℕ) (os : List Outline) → n ≡ length os → earlier (odd_number n) (clipped_if (first_odd os)) ≡ clipped_if (outline_at_choice [] os).odd_choice
odd_here n os e = by_test (nat_lt n 2 || nat_lt 8 n) refl
  where
    by_test : (b : Bool) → (nat_lt n 2 || nat_lt 8 n) ≡ b → earlier (odd_number n) (clipped_if (first_odd os)) ≡ clipped_if (outline_at_choice [] os).odd_choice
    by_test true is = rw (← e, is) refl
    by_test false is = rw (← e, is) refl

-- a loop over alternatives has ended, of which there are as many as the odd choice says
pub measure_of-choice : (all : Measure) (nesting : ℕ) (block : Block) (own : List Step) (bs : List Block) (i own_steps : ℕ) (odd : Option ℕ) → length bs ≤ i → all.steps ≤ 4294967295 → nesting ≡ min (all.nesting + 1) 4294967295 → own_steps ≡ clipped (length own) → odd ≡ odd_number (length bs) → outline block ≡ outline_at_choice own (map outline bs) →
    joined all (measure_of_all (map outline (drop i bs))) ≡ joined (record { has_empty = false; steps = own_steps; nesting = 0; odd_choice = odd }) (measure_of_all (map outline bs)) →
    (let m : Measure = record { has_empty = all.has_empty; steps = all.steps; nesting = nesting; odd_choice = all.odd_choice } in m) ≡ measure_of (outline block)
measure_of-choice all nesting block own bs i own_steps odd le small n o d e inv =
    let os = map outline bs in
    let gone : drop i bs ≡ [] = drop_all i bs le in
    let whole : all ≡ joined (record { has_empty = false; steps = own_steps; nesting = 0; odd_choice = odd }) (measure_of_all os) =
    sym (joined-measure_of_none all small) ∙ sym (ap (λ xs. joined all (measure_of_all (map outline xs))) gone) ∙ inv in
    let steps = ap (λ m. m.steps) whole in
    let nested = ap (λ m. m.nesting) whole in
    rw e (same_measure
    (ap (λ m. m.has_empty) whole)
    (omega (arith, length-append own (all_steps os)))
    (omega arith)
    (ap (λ m. m.odd_choice) whole ∙ ap (λ x. earlier x (clipped_if (first_odd os))) d ∙ odd_here (length bs) os (sym (length-map bs outline))))
