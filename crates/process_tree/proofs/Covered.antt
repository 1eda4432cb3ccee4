-- Each step of a tree is on a whole path.
use Rattle.std.proofs.Common.{◌≡◌, inl, inr, ⊎_elim, subst, ℕ, ◌+◌, ◌-◌, ◌<◌, ◌≤◌, Bool, true, false, ◌||◌, List, [], ◌∷◌, ◌++◌, length, map, Option, Some, None, refl, sym, ap, ◌∙◌, arith, length-append, nat_lt, if◌then◌else◌}
use Rattle.std.proofs.lemmas.Bool.{ltb-false, cases_lt}
use Rattle.process_tree.specs.declared.step.Step.{Step}
use Rattle.process_tree.specs.declared.block.Block.{Block}
use Rattle.process_tree.specs.declared.block.Tail.{Tail, End, Choice', Row_of-Block, end_of-Block, more_of-Block}
use Rattle.process_tree.specs.Blocks.{Outline, numbers_from, all_paths, all_steps, first_odd, outline, outline_of, outlines_of, outline_at_choice, outline_at_end}
use Rattle.process_tree.specs.Measures.{earlier}
use Rattle.process_tree.specs.Order.{Each, has}
use Rattle.process_tree.proofs.Branches.{Among, has_here, has_there, has_cases}
use Rattle.process_tree.proofs.Numbers.{numbers_has, has_left, has_right}

-- some path has b
abbrev pub OnSomePath : ℕ → List (List ℕ) → Type 0
OnSomePath b ps = (p : List ℕ) × Among p ps × (has b p ≡ true)

-- there is a path, and each step is on one
pub record IsCovered (o : Outline) : Type 0 where
  pub path : List ℕ
  pub one : Among path o.paths
  pub each : (b : ℕ) → b < length o.steps → OnSomePath b o.paths

pub among_map : (f : List ℕ → List ℕ) (p : List ℕ) (ps : List (List ℕ)) → Among p ps → Among (f p) (map f ps)
among_map f p [] inp = absurd inp
among_map f p (q ∷ qs) inp = ⊎_elim (λ e. inl (ap f e)) (λ later. inr (among_map f p qs later)) inp

pub among_left : (p : List ℕ) (ps qs : List (List ℕ)) → Among p ps → Among p (ps ++ qs)
among_left p [] qs inp = absurd inp
among_left p (r ∷ ps) qs inp = ⊎_elim (λ e. inl e) (λ later. inr (among_left p ps qs later)) inp

pub among_right : (p : List ℕ) (ps qs : List (List ℕ)) → Among p qs → Among p (ps ++ qs)
among_right p [] qs inq = inq
among_right p (r ∷ ps) qs inq = inr (among_right p ps qs inq)

pub has_moved : (m k : ℕ) (p : List ℕ) → has k p ≡ true → has (m + k) (map (λ j. m + j) p) ≡ true
has_moved m k [] on = on
has_moved m k (x ∷ p) on =
    ⊎_elim
    (λ e. has_here (m + k) (m + x) (map (λ j. m + j) p) (ap (λ j. m + j) e))
    (λ rest. has_there (m + k) (m + x) (map (λ j. m + j) p) (has_moved m k p rest.1))
    (has_cases k x p on)

-- the steps of alternatives of which the first has number m
alternatives_covered : (own : List ℕ) (m : ℕ) (os : List Outline) → Each IsCovered os → (b : ℕ) → m ≤ b → b < m + length (all_steps os) → OnSomePath b (all_paths own m os)
alternatives_covered own m [] h b from to = absurd (omega arith)
alternatives_covered own m (o ∷ os) h b from to =
    let place : List ℕ → List ℕ = λ p. own ++ map (λ k. m + k) p in
    let later = all_paths own (m + length o.steps) os in
    ⊎_elim
    (λ here.
    let on = h.0.each (b - m) (omega arith) in
    let same : m + (b - m) ≡ b = omega arith in (
      place on.0,
      among_left (place on.0) (map place o.paths) later (among_map place on.0 o.paths on.1),
      has_right b own (map (λ k. m + k) on.0) (subst (λ n. has n (map (λ k. m + k) on.0) ≡ true) same (has_moved m (b - m) on.0 on.2)),
    ))
    (λ there.
    let sum = length-append o.steps (all_steps os) in
    let on = alternatives_covered own (m + length o.steps) os h.1 b (omega arith) (omega arith) in
    (on.0, among_right on.0 (map place o.paths) later on.1, on.2))
    (cases_lt b (m + length o.steps))

-- steps and then a choice that has an alternative
choice_covered : (steps : List Step) (o : Outline) (os : List Outline) → Each IsCovered (o ∷ os) → IsCovered (outline_at_choice steps (o ∷ os))
choice_covered steps o os h =
    let n = length steps in
    let own = numbers_from 0 n in
    let place : List ℕ → List ℕ = λ p. own ++ map (λ k. n + k) p in
    let first = place h.0.path in
    let among = among_left first (map place o.paths) (all_paths own (n + length o.steps) os) (among_map place h.0.path o.paths h.0.one) in
    record {
      path = first;
      one = among;
      each = λ b lt.
          ⊎_elim
          (λ mine. (first, among, has_left b own (map (λ k. n + k) h.0.path) (numbers_has b 0 n (omega arith) (omega arith))))
          (λ theirs. alternatives_covered own n (o ∷ os) h b theirs (let sum = length-append steps (all_steps (o ∷ os)) in omega arith))
          (cases_lt b n);
    }

end_covered : (steps : List Step) → IsCovered (outline_at_end steps)
end_covered steps = record {
  path = numbers_from 0 (length steps);
  one = inl refl;
  each = λ b lt. (numbers_from 0 (length steps), inl refl, numbers_has b 0 (length steps) (omega arith) (omega arith));
}

-- the first odd choice of several, if none of them has one
pub none_first : (a b : Option ℕ) → earlier a b ≡ None → (a ≡ None) × (b ≡ None)
none_first None b e = (refl, e)
none_first (Some n) b e = absurd (cc)

-- no choice here is odd
pub not_odd : (os : List Outline) → (outline_at_choice [] os).odd_choice ≡ None → (nat_lt (length os) 2 ≡ false) × (first_odd os ≡ None)
not_odd os e = by_test (nat_lt (length os) 2) (nat_lt 8 (length os)) refl refl
  where
    by_test : (a b : Bool) → nat_lt (length os) 2 ≡ a → nat_lt 8 (length os) ≡ b → (nat_lt (length os) 2 ≡ false) × (first_odd os ≡ None)
    by_test true b u v = let f : Some (length os) ≡ None = sym (ap (λ c. if c || nat_lt 8 (length os) then Some (length os) else first_odd os) u) ∙ e in absurd (cc)
    by_test false true u v =
        let f : Some (length os) ≡ None = sym (ap (λ c. if c || nat_lt 8 (length os) then Some (length os) else first_odd os) u ∙ ap (λ c. if c then Some (length os) else first_odd os) v) ∙ e in
        absurd (cc)
    by_test false false u v =
        (u, sym (ap (λ c. if c || nat_lt 8 (length os) then Some (length os) else first_odd os) u ∙ ap (λ c. if c then Some (length os) else first_odd os) v) ∙ e)

by_alternatives : (steps : List Step) (os : List Outline) → (outline_at_choice [] os).odd_choice ≡ None → Each IsCovered os → IsCovered (outline_at_choice steps os)
by_alternatives steps [] e h = let f = ltb-false 0 2 (not_odd [] e).0 in absurd (omega arith)
by_alternatives steps (o ∷ os) e h = choice_covered steps o os h

mutual
  tail_covered : (steps : List Step) (tail : Tail) → (outline_of steps tail).odd_choice ≡ None → IsCovered (outline_of steps tail)
  tail_covered steps End e = end_covered steps
  tail_covered steps (Choice' shape row) e = by_alternatives steps (outlines_of row) e (row_covered row (not_odd (outlines_of row) e).1)

  pub row_covered : {m : _} (row : Row_of-Block m) → first_odd (outlines_of row) ≡ None → Each IsCovered (outlines_of row)
  row_covered end_of-Block e = tt
  row_covered (more_of-Block steps tail rest) e =
      let both = none_first (outline_of steps tail).odd_choice (first_odd (outlines_of rest)) e in
      (tail_covered steps tail both.0, row_covered rest both.1)

-- each step of a block without an odd choice is on a whole path
pub covered : (block : Block) → (outline block).odd_choice ≡ None → IsCovered (outline block)
covered block e = tail_covered block.steps block.tail e
