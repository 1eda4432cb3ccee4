-- Steps along a whole path: each goes on from those before it, and whether it commits is said by the last commit point.
use Rattle.std.proofs.Common.{◌≡◌, ◌⊎◌, inl, inr, ⊎_elim, ℕ, ◌+◌, ◌<◌, ◌≤◌, Bool, true, false, ◌||◌, List, [], ◌∷◌, ◌++◌, length, take, drop, drop-cons, get_or, add-one, length-take, Option, Some, None, refl, sym, ap, ◌∙◌, subst, arith, append_assoc, length-append, nat_eq, if◌then◌else◌}
use Rattle.std.proofs.lemmas.Bool.{cases_Bool, eq-eqb, ne_eqb}
use Rattle.std.proofs.Math.Bool.{or-false}
use Rattle.std.specs.List.{filter_map}
use Rattle.std.proofs.lemmas.List.{take_more, take-append-drop}
use Rattle.plain_list.proofs.Lasts.{last_cases}
use Rattle.process_tree.specs.declared.step.StepKind.{StepKind}
use Rattle.process_tree.specs.declared.block.Block.{Block}
use Rattle.process_tree.specs.Blocks.{outline}
use Rattle.process_tree.specs.Order.{AreInOrder, Each, IsRising, has}
use Rattle.process_tree.specs.Paths.{step_behind}
use Rattle.process_tree.specs.Stands.{left_from}
use Rattle.process_tree.specs.Shape.{Shape, shape_by, shape_of, next_steps, greatest, branch_to, goes_on_to, kind_of, commits_behind, commits_by_kind, fixed_from, last_after, owed_from, IsBranch, last_commit, last_of, fixed_len}
use Rattle.process_tree.specs.Recovery.{forward, owed_behind, place_of}
use Rattle.process_tree.proofs.Fixed.{fixed_le, take_whole, take_front}
use Rattle.process_tree.proofs.Onward.{branch_from, goes_along, goes_on, next_behind, onward, onward_above, onward_first}
use Rattle.process_tree.proofs.Branches.{Each-among}
use Rattle.process_tree.proofs.LastPath.{Each-front, on_last}
use Rattle.process_tree.proofs.InTurn.{Each-last, goes_up, goes_within, greatest_is, kinds_count, last_after_none, last_step}
use Rattle.process_tree.proofs.Reached.{goes_before}

-- what comes before a step that goes on goes along a whole path
pub before_goes : (t : Shape) (w : List ℕ) (b : ℕ) → goes_on_to t w b ≡ true → IsBranch t w
before_goes t w b on =
    ⊎_elim (λ none. inl none) (λ some. inr (some.0, some.1, some.2, goes_before t some.0 some.1 b (sym (ap (λ v. goes_on_to t v b) some.2) ∙ on)))
    (last_cases w)

pub same_end : (v w : List ℕ) (a b : ℕ) → v ++ a ∷ [] ≡ w ++ b ∷ [] → (v ≡ w) × (a ≡ b)
same_end [] [] a b e = (refl, cc)
same_end [] (y ∷ w) a b e = let l = ap length e in let m = length-append w (b ∷ []) in absurd (omega arith)
same_end (x ∷ v) [] a b e = let l = ap length e in let m = length-append v (a ∷ []) in absurd (omega arith)
same_end (x ∷ v) (y ∷ w) a b e =
    let first : x ≡ y = cc in
    let later : v ++ a ∷ [] ≡ w ++ b ∷ [] = cc in
    let rest = same_end v w a b later in
    (ap (λ z. z ∷ v) first ∙ ap (λ zs. y ∷ zs) rest.0, rest.1)

-- each step goes on from those before it
pub goes_there : (t : Shape) (v : List ℕ) (b : ℕ) (u : List ℕ) → IsBranch t (v ++ b ∷ u) → goes_on_to t v b ≡ true
goes_there t v b u (inl none) = let l = ap length none in let m = length-append v (b ∷ u) in absurd (omega arith)
goes_there t v b u (inr is) =
    ⊎_elim
    (λ last.
    let same = same_end v is.0 b is.1 (sym (ap (λ u. v ++ b ∷ u) last) ∙ is.2) in
    ap (λ w. goes_on_to t w b) same.0 ∙ (ap (goes_on_to t is.0) same.1 ∙ is.3))
    (λ more.
    let same = same_end (v ++ b ∷ more.0) is.0 more.1 is.1 (append_assoc v (b ∷ more.0) (more.1 ∷ []) ∙ (sym (ap (λ u. v ++ b ∷ u) more.2) ∙ is.2)) in
    let along = goes_along t is.0 is.1 is.3 in
    goes_on t v b along.0 along.1 (onward_first v more.0 along.0 b is.1 (ap (λ w. onward w along.0) same.0 ∙ along.2)))
    (last_cases u)

-- how the walk over steps stands: what is owed is what the last commit point leaves
pub record Walked (t : Shape) (v : List ℕ) (fixed : ℕ) (commit : Option ℕ) : Type 0 where
  pub few : fixed ≤ length v
  pub owed : owed_from t v fixed ≡ owed_behind t commit

-- whether a step commits there
pub commits_is : (t : Shape) (v : List ℕ) (fixed : ℕ) (commit : Option ℕ) (b : ℕ) → Walked t v fixed commit
    → commits_by_kind (kind_of t b) (has b (owed_behind t commit)) ≡ commits_behind t v fixed b
commits_is t v fixed commit b at = ap (λ bs. commits_by_kind (kind_of t b) (has b bs)) (sym at.owed)

-- a commit point more
pub walked_commit : (t : Shape) (v : List ℕ) (b : ℕ) → branch_to t b ≡ v → Walked t (v ++ b ∷ []) (length v + 1) (Some b)
walked_commit t v b is =
    let long = length-append v (b ∷ []) in
    record {
      few = omega arith;
      owed =
          ap (λ c. if c then [] else last_after t (take (length v + 1) (v ++ b ∷ []))) (ne_eqb (length v + 1) 0 (λ z. omega arith))
          ∙ (ap (last_after t) (take_whole (v ++ b ∷ []) (length v + 1) (omega arith))
          ∙ sym (ap (λ u. last_after t (u ++ b ∷ [])) is));
    }

-- another step more
pub walked_other : (t : Shape) (v : List ℕ) (fixed : ℕ) (commit : Option ℕ) (b : ℕ) → Walked t v fixed commit → Walked t (v ++ b ∷ []) fixed commit
walked_other t v fixed commit b at =
    let long = length-append v (b ∷ []) in
    let few = at.few in
    record {
      few = omega arith;
      owed = ap (λ u. if nat_eq fixed 0 then [] else last_after t u) (take_front fixed v (b ∷ []) at.few) ∙ at.owed;
    }

-- the walk at one of the steps w
module _ (t : Shape) (w : List ℕ) (place : ℕ) (lt : place < length w) where
  abbrev here : ℕ
  here = get_or w place 0

  abbrev before : List ℕ
  before = take place w

  behind : drop place w ≡ here ∷ drop (place + 1) w
  behind = rw (add-one, drop-cons w place 0 lt) refl

  pub goes_here : IsBranch t w → goes_on_to t before here ≡ true
  goes_here is = goes_there t before here (drop (place + 1) w) (subst (IsBranch t) (sym (take-append-drop place w) ∙ ap (λ u. before ++ u) behind) is)

  -- it goes on by this step
  pub walk_on : (fixed n : ℕ) → fixed_from t before (drop place w) fixed ≡ n
      → fixed_from t (take (place + 1) w) (drop (place + 1) w) (if commits_behind t before fixed here then length before + 1 else fixed) ≡ n
  walk_on fixed n is =
      ap (λ v. fixed_from t v (drop (place + 1) w) (if commits_behind t before fixed here then length before + 1 else fixed)) (take_more w place 0 lt)
      ∙ (sym (ap (λ u. fixed_from t before u fixed) behind) ∙ is)

  before_len : length before ≡ place
  before_len = omega (arith, length-take place w)

  pub walk_commits : (fixed fixed' n : ℕ) (commit commit' : Option ℕ) → Walked t before fixed commit → branch_to t here ≡ before
      → commits_by_kind (kind_of t here) (has here (owed_behind t commit)) ≡ true → fixed' ≡ place + 1 → commit' ≡ Some here
      → fixed_from t before (drop place w) fixed ≡ n
      → (fixed_from t (take (place + 1) w) (drop (place + 1) w) fixed' ≡ n) × Walked t (take (place + 1) w) fixed' commit'
  walk_commits fixed fixed' n commit commit' at is one far new from = (
    ap (fixed_from t (take (place + 1) w) (drop (place + 1) w))
        (far ∙ (ap (λ k. k + 1) (sym before_len) ∙ sym (ap (λ c. if c then length before + 1 else fixed) (sym (commits_is t before fixed commit here at) ∙ one))))
        ∙ walk_on fixed n from,
    subst (λ v. Walked t v fixed' commit') (sym (take_more w place 0 lt))
        (subst (λ k. Walked t (before ++ here ∷ []) k commit') (ap (λ k. k + 1) before_len ∙ sym far)
        (subst (Walked t (before ++ here ∷ []) (length before + 1)) (sym new) (walked_commit t before here is))),
  )

  pub walk_passes : (fixed fixed' n : ℕ) (commit commit' : Option ℕ) → Walked t before fixed commit
      → commits_by_kind (kind_of t here) (has here (owed_behind t commit)) ≡ false → fixed' ≡ fixed → commit' ≡ commit
      → fixed_from t before (drop place w) fixed ≡ n
      → (fixed_from t (take (place + 1) w) (drop (place + 1) w) fixed' ≡ n) × Walked t (take (place + 1) w) fixed' commit'
  walk_passes fixed fixed' n commit commit' at none same old from = (
    ap (fixed_from t (take (place + 1) w) (drop (place + 1) w))
        (same ∙ sym (ap (λ c. if c then length before + 1 else fixed) (sym (commits_is t before fixed commit here at) ∙ none)))
        ∙ walk_on fixed n from,
    subst (λ v. Walked t v fixed' commit') (sym (take_more w place 0 lt))
        (subst (λ k. Walked t (before ++ here ∷ []) k commit') (sym same)
        (subst (Walked t (before ++ here ∷ []) fixed) (sym old) (walked_other t before fixed commit here at))),
  )

-- the walk along what is owed behind a commit point, at its next step
pub record LeadsOn (paths : List (List ℕ)) (count commit step : ℕ) (next : Option ℕ) : Type 0 where
  pub behind : List ℕ
  pub next_is : next ≡ greatest (next_steps (shape_by [] paths) behind)
  pub rest :
      (kinds : List StepKind) → length kinds ≡ count →
      has step (last_after (shape_by kinds paths) behind) ≡ has step (owed_behind (shape_by kinds paths) (Some commit))

module _ (paths : List (List ℕ)) (count : ℕ) (within : Each (Each (λ b. b < count)) paths) (order : AreInOrder paths) (rise : Each IsRising paths) (commit step : ℕ) where
  abbrev flat : Shape
  flat = shape_by [] paths

  pub leads_first : (next : Option ℕ) → next ≡ greatest (filter_map (step_behind (Some commit)) paths) → LeadsOn paths count commit step next
  leads_first next is = record {
    behind = branch_to flat commit ++ commit ∷ [];
    next_is = is ∙ ap greatest (sym (next_behind flat commit order rise));
    rest = λ kinds few. refl;
  }

  module _ (owed : ℕ) (at : LeadsOn paths count commit step (Some owed)) where
    abbrev v : List ℕ
    v = at.behind

    goes : goes_on_to flat v owed ≡ true
    goes = greatest_is (next_steps flat v) owed (sym at.next_is)

    opened : (kinds : List StepKind) → length kinds ≡ count → last_after (shape_by kinds paths) v ≡ owed ∷ last_after (shape_by kinds paths) (v ++ owed ∷ [])
    opened kinds few = last_step (shape_by kinds paths) (length kinds) v owed rise (subst (λ n. Each (Each (λ b. b < n)) paths) (sym few) within) (sym at.next_is)

    -- what is owed behind a step is greater
    rises : (kinds : List StepKind) (c : ℕ) → has c (last_after (shape_by kinds paths) (v ++ owed ∷ [])) ≡ true → owed < c
    rises kinds c on =
        let t = shape_by kinds paths in
        let l = on_last t (length kinds) (v ++ owed ∷ []) c rise on in
        let along = goes_along t ((v ++ owed ∷ []) ++ l.part) c l.on in
        Each-last (λ x. x < c) v owed
        (Each-front (λ x. x < c) (v ++ owed ∷ []) l.part (onward_above ((v ++ owed ∷ []) ++ l.part) along.0 c (Each-among IsRising paths along.0 rise along.1) along.2))

    -- so a step that is no greater is owed only if it is that one
    pub leads_here : step ≤ owed → (kinds : List StepKind) → length kinds ≡ count → nat_eq step owed ≡ has step (owed_behind (shape_by kinds paths) (Some commit))
    leads_here low kinds few =
        let t = shape_by kinds paths in
        sym (or-false (nat_eq step owed)) ∙ ap (λ b. nat_eq step owed || b) (sym (none_behind (cases_Bool (has step (last_after t (v ++ owed ∷ []))))))
        ∙ (sym (ap (has step) (opened kinds few)) ∙ at.rest kinds few)
      where
        none_behind : (has step (last_after (shape_by kinds paths) (v ++ owed ∷ [])) ≡ true) ⊎ (has step (last_after (shape_by kinds paths) (v ++ owed ∷ [])) ≡ false)
            → has step (last_after (shape_by kinds paths) (v ++ owed ∷ [])) ≡ false
        none_behind (inl on) = let up = rises kinds step on in absurd (omega arith)
        none_behind (inr off) = off

    -- the next step behind it is greater
    next_of : (next : Option ℕ) → next ≡ greatest (filter_map (step_behind (Some owed)) paths) → next ≡ greatest (next_steps flat (v ++ owed ∷ []))
    next_of next is =
        is ∙ (ap greatest (sym (next_behind flat owed order rise)) ∙ ap (λ u. greatest (next_steps flat (u ++ owed ∷ []))) (branch_from flat v owed order rise goes))

    pub leads_later : (next : Option ℕ) → next ≡ greatest (filter_map (step_behind (Some owed)) paths) → owed < step → LeadsOn paths count commit step next
    leads_later next is past = record {
      behind = v ++ owed ∷ [];
      next_is = next_of next is;
      rest = λ kinds few.
          sym (ap (λ b. b || has step (last_after (shape_by kinds paths) (v ++ owed ∷ []))) (ne_eqb step owed (λ e. omega arith)))
          ∙ (sym (ap (has step) (opened kinds few)) ∙ at.rest kinds few);
    }

    pub leads_up : (next : Option ℕ) → next ≡ greatest (filter_map (step_behind (Some owed)) paths) → left_from count (place_of next) < left_from count (place_of (Some owed))
    leads_up None is = let lt = goes_within flat count v owed within goes in omega arith
    leads_up (Some d) is =
        let lt = goes_within flat count v owed within goes in
        let up = goes_up flat v owed d rise (greatest_is (next_steps flat (v ++ owed ∷ [])) d (sym (next_of (Some d) is))) in omega arith

  pub leads_nowhere : LeadsOn paths count commit step None → (kinds : List StepKind) → length kinds ≡ count → false ≡ has step (owed_behind (shape_by kinds paths) (Some commit))
  leads_nowhere at kinds few =
      sym (ap (has step) (last_after_none (shape_by kinds paths) at.behind (sym at.next_is))) ∙ at.rest kinds few

-- of a tree: what was found of its paths is said of it
pub told : (root : Block) (paths : List (List ℕ)) (count : ℕ) (kind : StepKind) (commit : Option ℕ) (b : ℕ) (answer : Bool) → paths ≡ (outline root).paths → count ≡ length (outline root).steps → kind ≡ kind_of (shape_of root) b
    → ((kinds : List StepKind) → length kinds ≡ count → answer ≡ commits_by_kind kind (has b (owed_behind (shape_by kinds paths) commit)))
    → answer ≡ commits_by_kind (kind_of (shape_of root) b) (has b (owed_behind (shape_of root) commit))
told root paths count kind commit b answer is many own says =
    let t = shape_of root in
    says t.kinds (kinds_count root ∙ sym many)
    ∙ (ap (λ ps. commits_by_kind kind (has b (owed_behind (shape_by t.kinds ps) commit))) is
    ∙ ap (λ k. commits_by_kind k (has b (owed_behind t commit))) own)

-- what was pushed last is the last
last_of-push : (v : List ℕ) (c : ℕ) → last_of (v ++ c ∷ []) ≡ Some c
last_of-push [] c = refl
last_of-push (x ∷ []) c = refl
last_of-push (x ∷ y ∷ v) c = last_of-push (y ∷ v) c

-- what is owed is told by the last commit point alone
pub owed_by_last : (t : Shape) → AreInOrder t.paths → Each IsRising t.paths → (w : List ℕ) → IsBranch t w → owed_behind t (last_commit t w) ≡ forward t w
owed_by_last t order rise w is = by_kept (last_cases (take (fixed_len t w) w))
  where
    f : ℕ
    f = fixed_len t w

    count : length (take f w) ≡ f
    count = let le = fixed_le t w in let e = length-take f w in omega arith

    by_kept : (take f w ≡ []) ⊎ ((v : List ℕ) × (c : ℕ) × (take f w ≡ v ++ c ∷ [])) → owed_behind t (last_commit t w) ≡ forward t w
    by_kept (inl none) =
        let zero' : f ≡ 0 = sym count ∙ ap length none in
        ap (λ xs. owed_behind t (last_of xs)) none ∙ sym (ap (λ b. if b then [] else last_after t (take f w)) (eq-eqb f 0 zero'))
    by_kept (inr some) =
        let v = some.0 in
        let c = some.1 in
        let long = length-append v (c ∷ []) in
        let more = ap length some.2 in
        let many = count in
        let whole : w ≡ v ++ c ∷ drop f w = sym (take-append-drop f w) ∙ (ap (λ xs. xs ++ drop f w) some.2 ∙ append_assoc v (c ∷ []) (drop f w)) in
        let on = goes_there t v c (drop f w) (subst (IsBranch t) whole is) in
        ap (owed_behind t) (ap last_of some.2 ∙ last_of-push v c)
        ∙ (ap (λ u. last_after t (u ++ c ∷ [])) (branch_from t v c order rise on)
        ∙ (ap (last_after t) (sym some.2) ∙ sym (ap (λ b. if b then [] else last_after t (take f w)) (ne_eqb f 0 (λ z. omega arith)))))
