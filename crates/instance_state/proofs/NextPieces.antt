-- What is read off of where a process stands: whether it is at an end, what stays, what is pending, and what comes next.
use Rattle.std.proofs.lemmas.Bool.{ne_eqb, cases_Bool}
use Rattle.std.proofs.Common.{◌≡◌, ⊎_elim, ℕ, ◌+◌, ◌-◌, ◌<◌, ◌≤◌, zero, suc, Bool, true, false, List, [], ◌∷◌, ◌++◌, length, map, take, drop, find, cond, unwrap_or, Option, Some, None, is_none, is_some, not, refl, sym, ap, ◌∙◌, arith, if◌then◌else◌, length-drop}
use Rattle.process_tree.specs.Blocks.{numbers_from}
use Rattle.process_tree.specs.Laws.{IsTreeShape}
use Rattle.process_tree.specs.Order.{has}
use Rattle.process_tree.specs.Shape.{Shape, branch_to, first_of, fixed_len, goes_on_to, greatest, is_whole, last_of, least, next_steps, last_after, last_path, with_rest}
use Rattle.process_tree.specs.Play.{kept_for}
use Rattle.process_tree.specs.Recovery.{forward}
use Rattle.process_tree.proofs.Branches.{Each-among, has_cases}
use Rattle.process_tree.proofs.InTurn.{goes_within}
use Rattle.process_tree.proofs.Numbers.{least_some, numbers_has}
use Rattle.process_tree.proofs.Onward.{branch_from}
use Rattle.process_tree.proofs.TreeLaws.{each_step_has_a_path, ends_are_whole, paths_lie_in_order, whole_paths_end}
use Rattle.process_tree.proofs.Wholes.{whole_among}
use Rattle.instance_state.specs.Rows.{done_to, way_from}
use Rattle.instance_state.proofs.Lists.{last_push, length_push, take_all}
use Rattle.instance_state.proofs.NextWays.{way_is}

-- nothing is no whole path
pub nothing_is_no_end : (t : Shape) → IsTreeShape t → is_whole t [] ≡ false
nothing_is_no_end t tree =
    let laid = paths_lie_in_order t tree in
    ⊎_elim
    (λ whole. let long = Each-among (λ p. 0 < length p) t.paths [] laid.some (whole_among [] t.paths whole) in absurd (omega arith))
    (λ no'. no')
    (cases_Bool (is_whole t []))

-- a path is whole exactly where nothing stands behind its last step
pub whole_where_nothing_follows : (t : Shape) → IsTreeShape t → (b : ℕ) → b < length t.kinds
    → is_none (least (next_steps t (done_to t (Some b)))) ≡ is_whole t (done_to t (Some b))
whole_where_nothing_follows t tree b lt = by_next (next_steps t w) refl
  where
    w : List ℕ
    w = done_to t (Some b)

    by_next : (xs : List ℕ) → next_steps t w ≡ xs → is_none (least (next_steps t w)) ≡ is_whole t w
    by_next [] is =
        ap (λ l. is_none (least l)) is ∙ sym (ends_are_whole t tree (branch_to t b) b (each_step_has_a_path t tree b lt) is)
    by_next (x ∷ xs) is =
        let some = least_some x xs in
        ap (λ l. is_none (least l)) is ∙ ap is_none some.1
        ∙ ⊎_elim
        (λ whole. let none = whole_paths_end t tree w whole in absurd (let f = sym is ∙ none in cc))
        (λ no'. sym no')
        (cases_Bool (is_whole t w))

-- a way on is a step of the process
pub way_within : (t : Shape) → IsTreeShape t → (w : List ℕ) (bound d : ℕ) → way_from t w bound ≡ Some d → d < length t.kinds
way_within t tree w bound d is =
    let way = (way_is t w bound d is).0 in
    goes_within t (length t.kinds) (take way.kept w) d (paths_lie_in_order t tree).within way.goes

-- one of these passes the test, so one is found
found : (test : List ℕ → Bool) (h : ℕ → List ℕ) (k : ℕ) (ks : List ℕ) → has k ks ≡ true → test (h k) ≡ true → test (unwrap_or (find test (map h ks)) []) ≡ true
found test h k [] on passes = absurd (cc)
found test h k (j ∷ ks) on passes =
    ⊎_elim
    (λ here. ap (λ o. test (unwrap_or o [])) (ap (λ t. cond t (Some (h j)) (find test (map h ks))) here) ∙ here)
    (λ not_here.
    ap (λ o. test (unwrap_or o [])) (ap (λ t. cond t (Some (h j)) (find test (map h ks))) not_here)
    ∙ found test h k ks (⊎_elim (λ e. absurd (let f = ap (λ i. test (h i)) e in cc)) (λ rest. rest.1) (has_cases k j ks on)) passes)
    (cases_Bool (test (h j)))

-- what stays for a way on is the branch to it
pub kept_is_branch : (t : Shape) → IsTreeShape t → (w : List ℕ) (bound d : ℕ) → way_from t w bound ≡ Some d → kept_for t w d ≡ branch_to t d
kept_is_branch t tree w bound d is =
    let f = fixed_len t w in
    let way = (way_is t w bound d is).0 in
    let low = way.fixed in
    let high = way.within in
    let laid = paths_lie_in_order t tree in
    sym (branch_from t (kept_for t w d) d laid.in_order laid.rising
    (found (λ v. goes_on_to t v d) (λ k. take k w) way.kept (numbers_from f (length w - f + 1)) (numbers_has way.kept f (length w - f + 1) low (omega arith)) way.goes))

pub staying_is : (t : Shape) → IsTreeShape t → (w : List ℕ) (bound d : ℕ) → way_from t w bound ≡ Some d → length (done_to t (Some d)) - 1 ≡ length (kept_for t w d)
staying_is t tree w bound d is =
    let e = length_push (branch_to t d) d in
    let f = ap length (kept_is_branch t tree w bound d is) in
    omega arith

-- none is no step
pub none_told : (o : Option ℕ) (r : Bool) → is_some o ≡ not r → r ≡ is_none o
none_told None true is = refl
none_told None false is = absurd (cc)
none_told (Some d) true is = absurd (cc)
none_told (Some d) false is = refl

last_behind : (k : ℕ) (w : List ℕ) → (length (drop k w) ≡ 0 → ⊥) → last_of (drop k w) ≡ last_of w
last_behind zero w some = refl
last_behind (suc k) [] some = refl
last_behind (suc k) (x ∷ []) some = absurd (some (length-drop (suc k) (x ∷ []) ∙ (omega arith)))
last_behind (suc k) (x ∷ y ∷ w) some = last_behind k (y ∷ w) some

-- the last pending step is the last that is done
pub last_pending : (t : Shape) (last : Option ℕ) (b k : ℕ) → last ≡ Some b → (length (drop k (done_to t last)) ≡ 0 → ⊥) → last_of (drop k (done_to t last)) ≡ Some b
last_pending t last b k is some = last_behind k (done_to t last) some ∙ ap (λ l. last_of (done_to t l)) is ∙ last_push (branch_to t b) b

-- where nothing is done, nothing is pending
pub none_pending : (t : Shape) (last : Option ℕ) (k : ℕ) → last ≡ None → length (drop k (done_to t last)) ≡ 0
none_pending t last k is = ap (λ l. length (drop k (done_to t l))) is ∙ length-drop k (done_to t None) ∙ (omega arith)

first_of_rest : (rest : ℕ → List ℕ) (o : Option ℕ) → o ≡ first_of (with_rest rest o)
first_of_rest rest None = refl
first_of_rest rest (Some d) = refl

-- where all is fixed, the step behind the last through last alternatives is owed
pub owed_behind : (t : Shape) (b : ℕ) → b < length t.kinds → length (done_to t (Some b)) ≤ fixed_len t (done_to t (Some b))
    → greatest (next_steps t (done_to t (Some b))) ≡ first_of (forward t (done_to t (Some b)))
owed_behind t b lt all = by_count (length t.kinds) refl
  where
    w : List ℕ
    w = done_to t (Some b)

    by_count : (n : ℕ) → length t.kinds ≡ n → greatest (next_steps t w) ≡ first_of (forward t w)
    by_count zero is = absurd (omega arith)
    by_count (suc n) is =
        let more = length_push (branch_to t b) b in
        let whole : take (fixed_len t w) w ≡ w = take_all w (fixed_len t w) all in
        first_of_rest (λ d. last_path n t (w ++ d ∷ [])) (greatest (next_steps t w))
        ∙ ap (λ k. first_of (last_path k t w)) (sym is)
        ∙ ap (λ v. first_of (last_after t v)) (sym whole)
        ∙ ap (λ c. first_of (if c then [] else last_after t (take (fixed_len t w) w))) (sym (ne_eqb (fixed_len t w) 0 (λ e. omega arith)))
