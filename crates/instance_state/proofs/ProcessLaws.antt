-- The laws of one process, as they are stated.
use Rattle.std.proofs.Common.{◌≡◌, ⊎_elim, subst, ℕ, ◌<◌, ◌≤◌, zero, suc, Bool, true, false, List, [], ◌∷◌, ◌++◌, length, take, Option, Some, None, refl, sym, ap, ◌∙◌, arith, nat_lt, if◌then◌else◌}
use Rattle.process_tree.specs.Shape.{Shape, branch_to, first_of, fixed_len, goes_on_to, greater, greatest, is_whole, next_steps, last_after, last_path, with_rest}
use Rattle.process_tree.specs.Recovery.{forward}
use Rattle.process_tree.specs.Order.{has}
use Rattle.process_tree.proofs.Branches.{has_here}
use Rattle.process_tree.proofs.TreeLaws.{next_steps_have_a_class, owed_steps_are_not_refused}
use Rattle.machine_model.specs.Progress.{Progress, next_task, staying, way_on}
use Rattle.machine_model.specs.ProcessState.{ProcessState}
use Rattle.std.specs.Option.{IfSome}
use Rattle.std.proofs.lemmas.Bool.{cases_lt, ne_eqb}
use Rattle.process_tree.specs.Laws.{IsTreeShape}
use Rattle.process_tree.proofs.InTurn.{goes_within, greatest_is}
use Rattle.process_tree.proofs.Fixed.{fixed_le}
use Rattle.process_tree.proofs.TreeLaws.{each_step_has_a_path, ends_are_whole, paths_lie_in_order}
use Rattle.instance_state.specs.Rows.{done_to, way_from}
use Rattle.instance_state.proofs.Lists.{split_at, take_all}
use Rattle.instance_state.proofs.NextWays.{none_way}
use Rattle.instance_state.proofs.Forward.{way_on-here}
use Rattle.instance_state.proofs.OwedAbove.{goes_at}
use Rattle.instance_state.specs.Reached.{BegunIsNotRefused, CommittedHasWayOn, OwedIsAbove, PendingCanBeUndone, ReservedUsesNoOutcome}
use Rattle.instance_state.specs.Standings.{progress_of}
use Rattle.instance_state.proofs.Forward.{fixed_stays, next_step}
use Rattle.instance_state.proofs.Placed.{placed}

pub pending_can_be_undone : PendingCanBeUndone
pending_can_be_undone c good s reached =
    let p = placed c good s reached in
    subst (λ (q : ProcessState). fixed_len q.progress.shape q.progress.net ≤ staying q.progress) p.state (fixed_stays (progress_of c.shape p.at) good.tree)

pub owed_is_above : OwedIsAbove
owed_is_above c good s reached =
    let p = placed c good s reached in
    subst (λ (q : ProcessState). (d : ℕ) → first_of (forward q.progress.shape q.progress.net) ≡ Some d → q.progress.onward ≤ d) p.state p.below

first_has : (xs : List ℕ) (e : ℕ) → first_of xs ≡ Some e → has e xs ≡ true
first_has [] e is = absurd (cc)
first_has (x ∷ xs) e is = has_here e x xs (cc)

pub begun_is_not_refused : BegunIsNotRefused
begun_is_not_refused c good s reached begun work =
    let p = placed c good s reached in
    let next = next_step s.progress work in
    let d = (next_task s.progress).step in
    let owed = sym (ap (λ b. if b then first_of (forward s.progress.shape s.progress.net) else way_on s.progress) begun) ∙ next.is in
    let same : s.progress.shape ≡ c.shape = sym (ap (λ (q : ProcessState). q.progress.shape) p.state) in
    owed_steps_are_not_refused c.shape good.tree good.well_formed s.progress.net d
    (subst (λ t. has d (forward t s.progress.net) ≡ true) same (first_has (forward s.progress.shape s.progress.net) d owed))

pub reserved_uses_no_outcome : ReservedUsesNoOutcome
reserved_uses_no_outcome t tree well w d on class = (next_steps_have_a_class t tree well w d on).reserved_is_not_refused class

-- the greatest of a list with something on it
greatest_some : (x : ℕ) (xs : List ℕ) → (d : ℕ) × (greatest (x ∷ xs) ≡ Some d)
greatest_some x xs = by_rest (greatest xs) refl
  where
    by_lt : (y : ℕ) (c : Bool) → (d : ℕ) × ((if c then Some x else Some y) ≡ Some d)
    by_lt y true = (x, refl)
    by_lt y false = (y, refl)

    by_rest : (o : Option ℕ) → greatest xs ≡ o → (d : ℕ) × (greatest (x ∷ xs) ≡ Some d)
    by_rest None is = (x, ap (greater x) is)
    by_rest (Some y) is = let one = by_lt y (nat_lt y x) in (one.0, ap (greater x) is ∙ one.1)

-- unless a whole path is done, something goes on from what is fixed
some_way : (t : Shape) → IsTreeShape t → (last : Option ℕ) → IfSome last (λ b. b < length t.kinds) → 0 < fixed_len t (done_to t last) → is_whole t (done_to t last) ≡ false
    → (d : ℕ) × (greatest (next_steps t (take (fixed_len t (done_to t last)) (done_to t last))) ≡ Some d)
some_way t tree None within some whole = absurd (omega arith)
some_way t tree (Some b) within some whole = by_next (next_steps t w) refl
  where
    w : List ℕ
    w = done_to t (Some b)

    f : ℕ
    f = fixed_len t w

    from : (e : ℕ) (xs : List ℕ) → has e xs ≡ true → (d : ℕ) × (greatest xs ≡ Some d)
    from e [] on = absurd (cc)
    from e (x ∷ xs) on = greatest_some x xs

    by_next : (xs : List ℕ) → next_steps t w ≡ xs → (d : ℕ) × (greatest (next_steps t (take f w)) ≡ Some d)
    by_next [] is = let ends = ends_are_whole t tree (branch_to t b) b (each_step_has_a_path t tree b within) is in absurd (cc)
    by_next (x ∷ xs) is =
        let on : goes_on_to t w x ≡ true = ap (has x) is ∙ has_here x x xs refl in
        ⊎_elim
        (λ lt. let s = split_at f w lt in from s.here (next_steps t (take f w)) (goes_at t w x f on s))
        (λ le. from x (next_steps t (take f w)) (ap (λ v. goes_on_to t v x) (take_all w f le) ∙ on))
        (cases_lt f (length w))

-- the last way from what is fixed is owed first
last_is_owed : (t : Shape) → IsTreeShape t → (w : List ℕ) (e : ℕ) → 0 < fixed_len t w → greatest (next_steps t (take (fixed_len t w) w)) ≡ Some e → first_of (forward t w) ≡ Some e
last_is_owed t tree w e some last =
    ap (λ c. first_of (if c then [] else last_after t u)) (ne_eqb (fixed_len t w) 0 (λ z. omega arith)) ∙ by_count (length t.kinds) refl
  where
    u : List ℕ
    u = take (fixed_len t w) w

    first_rest : (rest : ℕ → List ℕ) (o : Option ℕ) → first_of (with_rest rest o) ≡ o
    first_rest rest None = refl
    first_rest rest (Some d) = refl

    within : e < length t.kinds
    within = goes_within t (length t.kinds) u e (paths_lie_in_order t tree).within (greatest_is (next_steps t u) e last)

    by_count : (n : ℕ) → length t.kinds ≡ n → first_of (last_path (length t.kinds) t u) ≡ Some e
    by_count zero is = let lt = within in absurd (omega arith)
    by_count (suc n) is = ap (λ k. first_of (last_path k t u)) is ∙ first_rest (λ d. last_path n t (u ++ d ∷ [])) (greatest (next_steps t u)) ∙ last

pub committed_has_way_on : CommittedHasWayOn
committed_has_way_on c good s reached some begun whole none =
    let p = placed c good s reached in
    let q = progress_of c.shape p.at in
    let same = ap (λ (r : ProcessState). r.progress) p.state in
    let not_whole : is_whole q.shape q.net ≡ false = ap (λ (r : Progress). is_whole r.shape r.net) same ∙ whole in
    let not_begun : q.begun ≡ false = ap (λ (r : Progress). r.begun) same ∙ begun in
    let fixed : 0 < fixed_len q.shape q.net = subst (λ (r : Progress). 0 < fixed_len r.shape r.net) (sym same) some in
    let way = some_way c.shape good.tree p.at.last p.keeps.last_is fixed not_whole in
    let no_way : way_from q.shape q.net q.onward ≡ None = sym (way_on-here q not_begun not_whole) ∙ ap way_on same ∙ none in
    none_way q.shape q.net q.onward no_way way.0
    (record {
      kept = fixed_len q.shape q.net;
      fixed = omega arith;
      within = fixed_le q.shape q.net;
      goes = greatest_is (next_steps q.shape (take (fixed_len q.shape q.net) q.net)) way.0 way.1;
      above = p.below way.0 (last_is_owed c.shape good.tree q.net way.0 fixed way.1);
    })
