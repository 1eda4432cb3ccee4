-- The way on once a step behind the last commit point is undone: ways that left from behind it are passed over.
use Rattle.std.proofs.Common.{◌≡◌, subst, ℕ, ◌+◌, ◌-◌, ◌<◌, ◌≤◌, List, length, take, Option, Some, None, sym, ap, ◌∙◌, arith, length-take}
use Rattle.process_tree.specs.Laws.{IsTreeShape}
use Rattle.process_tree.specs.Shape.{Shape, branch_to, fixed_len}
use Rattle.process_tree.specs.Play.{fallback_of}
use Rattle.process_tree.proofs.Onward.{branch_from}
use Rattle.process_tree.proofs.TreeLaws.{paths_lie_in_order}
use Rattle.instance_state.specs.Rows.{done_to, way_from}
use Rattle.instance_state.specs.Standings.{left_from}
use Rattle.instance_state.proofs.Lists.{length_push, take_all}
use Rattle.instance_state.proofs.NextPieces.{way_within}
use Rattle.instance_state.proofs.NextWays.{IsWay, fallback_is_way, no_way, none_way, same_way, way_is, way_leaves, way_of, way_stays}

-- this is the way on from a bound on with b done, and from there on there is the same without b as from the first bound on
pub record PassedOver (t : Shape) (b bound : ℕ) (way : Option ℕ) : Type 0 where
  pub bar : ℕ
  pub is : way ≡ way_from t (done_to t (Some b)) bar
  pub same : way_from t (branch_to t b) bar ≡ way_from t (branch_to t b) bound

-- the branch to a way is as long as what is kept for it
kept_long : (t : Shape) → IsTreeShape t → (w : List ℕ) (bound d : ℕ) → (way : IsWay t w bound d) → length (branch_to t d) ≡ way.kept
kept_long t tree w bound d way =
    let laid = paths_lie_in_order t tree in
    let le = way.within in
    let e = ap length (branch_from t (take way.kept w) d laid.in_order laid.rising way.goes) in
    let f = length-take way.kept w in
    omega arith

pub no_way_left : (t : Shape) (b bound : ℕ) → fixed_len t (done_to t (Some b)) ≡ fixed_len t (branch_to t b) → (way : Option ℕ) → PassedOver t b bound way → way ≡ None
    → None ≡ way_from t (branch_to t b) bound
no_way_left t b bound free way over none =
    sym (no_way t (branch_to t b) over.bar (λ e one. none_way t (done_to t (Some b)) over.bar (sym over.is ∙ none) e (way_stays t (branch_to t b) b over.bar e free one)))
    ∙ over.same

pub way_left : (t : Shape) → IsTreeShape t → (b bound : ℕ) → fixed_len t (done_to t (Some b)) ≡ fixed_len t (branch_to t b) → (way : Option ℕ) → PassedOver t b bound way
    → (d : ℕ) → way ≡ Some d → length (done_to t (Some d)) ≤ length (done_to t (Some b)) → way ≡ way_from t (branch_to t b) bound
way_left t tree b bound free way over d is short =
    let w = done_to t (Some b) in
    let v = branch_to t b in
    let first = way_is t w over.bar d (sym over.is ∙ is) in
    let long = kept_long t tree w over.bar d first.0 in
    let m = length_push v b in
    let n = length_push (branch_to t d) d in
    is ∙ sym (way_of t v over.bar d (way_leaves t v b over.bar d free first.0 (omega arith)) (λ e one. first.1 e (way_stays t v b over.bar e free one)))
    ∙ over.same

pub passed_over : (t : Shape) → IsTreeShape t → (b bound : ℕ) → fixed_len t (done_to t (Some b)) ≡ fixed_len t (branch_to t b) → (way : Option ℕ) → PassedOver t b bound way
    → (d : ℕ) → way ≡ Some d → length (done_to t (Some b)) < length (done_to t (Some d)) → (other : Option ℕ) → other ≡ fallback_of t (branch_to t d) d → PassedOver t b bound other
passed_over t tree b bound free way over d is long other fall =
    let laid = paths_lie_in_order t tree in
    let w = done_to t (Some b) in
    let v = branch_to t b in
    let first = way_is t w over.bar d (sym over.is ∙ is) in
    let kept = kept_long t tree w over.bar d first.0 in
    let high = first.0.within in
    let above = first.0.above in
    let m = length_push v b in
    let n = length_push (branch_to t d) d in
    let here : branch_to t d ≡ w =
    branch_from t (take first.0.kept w) d laid.in_order laid.rising first.0.goes ∙ take_all w first.0.kept (omega arith) in
    record {
      bar = d + 1;
      is = fall ∙ ap (λ u. fallback_of t u d) here ∙ sym (fallback_is_way t w d);
      same =
          same_way t v v (d + 1) over.bar
          (λ e one. let up = one.above in record { kept = one.kept; fixed = one.fixed; within = one.within; goes = one.goes; above = omega arith })
          (λ e one.
          let le = first.1 e (way_stays t v b over.bar e free one) in
          let short = kept_long t tree v over.bar e one in
          let low = one.within in
          record {
            kept = one.kept;
            fixed = one.fixed;
            within = one.within;
            goes = one.goes;
            above = above_it d e le (λ same. let f = ap (λ x. length (branch_to t x)) same in omega arith);
          })
          ∙ over.same;
    }
  where
    above_it : (d e : ℕ) → d ≤ e → (d ≡ e → ⊥) → d + 1 ≤ e
    above_it d e le apart = omega arith

-- each way passed over is later
pub fewer_left : (t : Shape) → IsTreeShape t → (b bound : ℕ) (way : Option ℕ) → PassedOver t b bound way → (d : ℕ) → way ≡ Some d → (other : Option ℕ)
    → other ≡ fallback_of t (branch_to t d) d → left_from (length t.kinds) other < left_from (length t.kinds) way
fewer_left t tree b bound way over d is None fall =
    let lt = way_within t tree (done_to t (Some b)) over.bar d (sym over.is ∙ is) in
    subst (λ o. 0 < left_from (length t.kinds) o) (sym is) (omega arith)
fewer_left t tree b bound way over d is (Some e) fall =
    let lt = way_within t tree (done_to t (Some b)) over.bar d (sym over.is ∙ is) in
    let next : way_from t (branch_to t d) (d + 1) ≡ Some e = fallback_is_way t (branch_to t d) d ∙ sym fall in
    let more = way_within t tree (branch_to t d) (d + 1) e next in
    let up = (way_is t (branch_to t d) (d + 1) e next).0.above in
    subst (λ o. length t.kinds - e < left_from (length t.kinds) o) (sym is) (omega arith)
