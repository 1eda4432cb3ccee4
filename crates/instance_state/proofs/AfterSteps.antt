-- After a step took effect, nothing is pending.
use Rattle.std.proofs.lemmas.Bool.{cases_Bool}
use Rattle.std.proofs.Common.{◌≡◌, ⊎_elim, ℕ, ◌+◌, ◌≤◌, max, zero, suc, true, false, List, [], ◌∷◌, ◌++◌, length, drop, Some, sym, ap, ◌∙◌, refl, arith, if◌then◌else◌}
use Rattle.process_tree.specs.Order.{has}
use Rattle.process_tree.specs.Laws.{IsTreeShape}
use Rattle.process_tree.specs.Termination.{IsWellFormed}
use Rattle.process_tree.specs.Shape.{Shape, first_of, fixed_len, goes_on_to, is_whole, least, next_steps}
use Rattle.process_tree.specs.Recovery.{forward}
use Rattle.process_tree.proofs.Branches.{has_here}
use Rattle.process_tree.proofs.Classes.{owed_commits}
use Rattle.process_tree.proofs.Fixed.{fixed_more}
use Rattle.process_tree.proofs.Numbers.{least_is, least_some}
use Rattle.process_tree.proofs.Onward.{branch_from}
use Rattle.process_tree.proofs.TreeLaws.{ends_are_whole, paths_lie_in_order}
use Rattle.machine_model.specs.declared.kept.Work.TheVariants.{Forward}
use Rattle.machine_model.specs.Progress.{Progress, next_task, pending_steps, staying, staying_for, way_on}
use Rattle.machine_model.specs.ProcessState.{ProcessState, effected, next_piece, step_done, work_done}
use Rattle.instance_state.specs.declared.standing.Standing.{Standing}
use Rattle.instance_state.specs.Reached.{NothingPendingAfterStep}
use Rattle.instance_state.specs.Rows.{way_from}
use Rattle.instance_state.specs.Standings.{Keeps, progress_of}
use Rattle.instance_state.proofs.Forward.{next_goes, next_step, on_way, staying-begun, staying-on, staying-whole}
use Rattle.instance_state.proofs.Lists.{length_push}
use Rattle.instance_state.proofs.NextPieces.{kept_is_branch}
use Rattle.instance_state.proofs.NextWays.{way_behind}
use Rattle.instance_state.proofs.Placed.{placed}

none_left : (k : ℕ) (w : List ℕ) → length w ≤ k → drop k w ≡ []
none_left zero [] le = refl
none_left zero (x ∷ w) le = absurd (omega arith)
none_left (suc k) [] le = refl
none_left (suc k) (x ∷ w) le = none_left k w (omega arith)

first_has : (xs : List ℕ) (e : ℕ) → first_of xs ≡ Some e → has e xs ≡ true
first_has [] e is = absurd (cc)
first_has (x ∷ xs) e is = has_here e x xs (cc)

all_stay : (t : Shape) → IsTreeShape t → IsWellFormed t → (s : Standing) → Keeps t s → (next_task (progress_of t s)).work ≡ Forward
    → length ((progress_of t s).net ++ (next_task (progress_of t s)).step ∷ []) ≤ staying (step_done (progress_of t s) (next_task (progress_of t s)).step)
all_stay t tree well s keeps work = ⊎_elim begun not_begun (cases_Bool s.begun)
  where
    p : Progress
    p = progress_of t s

    d : ℕ
    d = (next_task p).step

    w : List ℕ
    w = p.net ++ d ∷ []

    r : Progress
    r = step_done p d

    on : goes_on_to t p.net d ≡ true
    on = next_goes t s keeps d (next_step p work)

    begun : s.begun ≡ true → length w ≤ staying r
    begun yes' =
        let owed = sym (ap (λ b. if b then first_of (forward t p.net) else way_on p) yes') ∙ (next_step p work).is in
        let commits = owed_commits t (paths_lie_in_order t tree) well p.net d (first_has (forward t p.net) d owed) in
        let fixed = fixed_more t p.net d ∙ ap (λ c. if c then length p.net + 1 else fixed_len t p.net) commits in
        let stays = staying-begun r yes' in
        let l = length_push p.net d in
        omega arith

    not_begun : s.begun ≡ false → length w ≤ staying r
    not_begun no' = ⊎_elim (λ whole. let e = staying-whole r no' whole in omega arith) (λ more. by_next (next_steps t w) refl more) (cases_Bool (is_whole t w))
      where
        by_next : (xs : List ℕ) → next_steps t w ≡ xs → is_whole t w ≡ false → length w ≤ staying r
        by_next [] is more = let ends = ends_are_whole t tree p.net d on is in absurd (cc)
        by_next (x ∷ xs) is more =
            let some = least_some x xs in
            let first : least (next_steps t w) ≡ Some some.0 = ap least is ∙ some.1 in
            let later = (on_way p tree d (next_step p work) no').later in
            let bound : d + 1 ≡ max p.onward (d + 1) = omega arith in
            let way : way_from t w r.onward ≡ Some some.0 = sym (ap (way_from t w) bound) ∙ way_behind t tree p.net d some.0 on first in
            let laid = paths_lie_in_order t tree in
            let here = branch_from t w some.0 laid.in_order laid.rising (least_is (next_steps t w) some.0 first).0 in
            let kept = ap length (kept_is_branch t tree w r.onward some.0 way ∙ here) in
            let stays = staying-on r no' more ∙ ap (staying_for r) way in
            omega arith

pub nothing_pending_after_step : NothingPendingAfterStep
nothing_pending_after_step c good s reached work =
    let p = placed c good s reached in
    let q = progress_of c.shape p.at in
    let d = (next_task q).step in
    let forward_is : (next_task q).work ≡ Forward = ap (λ (r : ProcessState). (next_piece r).work) p.state ∙ work in
    sym (ap (λ (r : ProcessState). pending_steps (effected r).progress) p.state)
    ∙ ap (λ k. pending_steps (work_done q d k)) forward_is
    ∙ none_left (staying (step_done q d)) (q.net ++ d ∷ []) (all_stay c.shape good.tree good.well_formed p.at p.keeps forward_is)
