-- The next piece of a process: which step it is of, and where that step goes on.
use Rattle.std.proofs.lemmas.Bool.{cases_Bool}
use Rattle.std.proofs.Common.{◌≡◌, ⊎_elim, subst, ℕ, ◌+◌, ◌<◌, ◌≤◌, max, Bool, true, false, List, [], ◌∷◌, length, take, Option, Some, None, is_none, refl, sym, ap, ◌∙◌, arith, if◌then◌else◌, length-drop, length-take}
use Rattle.std.specs.Option.{IfSome}
use Rattle.process_tree.specs.Laws.{IsTreeShape}
use Rattle.process_tree.specs.Shape.{Shape, branch_to, first_of, fixed_len, goes_on_to, greatest, is_whole, last_of, least, next_steps}
use Rattle.process_tree.specs.Play.{fallback_of}
use Rattle.process_tree.specs.Recovery.{forward}
use Rattle.process_tree.proofs.InTurn.{goes_within, greatest_is, kinds_count}
use Rattle.process_tree.proofs.Every.{Each-weaker}
use Rattle.process_tree.proofs.Fixed.{fixed_le}
use Rattle.process_tree.proofs.Kept.{branch_below, branch_rises, rising_short}
use Rattle.process_tree.proofs.Numbers.{least_same}
use Rattle.process_tree.proofs.Trees.{few_steps}
use Rattle.process_tree.proofs.Onward.{branch_from}
use Rattle.process_tree.proofs.TreeLaws.{paths_lie_in_order}
use Rattle.machine_model.specs.declared.kept.Work.{Work}
use Rattle.machine_model.specs.declared.kept.Work.TheVariants.{Forward, Undo, End}
use Rattle.machine_model.specs.Progress.{Progress, Task, next_forward, next_task, pending_steps, staying, staying_for, step_or_end, undo_or, way_on}
use Rattle.machine_model.specs.ProcessState.{complete_unless_on, completing}
use Rattle.instance_state.specs.declared.standing.Standing.{Standing}
use Rattle.instance_state.specs.Rows.{done_to, way_from}
use Rattle.instance_state.specs.Standings.{Keeps, progress_of}
use Rattle.instance_state.proofs.Lists.{length_push, take_all}
use Rattle.instance_state.proofs.NextPieces.{kept_is_branch, last_pending, owed_behind}
use Rattle.instance_state.proofs.NextWays.{fallback_is_way, is_way, to_way, way_is, ways}

-- Where it stays.

pub way_on-here : (p : Progress) → p.begun ≡ false → is_whole p.shape p.net ≡ false → way_on p ≡ way_from p.shape p.net p.onward
way_on-here p begun whole =
    ap (λ c. if c then None else (if is_whole p.shape p.net then None else way_from p.shape p.net p.onward)) begun
    ∙ ap (λ c. if c then None else way_from p.shape p.net p.onward) whole

pub staying-begun : (p : Progress) → p.begun ≡ true → staying p ≡ fixed_len p.shape p.net
staying-begun p begun = ap (λ c. if c then fixed_len p.shape p.net else (if is_whole p.shape p.net then length p.net else staying_for p (way_on p))) begun

pub staying-whole : (p : Progress) → p.begun ≡ false → is_whole p.shape p.net ≡ true → staying p ≡ length p.net
staying-whole p begun whole =
    ap (λ c. if c then fixed_len p.shape p.net else (if is_whole p.shape p.net then length p.net else staying_for p (way_on p))) begun
    ∙ ap (λ c. if c then length p.net else staying_for p (way_on p)) whole

pub staying-on : (p : Progress) → p.begun ≡ false → is_whole p.shape p.net ≡ false → staying p ≡ staying_for p (way_from p.shape p.net p.onward)
staying-on p begun whole =
    ap (λ c. if c then fixed_len p.shape p.net else (if is_whole p.shape p.net then length p.net else staying_for p (way_on p))) begun
    ∙ ap (λ c. if c then length p.net else staying_for p (way_on p)) whole
    ∙ ap (staying_for p) (way_on-here p begun whole)

-- all that is fixed stays
pub fixed_stays : (p : Progress) → IsTreeShape p.shape → fixed_len p.shape p.net ≤ staying p
fixed_stays p tree =
    ⊎_elim
    (λ begun. let e = staying-begun p begun in omega arith)
    (λ not_begun. ⊎_elim
    (λ whole. let e = staying-whole p not_begun whole in let le = fixed_le p.shape p.net in omega arith)
    (λ not_whole. by_way (way_from p.shape p.net p.onward) refl (staying-on p not_begun not_whole))
    (cases_Bool (is_whole p.shape p.net)))
    (cases_Bool p.begun)
  where
    by_way : (o : Option ℕ) → way_from p.shape p.net p.onward ≡ o → staying p ≡ staying_for p (way_from p.shape p.net p.onward) → fixed_len p.shape p.net ≤ staying p
    by_way None is stays = let e = stays ∙ ap (staying_for p) is in omega arith
    by_way (Some d) is stays =
        let e = stays ∙ ap (staying_for p) is in
        let way = (way_is p.shape p.net p.onward d is).0 in
        let laid = paths_lie_in_order p.shape tree in
        let f = ap length (kept_is_branch p.shape tree p.net p.onward d is ∙ branch_from p.shape (take way.kept p.net) d laid.in_order laid.rising way.goes) in
        let g = length-take way.kept p.net in
        let low = way.fixed in
        let high = way.within in
        omega arith

-- The next piece.

nothing_last : (xs : List ℕ) → last_of xs ≡ None → xs ≡ []
nothing_last [] is = refl
nothing_last (x ∷ []) is = absurd (cc)
nothing_last (x ∷ y ∷ xs) is = let f = nothing_last (y ∷ xs) is in absurd (cc)

-- a step is next: nothing is pending, and it is what is owed first, or the way on
pub record IsNextStep (p : Progress) (d : ℕ) : Type 0 where
  pub nothing : pending_steps p ≡ []
  pub is : (if p.begun then first_of (forward p.shape p.net) else way_on p) ≡ Some d

pub next_step : (p : Progress) → (next_task p).work ≡ Forward → IsNextStep p (next_task p).step
next_step p is = by_last (last_of (pending_steps p)) refl
  where
    chosen : (o : Option ℕ) → (step_or_end o).work ≡ Forward → o ≡ Some (step_or_end o).step
    chosen None f = absurd (cc)
    chosen (Some d) f = refl

    by_last : (o : Option ℕ) → last_of (pending_steps p) ≡ o → IsNextStep p (next_task p).step
    by_last None none =
        let same : next_task p ≡ next_forward p = ap (undo_or (next_forward p)) none in
        record {
          nothing = nothing_last (pending_steps p) none;
          is = chosen (if p.begun then first_of (forward p.shape p.net) else way_on p) (sym (ap (λ (t : Task). t.work) same) ∙ is) ∙ ap Some (sym (ap (λ (t : Task). t.step) same));
        }
    by_last (Some b) some = let f : Undo ≡ Forward = sym (ap (λ o. (undo_or (next_forward p) o).work) some) ∙ is in absurd (cc)

-- a step is undone only behind what is fixed
pub undo_is_free : (p : Progress) → IsTreeShape p.shape → (next_task p).work ≡ Undo → fixed_len p.shape p.net < length p.net
undo_is_free p tree is = by_last (last_of (pending_steps p)) refl
  where
    no_undo : (o : Option ℕ) → (step_or_end o).work ≡ Undo → ⊥
    no_undo None f = cc
    no_undo (Some d) f = cc

    some_left : (xs : List ℕ) (b : ℕ) → last_of xs ≡ Some b → 0 < length xs
    some_left [] b f = absurd (cc)
    some_left (x ∷ xs) b f = omega arith

    by_last : (o : Option ℕ) → last_of (pending_steps p) ≡ o → fixed_len p.shape p.net < length p.net
    by_last None none =
        absurd (no_undo (if p.begun then first_of (forward p.shape p.net) else way_on p) (sym (ap (λ o. (undo_or (next_forward p) o).work) none) ∙ is))
    by_last (Some b) some =
        let low = fixed_stays p tree in
        let left = some_left (pending_steps p) b some in
        let e = length-drop (staying p) p.net in
        omega arith

-- where it hasn't begun to complete, the next step is the way on, and what is done is the branch to it
pub record IsOnWay (p : Progress) (d : ℕ) : Type 0 where
  pub not_whole : is_whole p.shape p.net ≡ false
  pub way : way_from p.shape p.net p.onward ≡ Some d
  pub later : p.onward ≤ d
  pub branch : branch_to p.shape d ≡ p.net
  pub goes : goes_on_to p.shape p.net d ≡ true

pub on_way : (p : Progress) → IsTreeShape p.shape → (d : ℕ) → IsNextStep p d → p.begun ≡ false → IsOnWay p d
on_way p tree d next begun =
    ⊎_elim
    (λ whole. let f = sym chosen ∙ ap (λ c. if c then None else (if is_whole p.shape p.net then None else way_from p.shape p.net p.onward)) begun ∙ ap (λ c. if c then None else way_from p.shape p.net p.onward) whole in absurd (cc))
    (λ not_whole.
    let is = sym (way_on-here p begun not_whole) ∙ chosen in
    let way = (way_is p.shape p.net p.onward d is).0 in
    let laid = paths_lie_in_order p.shape tree in
    let here = branch_from p.shape (take way.kept p.net) d laid.in_order laid.rising way.goes in
    let long = length-take way.kept p.net in
    let kept = ap length (kept_is_branch p.shape tree p.net p.onward d is ∙ here) in
    let stays = staying-on p begun not_whole ∙ ap (staying_for p) is in
    let none = ap length next.nothing in
    let all = length-drop (staying p) p.net in
    let high = way.within in
    let same = take_all p.net way.kept (omega arith) in
    record {
      not_whole = not_whole;
      way = is;
      later = way.above;
      branch = here ∙ same;
      goes = sym (ap (λ w. goes_on_to p.shape w d) same) ∙ way.goes;
    })
    (cases_Bool (is_whole p.shape p.net))
  where
    chosen : way_on p ≡ Some d
    chosen = sym (ap (λ c. if c then first_of (forward p.shape p.net) else way_on p) begun) ∙ next.is

-- the next step goes on from what is done
pub next_goes : (t : Shape) (s : Standing) → Keeps t s → (d : ℕ) → IsNextStep (progress_of t s) d → goes_on_to t (progress_of t s).net d ≡ true
next_goes t s keeps d next =
    ⊎_elim
    (λ begun. by_last s.last refl begun)
    (λ not_begun. (on_way (progress_of t s) keeps.tree d next not_begun).goes)
    (cases_Bool s.begun)
  where
    owed : s.begun ≡ true → first_of (forward t (done_to t s.last)) ≡ Some d
    owed begun = sym (ap (λ c. if c then first_of (forward t (done_to t s.last)) else way_on (progress_of t s)) begun) ∙ next.is

    by_last : (o : Option ℕ) → s.last ≡ o → s.begun ≡ true → goes_on_to t (done_to t s.last) d ≡ true
    by_last None is begun = let f = sym (ap (λ l. first_of (forward t (done_to t l))) is) ∙ owed begun in absurd (cc)
    by_last (Some b) is begun =
        let p = progress_of t s in
        let lt = subst (λ o. IfSome o (λ b. b < length t.kinds)) is keeps.last_is in
        let none = ap length next.nothing in
        let all = length-drop (staying p) p.net in
        let stays = staying-begun p begun in
        let fixed : length (done_to t (Some b)) ≤ fixed_len t (done_to t (Some b)) = subst (λ o. length (done_to t o) ≤ fixed_len t (done_to t o)) is (omega arith) in
        let first : greatest (next_steps t (done_to t (Some b))) ≡ Some d = owed_behind t b lt fixed ∙ sym (ap (λ l. first_of (forward t (done_to t l))) is) ∙ owed begun in
        ap (λ l. goes_on_to t (done_to t l) d) is ∙ greatest_is (next_steps t (done_to t (Some b))) d first

-- without a way on it begins to complete
pub completes : (q : Progress) (none : Bool) → q.begun ≡ false → is_none (way_on q) ≡ none
    → ◌≡◌ {A = Progress} (record { shape = q.shape; net = q.net; onward = q.onward; begun = none }) (complete_unless_on q)
completes q true begun is = sym (ap (λ c. if c then completing q else q) is)
completes q false begun is = ap (λ b. record { shape = q.shape; net = q.net; onward = q.onward; begun = b }) (sym begun) ∙ sym (ap (λ c. if c then completing q else q) is)

-- past a refused step, the way on is where its fallback leads
pub way_past_refused : (p : Progress) (d : ℕ) → IsOnWay p d → (other : Option ℕ) → other ≡ fallback_of p.shape (branch_to p.shape d) d → (bound : ℕ) → bound ≡ max p.onward (d + 1)
    → other ≡ way_from p.shape p.net bound
way_past_refused p d on other is bound bound_is =
    let later = on.later in
    is ∙ sym (fallback_is_way p.shape (branch_to p.shape d) d) ∙ ap (λ w. way_from p.shape w (d + 1)) on.branch ∙ ap (way_from p.shape p.net) (omega arith)

-- Bounds.

-- at the start the first step is the way on
pub first_way : (t : Shape) → way_from t [] 0 ≡ least (next_steps t [])
first_way t =
    least_same (ways t [] 0) (next_steps t [])
    (λ e on. let way = is_way t [] 0 e on in sym (ap (λ w. goes_on_to t w e) (take_all [] way.kept (omega arith))) ∙ way.goes)
    (λ e on. to_way t [] 0 e (record { kept = 0; fixed = omega arith; within = omega arith; goes = on; above = omega arith }))

-- the next piece, unless it is the end, is of a step of the process
pub next_within : (t : Shape) (s : Standing) → Keeps t s → ((next_task (progress_of t s)).work ≡ End → ⊥) → (next_task (progress_of t s)).step < length t.kinds
next_within t s keeps no_end = by_work (next_task p).work refl
  where
    p : Progress
    p = progress_of t s

    by_last : (o : Option ℕ) → s.last ≡ o → (next_task p).work ≡ Undo → (next_task p).step < length t.kinds
    by_last None is undo =
        let free = undo_is_free p keeps.tree undo in
        let none = ap (λ l. length (done_to t l)) is in
        absurd (omega arith)
    by_last (Some b) is undo = by_pending (last_of (pending_steps p)) refl
      where
        no_undo : (o : Option ℕ) → (step_or_end o).work ≡ Undo → ⊥
        no_undo None f = cc
        no_undo (Some d) f = cc

        some_left : (xs : List ℕ) (d : ℕ) → last_of xs ≡ Some d → length xs ≡ 0 → ⊥
        some_left [] d f e = cc
        some_left (x ∷ xs) d f e = omega arith

        by_pending : (o : Option ℕ) → last_of (pending_steps p) ≡ o → (next_task p).step < length t.kinds
        by_pending None none =
            absurd (no_undo (if p.begun then first_of (forward p.shape p.net) else way_on p) (sym (ap (λ o. (undo_or (next_forward p) o).work) none) ∙ undo))
        by_pending (Some d) some =
            let last = last_pending t s.last b (staying p) is (some_left (pending_steps p) d some) in
            let step : (next_task p).step ≡ b = ap (λ o. (undo_or (next_forward p) o).step) last in
            let lt = subst (λ o. IfSome o (λ b. b < length t.kinds)) is keeps.last_is in
            omega arith

    by_work : (w : Work) → (next_task p).work ≡ w → (next_task p).step < length t.kinds
    by_work Forward is = goes_within t (length t.kinds) p.net (next_task p).step (paths_lie_in_order t keeps.tree).within (next_goes t s keeps (next_task p).step (next_step p is))
    by_work Undo is = by_last s.last refl is
    by_work End is = absurd (no_end is)

-- a tree has few steps, and no more of them are done
pub few_done : (t : Shape) (s : Standing) → Keeps t s → length (done_to t s.last) ≤ 256
few_done t s keeps = by_last s.last refl
  where
    few : length t.kinds ≤ 256
    few = let e = ap (λ u. length u.kinds) keeps.tree.is in let k = kinds_count keeps.tree.root in let f = few_steps keeps.tree.root keeps.tree.good in omega arith

    by_last : (o : Option ℕ) → s.last ≡ o → length (done_to t s.last) ≤ 256
    by_last None is = let e = ap (λ l. length (done_to t l)) is in omega arith
    by_last (Some b) is =
        let e = ap (λ l. length (done_to t l)) is in
        let l = length_push (branch_to t b) b in
        let lt = subst (λ o. IfSome o (λ b. b < length t.kinds)) is keeps.last_is in
        let laid = paths_lie_in_order t keeps.tree in
        let bound = few in
        let short = rising_short 0 b (branch_to t b) (omega arith) (Each-weaker (λ x. x < b) (λ x. 0 ≤ x) (λ x h. omega arith) (branch_to t b) (branch_below t b laid.rising)) (branch_below t b laid.rising) (branch_rises t b laid.rising) in
        omega arith

pub few_pending : (t : Shape) (s : Standing) → Keeps t s → length (pending_steps (progress_of t s)) ≤ 256
few_pending t s keeps = let few = few_done t s keeps in let e = length-drop (staying (progress_of t s)) (done_to t s.last) in omega arith
