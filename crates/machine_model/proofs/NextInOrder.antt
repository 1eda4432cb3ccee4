-- The next piece of an active process keeps own order.
use Rattle.std.proofs.Common.{◌≡◌, inl, inr, ℕ, ◌+◌, ◌-◌, ◌≤◌, Bool, true, false, if◌then◌else◌, eqb, ltb, leb, ◌&&◌, List, [], ◌∷◌, ◌++◌, length, take, drop, map, filter, flat_map, Option, Some, None, sym, refl, ap, subst, ◌∙◌, add-one, arith}
use Rattle.std.specs.Bool.{IsTrue}
use Rattle.std.specs.List.{list_any, list_all}
use Rattle.std.proofs.lemmas.Option.{none-some}
use Rattle.std.proofs.lemmas.Bool.{and_parts, and_from, or_left, le-leb, false≢true}
use Rattle.std.proofs.lemmas.List.{length-take}
use Rattle.std.proofs.lemmas.List.Folds.{list_all-append}
use Rattle.process_tree.proofs.Entries.{access-same}
use Rattle.process_tree.specs.Conflicts.{same_access}
use Rattle.process_tree.specs.Blocks.{numbers_from}
use Rattle.process_tree.specs.Shape.{Shape, first_of, fixed_len, goes_on_to, is_end, is_whole, last_of, least, next_steps, IsBranch}
use Rattle.process_tree.specs.Play.{kept_prefixes, kept_for}
use Rattle.process_tree.specs.Recovery.{forward}
use Rattle.process_tree.proofs.Numbers.{least_some}
use Rattle.process_tree.specs.declared.plan.Plan.{Plan}
use Rattle.schedule_model.specs.Course.{Course, courses_of, shape, access_at}
use Rattle.schedule_model.specs.Conflict.{no_conflict}
use Rattle.schedule_model.specs.Histories.{doing, done_steps, is_active, is_in, net, net_of, net_steps, undoing}
use Rattle.schedule_model.specs.Laws.{AreGood}
use Rattle.schedule_model.specs.Legal.{is_legal}
use Rattle.schedule_model.specs.OwnOrder.{goes_on, is_at_end, is_of_last, keeps_order}
use Rattle.schedule_model.specs.Recovery.{owed_steps, backward_entries}
use Rattle.schedule_model.proofs.Active.{is_in-filter}
use Rattle.schedule_model.proofs.GoodPlans.{good_if_goes_on}
use Rattle.schedule_model.proofs.NetPaths.{net-branch, done-below_owed}
use Rattle.schedule_model.proofs.OwedPaths.{first_owed, at_end, take_all}
use Rattle.machine_model.specs.declared.kept.Work.TheVariants.{Forward, Undo, End}
use Rattle.machine_model.specs.Progress.{Progress, Task, next_forward, pending_steps, staying, staying_for, step_or_end, undo_or, way_on}
use Rattle.machine_model.specs.Moment.{Moment}
use Rattle.machine_model.specs.State.{next_of, progress, refused_steps}
use Rattle.machine_model.specs.Advance.{event_by}
use Rattle.machine_model.specs.PieceLaws.{with_begun}
use Rattle.machine_model.proofs.LastElements.{all_pass}
use Rattle.machine_model.proofs.WaysOn.{below_bound, is_in-flat, staying-least, undo_of_last, way_on-is}

pub last_none : (xs : List ℕ) → last_of xs ≡ None → xs ≡ []
last_none [] is = refl
last_none (x ∷ []) is = absurd (none-some x (sym is))
last_none (x ∷ y ∷ xs) is = absurd (some_last y xs is)
  where
    some_last : (y : ℕ) (xs : List ℕ) → last_of (y ∷ xs) ≡ None → ⊥
    some_last y [] e = none-some y (sym e)
    some_last y (z ∷ zs) e = some_last z zs e

no_least : (xs : List ℕ) (d : ℕ) → is_in d xs ≡ true → least xs ≡ None → ⊥
no_least [] d among is = false≢true among
no_least (x ∷ xs) d among is = let some = least_some x xs in none-some some.0 (sym is ∙ some.1)

whole_end : (t : Shape) (w : List ℕ) → is_whole t w ≡ true → is_end t w ≡ true
whole_end t [] whole = refl
whole_end t (b ∷ w) whole = whole

first_numbers : (p : ℕ → Bool) (f : ℕ → List ℕ) (q : List ℕ → Bool) (lo n : ℕ) → q (f lo) ≡ true → list_any q (map f (numbers_from lo (n + 1))) ≡ true
first_numbers p f q lo n is = ap (λ k. list_any q (map f (numbers_from lo k))) (add-one n) ∙ or_left (q (f lo)) (list_any q (map f (numbers_from (lo + 1) n))) is

-- The first step that a process owes is at the bound of its ways on or above.
abbrev pub OwedIsAhead : Progress → Type 0
OwedIsAhead s = (b : ℕ) (rest : List ℕ) → forward s.shape s.net ≡ b ∷ rest → s.onward ≤ b

-- so it has a way on, where it owes something
owed_way_on : (s : Progress) (b : ℕ) (rest : List ℕ) → forward s.shape s.net ≡ b ∷ rest → s.onward ≤ b
    → least (filter (λ d. leb s.onward d) (flat_map (next_steps s.shape) (kept_prefixes s.shape s.net))) ≡ None → ⊥
owed_way_on s b rest owes ahead none =
    let first = first_owed s.shape s.net b rest owes in
    let among = is_in-flat b (next_steps s.shape) (kept_prefixes s.shape s.net)
    ∙ first_numbers (λ k. true) (λ k. take k s.net) (λ v. goes_on_to s.shape v b) (fixed_len s.shape s.net) (length s.net - fixed_len s.shape s.net) first.on in
    no_least (filter (λ d. leb s.onward d) (flat_map (next_steps s.shape) (kept_prefixes s.shape s.net))) b
    (is_in-filter (λ d. leb s.onward d) b (flat_map (next_steps s.shape) (kept_prefixes s.shape s.net)) ∙ and_from (is_in b (flat_map (next_steps s.shape) (kept_prefixes s.shape s.net))) (leb s.onward b) among (le-leb s.onward b ahead)) none

module _ (plans : List Plan) (good : AreGood plans) (m : Moment) (legal : IsTrue (is_legal no_conflict (courses_of plans) m.events)) (i : ℕ) (ahead : OwedIsAhead (progress (courses_of plans) m i)) where
  abbrev cs : List Course
  cs = courses_of plans

  abbrev t : Shape
  t = shape (courses_of plans) i

  abbrev w : List ℕ
  w = net_steps m.events i

  abbrev s : Progress
  s = progress (courses_of plans) m i

  -- the task keeps own order
  abbrev Keeps : Task → Type 0
  Keeps x = keeps_order cs m.events (event_by cs i x.step x.work) ≡ true

  active_op : is_active m.events i ≡ true → (b : ℕ) → (is_active m.events i && same_access (access_at cs i b) (access_at cs i b)) ≡ true
  active_op active' b = and_from (is_active m.events i) (same_access (access_at cs i b) (access_at cs i b)) active' (access-same (access_at cs i b) (access_at cs i b) refl)

  undo_keeps : is_active m.events i ≡ true → (b : ℕ) → last_of (pending_steps s) ≡ Some b → Keeps (record { work = Undo; step = b })
  undo_keeps active' b last = and_from (is_active m.events i && same_access (access_at cs i b) (access_at cs i b)) (is_of_last (backward_entries cs m.events i) (undoing (doing cs i b))) (active_op active' b)
      (undo_of_last cs i b (staying s) (fixed_len t w) (net_of m.events i) (all_pass (λ e. eqb e.process i) (net m.events)) (staying-least s) last)

  step_keeps : is_active m.events i ≡ true → (d : ℕ) → goes_on_to t w d ≡ true → list_all (λ x. ltb x d) (done_steps m.events i) ≡ true → Keeps (record { work = Forward; step = d })
  step_keeps active' d on above = and_from (is_active m.events i && same_access (access_at cs i d) (access_at cs i d)) (goes_on cs m.events i d) (active_op active' d) (and_from (goes_on_to t w d) (list_all (λ x. ltb x d) (done_steps m.events i)) on above)

  end_keeps : is_active m.events i ≡ true → is_end t w ≡ true → Keeps (record { work = End; step = 0 })
  end_keeps active' at = and_from (is_active m.events i) (is_at_end cs m.events i) active' at

  -- with nothing to undo and nothing owed it is at an end
  ended : (v : List ℕ) → v ≡ w → IsBranch t v → drop (fixed_len t v) v ≡ [] → forward t v ≡ [] → is_end t v ≡ true
  ended v same (inl none) fixed owes = ap (is_end t) none
  ended v same (inr is) fixed owes =
      let plan = good_if_goes_on plans i is.0 is.1 good is.3 in
      ap (is_end t) is.2 ∙ at_end t plan.tree is.0 is.1 is.3 (sym (ap (λ x. drop (fixed_len t x) x) is.2) ∙ fixed) (sym (ap (forward t) is.2) ∙ owes)

  -- where it has begun to complete
  owed_keeps : is_active m.events i ≡ true → drop (fixed_len t w) w ≡ [] → (bs : List ℕ) → owed_steps cs m.events i ≡ bs → Keeps (step_or_end (first_of bs))
  owed_keeps active' none [] owes = end_keeps active' (ended w refl (net-branch cs i m.events legal) none owes)
  owed_keeps active' none (b ∷ rest) owes =
      let on : goes_on_to t w b ≡ true = sym (ap (λ v. goes_on_to t v b) (take_all w (fixed_len t w) none)) ∙ (first_owed t w b rest owes).on in
      step_keeps active' b on (done-below_owed plans good i m.events legal b rest owes)

  -- where it has a way on from its whole net
  way_keeps : is_active m.events i ≡ true → (d : ℕ) → way_on s ≡ Some d → drop (length (kept_for t w d)) w ≡ [] → Keeps (record { work = Forward; step = d })
  way_keeps active' d is none =
      let way = way_on-is s d is in
      let whole : kept_for t w d ≡ w = way.from.is ∙ take_all w way.from.count (sym (ap (λ n. drop n w) (taken way.from.count way.from.within way.from.is)) ∙ none) in
      step_keeps active' d (sym (ap (λ v. goes_on_to t v d) whole) ∙ way.on)
      (and_parts (list_all (λ x. ltb x d) (done_steps m.events i)) (list_all (λ x. ltb x d) (refused_steps cs m i))
      (sym (list_all-append (λ x. ltb x d) (done_steps m.events i) (refused_steps cs m i)) ∙ below_bound (done_steps m.events i ++ refused_steps cs m i) d way.bound)).0
    where
      taken : (n : ℕ) → n ≤ length w → kept_for t w d ≡ take n w → length (kept_for t w d) ≡ n
      taken n within is = let l = length-take n w in let e = ap length is in omega arith

  -- where there is no way on and it isn't at a whole path, it owes nothing
  no_way : s.begun ≡ false → is_whole t w ≡ false → way_on s ≡ None → drop (fixed_len t w) w ≡ [] → (bs : List ℕ) → forward t w ≡ bs → is_end t w ≡ true
  no_way fresh whole none fixed [] owes = ended w refl (net-branch cs i m.events legal) fixed owes
  no_way fresh whole none fixed (b ∷ rest) owes =
      absurd (owed_way_on s b rest owes (ahead b rest owes)
      (sym (ap (λ x. if x then None else (if is_whole t w then None else least (filter (λ d. leb s.onward d) (flat_map (next_steps t) (kept_prefixes t w))))) fresh
      ∙ ap (λ x. if x then None else least (filter (λ d. leb s.onward d) (flat_map (next_steps t) (kept_prefixes t w)))) whole) ∙ none))

  by_way : is_active m.events i ≡ true → s.begun ≡ false → is_whole t w ≡ false → (o : Option ℕ) → way_on s ≡ o → drop (staying_for s o) w ≡ [] → Keeps (step_or_end o)
  by_way active' fresh whole (Some d) is none = way_keeps active' d is none
  by_way active' fresh whole None is none = end_keeps active' (no_way fresh whole is none (forward t w) refl)

  -- nothing is pending, by whether it has begun and is at a whole path
  by_stand : is_active m.events i ≡ true → (b whole : Bool) → s.begun ≡ b → is_whole t w ≡ whole
      → drop (if b then fixed_len t w else (if whole then length w else staying_for s (way_on s))) w ≡ []
      → Keeps (step_or_end (if b then first_of (forward t w) else (if b then None else (if whole then None else way_on s))))
  by_stand active' true whole begun' at none = owed_keeps active' none (forward t w) refl
  by_stand active' false true begun' at none = end_keeps active' (whole_end t w at)
  by_stand active' false false begun' at none = by_way active' begun' at (way_on s) refl none

  forward_is : next_forward s ≡ step_or_end (if s.begun then first_of (forward t w) else (if s.begun then None else (if is_whole t w then None else way_on s)))
  forward_is = by_cases s.begun (is_whole t w) refl refl
    where
      by_cases : (b whole : Bool) → s.begun ≡ b → is_whole t w ≡ whole → next_forward s ≡ step_or_end (if b then first_of (forward t w) else (if b then None else (if whole then None else way_on s)))
      by_cases true whole is at = ap (λ x. next_forward (with_begun x s)) is
      by_cases false true is at = ap (λ x. next_forward (with_begun x s)) is ∙ ap (λ x. step_or_end (if x then None else least (filter (λ d. leb s.onward d) (flat_map (next_steps t) (kept_prefixes t w))))) at
      by_cases false false is at = ap (λ x. step_or_end (if x then first_of (forward t w) else way_on s)) is

  by_pending : is_active m.events i ≡ true → (o : Option ℕ) → last_of (pending_steps s) ≡ o → Keeps (undo_or (next_forward s) o)
  by_pending active' (Some b) last = undo_keeps active' b last
  by_pending active' None last = subst Keeps (sym forward_is) (by_stand active' s.begun (is_whole t w) refl refl (last_none (pending_steps s) last))

  -- the next piece of an active process keeps own order
  pub next_keeps : is_active m.events i ≡ true → let x = next_of cs m i in keeps_order cs m.events (event_by cs i x.step x.work) ≡ true
  next_keeps active' = by_pending active' (last_of (pending_steps s)) refl
