-- How many pieces may be queued: of a process at most one runs, and at most one was dropped.
use Rattle.std.proofs.Common.{◌≡◌, ◌∙◌, ◌≤◌, ◌+◌, ◌*◌, eqb, ℕ, Bool, true, false, not, cond, ◌||◌, List, [], ◌∷◌, length, filter, find, Option, Some, None, is_some, refl, sym, ap, subst, arith}
use Rattle.std.specs.List.{list_any}
use Rattle.std.proofs.lemmas.Bool.{eqb-true, eq-eqb, or_parts, false≢true}
use Rattle.std.proofs.lemmas.Option.{none-some, same_Some}
use Rattle.std.proofs.lemmas.List.{length-map}
use Rattle.process_tree.specs.Order.{Each}
use Rattle.process_tree.proofs.Every.{Each-both, Each-weaker}
use Rattle.schedule_model.specs.Histories.{active, is_in}
use Rattle.schedule_model.specs.Limits.{most_active}
use Rattle.machine_model.specs.declared.replies.PieceState.{PieceState}
use Rattle.machine_model.specs.declared.replies.PieceState.TheVariants.{Out, Dropped, Over}
use Rattle.machine_model.specs.Moment.{Lost, Moment, Piece}
use Rattle.machine_model.specs.Pieces.{dropped_at, dropped_or_over, event_of_lost, is_finished, piece_of, running_of, runs, state_of}
use Rattle.machine_model.specs.Replies.{Handed}
use Rattle.machine_model.proofs.CallsKept.{find-passes}
use Rattle.machine_model.proofs.Counting.{count, count-some, count-split}
use Rattle.machine_model.proofs.Dropped.{IsLost, run-in_order}
use Rattle.machine_model.proofs.HoldChanges.{out_runs}
use Rattle.machine_model.proofs.OneLost.{one_is_dropped}
use Rattle.machine_model.proofs.OneOut.{count-filter}
use Rattle.machine_model.proofs.OverPieces.{over_is_finished}
use Rattle.machine_model.proofs.PieceCounts.{is_lost_number}
use Rattle.machine_model.proofs.RunningNext.{Each-passing}
use Rattle.machine_model.proofs.Snoc.{now-kept}
use Rattle.machine_model.proofs.TidyMoments.{Each-find}
use Rattle.core_state.proofs.EffectRows.{listed}
use Rattle.core_state.proofs.WithinLimits.{all_within}
use Rattle.process_core.specs.Cores.{CoreState, IsCore, IsHandedBy, history_of, machine_of, moment_of, relation}
use Rattle.engine_steps.specs.Engines.{EngineState}
use Rattle.process_engine.specs.Most.{most_queued}
use Rattle.process_engine.specs.Pieces.{AreDistinct, IsOut, numbers_of}
use Rattle.process_engine.specs.Queues.{AreQueued, IsOfActive, IsUnfinished, pieces_of}
use Rattle.process_engine.proofs.Running.{each_of_some, each_passes, some_distinct}

-- a piece of process i
abbrev is_of : ℕ → Piece → Bool
is_of i p = eqb p.process i

-- some parts of a list are all of it
length_split : (q : Piece → Bool) (ps : List Piece) → length (filter (λ p. not (q p)) ps) + count q ps ≡ length ps
length_split q [] = refl
length_split q (p ∷ ps) = by (q p) (length_split q ps)
  where
    by : (b : Bool) → length (filter (λ x. not (q x)) ps) + count q ps ≡ length ps → length (cond (not b) (p ∷ filter (λ x. not (q x)) ps) (filter (λ x. not (q x)) ps)) + (cond b 1 0 + count q ps) ≡ length (p ∷ ps)
    by true rest = omega (arith, rest)
    by false rest = omega (arith, rest)

-- so often a number, for each of a list
abbrev times : ℕ → List ℕ → ℕ
times k [] = 0
times k (i ∷ is) = k + times k is

times_one : (is : List ℕ) → times 1 is ≡ length is
times_one [] = refl
times_one (i ∷ is) = let rest = times_one is in omega (arith, rest)

times_two : (is : List ℕ) → times 2 is ≡ 2 * length is
times_two [] = refl
times_two (i ∷ is) = let rest = times_two is in omega (arith, rest)

not_true : (b : Bool) → not b ≡ true → b ≡ false
not_true true is = absurd (false≢true is)
not_true false is = refl

-- pieces of listed processes, of each no more than a number
at_most : (k : ℕ) (is : List ℕ) (ps : List Piece) → Each (λ p. is_in p.process is ≡ true) ps → ((i : ℕ) → count (is_of i) ps ≤ k) → length ps ≤ times k is
at_most k [] [] listed few = omega arith
at_most k [] (p ∷ ps) listed few = absurd (false≢true listed.0)
at_most k (i ∷ is) ps listed few =
    let rest = filter (λ p. not (is_of i p)) ps in
    let fewer = at_most k is rest
    (Each-passing (λ (p : Piece). is_in p.process (i ∷ is) ≡ true) (λ p. is_in p.process is ≡ true) (λ p. not (is_of i p)) ps
    (λ p in' other. ap (λ b. b || is_in p.process is) (sym (not_true (is_of i p) other)) ∙ in') listed)
    (λ j. let split = count-split (is_of j) (is_of i) ps in let most = few j in omega (arith, split, most)) in
    let most = few i in
    omega (arith, fewer, most, length_split (is_of i) ps)

-- of pieces that differ in their numbers, and in which two that pass a test don't, at most one passes
module _ (P : Piece → Type 0) (t : Piece → Bool) (alike : (p q : Piece) → P p → P q → t p ≡ true → t q ≡ true → p.number ≡ q.number) where
  none_alike : (p : Piece) (ps : List Piece) → P p → t p ≡ true → is_in p.number (numbers_of ps) ≡ false → Each P ps → count t ps ≡ 0
  none_alike p [] has passes none each = refl
  none_alike p (q ∷ ps) has passes none each =
      let parts = or_parts (eqb p.number q.number) (is_in p.number (numbers_of ps)) none in
      by (t q) refl parts.0 (none_alike p ps has passes parts.1 each.1)
    where
      by : (b : Bool) → t q ≡ b → eqb p.number q.number ≡ false → count t ps ≡ 0 → cond b 1 0 + count t ps ≡ 0
      by true is other rest = absurd (false≢true (sym other ∙ eq-eqb p.number q.number (alike p q has each.0 passes is)))
      by false is other rest = omega (arith, rest)

  one_each : (ps : List Piece) → AreDistinct (numbers_of ps) → Each P ps → count t ps ≤ 1
  one_each [] distinct each = omega arith
  one_each (p ∷ ps) distinct each = by (t p) refl (one_each ps distinct.1 each.1)
    where
      by : (b : Bool) → t p ≡ b → count t ps ≤ 1 → cond b 1 0 + count t ps ≤ 1
      by true is rest = let none = none_alike p ps each.0 is distinct.0 each.1 in omega (arith, none)
      by false is rest = omega (arith, rest)

-- what is found and passes is counted
any_found : {X : Type 0} (P b : X → Bool) (xs : List X) (y : X) → find b xs ≡ Some y → P y ≡ true → 1 ≤ count P xs
any_found P b [] y found passes = absurd (none-some y found)
any_found P b (x ∷ xs) y found passes = by (b x) found (any_found P b xs y)
  where
    by : (t : Bool) → cond t (Some x) (find b xs) ≡ Some y → (find b xs ≡ Some y → P y ≡ true → 1 ≤ count P xs) → 1 ≤ cond (P x) 1 0 + count P xs
    by true is rest = let one : cond {A = ℕ} (P x) 1 0 ≡ 1 = ap (λ z. cond (P z) 1 0) (same_Some x y is) ∙ ap (λ c. cond c 1 0) passes in omega (arith, one)
    by false is rest = let later = rest is passes in omega (arith, later)

-- where at most one passes, two that are found and pass are one
one_only : {X : Type 0} (P a b : X → Bool) (xs : List X) (x y : X) → count P xs ≤ 1 → find a xs ≡ Some x → P x ≡ true → find b xs ≡ Some y → P y ≡ true → x ≡ y
one_only {X} P a b [] x y few found_x passes_x found_y passes_y = absurd (none-some x found_x)
one_only {X} P a b (z ∷ xs) x y few found_x passes_x found_y passes_y =
    by (a z) (b z) found_x found_y (λ fx fy. one_only P a b xs x y (omega (arith, few)) fx passes_x fy passes_y)
  where
    counted : (w : X) → z ≡ w → P w ≡ true → cond {A = ℕ} (P z) 1 0 ≡ 1
    counted w same passes = ap (λ v. cond (P v) 1 0) same ∙ ap (λ c. cond c 1 0) passes

    by : (s t : Bool) → cond s (Some z) (find a xs) ≡ Some x → cond t (Some z) (find b xs) ≡ Some y → (find a xs ≡ Some x → find b xs ≡ Some y → x ≡ y) → x ≡ y
    by true true is_x is_y later = sym (same_Some z x is_x) ∙ same_Some z y is_y
    by true false is_x is_y later = let one = counted x (same_Some z x is_x) passes_x in let other = any_found P b xs y is_y passes_y in absurd (omega (arith, few, one, other))
    by false true is_x is_y later = let one = counted y (same_Some z y is_y) passes_y in let other = any_found P a xs x is_x passes_x in absurd (omega (arith, few, one, other))
    by false false is_x is_y later = later is_x is_y

-- what is neither running nor over was lost
lost_by : (o : Option Lost) (b : Bool) → b ≡ false → (cond b Out (dropped_or_over (event_of_lost o)) ≡ Over → ⊥) → (l : Lost) × (o ≡ Some l)
lost_by o true stops not_over = absurd (false≢true (sym stops))
lost_by None false stops not_over = absurd (not_over refl)
lost_by (Some l) false stops not_over = (l, refl)

module _ (core : CoreState) (is : IsCore core) where
  abbrev m : Moment
  m = moment_of core

  kept_is : (p : Piece) → IsHandedBy core p → piece_of m.kept p.number ≡ Some p
  kept_is p handed = ap (λ ks. piece_of ks p.number) (now-kept (relation core) (machine_of core)) ∙ handed

  -- two pieces of a process that run are one,
  out_alike : (i : ℕ) (p q : Piece) → (IsHandedBy core p) × (runs m p.number ≡ true) → (IsHandedBy core q) × (runs m q.number ≡ true) → is_of i p ≡ true → is_of i q ≡ true → p.number ≡ q.number
  out_alike i p q out_p out_q of_p of_q =
      let tidy = (run-in_order (relation core) (machine_of core) is.session.run).tidy in
      let one = out_runs m p.number p tidy out_p.1 (kept_is p out_p.0) in
      let other = out_runs m q.number q tidy out_q.1 (kept_is q out_q.0) in
      let same : p.process ≡ q.process = eqb-true p.process i of_p ∙ sym (eqb-true q.process i of_q) in
      ap (λ (x : Piece). x.number) (same_Some p q (sym one ∙ ap (running_of m) same ∙ other))

  -- and so are two that were dropped
  abbrev IsGone : Piece → Type 0
  IsGone p = IsUnfinished core p × (runs m p.number ≡ false)

  gone_is : (p : Piece) → IsGone p → (l : Lost) × (find (is_lost_number p.number) m.lost ≡ Some l) × (l.piece ≡ p)
  gone_is p gone =
      let found : is_some (piece_of core.kept p.number) ≡ true = ap is_some gone.0.handed in
      let not_over : cond (runs m p.number) Out (dropped_or_over (event_of_lost (find (is_lost_number p.number) m.lost))) ≡ Over → ⊥ = λ over. false≢true (sym gone.0.unfinished ∙ (over_is_finished (relation core) (machine_of core) p.number is.session.run found).0 over) in
      let lost = lost_by (find (is_lost_number p.number) m.lost) (runs m p.number) gone.1 not_over in
      let l = lost.0 in
      let its = Each-find (IsLost m) (is_lost_number p.number) m.lost l (run-in_order (relation core) (machine_of core) is.session.run).lost lost.1 in
      let number : l.piece.number ≡ p.number = eqb-true l.piece.number p.number (find-passes (is_lost_number p.number) m.lost l lost.1) in
      (l, lost.1, same_Some l.piece p (sym its.piece ∙ ap (piece_of m.kept) number ∙ kept_is p gone.0.handed))

  gone_alike : (i : ℕ) (p q : Piece) → IsGone p → IsGone q → is_of i p ≡ true → is_of i q ≡ true → p.number ≡ q.number
  gone_alike i p q gone_p gone_q of_p of_q =
      let one = gone_is p gone_p in
      let other = gone_is q gone_q in
      let few = one_is_dropped (relation core) (machine_of core) i is.session.run in
      let counted = count-filter (λ (l : Lost). eqb l.piece.process i) m.lost in
      let same = one_only (λ (l : Lost). eqb l.piece.process i) (is_lost_number p.number) (is_lost_number q.number) m.lost one.0 other.0 (omega (arith, few, counted))
      one.1 (ap (is_of i) one.2 ∙ of_p) other.1 (ap (is_of i) other.2 ∙ of_q) in
      ap (λ (x : Piece). x.number) (sym one.2 ∙ ap (λ (l : Lost). l.piece) same ∙ other.2)

  few_active : length (active (history_of core)) ≤ most_active
  few_active = (all_within core is).1

  runs_now : (m' : Bool) (d : Option ℕ) → cond m' Out (dropped_or_over d) ≡ Out → m' ≡ true
  runs_now true d is_out = refl
  runs_now false None is_out = cc
  runs_now false (Some k) is_out = cc

  outs : (p : Piece) → IsOut core p → (IsHandedBy core p) × (runs m p.number ≡ true)
  outs p out = (out.handed, runs_now (runs m p.number) (dropped_at m p.number) out.out)

  -- pieces that are out are of active processes, so there are few,
  pub few_out : (ps : List Piece) → Each (IsOut core) ps → AreDistinct (numbers_of ps) → length ps ≤ most_active
  few_out ps each distinct =
      let all = Each-weaker (IsOut core) (λ p. (IsHandedBy core p) × (runs m p.number ≡ true)) outs ps each in
      let most = at_most 1 (active (history_of core)) ps
      (Each-weaker (λ (p : Piece). (IsHandedBy core p) × (runs m p.number ≡ true)) (IsOfActive core) (λ p out. listed core is p out.0 out.1) ps all)
      (λ i. one_each (λ p. (IsHandedBy core p) × (runs m p.number ≡ true)) (is_of i) (out_alike i) ps distinct all) in
      let few = few_active in
      omega (arith, most, few, times_one (active (history_of core)))

  -- the process of each is active,
  pub out_active : (p : Piece) → IsHandedBy core p → state_of m p.number ≡ Out → IsOfActive core p
  out_active p handed out = listed core is p handed (runs_now (runs m p.number) (dropped_at m p.number) out)

  two_each : (i : ℕ) (ps : List Piece) → Each (IsUnfinished core) ps → AreDistinct (numbers_of ps) → count (is_of i) ps ≤ 2
  two_each i ps each distinct =
      let running = λ (p : Piece). runs m p.number in
      let gone = λ (p : Piece). not (runs m p.number) in
      let one = one_each (λ p. (IsHandedBy core p) × (runs m p.number ≡ true)) (is_of i) (out_alike i) (filter running ps) (some_distinct running ps distinct)
      (Each-weaker (λ (p : Piece). IsUnfinished core p × (runs m p.number ≡ true)) (λ p. (IsHandedBy core p) × (runs m p.number ≡ true)) (λ p both. (both.0.handed, both.1)) (filter running ps)
      (Each-both (IsUnfinished core) (λ p. runs m p.number ≡ true) (filter running ps) (each_of_some (IsUnfinished core) running ps each) (each_passes running ps))) in
      let other = one_each IsGone (is_of i) (gone_alike i) (filter gone ps) (some_distinct gone ps distinct)
      (Each-weaker (λ (p : Piece). IsUnfinished core p × (not (runs m p.number) ≡ true)) IsGone (λ p both. (both.0, not_true (runs m p.number) both.1)) (filter gone ps)
      (Each-both (IsUnfinished core) (λ p. not (runs m p.number) ≡ true) (filter gone ps) (each_of_some (IsUnfinished core) gone ps each) (each_passes gone ps))) in
      let split = count-split (is_of i) running ps in
      omega (arith, one, other, split)

  -- and of pieces that aren't finished there are twice as many at most
  pub few_unfinished : (ps : List Piece) → Each (IsUnfinished core) ps → Each (IsOfActive core) ps → AreDistinct (numbers_of ps) → length ps ≤ most_queued
  few_unfinished ps each of_active distinct =
      let most = at_most 2 (active (history_of core)) ps of_active (λ i. two_each i ps each distinct) in
      let few = few_active in
      omega (arith, most, few, times_two (active (history_of core)))

pub few_queued : {R B : Type 0} (e : EngineState R B) → IsCore e.core → (group : List Handed) → AreQueued e group → length group ≤ most_queued
few_queued e is group queued =
    let few = few_unfinished e.core is (pieces_of group) queued.unfinished queued.active queued.distinct in
    omega (arith, few, length-map group (λ (p : Handed). p.piece))
