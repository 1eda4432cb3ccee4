-- The turns of several threads make a run.
use Rattle.std.proofs.Common.{◌≡◌, ◌⊎◌, inl, inr, ℕ, ◌+◌, Bool, true, false, not, if◌then◌else◌, eqb, ◌||◌, List, [], ◌∷◌, ◌++◌, length, Option, Some, None, is_some, sym, refl, ap, subst, ◌∙◌, append-nil}
use Rattle.std.specs.List.{list_any}
use Rattle.std.proofs.lemmas.Map.Views.{any-filter_same}
use Rattle.std.proofs.lemmas.Bool.{and_from, or_parts, or_left, or_right, eqb-true, eqb-false, eq-eqb, ne_eqb, false≢true}
use Rattle.schedule_model.specs.Course.{Course}
use Rattle.schedule_model.specs.Conflict.{ConflictRelation}
use Rattle.schedule_model.specs.Histories.{is_in}
use Rattle.schedule_model.proofs.Appends.{is_in-append}
use Rattle.machine_model.specs.declared.kept.Kept.{Kept}
use Rattle.machine_model.specs.declared.kept.Kept.TheVariants.{Effect, Refuse}
use Rattle.machine_model.specs.declared.replies.PieceState.{PieceState}
use Rattle.machine_model.specs.declared.replies.PieceState.TheVariants.{Out, Dropped, Over}
use Rattle.machine_model.specs.declared.replies.Refusal.{Refusal}
use Rattle.machine_model.specs.Moment.{Moment, Piece, noted, happened, without, opening_moment}
use Rattle.machine_model.specs.Pieces.{hands, piece_of, runs, state_of, dropped_at}
use Rattle.machine_model.specs.Advance.{advance, with_piece, event_of}
use Rattle.machine_model.specs.Runs.{is_run, now, is_no_end, goes_on_from}
use Rattle.machine_model.specs.Replies.{Next, all_victims, finish_kept, refusal_reply}
use Rattle.machine_model.specs.Calls.{next, finish, next_is, next_kept}
use Rattle.machine_model.specs.Groups.{Targets, Taken, as_done, as_refused, as_barred, Queue, queued, full, over, dropped, no_piece, no_refusal, full_or, refused_unless_end as queue_refused, queue_reply, queue_kept, queue_adds, flush_kept, flush_reply, ended_then, kept_for_ended, queue_piece, queue_by, out_queue, is_full, is_end_piece}
use Rattle.machine_model.specs.Turns.{Board, Turn, nexts, finishes, queues, flushes, says, no_memory, disk_fault, is_closed, after_said, after_next, after_finish, after_queue, after_flush, after_turn, after_turns, taken_as, SaysClosed, MaySayBy, MaySay, OpenMaySay, AllMaySay}
use Rattle.machine_model.specs.CallLaws.{TurnsMakeRuns}
use Rattle.machine_model.proofs.Snoc.{keeping, goes_on-append}
use Rattle.machine_model.proofs.CallsKept.{call-makes_run, find-passes, out_runs}

-- each number of the list stands in it once
abbrev pub AreDistinct : List ℕ → Type 0
AreDistinct [] = Unit {0}
AreDistinct (n ∷ ns) = (is_in n ns ≡ false) × AreDistinct ns

distinct_step : (n x : ℕ) (xs : List ℕ) → (is_in n xs ≡ false → AreDistinct (xs ++ n ∷ [])) → is_in x xs ≡ false → (eqb n x || is_in n xs) ≡ false → AreDistinct (x ∷ xs ++ n ∷ [])
distinct_step n x xs rest apart new =
    let parts = or_parts (eqb n x) (is_in n xs) new in
    (is_in-append x xs (n ∷ []) ∙ rw (apart, ne_eqb x n (λ same. eqb-false n x parts.0 (sym same))) refl, rest parts.1)

-- a number that isn't listed may be added
distinct-push : (n : ℕ) (xs : List ℕ) → AreDistinct xs → is_in n xs ≡ false → AreDistinct (xs ++ n ∷ [])
distinct-push n [] distinct new = (refl, tt)
distinct-push n (x ∷ xs) distinct new = distinct_step n x xs (distinct-push n xs distinct.1) distinct.0 new

module _ (table : ConflictRelation) (courses : List Course) where
  out_by : (m : Moment) (n k : ℕ) (o : Option Piece) → runs (with_piece (λ p. happened (noted m (Effect n)) (event_of courses p)) (noted m (Effect n)) o) k ≡ list_any (λ p. eqb p.number k) (without n m.out)
  out_by m n k None = refl
  out_by m n k (Some p) = refl

  -- an effect leaves every other piece as it was
  pub effect-runs : (m : Moment) (n k : ℕ) → (k ≡ n → ⊥) → runs (advance table courses m (Effect n)) k ≡ runs m k
  effect-runs m n k other = out_by m n k (piece_of (noted m (Effect n)).kept n)
      ∙ any-filter_same (λ p. eqb p.number k) (λ p. not (eqb p.number n)) true (λ p is. ap not (ne_eqb p.number n (λ same. other (sym (eqb-true p.number k is) ∙ same)))) m.out

  flush_by : (m o : Moment) (n place : ℕ) (ns : List ℕ) (t : Bool) → runs m n ≡ t
      → (t ≡ true → goes_on_from table courses (advance table courses m (Effect n)) (kept_for_ended (flush_reply o (place + 1) ns)) ≡ true)
      → (t ≡ false → goes_on_from table courses m (kept_for_ended (flush_reply o place ns)) ≡ true)
      → goes_on_from table courses m (kept_for_ended (ended_then o place n (λ k. flush_reply o k ns) t)) ≡ true
  flush_by m o n place ns true is taken lost = and_from _ _ is (taken refl)
  flush_by m o n place ns false is taken lost = lost refl

  -- what a flush keeps may be kept, one effect after another
  pub flush-goes : (m o : Moment) (place : ℕ) (ns : List ℕ) → AreDistinct ns → ((k : ℕ) → is_in k ns ≡ true → runs m k ≡ runs o k)
      → goes_on_from table courses m (kept_for_ended (flush_reply o place ns)) ≡ true
  flush-goes m o place [] distinct alike = refl
  flush-goes m o place (n ∷ ns) distinct alike =
      flush_by m o n place ns (runs o n) (alike n (or_left (eqb n n) (is_in n ns) (eq-eqb n n refl)))
      (λ is. flush-goes (advance table courses m (Effect n)) o (place + 1) ns distinct.1
      (λ k listed. effect-runs m n k (λ same. false≢true (sym distinct.0 ∙ (ap (λ j. is_in j ns) (sym same) ∙ listed))) ∙ alike k (or_right (eqb k n) (is_in k ns) listed)))
      (λ is. flush-goes m o place ns distinct.1 (λ k listed. alike k (or_right (eqb k n) (is_in k ns) listed)))

-- where nothing is queued as before: what the queueing of a piece keeps may be kept, and it is queued once
module _ (table : ConflictRelation) (targets : Targets) (courses : List Course) (m : Moment) (group : List ℕ) (n : ℕ) where
  pub record QueueKeeps (q : Queue) : Type 0 where
    pub may : goes_on_from table courses m (queue_kept n q) ≡ true
    pub distinct : AreDistinct group → AreDistinct (group ++ queue_adds n q)
    -- a piece that is refused or queued was out, and not queued before
    pub apart : (queue_kept n q ≡ []) ⊎ (is_in n group ≡ false)
    pub out : (queue_adds n q ≡ []) ⊎ ((queue_adds n q ≡ n ∷ []) × (runs m n ≡ true) × (is_some (piece_of m.kept n) ≡ true))

  nothing : (q : Queue) → queue_kept n q ≡ [] → queue_adds n q ≡ [] → QueueKeeps q
  nothing q none nobody = record {
    may = ap (goes_on_from table courses m) none;
    distinct = λ d. subst AreDistinct (sym (ap (λ ns. group ++ ns) nobody ∙ append-nil group)) d;
    apart = inl none;
    out = inl nobody;
  }

  refusing : (p : Piece) (r : Refusal) (t : Bool) → piece_of m.kept n ≡ Some p → runs m n ≡ true → is_in n group ≡ false → is_end_piece p ≡ t → QueueKeeps (queue_refused t r)
  refusing p r true found is new end = nothing no_refusal refl refl
  refusing p r false found is new end = record { may = and_from _ _ (and_from (runs m n) _ is (ap is_no_end found ∙ ap not end)) refl; distinct = λ d. subst AreDistinct (sym (append-nil group)) d; apart = inr new; out = inl refl }

  or_full : (full' : Bool) (q : Queue) → QueueKeeps q → QueueKeeps (full_or full' q)
  or_full true q keeps = nothing full refl refl
  or_full false q keeps = keeps

  by_taken : (p : Piece) (full' : Bool) (r : Refusal) (taken : Taken) → piece_of m.kept n ≡ Some p → runs m n ≡ true → is_in n group ≡ false
      → QueueKeeps (out_queue (is_end_piece p) full' r taken)
  by_taken p full' r as_refused found is new = refusing p r (is_end_piece p) found is new refl
  by_taken p full' r as_barred found is new = or_full full' (queue_refused (is_end_piece p) r) (refusing p r (is_end_piece p) found is new refl)
  by_taken p full' r as_done found is new = or_full full' queued (record { may = refl; distinct = λ d. distinct-push n group d new; apart = inl refl; out = inr (refl, is, ap is_some found) })

  by_state : (q : Queue) (s : PieceState) → (s ≡ Out → QueueKeeps q) → QueueKeeps (queue_by q s)
  by_state q Out keeps = keeps refl
  by_state q (Dropped k) keeps = nothing (dropped k) refl refl
  by_state q Over keeps = nothing over refl refl

  by_group : (p : Piece) (taken : Taken) (t : Bool) → piece_of m.kept n ≡ Some p → is_in p.number group ≡ t
      → QueueKeeps (if t then over else queue_by (out_queue (is_end_piece p) (is_full targets courses m group p) (refusal_reply courses (advance table courses m (Refuse p.number)) p) taken) (state_of m p.number))
  by_group p taken true found is = nothing over refl refl
  by_group p taken false found is =
      let number : p.number ≡ n = eqb-true p.number n (find-passes (λ q. eqb q.number n) (hands m.kept) p found) in
      by_state (out_queue (is_end_piece p) (is_full targets courses m group p) (refusal_reply courses (advance table courses m (Refuse p.number)) p) taken) (state_of m p.number)
      (λ out. by_taken p (is_full targets courses m group p) (refusal_reply courses (advance table courses m (Refuse p.number)) p) taken found
      (ap (runs m) (sym number) ∙ out_runs (runs m p.number) (dropped_at m p.number) out) (ap (λ k. is_in k group) (sym number) ∙ is))

  by_piece : (taken : Taken) (o : Option Piece) → piece_of m.kept n ≡ o → QueueKeeps (queue_piece table targets courses m group taken o)
  by_piece taken None found = nothing no_piece refl refl
  by_piece taken (Some p) found = by_group p taken (is_in p.number group) found refl

  pub queue-keeps : (taken : Taken) → QueueKeeps (queue_reply table targets courses m group n taken)
  queue-keeps taken = by_piece taken (piece_of m.kept n) refl

-- a board whose kept events are a run, and in whose group no piece stands twice
pub record IsGoodBoard (table : ConflictRelation) (b : Board) : Type 0 where
  pub run : is_run table b.machine ≡ true
  pub distinct : AreDistinct b.group

module _ (table : ConflictRelation) (targets : Targets) where
  longer : (b : Board) (ks : List Kept) → is_run table b.machine ≡ true → goes_on_from table b.machine.courses (now table b.machine) ks ≡ true → is_run table (keeping b.machine ks) ≡ true
  longer b ks run goes = goes_on-append table b.machine.courses (opening_moment b.machine.opening) b.machine.kept ks ∙ and_from (is_run table b.machine) _ run goes

  same_next : {a b : Next} → next_is a ≡ next_is b → a ≡ b
  same_next {a} {b} is = cc

  open_turn : (b : Board) (t : Turn) → OpenMaySay table targets b t → IsGoodBoard table b → IsGoodBoard table (after_turn table b t)
  open_turn b (nexts (says r)) may good = record {
    run = ap (λ x. is_run table (keeping b.machine (all_victims table b.machine.courses (now table b.machine) ++ next_kept x))) (sym (same_next may)) ∙ call-makes_run table b.machine next tt good.run;
    distinct = good.distinct;
  }
  open_turn b (nexts no_memory) may good = absurd may
  open_turn b (nexts disk_fault) may good = absurd may
  open_turn b (nexts (is_closed k)) may good = absurd may
  open_turn b (finishes n outcome (says r)) may good = record {
    run = ap (λ x. is_run table (keeping b.machine (finish_kept n x))) may.1.2 ∙ call-makes_run table b.machine (finish n (taken_as may.1.0)) tt good.run;
    distinct = good.distinct;
  }
  open_turn b (finishes n outcome no_memory) may good = good
  open_turn b (finishes n outcome disk_fault) may good = record { run = good.run; distinct = good.distinct }
  open_turn b (finishes n outcome (is_closed k)) may good = absurd may
  open_turn b (queues n outcome (says r)) may good =
      let keeps = queue-keeps table targets b.machine.courses (now table b.machine) b.group n may.0 in
      record {
        run = ap (λ x. is_run table (keeping b.machine (queue_kept n x))) may.2 ∙ longer b (queue_kept n (queue_reply table targets b.machine.courses (now table b.machine) b.group n may.0)) good.run keeps.may;
        distinct = subst (λ x. AreDistinct (b.group ++ queue_adds n x)) (sym may.2) (keeps.distinct good.distinct);
      }
  open_turn b (queues n outcome no_memory) may good = good
  open_turn b (queues n outcome disk_fault) may good = absurd may
  open_turn b (queues n outcome (is_closed k)) may good = absurd may
  open_turn b (flushes (says n)) may good =
      let m = now table b.machine in
      record { run = longer b (flush_kept m b.group) good.run (flush-goes table b.machine.courses m m (length m.events) b.group good.distinct (λ k listed. refl)); distinct = tt }
  open_turn b (flushes no_memory) may good = absurd may
  open_turn b (flushes disk_fault) may good = record { run = good.run; distinct = good.distinct }
  open_turn b (flushes (is_closed k)) may good = absurd may

  -- a closed board stays as it is
  closed_turn : (b : Board) (t : Turn) (k : ℕ) → SaysClosed k t → IsGoodBoard table b → IsGoodBoard table (after_turn table b t)
  closed_turn b (nexts said) k is good = subst (IsGoodBoard table) (sym (ap (after_said (after_next table b) b) is)) good
  closed_turn b (finishes n outcome said) k is good = subst (IsGoodBoard table) (sym (ap (after_said (after_finish b n) b) is)) good
  closed_turn b (queues n outcome said) k is good = subst (IsGoodBoard table) (sym (ap (after_said (after_queue b n) b) is)) good
  closed_turn b (flushes said) k is good = subst (IsGoodBoard table) (sym (ap (after_said (after_flush table b) b) is)) good

  by_closed : (b : Board) (t : Turn) (o : Option ℕ) → MaySayBy table targets b t o → IsGoodBoard table b → IsGoodBoard table (after_turn table b t)
  by_closed b t None may good = open_turn b t may good
  by_closed b t (Some k) may good = closed_turn b t k may good

  pub turn-good : (b : Board) (t : Turn) → MaySay table targets b t → IsGoodBoard table b → IsGoodBoard table (after_turn table b t)
  turn-good b t may good = by_closed b t b.closed may good

  pub turns-good : (b : Board) (ts : List Turn) → AllMaySay table targets b ts → IsGoodBoard table b → IsGoodBoard table (after_turns table b ts)
  turns-good b [] may good = good
  turns-good b (t ∷ ts) may good = turns-good (after_turn table b t) ts may.1 (turn-good b t may.0 good)

pub turns_make_runs : TurnsMakeRuns
turns_make_runs table targets b last ts empty run are =
    let good = turns-good table targets b ts are.0 (record { run = run; distinct = subst AreDistinct (sym empty) tt }) in
    ap (λ x. is_run table x.machine) are.1 ∙ good.run
