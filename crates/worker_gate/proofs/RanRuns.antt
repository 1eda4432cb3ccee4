-- That an engine was only run: by no call, by a request for any piece, by work on one, and by one run after another.
use Rattle.std.proofs.Common.{◌≡◌, ◌≢◌, ◌∙◌, ◌+◌, ◌-◌, ◌^◌, min, ℕ, zero, suc, Bool, true, false, not, filter, List, [], ◌∷◌, ◌++◌, length, Option, Some, None, if◌then◌else◌, inl, inr, refl, ap, subst, sym, append-nil, append_assoc, length-append, arith}
use Rattle.std.proofs.lemmas.Bool.{false≢true}
use Rattle.std.proofs.lemmas.List.Elements.{filter-append}
use Rattle.process_disk.specs.declared.rack.Rack.{Ghosts as Racks}
use Rattle.process_disk.specs.Disk.{Disk, IsHonest, Told}
use Rattle.process_disk.specs.Images.{EachImage}
use Rattle.process_tree.specs.Order.{Each}
use Rattle.process_tree.proofs.Every.{Each-append}
use Rattle.process_tree.specs.declared.play.Outcome.{Outcome}
use Rattle.process_tree.specs.declared.play.Outcome.TheVariants.{Done as Succeeds, Refused as Fails}
use Rattle.schedule_model.specs.Conflict.{ConflictRelation}
use Rattle.schedule_model.specs.Course.{Course}
use Rattle.schedule_model.specs.Histories.{active}
use Rattle.machine_model.specs.declared.kept.Kept.{Kept}
use Rattle.machine_model.specs.declared.kept.Kept.TheVariants.{Hand, Victim}
use Rattle.machine_model.specs.Advance.{advance}
use Rattle.machine_model.specs.declared.kept.Work.{Work}
use Rattle.machine_model.specs.declared.kept.Work.TheVariants.{Forward, Undo, End}
use Rattle.machine_model.specs.Calls.{finish, next, next_is, next_kept}
use Rattle.machine_model.specs.Moment.{Moment}
use Rattle.machine_model.specs.Progress.{same_work}
use Rattle.machine_model.specs.Replies.{Handed, Next, all_ended, all_victims, chosen, kept_hand, stuck, victim_then, victims, wait}
use Rattle.machine_model.specs.State.{victim_of}
use Rattle.process_core.specs.Answers.{after_call, answer_in}
use Rattle.process_core.specs.Cores.{CoreState, IsCore, courses_in, moment_of, relation}
use Rattle.history_files.specs.Sound.{IsSound}
use Rattle.engine_steps.specs.Engines.{EngineState, full_history, with_core}
use Rattle.process_engine.specs.Finishing.{Finishes}
use Rattle.engine_steps.specs.declared.engines.Phase.TheVariants as phase
use Rattle.process_engine.specs.declared.finishing.Finish.{Finish}
use Rattle.process_engine.specs.declared.finishing.Finish.TheVariants.{Effected, Retry, Failed, Over, Dropped, Exhausted, DiskFault, NoMemory, Closed}
use Rattle.process_engine.specs.declared.gates.Answer.{Answer}
use Rattle.engine_calls.specs.GateAnswers.{GateCounts, IsByGate, count_after, is_step_hand, kept_since, steps_handed}
use Rattle.engine_calls.specs.Runs.{GoesOnAlone}
use Rattle.engine_calls.proofs.GateEnds.{kept_by, kept_of}
use Rattle.engine_calls.proofs.GateRuns.{EndsNone, by_gate_none, by_gate_then, gate_from, kept_is}
use Rattle.engine_calls.proofs.Goes.{goes_none, goes_then}
use Rattle.worker_gate.specs.Running.{AreTurns, IsAskedOnce, IsOfRunning, IsTurn, RanBy}
use Rattle.worker_gate.proofs.AloneReplies.{kept_next}

module _ (P : Kept → Type 0) where
  then_each : (rest : ℕ → List Kept) → ((i : ℕ) → P (Victim i)) → ((i : ℕ) → Each P (rest i)) → (o : Option ℕ) → Each P (victim_then rest o)
  then_each rest each more None = tt
  then_each rest each more (Some i) = (each i, more i)

  victims_each : ((i : ℕ) → P (Victim i)) → (table : ConflictRelation) (courses : List Course) (n : ℕ) (m : Moment) → Each P (victims n table courses m)
  victims_each each table courses zero m = tt
  victims_each each table courses (suc n) m = then_each (λ i. victims n table courses (advance table courses m (Victim i))) each
      (λ i. victims_each each table courses n (advance table courses m (Victim i))) (victim_of table courses m)

  -- what a request for any piece keeps is victims and the hand of a piece
  pub next_each : ((i : ℕ) → P (Victim i)) → ((d : Handed) → P (Hand d.piece.number d.piece.process d.piece.step d.piece.work)) → (c : CoreState) (r : Next)
      → Each P (all_victims (relation c) (courses_in c) (moment_of c) ++ next_kept r)
  next_each victim hand c r = Each-append P (all_victims (relation c) (courses_in c) (moment_of c)) (next_kept r)
      (victims_each victim (relation c) (courses_in c) (length (active (moment_of c).events)) (moment_of c)) (by r)
    where
      by : (r : Next) → Each P (next_kept r)
      by (chosen d) = (hand d, tt)
      by (wait w) = tt
      by all_ended = tt
      by (stuck i) = tt

-- what is kept of the end of a piece is its effect or its refusal
ended_each : (n : ℕ) (a : Finish) → Each IsOfRunning (kept_by n a)
ended_each n (Effected k) = (tt, tt)
ended_each n (Retry k) = (tt, tt)
ended_each n Failed = (tt, tt)
ended_each n Exhausted = (tt, tt)
ended_each n Over = tt
ended_each n (Dropped k) = tt
ended_each n DiskFault = tt
ended_each n (NoMemory q) = tt
ended_each n (Closed k) = tt

-- the end of a piece leaves the plans
ended_plans : {R B : Type 0} (disk : R → Disk) (old new : EngineState R B) (p : Handed) (outcome : Outcome) (a : Finish) → Finishes disk old new p outcome a → new.core.plans ≡ old.core.plans
ended_plans disk old new p outcome (Effected k) fin = ap (λ (c : CoreState). c.plans) fin.left.core
ended_plans disk old new p outcome (Retry k) fin = ap (λ (c : CoreState). c.plans) fin.left.0.core
ended_plans disk old new p outcome Failed fin = ap (λ (c : CoreState). c.plans) fin.left.0.core
ended_plans disk old new p outcome Exhausted fin = ap (λ (c : CoreState). c.plans) fin.left.0.core
ended_plans {R = R} {B = B} disk old new p outcome Over fin = ap (λ (e : EngineState R B). e.core.plans) fin.left
ended_plans {R = R} {B = B} disk old new p outcome (Dropped k) fin = ap (λ (e : EngineState R B). e.core.plans) fin.left
ended_plans disk old new p outcome DiskFault fin = ap (λ (c : CoreState). c.plans) fin.left.core
ended_plans disk old new p outcome (NoMemory q) fin = ap (λ (c : CoreState). c.plans) fin.left.0.core
ended_plans disk old new p outcome (Closed k) fin = absurd fin.reply

-- no victim is the hand of a step
no_steps : (ks : List Kept) → Each (λ k. is_step_hand k ≡ false) ks → steps_handed ks ≡ 0
no_steps [] none = refl
no_steps (k ∷ ks) none = rw (none.0) (no_steps ks none.1)

-- the victims of a request for any piece are the hand of none
no_victim_is_step : (c : CoreState) → steps_handed (all_victims (relation c) (courses_in c) (moment_of c)) ≡ 0
no_victim_is_step c = no_steps (all_victims (relation c) (courses_in c) (moment_of c))
    (victims_each (λ k. is_step_hand k ≡ false) (λ i. refl) (relation c) (courses_in c) (length (active (moment_of c).events)) (moment_of c))

pub steps-append : (ks js : List Kept) → steps_handed (ks ++ js) ≡ steps_handed ks + steps_handed js
steps-append ks js = ap length (filter-append is_step_hand ks js) ∙ length-append (filter is_step_hand ks) (filter is_step_hand js)

-- the end of a piece is the hand of none
pub no_steps_ended : (n : ℕ) (a : Finish) → steps_handed (kept_by n a) ≡ 0
no_steps_ended n (Effected k) = refl
no_steps_ended n (Retry k) = refl
no_steps_ended n Failed = refl
no_steps_ended n Exhausted = refl
no_steps_ended n Over = refl
no_steps_ended n (Dropped k) = refl
no_steps_ended n DiskFault = refl
no_steps_ended n (NoMemory q) = refl
no_steps_ended n (Closed k) = refl

-- a piece that ends a process, or not
pub is_end : (w : Work) → same_work w End ≡ true → w ≡ End
is_end End is = refl
is_end Forward is = absurd cc
is_end Undo is = absurd cc

pub no_end : (w : Work) → same_work w End ≡ false → w ≢ End
no_end w is end = false≢true (sym is ∙ ap (λ v. same_work v End) end)

-- A gate that was asked so often, and then so often, was asked as often as both together.
pub count-after : (count m n : ℕ) → count_after count (m + n) ≡ count_after (count_after count m) n
count-after count zero n = let same : 0 + n ≡ n = omega arith in ap (count_after count) same
count-after count (suc m) n = let same : suc m + n ≡ suc (m + n) = omega arith in ap (count_after count) same ∙ count-after (min (count + 1) (2 ^ 64 - 1)) m n

-- turns and turns behind them are turns
turns-append : (cores later : List CoreState) (old mid new : CoreState) → AreTurns cores old mid → AreTurns later mid new → AreTurns (cores ++ later) old new
turns-append [] later old mid new first second = subst (λ c. AreTurns later c new) first second
turns-append (c ∷ cores) later old mid new first second = (first.0, turns-append cores later c mid new first.1 second)

module _ {R B : Type 0} (racks : Racks R) (answers : Handed → Option Answer) where
  -- What is kept of calls that only run an engine, whole turns or not.
  pub record OnlyRuns (before after : GateCounts) (old new : EngineState R B) : Type 0 where
    pub goes : GoesOnAlone racks old new
    pub plans : new.core.plans ≡ old.core.plans
    pub running : Each IsOfRunning (kept_since old.core new.core)
    pub by_gate : IsByGate (gate_from answers before after) old.catalog old.core new.core

  -- Nothing is kept by no call,
  only_none : (count : GateCounts) (e : EngineState R B) → IsCore e.core → (Told (racks.disk e.files.rack) → EachImage (racks.disk e.files.rack) (racks.disk e.files.rack).moment (IsSound e.catalog (full_history e.core)))
      → OnlyRuns count count e e
  only_none count e core each =
      let nothing = sym (append-nil e.core.kept) in
      record {
        goes = λ may_start. goes_none racks may_start e core each;
        plans = refl;
        running = subst (Each IsOfRunning) (sym (kept_is e.core e.core [] nothing)) tt;
        by_gate = by_gate_none (gate_from answers count count) e.catalog (omega arith) e.core e.core [] nothing tt;
      }

  -- what the machine keeps of a request for any piece,
  only_next : (count : GateCounts) (old new : EngineState R B) (r : Next) → new ≡ with_core old (after_call old.core next) → next_is r ≡ (answer_in old.core next).reply → GoesOnAlone racks old new
      → OnlyRuns count count old new
  only_next count old new r is replied goes =
      let core = ap (λ (e : EngineState R B). e.core) is in
      let added = all_victims (relation old.core) (courses_in old.core) (moment_of old.core) ++ next_kept r in
      let kept = kept_next old.core new.core core r replied in
      record {
        goes = goes;
        plans = ap (λ (c : CoreState). c.plans) core;
        running = subst (Each IsOfRunning) (sym (kept_is old.core new.core added kept)) (next_each IsOfRunning (λ i. tt) (λ d. tt) old.core r);
        by_gate = by_gate_none (gate_from answers count count) old.catalog (omega arith) old.core new.core added kept (next_each EndsNone (λ i. tt) (λ d. tt) old.core r);
      }

  -- that of work on a piece,
  pub only_work : (before after : GateCounts) (old new : EngineState R B) (p : Handed) (outcome : Outcome) (a : Finish) → Finishes racks.disk old new p outcome a → GoesOnAlone racks old new
      → IsByGate (gate_from answers before after) old.catalog old.core new.core → OnlyRuns before after old new
  only_work before after old new p outcome a fin goes by_gate = record {
    goes = goes;
    plans = ended_plans racks.disk old new p outcome a fin;
    running = subst (Each IsOfRunning) (sym (kept_is old.core new.core (kept_by p.piece.number a) (kept_of racks.disk old new p outcome a fin))) (ended_each p.piece.number a);
    by_gate = by_gate;
  }

  -- and that of both, one after another.
  pub only_then : (before between after : GateCounts) (old mid new : EngineState R B) → mid.phase ≡ phase.Settled → IsCore mid.core → (Told (racks.disk new.files.rack) → IsHonest (racks.disk new.files.rack))
      → OnlyRuns before between old mid → OnlyRuns between after mid new → OnlyRuns before after old new
  only_then before between after old mid new settled core honest first second =
      let one = (first.goes []).added in
      let two = (second.goes []).added in
      let kept_one = (first.goes []).kept in
      let kept_two = (second.goes []).kept in
      let all = kept_is old.core new.core (one ++ two) (kept_two ∙ (ap (λ ks. ks ++ two) kept_one ∙ append_assoc old.core.kept one two)) in
      record {
        goes = λ may_start. goes_then racks may_start old mid new settled core.session.one_each honest (first.goes may_start) (second.goes may_start);
        plans = second.plans ∙ first.plans;
        running = subst (Each IsOfRunning) (sym all)
            (Each-append IsOfRunning one two (subst (Each IsOfRunning) (kept_is old.core mid.core one kept_one) first.running) (subst (Each IsOfRunning) (kept_is mid.core new.core two kept_two) second.running));
        by_gate = by_gate_then answers old.catalog before between after old.core mid.core new.core one two (first.goes []).conflicts first.plans (first.goes []).opening kept_one kept_two
            first.by_gate (subst (λ c. IsByGate (gate_from answers between after) c mid.core new.core) (first.goes []).catalog second.by_gate);
      }

  ran_so : (before after : GateCounts) (old new : EngineState R B) (cores : List CoreState) → OnlyRuns before after old new → IsAskedOnce (gate_from answers before after) old.core new.core
      → AreTurns cores old.core new.core → RanBy racks (gate_from answers before after) old new
  ran_so before after old new cores only asked turns = record { goes = only.goes; plans = only.plans; running = only.running; by_gate = only.by_gate; asked_once = asked; cores = cores; turns = turns }

  only_of : (before after : GateCounts) (old new : EngineState R B) → RanBy racks (gate_from answers before after) old new → OnlyRuns before after old new
  only_of before after old new ran = record { goes = ran.goes; plans = ran.plans; running = ran.running; by_gate = ran.by_gate }

  -- By no turn an engine was only run,
  pub ran_none : (count : GateCounts) (e : EngineState R B) → IsCore e.core → (Told (racks.disk e.files.rack) → EachImage (racks.disk e.files.rack) (racks.disk e.files.rack).moment (IsSound e.catalog (full_history e.core)))
      → RanBy racks (gate_from answers count count) e e
  ran_none count e core each =
      ran_so count count e e [] (only_none count e core each) (ap (λ ks. count_after count.asked (steps_handed ks)) (sym (kept_is e.core e.core [] (sym (append-nil e.core.kept))))) refl

  -- by a turn that hands out no piece,
  pub ran_next : (count : GateCounts) (old new : EngineState R B) (r : Next) → new ≡ with_core old (after_call old.core next) → next_is r ≡ (answer_in old.core next).reply → GoesOnAlone racks old new
      → next_kept r ≡ [] → RanBy racks (gate_from answers count count) old new
  ran_next count old new r is replied goes none =
      let core = ap (λ (e : EngineState R B). e.core) is in
      let vs = all_victims (relation old.core) (courses_in old.core) (moment_of old.core) in
      let kept = kept_is old.core new.core (vs ++ next_kept r) (kept_next old.core new.core core r replied) in
      let few = ap steps_handed kept ∙ (ap (λ ks. steps_handed (vs ++ ks)) none ∙ (ap steps_handed (append-nil vs) ∙ no_victim_is_step old.core)) in
      ran_so count count old new (new.core ∷ []) (only_next count old new r is replied goes) (ap (count_after count.asked) (sym few)) (inl core, refl)

  module _ (old mid new : EngineState R B) (d : Handed) (core : mid.core ≡ after_call old.core next) (replied : next_is (chosen d) ≡ (answer_in old.core next).reply) where
    -- a piece that was handed out and ended, or is still out, makes a turn
    by_outcome : (outcome : Outcome) → new.core ≡ after_call mid.core (finish d.piece.number outcome) → IsTurn old.core new.core
    by_outcome outcome is = inr (d, outcome, sym replied, is ∙ ap (λ c. after_call c (finish d.piece.number outcome)) core)

    turn_by : (outcome : Outcome) (a : Finish) → Finishes racks.disk mid new d outcome a → IsTurn old.core new.core
    turn_by outcome (Effected k) fin = by_outcome Succeeds fin.left.core
    turn_by outcome (Retry k) fin = by_outcome Fails fin.left.0.core
    turn_by outcome Failed fin = by_outcome Fails fin.left.0.core
    turn_by outcome Exhausted fin = by_outcome Fails fin.left.0.core
    turn_by outcome Over fin = inl (ap (λ (e : EngineState R B). e.core) fin.left ∙ core)
    turn_by outcome (Dropped k) fin = inl (ap (λ (e : EngineState R B). e.core) fin.left ∙ core)
    turn_by outcome DiskFault fin = inl (fin.left.core ∙ core)
    turn_by outcome (NoMemory q) fin = inl (fin.left.0.core ∙ core)
    turn_by outcome (Closed k) fin = absurd fin.reply

  -- by a turn that hands out a piece, which a gate works on,
  module _ (before after : GateCounts) (old mid new : EngineState R B) (d : Handed) (outcome : Outcome) (a : Finish) (settled : mid.phase ≡ phase.Settled) (is_core : IsCore mid.core)
      (honest : Told (racks.disk new.files.rack) → IsHonest (racks.disk new.files.rack))
      (is : mid ≡ with_core old (after_call old.core next)) (replied : next_is (chosen d) ≡ (answer_in old.core next).reply)
      (goes : GoesOnAlone racks old mid) (worked : GoesOnAlone racks mid new) (fin : Finishes racks.disk mid new d outcome a)
      (by_gate : IsByGate (gate_from answers before after) mid.catalog mid.core new.core)
      (unasked : d.piece.work ≡ End → after.asked ≡ before.asked) (asked : d.piece.work ≢ End → after.asked ≡ count_after before.asked 1) where
    abbrev hand : List Kept
    hand = kept_hand d ∷ []

    abbrev vs : List Kept
    vs = all_victims (relation old.core) (courses_in old.core) (moment_of old.core)

    core' : mid.core ≡ after_call old.core next
    core' = ap (λ (e : EngineState R B). e.core) is

    asked_by : (t : Bool) → same_work d.piece.work End ≡ t → count_after before.asked (length (if not t then hand else [])) ≡ after.asked
    asked_by true at = sym (unasked (is_end d.piece.work at))
    asked_by false at = sym (asked (no_end d.piece.work at))

    steps_by : (t : Bool) → same_work d.piece.work End ≡ t → steps_handed hand ≡ length (if not t then hand else [])
    steps_by t at = ap (λ b. length (if not b then hand else [])) at

    steps : steps_handed (kept_since old.core new.core) ≡ steps_handed hand
    steps =
        let ends = kept_by d.piece.number a in
        let kept = kept_of racks.disk mid new d outcome a fin ∙ (ap (λ ks. ks ++ ends) (kept_next old.core mid.core core' (chosen d) replied) ∙ append_assoc old.core.kept (vs ++ hand) ends) in
        let all = ap steps_handed (kept_is old.core new.core ((vs ++ hand) ++ ends) kept) in
        let two = steps-append (vs ++ hand) ends in
        let one = steps-append vs hand in
        let none = no_steps_ended d.piece.number a in
        let victims = no_victim_is_step old.core in
        omega (arith, all, two, one, none, victims)

    pub ran_turn : RanBy racks (gate_from answers before after) old new
    ran_turn = ran_so before after old new (new.core ∷ [])
        (only_then before before after old mid new settled is_core honest (only_next before old mid (chosen d) is replied goes) (only_work before after mid new d outcome a fin worked by_gate))
        (sym (ap (count_after before.asked) (steps ∙ steps_by (same_work d.piece.work End) refl) ∙ asked_by (same_work d.piece.work End) refl))
        (turn_by old mid new d core' replied outcome a fin, refl)

  -- and by one run after another.
  pub ran_then : (before between after : GateCounts) (old mid new : EngineState R B) → mid.phase ≡ phase.Settled → IsCore mid.core → (Told (racks.disk new.files.rack) → IsHonest (racks.disk new.files.rack))
      → RanBy racks (gate_from answers before between) old mid → RanBy racks (gate_from answers between after) mid new → RanBy racks (gate_from answers before after) old new
  ran_then before between after old mid new settled core honest first second =
      let one = (first.goes []).added in
      let two = (second.goes []).added in
      let kept_one = (first.goes []).kept in
      let kept_two = (second.goes []).kept in
      let all = kept_is old.core new.core (one ++ two) (kept_two ∙ (ap (λ ks. ks ++ two) kept_one ∙ append_assoc old.core.kept one two)) in
      let steps_one = ap steps_handed (kept_is old.core mid.core one kept_one) in
      let steps_two = ap steps_handed (kept_is mid.core new.core two kept_two) in
      let steps = ap steps_handed all ∙ (steps-append one two ∙ (ap (λ n. n + steps_handed two) (sym steps_one) ∙ ap (λ n. steps_handed (kept_since old.core mid.core) + n) (sym steps_two))) in
      let count = count-after before.asked (steps_handed (kept_since old.core mid.core)) (steps_handed (kept_since mid.core new.core)) in
      ran_so before after old new (first.cores ++ second.cores)
      (only_then before between after old mid new settled core honest (only_of before between old mid first) (only_of between after mid new second))
      (second.asked_once ∙ (ap (λ n. count_after n (steps_handed (kept_since mid.core new.core))) first.asked_once ∙ (sym count ∙ ap (count_after before.asked) (sym steps))))
      (turns-append first.cores second.cores old.core mid.core new.core first.turns second.turns)
