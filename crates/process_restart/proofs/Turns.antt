-- Processes that were run in turn: by no turn, and by one turn after another.
use Rattle.std.proofs.Common.{◌≡◌, ◌∙◌, [], ◌++◌, Option, refl, ap, subst, sym, append-nil, append_assoc, arith}
use Rattle.process_disk.specs.declared.rack.Rack.{Ghosts as Racks}
use Rattle.process_disk.specs.Disk.{IsHonest, Told}
use Rattle.process_disk.specs.Images.{EachImage}
use Rattle.process_tree.specs.Order.{Each}
use Rattle.machine_model.specs.Replies.{Handed}
use Rattle.process_core.specs.Cores.{IsCore}
use Rattle.history_files.specs.Sound.{IsSound}
use Rattle.engine_steps.specs.Engines.{EngineState, full_history}
use Rattle.engine_steps.specs.declared.engines.Phase.TheVariants as phase
use Rattle.process_engine.specs.declared.gates.Answer.{Answer}
use Rattle.engine_calls.specs.GateAnswers.{GateCounts, count_after, kept_since, steps_handed}
use Rattle.engine_calls.proofs.GateRuns.{by_gate_none, gate_from, kept_is}
use Rattle.engine_calls.proofs.Goes.{goes_none}
use Rattle.worker_gate.specs.Running.{IsOfRunning}
use Rattle.worker_gate.proofs.RanRuns.{OnlyRuns, count-after, only_then, steps-append}
use Rattle.process_restart.specs.Completing.{AreInTurn}
use Rattle.process_restart.specs.Turns.{RanInTurn}
use Rattle.process_restart.proofs.InTurn.{in_turn-append}

module _ {R B : Type 0} (racks : Racks R) (answers : Handed → Option Answer) where
  -- what of it is so wherever processes are only run
  only_of : (before after : GateCounts) (old new : EngineState R B) → RanInTurn racks (gate_from answers before after) old new → OnlyRuns racks answers before after old new
  only_of before after old new ran = record { goes = ran.goes; plans = ran.plans; running = ran.running; by_gate = ran.by_gate }

  -- By no turn they were run in turn,
  pub turns_none : (count : GateCounts) (e : EngineState R B) → IsCore e.core → (Told (racks.disk e.files.rack) → EachImage (racks.disk e.files.rack) (racks.disk e.files.rack).moment (IsSound e.catalog (full_history e.core)))
      → RanInTurn racks (gate_from answers count count) e e
  turns_none count e core each =
      let nothing = sym (append-nil e.core.kept) in
      let none = kept_is e.core e.core [] nothing in
      record {
        goes = λ may_start. goes_none racks may_start e core each;
        plans = refl;
        running = subst (Each IsOfRunning) (sym none) tt;
        by_gate = by_gate_none (gate_from answers count count) e.catalog (omega arith) e.core e.core [] nothing tt;
        asked_once = ap (λ ks. count_after count.asked (steps_handed ks)) (sym none);
        turns = subst (AreInTurn e.core) (sym none) tt;
        completed = refl;
      }

  -- and by one turn after another.
  pub turns_then : (before between after : GateCounts) (old mid new : EngineState R B) → mid.phase ≡ phase.Settled → IsCore mid.core → (Told (racks.disk new.files.rack) → IsHonest (racks.disk new.files.rack))
      → RanInTurn racks (gate_from answers before between) old mid → RanInTurn racks (gate_from answers between after) mid new → RanInTurn racks (gate_from answers before after) old new
  turns_then before between after old mid new settled core honest first second =
      let one = kept_since old.core mid.core in
      let two = kept_since mid.core new.core in
      let is_one = kept_is old.core mid.core (first.goes []).added (first.goes []).kept in
      let is_two = kept_is mid.core new.core (second.goes []).added (second.goes []).kept in
      let kept_one : mid.core.kept ≡ old.core.kept ++ one = (first.goes []).kept ∙ ap (λ ks. old.core.kept ++ ks) (sym is_one) in
      let kept_two : new.core.kept ≡ mid.core.kept ++ two = (second.goes []).kept ∙ ap (λ ks. mid.core.kept ++ ks) (sym is_two) in
      let all = kept_is old.core new.core (one ++ two) (kept_two ∙ (ap (λ ks. ks ++ two) kept_one ∙ append_assoc old.core.kept one two)) in
      let only = only_then racks answers before between after old mid new settled core honest (only_of before between old mid first) (only_of between after mid new second) in
      record {
        goes = only.goes;
        plans = only.plans;
        running = only.running;
        by_gate = only.by_gate;
        asked_once = second.asked_once ∙ (ap (λ n. count_after n (steps_handed two)) first.asked_once
            ∙ (sym (count-after before.asked (steps_handed one) (steps_handed two)) ∙ ap (count_after before.asked) (sym (steps-append one two) ∙ ap steps_handed (sym all))));
        turns = subst (AreInTurn old.core) (sym all)
            (in_turn-append old.core mid.core one two (record { conflicts = (first.goes []).conflicts; plans = first.plans; opening = (first.goes []).opening; kept = kept_one }) first.turns second.turns);
        completed = second.completed ∙ first.completed;
      }
