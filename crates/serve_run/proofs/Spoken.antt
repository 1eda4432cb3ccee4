-- A dialogue behind its first lines: what is printed of it, and that it is told.
use Rattle.std.proofs.Common.{◌≡◌, ◌∙◌, ◌≤◌, ℕ, List, [], ◌++◌, length, inl, inr, refl, ap, sym, subst, append_assoc, arith}
use Rattle.std.specs.Io.KnownBytes.{Appends, Consumes}
use Rattle.std.proofs.KnownBytes.{Appends-nil, Appends-trans, Consumes-nil, Consumes-trans}
use Rattle.process_flow.specs.Causes.{Rose}
use Rattle.process_flow.specs.declared.source.Source.{Ghosts as Sources}
use Rattle.process_flow.specs.declared.sink.Sink.{Ghosts as Sinks}
use Rattle.process_disk.specs.declared.rack.Rack.{Ghosts as Racks}
use Rattle.process_disk.specs.Disk.{IsHonest, Told}
use Rattle.process_tree.specs.Order.{Each}
use Rattle.process_tree.specs.declared.plan.Plan.{Plan}
use Rattle.machine_model.specs.Calls.{complete_all}
use Rattle.process_core.specs.Answers.{after_call}
use Rattle.process_core.specs.Cores.{IsCore}
use Rattle.session_play.specs.AtHand.{none_at_hand}
use Rattle.engine_steps.specs.Engines.{EngineState, full_history, with_core}
use Rattle.engine_steps.specs.Opening.{IsOpened}
use Rattle.engine_calls.specs.Runs.{GoesOn}
use Rattle.engine_calls.proofs.Goes.{goes_then}
use Rattle.command_refusals.specs.declared.status.Status.{Status}
use Rattle.command_refusals.specs.declared.status.Status.TheVariants.{WriteFault}
use Rattle.command_input.specs.Outputs.{output, IsTold}
use Rattle.history_opening.proofs.Rising.{rose_later}
use Rattle.driver_requests.specs.Readiness.{ready_text}
use Rattle.line_reader.specs.Taking.{most_ahead}
use Rattle.serve_run.specs.Dialogue.{Dialogue, DialogueState, EndsWith, HasConversed, IsAskedBy, IsBetween, IsDialogue, IsDialogueTold, bytes_of, driver_state, printed_of}
use Rattle.serve_run.specs.Serve.{IsHeld, begun_on, unspoken}
use Rattle.serve_run.proofs.Turns.{write_isnt_disk, write_isnt_read}
use Rattle.serve_run.proofs.Exchanges.{are_answered, answers_given, lines_taken, no_fewer_faults, no_read_fault, no_write_fault, numbered, read_in_turn, same_catalog}
use Rattle.serve_run.proofs.Tied.{go_tied, GoTied}

module _ {S K R B : Type 0} (s : Sources S) (k : Sinks K) (r : Racks R) (honest : (rack : R) → Told (r.disk rack) → IsHonest (r.disk rack)) (plans : List Plan) where
  module _ (a b : DialogueState S K R B) (ended : Status) (at : IsBetween r a.engine) (little : length a.ready ≤ most_ahead) (is : IsDialogue s k r plans a b ended) where
    abbrev mid : DialogueState S K R B
    mid = is.last

    abbrev taken : (given : List ℕ) × Consumes (s.left a.source) (s.left mid.source) given × (a.ready ++ given ≡ bytes_of is.exchanges ++ mid.ready)
    taken = lines_taken s k r honest plans a mid is.exchanges is.exchanged

    abbrev given : List ℕ
    given = taken.0 ++ is.over.given

    abbrev status : Status
    status = is.over.cut.status

    -- the bytes of the lines, and what stands behind them
    bytes_are : a.ready ++ given ≡ bytes_of is.exchanges ++ (mid.ready ++ is.over.given)
    bytes_are =
        sym (append_assoc a.ready taken.0 is.over.given)
        ∙ ap (λ xs. xs ++ is.over.given) taken.2
        ∙ append_assoc (bytes_of is.exchanges) mid.ready is.over.given

    consumed : Consumes (s.left a.source) (s.left b.source) given
    consumed = Consumes-trans (s.left a.source) (s.left mid.source) (s.left b.source) taken.0 is.over.given taken.1 is.over.consumed

    -- how it was held
    conversed : HasConversed a.engine.catalog plans (driver_state a) a.number b.engine.core (a.ready ++ given) (s.left b.source) is.exchanges is.over.unanswered is.over.cut.tail status
    conversed = record {
      last = driver_state mid;
      answered = are_answered s k r honest plans a mid is.exchanges is.exchanged;
      rest = mid.ready ++ is.over.given;
      lines = bytes_are;
      turns = record {
        ready = a.ready;
        given = given;
        bytes = refl;
        little = little;
        turns = read_in_turn s k r honest plans a mid is.exchanges is.exchanged is.over.given;
      };
      stops = is.over.stops;
      unread = is.over.unread;
      line = is.over.line;
      ends =
          subst (λ n. EndsWith a.engine.catalog plans (driver_state mid) n is.over.unanswered is.over.cut.tail b.engine.core status) (numbered s k r honest plans a mid is.exchanges is.exchanged)
          (subst (λ c. EndsWith c plans (driver_state mid) mid.number is.over.unanswered is.over.cut.tail b.engine.core status) (same_catalog s k r honest plans a mid is.exchanges is.exchanged) is.over.cut.ends);
    }

    abbrev asked : List Plan
    asked = is.over.cut.asked

    by_line : Each (IsAskedBy a.engine.catalog plans is.over.unanswered) asked
    by_line = subst (λ c. Each (IsAskedBy c plans is.over.unanswered) asked) (same_catalog s k r honest plans a mid is.exchanges is.exchanged) is.over.cut.by_line

    rack_later : r.faults a.engine.files.rack ≤ r.faults mid.engine.files.rack
    rack_later = no_fewer_faults s k r honest plans a mid is.exchanges is.exchanged

    quiet_sink : k.faults mid.sink ≡ k.faults a.sink
    quiet_sink = no_write_fault s k r honest plans a mid is.exchanges is.exchanged

    -- Behind first lines that went out of an engine that was opened, and in which whoever was active has begun to complete, it is held.
    module _ (e : EngineState R B) (sink : K) (opened : IsOpened e) (begun : IsCore e.core) (began : a.engine.core ≡ after_call e.core complete_all) (none : a.hand ≡ none_at_hand)
        (first : (may_start : List Plan) → GoesOn r may_start e a.engine) (front : Appends (k.taken sink) (k.taken a.sink) (ready_text (full_history e.core)))
        (quiet : k.faults a.sink ≡ k.faults sink) where
      begins : driver_state a ≡ begun_on e.catalog (full_history e.core)
      begins =
          ap (λ ps. record { core = a.engine.core; hand = ps }) none
          ∙ ap (λ core. record { core = core; hand = none_at_hand }) (began ∙ ap (λ core. after_call core complete_all) opened.core)

      -- it is told
      abbrev front_first : Dialogue
      front_first = record { front = ready_text (full_history e.core); exchanges = is.exchanges; unanswered = is.over.unanswered; tail = is.over.cut.tail }

      told : IsDialogueTold front_first status (output k sink) (output k b.sink) ended
      told = record {
        mid = output k mid.sink;
        whole = Appends-trans (k.taken sink) (k.taken a.sink) (k.taken mid.sink) (ready_text (full_history e.core)) (printed_of is.exchanges) front
            (answers_given s k r honest plans a mid is.exchanges is.exchanged);
        quiet = quiet_sink ∙ quiet;
        told = is.over.cut.told;
        write = λ fault. subst (λ f. Rose f (k.faults b.sink)) (quiet_sink ∙ quiet) (is.over.cut.write fault);
      }

      -- the engine went on from there, and the answers are tied
      behind : GoTied s k r honest plans e b.engine asked a.engine is.exchanges
      behind = go_tied s k r honest plans e b.engine asked a mid is.exchanges at (first []) is.exchanged is.over.cut.goes

      pub held : IsHeld s k r plans a.number a.ready a.source b.source sink b.sink e b.engine ended
      held =
          let own = first asked in
          record {
            given = given;
            consumed = consumed;
            dialogue = front_first;
            status = status;
            spoken = inl (
              refl,
              subst (λ d. HasConversed e.catalog plans d a.number b.engine.core (a.ready ++ given) (s.left b.source) is.exchanges is.over.unanswered is.over.cut.tail status) begins
                  (subst (λ c. HasConversed c plans (driver_state a) a.number b.engine.core (a.ready ++ given) (s.left b.source) is.exchanges is.over.unanswered is.over.cut.tail status) own.catalog conversed),
            );
            told = told;
            asked = asked;
            by_line = subst (λ c. Each (IsAskedBy c plans is.over.unanswered) asked) own.catalog by_line;
            goes = goes_then r asked e a.engine b.engine at.settled at.machine.session.one_each (honest b.engine.files.rack) own behind.0;
            tied = λ known. behind.1 known (r.disk e.files.rack).moment ((first []).follow known).later;
            phase = is.over.cut.phase;
            disk = λ fault. rose_later (r.faults e.files.rack) (r.faults mid.engine.files.rack) (r.faults b.engine.files.rack) (omega (arith, own.later, rack_later)) (is.over.cut.disk fault);
            read = λ fault. subst (λ f. Rose f (s.faults b.source)) (no_read_fault s k r honest plans a mid is.exchanges is.exchanged) (is.over.read fault);
            later = subst (λ f. f ≤ s.faults b.source) (no_read_fault s k r honest plans a mid is.exchanges is.exchanged) is.over.later;
          }

  -- The first lines were not taken whole: no line was answered.
  pub held_up : (e e' : EngineState R B) (source : S) (ready : List ℕ) (first : ℕ) (sink sink' : K) (ended : Status) → IsOpened e → e' ≡ with_core e (after_call e.core complete_all)
      → ((may_start : List Plan) → GoesOn r may_start e e') → (ended ≡ WriteFault) × IsTold WriteFault (ready_text (full_history e.core)) (output k sink) (output k sink') ended × Rose (k.faults sink) (k.faults sink')
      → IsHeld s k r plans first ready source source sink sink' e e' ended
  held_up e e' source ready first sink sink' ended opened began goes (is, told, rose) = record {
    given = [];
    consumed = Consumes-nil (s.left source);
    dialogue = unspoken (full_history e.core);
    status = WriteFault;
    spoken = inr (refl, refl, ap (λ (f : EngineState R B). f.core) began ∙ ap (λ core. after_call core complete_all) opened.core);
    told = record { mid = output k sink; whole = Appends-nil (k.taken sink); quiet = refl; told = told; write = λ same. rose };
    asked = [];
    by_line = tt;
    goes = goes [];
    tied = λ known. tt;
    phase = ap (λ (f : EngineState R B). f.phase) began ∙ opened.phase;
    disk = λ same. absurd (write_isnt_disk same);
    read = λ same. absurd (write_isnt_read same);
    later = omega arith;
  }
