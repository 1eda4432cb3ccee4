-- The same answer, told of an equal world and of an equal number, and of what is in a source in place of it.
use Rattle.std.specs.Prelude.{List, Option}
use Rattle.std.proofs.Common.{◌≡◌, ℕ, map, ap, subst, sym, ◌∙◌}
use Rattle.std.specs.Prelude.{not, replicate, Some, None}
use Rattle.std.specs.Option.{option_map}
use Rattle.process_flow.specs.declared.source.Source.{Ghosts as Sources}
use Rattle.process_flow.specs.declared.sink.Sink.{Ghosts as Sinks}
use Rattle.process_disk.specs.declared.rack.Rack.{Ghosts as Racks}
use Rattle.worker_gate.specs.Gates.{PlainState, plain_answer}
use Rattle.command_refusals.specs.declared.refusal.Refusal.{Refusal}
use Rattle.process_flow.specs.Causes.{Rose}
use Rattle.program_words.specs.Commands.{asked}
use Rattle.command_input.specs.Inputs.{Input, input}
use Rattle.command_input.specs.Outputs.{output}
use Rattle.kept_source.specs.Keeping.{IsKeptOf}
use Rattle.diagnostics.specs.Diagnostics.{IsSaidBeside}
use Rattle.process_top.specs.Worlds.{BoxState, GatesState, World}
use Rattle.process_top.specs.Run.{gates_asked}
use Rattle.process_top.specs.Commands.{Answers, DoesItsWork, IsDueTo, only_reads}
use Rattle.process_program.specs.Ends.{AnswersSo, RackOver, world_over}
use Rattle.process_program.specs.Own.{Own, empty_boxes, new_gates, new_own}

-- an answer from an equal world, at an equal number
pub same_answer : {S K D : Type 0} (words : List (List ℕ)) (before before' after : World S K D) (number number' : ℕ) (refusal : Option Refusal) → before ≡ before' → number ≡ number'
    → Answers words before after number refusal → Answers words before' after number' refusal
same_answer words before before' after number number' refusal by_before by_number answers =
    subst (λ n. Answers words before' after n refusal) by_number
    (subst (λ b. Answers words b after number refusal) by_before answers)

-- a world, seen over this source
abbrev pub seen_over : {S T K R : Type 0} → Sources S → World T K R → S → World S K R
seen_over s w source = record {
  source = source;
  sink = w.sink;
  rack = w.rack;
  input = input s source;
  output = w.output;
  files = w.files;
  boxes = w.boxes;
  gates = w.gates;
}

-- an answer over a source is one over another that is told of alike, and that stays as it is where that does
pub answer_seen : {S T K R : Type 0} (s : Sources S) (words : List (List ℕ)) (before after : World T K R) (number : ℕ) (refusal : Option Refusal) → Answers words before after number refusal
    → (source source' : S) → before.input ≡ input s source → after.input ≡ input s source' → (after.source ≡ before.source → source' ≡ source)
    → Answers words (seen_over s before source) (seen_over s after source') number refusal
answer_seen s words before after number refusal answers source source' same same' stays = record {
  status = answers.status;
  numbered = answers.numbered;
  reply = answers.reply;
  due = subst (λ (i : Input). IsDueTo (asked words) (gates_asked before.gates after.gates) i (input s source') before.files after.files answers.reply) same
      (subst (λ (i : Input). IsDueTo (asked words) (gates_asked before.gates after.gates) before.input i before.files after.files answers.reply) same' answers.due);
  told = answers.told;
  refused = answers.refused;
  complete = λ quiet. subst (λ (i : Input). DoesItsWork (asked words) i before.files answers.status) same
      (answers.complete
      (record {
        input = λ needed. subst (λ (i : Input). ¬ Rose before.input.faults i.faults) (sym same') (subst (λ (i : Input). ¬ Rose i.faults (input s source').faults) (sym same) (quiet.input needed));
        files = quiet.files;
        output = quiet.output;
      }));
  left = answers.left;
  boxes = answers.boxes;
  kept = answers.kept;
  values = answers.values;
  replayed = answers.replayed;
  gates = answers.gates;
  unasked = answers.unasked;
  untouched = answers.untouched;
  unread = λ none. stays (answers.unread none);
  early = answers.early;
  early_status = answers.early_status;
  listed = answers.listed;
}

-- boxes and gates with which a call begins
pub own_is_new : (boxes : List BoxState) (gates : GatesState) → boxes ≡ empty_boxes → gates ≡ new_gates → record { boxes = boxes; gates = gates } ≡ new_own
own_is_new boxes gates empty new = ap {B = Own} (λ b. record { boxes = b; gates = gates }) empty ∙ ap {B = Own} (λ g. record { boxes = empty_boxes; gates = g }) new

-- sixteen plain gates that were never asked
pub gates_are_new : (gates : List PlainState) → gates ≡ replicate 16 (record { calls = 0; refusals = 0 })
    → record { answers = λ p. Some (plain_answer p); counts = map (λ g. record { asked = g.calls; refusals = g.refusals }) gates } ≡ new_gates
gates_are_new gates are = ap {B = GatesState} (λ (gs : List PlainState). record { answers = λ p. Some (plain_answer p); counts = map (λ g. record { asked = g.calls; refusals = g.refusals }) gs }) are

-- what is answered over a rack that was never called, with new boxes and gates, is so answered
pub answers_over_new : {S K E R D : Type 0} (s : Sources S) (k : Sinks K) (e : Sinks E) (r : Racks R) (over : RackOver R D) (words : List (List ℕ)) (source source' : S) (sink sink' : K) (errors errors' : E) (folder : D)
    (rack rack' : R) (boxes boxes' : List BoxState) (gates gates' : GatesState) (number number' : ℕ) (refusal : Option Refusal) (given : Option (List ℕ)) → over.folder rack ≡ folder
    → over.writes rack ≡ not (only_reads words) → over.is_new rack → number ≡ number' → boxes ≡ empty_boxes → gates ≡ new_gates
    → Answers words (world_over s k r source sink rack (record { boxes = boxes; gates = gates })) (world_over s k r source' sink' rack' (record { boxes = boxes'; gates = gates' })) number refusal
    → IsKeptOf (s.left source) (s.left source') given → IsSaidBeside words number refusal given (output e errors) (output e errors')
    → AnswersSo s k e r over words source sink errors folder source' sink' errors' rack' number'
answers_over_new s k e r over words source source' sink sink' errors errors' folder rack rack' boxes boxes' gates gates' number number' refusal given by_folder by_writes is_new by_number empty new answers consumed said = (
  rack,
  by_folder,
  by_writes,
  is_new,
  (
    record { boxes = boxes'; gates = gates' },
    refusal,
    same_answer words (world_over s k r source sink rack (record { boxes = boxes; gates = gates })) (world_over s k r source sink rack new_own) (world_over s k r source' sink' rack' (record { boxes = boxes'; gates = gates' }))
        number number' refusal (ap (world_over s k r source sink rack) (own_is_new boxes gates empty new)) by_number answers,
    (
      given,
      consumed,
      subst (λ n. IsSaidBeside words n refusal given (output e errors) (output e errors')) by_number said,
    ),
  ),
)

-- what is kept of what was handed on since a source had this left
pub given_inside : {A : Type 0} (before opening left after : Option (List ℕ)) (bytes : A → List ℕ) (kept : Option A) → before ≡ opening → left ≡ after → IsKeptOf opening left (option_map bytes kept)
    → IsKeptOf before after (option_map bytes kept)
given_inside before opening left after bytes kept by_opening by_after given =
    subst (λ b. IsKeptOf b after (option_map bytes kept)) (sym by_opening) (subst (λ a. IsKeptOf opening a (option_map bytes kept)) by_after given)
