-- Words that give no command, or for which memory was wanting, are answered, and all is left as it was.
use Rattle.std.proofs.Common.{◌≡◌, ◌≤◌, ◌∙◌, ℕ, true, false, Option, Some, None, Err, ap, refl, subst, sym, inl, arith}
use Rattle.program_words.specs.Asked.{Answers as IsReadAs}
use Rattle.program_words.specs.declared.reading.Command.{Command}
use Rattle.program_words.specs.declared.reading.Command.TheVariants.{Check, Expand, Init, Run, Session, Serve, Restart, Show, Replay, Verify, Audit, Gen, Bulk, Help, Version}
use Rattle.program_words.specs.declared.refusals.WordsError.{WordsError}
use Rattle.program_words.specs.declared.refusals.WordsError.TheVariants.{BadWords, NoMemory}
use Rattle.command_refusals.specs.Statuses.{number_of}
use Rattle.command_refusals.specs.declared.status.Status.{Status}
use Rattle.command_refusals.specs.declared.status.Status.TheVariants.{NoMemory as NoMemory'}
use Rattle.command_refusals.specs.declared.refusal.Refusal.{Refusal}
use Rattle.command_refusals.specs.declared.refusal.Refusal.TheVariants as refusals
use Rattle.command_input.specs.FilesLeft.{AreUntouched}
use Rattle.history_files.specs.Boxes.{AreBoxes}
use Rattle.worker_gate.specs.ManyGates.{AskedGates}
use Rattle.serve_run.specs.declared.command.Ending.TheVariants as endings
use Rattle.process_top.specs.Worlds.{Files, Input, World}
use Rattle.process_top.specs.Replies.{refused}
use Rattle.process_top.specs.Told.{Output, IsRefusalTold}
use Rattle.process_top.specs.Said.{HasWorked}
use Rattle.process_top.specs.Commands.{AnswersTo, IsDueTo, words_refusal}
use Rattle.process_top.specs.Values.{ListsAreOfValues}
use Rattle.process_top.proofs.Answered.{result_is_answered}
use Rattle.process_top.proofs.Due.{no_words_due}
use Rattle.process_top.proofs.Wanting.{audit_wanting, history_wanting, replay_wanting}

-- bad words ask for nothing
pub bad_ask_nothing : (o : Option Command) (why : WordsError) → IsReadAs o (Err why) → why ≡ BadWords → o ≡ None
bad_ask_nothing o BadWords read is = read
bad_ask_nothing o NoMemory read is = absurd cc

due_of : (o : Option Command) (gates : AskedGates) (before after : Input) (files files_after : Files) (why : WordsError) → (why ≡ BadWords → o ≡ None) → gates.after ≡ gates.before → AreUntouched files files_after
    → IsDueTo o gates before after files files_after (refused (words_refusal why))
due_of o gates before after files files_after BadWords bad unasked untouched =
    subst (λ o. IsDueTo o gates before after files files_after (refused refusals.BadWords)) (sym (bad refl)) (inl refl, untouched)
due_of o gates before after files files_after NoMemory bad unasked untouched = no_words_due o gates before after files files_after unasked untouched

wanting_worked : (o : Option Command) (before after : Input) (files files_after : Files) (out out_after : Output) → HasWorked o before after files files_after out out_after (endings.Due (Err refusals.NoMemory))
wanting_worked None before after files files_after out out_after = tt
wanting_worked (Some Check) before after files files_after out out_after = tt
wanting_worked (Some Expand) before after files files_after out out_after = tt
wanting_worked (Some (Init values strict)) before after files files_after out out_after = tt
wanting_worked (Some (Run workers)) before after files files_after out out_after = λ bytes c plans h scenario room quiet. refl
wanting_worked (Some Session) before after files files_after out out_after = λ bytes c plans lines h text rest quiet. refl
wanting_worked (Some Serve) before after files files_after out out_after = λ bytes c plans h scene known sound quiet told. refl
wanting_worked (Some Restart) before after files files_after out out_after = λ c h told sound quiet. refl
wanting_worked (Some Show) before after files files_after out out_after = tt
wanting_worked (Some Replay) before after files files_after out out_after = λ quiet. replay_wanting files.disk NoMemory' refl
wanting_worked (Some Verify) before after files files_after out out_after = tt
wanting_worked (Some (Audit false)) before after files files_after out out_after = λ quiet. audit_wanting before NoMemory' refl
wanting_worked (Some (Audit true)) before after files files_after out out_after = λ quiet. history_wanting before files NoMemory' refl
wanting_worked (Some (Gen number count)) before after files files_after out out_after = tt
wanting_worked (Some (Bulk number count)) before after files files_after out out_after = λ c plans fits empty quiet. refl
wanting_worked (Some (Help about)) before after files files_after out out_after = tt
wanting_worked (Some Version) before after files files_after out out_after = tt

worked_of : (o : Option Command) (before after : Input) (files files_after : Files) (out out_after : Output) (why : WordsError) → (why ≡ BadWords → o ≡ None)
    → HasWorked o before after files files_after out out_after (endings.Due (Err (words_refusal why)))
worked_of o before after files files_after out out_after BadWords bad =
    subst (λ o. HasWorked o before after files files_after out out_after (endings.Due (Err refusals.BadWords))) (sym (bad refl)) tt
worked_of o before after files files_after out out_after NoMemory bad = wanting_worked o before after files files_after out out_after

-- the world in which this was written to the sink
abbrev pub written : {S K R : Type 0} → World S K R → K → Output → World S K R
written x sink out =
    record { source = x.source; sink = sink; rack = x.rack; input = x.input; output = out; files = x.files; boxes = x.boxes; gates = x.gates }

pub unread_is_answered : {S K R : Type 0} (law : ListsAreOfValues) (o : Option Command) (x : World S K R) (sink : K) (out : Output) (number : ℕ) (refusal : Option Refusal) (at : Status) (why : WordsError) (r : Refusal) → r ≡ words_refusal why
    → refusal ≡ Some r → (why ≡ BadWords → o ≡ None) → number ≡ number_of at → AreUntouched x.files x.files → AreBoxes (λ b. b.kind) x.boxes → IsRefusalTold r x.output out at → x.output.faults ≤ out.faults
    → AnswersTo o x (written x sink out) number refusal
unread_is_answered law o x sink out number refusal at why r is refuses bad numbered untouched are told later =
    result_is_answered law o x (written x sink out) number refusal at numbered (record { tells = refl; later = omega arith }) are (λ none. refl) (record { answers = refl; count = refl; others = refl }) (λ none. refl) (λ none. refl)
    (λ none. refl) (Err (words_refusal why)) (due_of o _ x.input x.input x.files x.files why bad refl untouched) (subst (λ q. IsRefusalTold q x.output out at) is told) (refuses ∙ ap Some is) later
    (worked_of o x.input x.input x.files x.files x.output x.output why bad) (λ early. refl) tt (λ asks. tt) (λ asks. tt)
