-- What is due on words for which memory was wanting.
use Rattle.std.proofs.Common.{◌≡◌, true, false, Option, Some, None, take, refl, ap, inl, inr}
use Rattle.process_journal.specs.declared.errors.JournalError.TheVariants as journal
use Rattle.history_opening.specs.declared.faults.OpenError.TheVariants as opening
use Rattle.commute_table.specs.declared.errors.ScenarioError.TheVariants as scenarios
use Rattle.program_words.specs.declared.reading.Command.{Command}
use Rattle.program_words.specs.declared.reading.Command.TheVariants.{Check, Expand, Init, Run, Session, Serve, Restart, Show, Replay, Verify, Audit, Gen, Bulk, Help, Version}
use Rattle.command_refusals.specs.declared.refusal.Refusal.TheVariants.{NoMemory}
use Rattle.command_input.specs.FilesLeft.{AreUntouched}
use Rattle.worker_gate.specs.ManyGates.{AskedGates}
use Rattle.process_top.specs.Worlds.{Input, Files}
use Rattle.process_top.specs.Replies.{refused}
use Rattle.process_top.specs.Commands.{IsDueTo}

pub no_words_due : (o : Option Command) (gates : AskedGates) (before after : Input) (files files_after : Files) → gates.after ≡ gates.before → AreUntouched files files_after → IsDueTo o gates before after files files_after (refused NoMemory)
no_words_due None gates before after files files_after unasked untouched = (inr refl, untouched)
no_words_due (Some Check) gates before after files files_after unasked untouched = (tt, untouched)
no_words_due (Some Expand) gates before after files files_after unasked untouched = (inl (inr (inr refl)), untouched)
no_words_due (Some (Init values strict)) gates before after files files_after unasked untouched = inl (inr (inr refl), untouched)
no_words_due (Some (Run workers)) gates before after files files_after unasked untouched = inl (inl (inr (inr refl), untouched), ap (take workers) unasked)
no_words_due (Some Session) gates before after files files_after unasked untouched = inl (inl (inr (inr refl), untouched))
no_words_due (Some Serve) gates before after files files_after unasked untouched = inl (inl (inr (inr refl), untouched))
no_words_due (Some Restart) gates before after files files_after unasked untouched =
    inl (opening.NoMemory, refl, record { due = λ told. inl refl; left = λ told. inl (inl (untouched told)); fault = λ is. absurd (cc) })
no_words_due (Some Show) gates before after files files_after unasked untouched = ((journal.NoMemory, refl, λ told. tt, λ is. absurd (cc)), untouched)
no_words_due (Some Replay) gates before after files files_after unasked untouched = (inl (journal.NoMemory, refl, λ told. tt, λ is. absurd (cc)), untouched)
no_words_due (Some Verify) gates before after files files_after unasked untouched = (tt, untouched)
no_words_due (Some (Audit false)) gates before after files files_after unasked untouched = (inl (inr (inr refl)), untouched)
no_words_due (Some (Audit true)) gates before after files files_after unasked untouched = (inl (inr (inr refl)), untouched)
no_words_due (Some (Gen number count)) gates before after files files_after unasked untouched = (refl, untouched)
no_words_due (Some (Bulk number count)) gates before after files files_after unasked untouched = inl (inl ((scenarios.NoMemory, refl, tt), untouched))
no_words_due (Some (Help about)) gates before after files files_after unasked untouched = (refl, untouched)
no_words_due (Some Version) gates before after files files_after unasked untouched = (refl, untouched)
