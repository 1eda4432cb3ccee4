-- That each command does what it is for where no call failed: every other reply has a cause that isn't there.
use Rattle.std.proofs.Common.{◌≡◌, ◌≤◌, ◌⊎◌, ℕ, List, [], ◌∷◌, length, Bool, true, false, Option, Some, None, Err, refl, sym, ap, subst, ◌∙◌, inl, inr, if◌then◌else◌}
use Rattle.std.specs.Option.{option_map}
use Rattle.process_flow.specs.Causes.{Rose}
use Rattle.process_disk.specs.Disk.{Told, file_of}
use Rattle.process_tree.specs.declared.tree.Named.{Named}
use Rattle.process_text.specs.Words.{words_of}
use Rattle.process_text.specs.Grammar.{IsReading}
use Rattle.process_text.specs.Places.{text_error}
use Rattle.process_text.specs.declared.error.TextError.{TextError}
use Rattle.process_text.specs.declared.error.TextError.TheVariants as errors
use Rattle.process_text.proofs.ProcessesPassing.{error_has_no_reading}
use Rattle.commute_table.specs.declared.catalog.Catalog.{Catalog}
use Rattle.schedule_model.specs.declared.history.History.{History}
use Rattle.process_journal.specs.Journals.{IsHistoryUnder}
use Rattle.process_journal.specs.Opened.{IsJournalOf}
use Rattle.process_journal.specs.declared.errors.JournalError.{JournalError}
use Rattle.process_journal.specs.declared.errors.JournalError.TheVariants as journal
use Rattle.process_journal.proofs.NeverRefused.{journals_are_opened}
use Rattle.command_refusals.specs.Statuses.{IsOneOf}
use Rattle.command_refusals.specs.declared.status.Status.{Status}
use Rattle.command_refusals.specs.declared.status.Status.TheVariants.{Done, IllFormed, NoMemory}
use Rattle.command_refusals.specs.declared.refusal.Refusal.{Refusal}
use Rattle.command_refusals.specs.declared.refusal.Refusal.TheVariants as refusals
use Rattle.command_refusals.specs.Refusals.{error_status, refusal_status}
use Rattle.command_input.specs.Inputs.{Input, most_input, first_refusal, text_tests, IsRefused}
use Rattle.command_input.specs.FilesLeft.{Files}
use Rattle.process_top.specs.Told.{Output, IsTold}
use Rattle.journal_input.specs.Opening.{journal_refusal, IsNotOpened}
use Rattle.command_input.proofs.InputRefusals.{is_within}

-- an input that is told, and its count of faults
abbrev pub given : Option (List ℕ) → ℕ → Input
given left faults = record { left = left; faults = faults }

-- without a fault of the sink, the status is that of the reply
pub told_well : (status : Status) (text : List ℕ) (before after : Output) (ended : Status) → IsTold status text before after ended → ¬ Rose before.faults after.faults → ended ≡ status
told_well status text before after ended (inl well) quiet = well.0
told_well status text before after ended (inr failed) quiet = absurd (quiet failed.1)

-- without a fault of the source, an input is refused by its tests, or memory was wanting
pub quietly_refused : (tests : List ℕ → List (Option Refusal)) (r : Refusal) (text : List ℕ) (faults : ℕ) (after : Input) → IsRefused tests r (given (Some text) faults) after → ¬ Rose faults after.faults
    → (first_refusal (tests text) ≡ Some r → refusal_status r ≡ NoMemory) → refusal_status r ≡ NoMemory
quietly_refused tests refusals.BadWords text faults after why quiet by = by why.1
quietly_refused tests (refusals.Text e) text faults after why quiet by = by why.1
quietly_refused tests (refusals.Scenario fault) text faults after why quiet by = by why.1
quietly_refused tests (refusals.Commuting a b) text faults after why quiet by = by why.1
quietly_refused tests (refusals.CatalogDiffers n) text faults after why quiet by = by why.1
quietly_refused tests (refusals.BadLine n) text faults after why quiet by = by why.1
quietly_refused tests (refusals.Limit quantity n) text faults after why quiet by = by why.1
quietly_refused tests (refusals.Unfinished i) text faults after why quiet by = by why.1
quietly_refused tests (refusals.File fault) text faults after why quiet by = by why.1
quietly_refused tests (refusals.BookDiffers q n) text faults after why quiet by = by why.1
quietly_refused tests (refusals.Report fault) text faults after why quiet by = by why.1
quietly_refused tests refusals.ReadFault text faults after why quiet by = absurd (quiet why)
quietly_refused tests refusals.DiskFault text faults after why quiet by = by why.1
quietly_refused tests (refusals.Exhausted i step) text faults after why quiet by = by why.1
quietly_refused tests refusals.NoMemory text faults after why quiet by = refl

no_fault_or_memory : (text : List ℕ) (e : TextError) (ps : List Named) → IsReading (words_of text) ps → (e ≡ errors.NoMemory) ⊎ ((qs : List Named) → ¬ IsReading (words_of text) qs) → e ≡ errors.NoMemory
no_fault_or_memory text e ps reading (inl memory) = memory
no_fault_or_memory text e ps reading (inr none) = absurd (none ps reading)

passed_by : (text : List ℕ) (found : Option TextError) (r : Refusal) (ps : List Named) → text_error text ≡ found → IsReading (words_of text) ps
    → first_refusal (None ∷ option_map refusals.Text found ∷ []) ≡ Some r → refusal_status r ≡ NoMemory
passed_by text None r ps is reading first = absurd (cc)
passed_by text (Some e) r ps is reading first =
    let same : refusals.Text e ≡ r = cc in
    let memory = no_fault_or_memory text e ps reading (error_has_no_reading {T = ℕ} (Err e) text (inr is)) in
    ap refusal_status (sym same) ∙ ap error_status memory

-- a text in the grammar, within the limit, passes its tests
pub text_passes : (text : List ℕ) (r : Refusal) (ps : List Named) → length text ≤ most_input → IsReading (words_of text) ps → first_refusal (text_tests text) ≡ Some r → refusal_status r ≡ NoMemory
text_passes text r ps within reading first =
    passed_by text (text_error text) r ps refl reading (subst (λ (o : Option Refusal). first_refusal (o ∷ option_map refusals.Text (text_error text) ∷ []) ≡ Some r) (is_within text within) first)

-- the status of verdicts is one of two
pub by_any : (any : Bool) (status : Status) → status ≡ (if any then IllFormed else Done) → IsOneOf status (Done ∷ IllFormed ∷ NoMemory ∷ [])
by_any true status is = inr (inl is)
by_any false status is = inl is

opened_or_memory : (e : JournalError) (before after : ℕ) → (e ≡ journal.DiskFault) ⊎ (e ≡ journal.NoMemory) → (e ≡ journal.DiskFault → Rose before after) → ¬ Rose before after → refusal_status (journal_refusal e) ≡ NoMemory
opened_or_memory e before after (inl fault) rose quiet = absurd (quiet (rose fault))
opened_or_memory e before after (inr memory) rose quiet = ap (λ (x : JournalError). refusal_status (journal_refusal x)) memory

-- the journal of a history is opened, or memory was wanting
pub not_opened_quietly : (r : Refusal) (before after : Files) (c : Catalog) (h : History) → IsNotOpened r before after → ¬ Rose before.faults after.faults → IsHistoryUnder c h → Told before.disk
    → IsJournalOf c h before.disk.files → refusal_status r ≡ NoMemory
not_opened_quietly r before after c h why quiet good told log =
    ap refusal_status why.1 ∙ opened_or_memory why.0 before.faults after.faults (journals_are_opened c h (file_of before.disk.files 0) why.0 good log (why.2 told)) why.3 quiet
