-- A scenario, a source and files in which nothing is wrong are refused for want of memory alone.
use Rattle.std.proofs.Common.{◌≡◌, ◌⊎◌, ◌<◌, ◌≤◌, ◌∙◌, ℕ, List, length, Some, None, IfSome, Ok, Err, inl, inr, ap, sym, subst, arith}
use Rattle.std.specs.declared.alloc.Global.{Global}
use Rattle.process_disk.specs.Disk.{FileSet, file_of}
use Rattle.process_tree.specs.Shape.{first_of}
use Rattle.process_tree.specs.declared.plan.Plan.{Plan}
use Rattle.process_text.specs.Words.{words_of}
use Rattle.process_text.proofs.Reprinted.{readings_are_alike}
use Rattle.process_text.proofs.TextFound.{reading_or_fault}
use Rattle.schedule_model.specs.declared.history.History.{History}
use Rattle.schedule_model.specs.Histories.{active}
use Rattle.commute_table.specs.declared.catalog.Catalog.{Catalog}
use Rattle.commute_table.specs.declared.scenario.Scenario.{Scenario}
use Rattle.commute_table.specs.Document.{Said as Said', Says}
use Rattle.process_journal.specs.Laws.{IsSameHistory}
use Rattle.process_journal.proofs.OneHistory.{one_history_at_most}
use Rattle.history_files.specs.Sound.{IsSound}
use Rattle.history_opening.specs.Laws.{SoundFilesAreOpened}
use Rattle.history_opening.specs.declared.faults.OpenError.{OpenError}
use Rattle.history_opening.specs.declared.faults.OpenError.TheVariants as errors
use Rattle.command_refusals.specs.declared.refusal.Refusal.{Refusal}
use Rattle.command_refusals.specs.declared.refusal.Refusal.TheVariants as refusals
use Rattle.command_input.specs.declared.scenario.NoPlans.TheVariants.{Refused, IllFormed}
use Rattle.command_input.specs.FilesLeft.{Files}
use Rattle.command_input.specs.Inputs.{Input, IsWholeText, HasNoText, most_input}
use Rattle.command_input.specs.Scenarios.{AreNoGoodPlans, IsBound, IsNotBound}
use Rattle.scenario_run.specs.Completeness.{AreSoundAndIdle, NothingFailed}
use Rattle.scenario_run.specs.Opening.{AreNotOpened, AreOpenedOn, IsNotOpenedFor, IsOther, open_refusal}
use Rattle.scenario_run.proofs.OpeningParts.{for_in_parts, IsRefusedIdle, IsUnfit}
use Rattle.command_input.proofs.ScenarioParts.{not_well_formed, plans_ill_formed, plans_refused, IsPlanRefusal}
use Rattle.scenario_run.proofs.NotRefused.{no_plans, no_scenario, no_text, no_verdict, says_one}
use Rattle.scenario_run.proofs.OwnCatalog.{own_catalog}

-- the scenario that is said, if one is
abbrev said_or : Scenario → Said' Scenario → Scenario
said_or other (Ok s) = s
said_or other (Err e) = other

-- files are sound for one history at most
pub one_sound : (c d : Catalog) (h k : History) (fs : FileSet) → IsSound c h fs → IsSound d k fs → (d ≡ c) × IsSameHistory h k
one_sound c d h k fs one two = one_history_at_most c d h k (file_of fs 0) one.history two.history one.journal two.journal

-- A source that has a text within the limit, and of which no call failed, gives that text.
module _ (before after : Input) (files files_after : Files) (bytes : List ℕ) (told : before.left ≡ Some bytes) (within : length bytes ≤ most_input)
    (quiet : NothingFailed before after files files_after) where
  pub whole_is : (text : List ℕ) → IsWholeText before after text → text ≡ bytes
  whole_is text whole = subst (λ o. IfSome o (λ given. text ≡ given)) told whole.2

  pub no_lack : (r : Refusal) → HasNoText r before after → r ≡ refusals.NoMemory
  no_lack r (inl long) = absurd (let more = subst (λ o. IfSome o (λ text. most_input < length text)) told long.1 in let few = within in omega arith)
  no_lack r (inr (inl fault)) = absurd (quiet.source fault.1)
  no_lack r (inr (inr memory)) = memory

-- A scenario that is bound to well-formed plans
module _ (alloc : Global) (bytes : List ℕ) (c : Catalog) (plans : List Plan) (bound : IsBound bytes c plans) where
  -- says its catalog and the text of its processes,
  abbrev own : Scenario
  own = record { catalog = c; processes = bound.0 }

  no_good : (s : Scenario) (r : Refusal) → Says bytes (Ok s) → AreNoGoodPlans s.catalog.ops s.processes (Refused r) → r ≡ refusals.NoMemory
  no_good s r says why =
      let same : own ≡ s = ap (said_or s) (says_one bytes (Ok own) (Ok s) bound.1 says) in
      by_why (plans_refused c.ops bound.0 r (subst (λ (t : Scenario). AreNoGoodPlans t.catalog.ops t.processes (Refused r)) (sym same) why))
    where
      by_why : IsPlanRefusal c.ops bound.0 r → r ≡ refusals.NoMemory
      by_why (inl text) = no_text (reading_or_fault alloc) bound.0 bound.2.0 r bound.2.1 text
      by_why (inr (qs, reading, none)) = no_plans c.ops bound.2.0 qs (readings_are_alike (words_of bound.0) bound.2.0 qs bound.2.1 reading) plans bound.2.2 r none

  -- isn't refused,
  pub unbound : (r : Refusal) → IsNotBound bytes (Refused r) → r ≡ refusals.NoMemory
  unbound r (inl bad) = no_scenario bytes own r bound.1 bad
  unbound r (inr (s, says, why)) = no_good s r says why

  -- has no process that is ill-formed,
  pub ill_formed : (line : _) → IsNotBound bytes (IllFormed line) → ⊥
  ill_formed line why =
      let ill = not_well_formed bytes line why in
      let same : own ≡ ill.0 = ap (said_or ill.0) (says_one bytes (Ok own) (Ok ill.0) bound.1 ill.1) in
      let bad = plans_ill_formed c.ops bound.0 line (subst (λ (t : Scenario). AreNoGoodPlans t.catalog.ops t.processes (IllFormed line)) (sym same) ill.2) in
      no_verdict bound.2.0 bad.0 (readings_are_alike (words_of bound.0) bound.2.0 bad.0 bound.2.1 bad.1) bound.2.3 line.items bad.3

  -- and is bound to no other catalog.
  pub catalog_of : (d : Catalog) (ps : List Plan) → IsBound bytes d ps → d ≡ c
  catalog_of d ps is = ap (λ x. (said_or own x).catalog) (says_one bytes (Ok (record { catalog = d; processes = is.0 })) (Ok own) is.1 bound.1)

-- Files at rest of which no call failed
module _ (c : Catalog) (h : History) (before after : Input) (files files_after : Files) (rest : AreSoundAndIdle c h files) (quiet : NothingFailed before after files files_after)
    (opened : SoundFilesAreOpened) where
  -- are opened,
  not_opened : (e : OpenError) (r : Refusal) → r ≡ open_refusal e → AreNotOpened e files files_after → r ≡ refusals.NoMemory
  not_opened e r is why = by_error (opened c h files.disk.files e rest.sound (why.due rest.told))
    where
      by_error : (e ≡ errors.DiskFault) ⊎ (e ≡ errors.NoMemory) → r ≡ refusals.NoMemory
      by_error (inl fault) = absurd (quiet.rack (why.fault fault))
      by_error (inr memory) = is ∙ ap open_refusal memory

  -- on a history with the same events.
  not_unfit : (d : Catalog) (k : History) → AreOpenedOn d k files files_after → (r : Refusal) → IsUnfit c d k r → r ≡ refusals.NoMemory
  not_unfit d k on r why = by_kind why
    where
      same : (d ≡ c) × IsSameHistory h k
      same = one_sound c d h k files.disk.files rest.sound (on.sound rest.told)

      by_kind : IsUnfit c d k r → r ≡ refusals.NoMemory
      by_kind (inl other) = own_catalog c r (subst (λ e. IsOther c e r) same.0 other)
      by_kind (inr (own, (i, is, first))) = absurd (let none : first_of (active k.events) ≡ None = ap first_of (ap active (sym same.1.events) ∙ rest.idle) in cc)

  pub unopened : (r : Refusal) → IsNotOpenedFor c r files files_after → r ≡ refusals.NoMemory
  unopened r refused = by_part (for_in_parts c r files files_after refused)
    where
      by_part : IsRefusedIdle c r files files_after → r ≡ refusals.NoMemory
      by_part (inl (e, is, why)) = not_opened e r is why
      by_part (inr (own, k, on, unfit)) = not_unfit own k on r unfit
