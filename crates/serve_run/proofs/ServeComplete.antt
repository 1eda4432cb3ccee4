-- Whatever is due, a dialogue ends well where the source has a scenario, the files are sound and nothing failed.
use Rattle.std.proofs.Common.{◌≡◌, ◌⊎◌, ◌<◌, ◌∙◌, ℕ, List, length, Option, IfSome, Result, Ok, Err, inl, inr, refl, ap, subst, arith}
use Rattle.std.specs.declared.alloc.Global.{Global}
use Rattle.process_flow.specs.Causes.{Rose}
use Rattle.process_disk.specs.Disk.{Told as IsKnown}
use Rattle.process_tree.specs.declared.plan.Plan.{Plan}
use Rattle.schedule_model.specs.declared.history.History.{History}
use Rattle.commute_table.specs.declared.catalog.Catalog.{Catalog}
use Rattle.history_files.specs.Sound.{IsSound}
use Rattle.history_opening.specs.Laws.{SoundFilesAreOpened}
use Rattle.history_opening.specs.declared.faults.OpenError.{OpenError}
use Rattle.history_opening.specs.declared.faults.OpenError.TheVariants as errors
use Rattle.command_refusals.specs.declared.refusal.Refusal.{Refusal}
use Rattle.command_refusals.specs.declared.refusal.Refusal.TheVariants as refusals
use Rattle.command_refusals.specs.declared.status.Status.{Status}
use Rattle.command_refusals.specs.declared.status.Status.TheVariants as statuses
use Rattle.command_input.specs.declared.said.Said.{Said}
use Rattle.command_input.specs.declared.scenario.NoPlans.TheVariants.{Refused, IllFormed}
use Rattle.command_input.specs.FilesLeft.{Files}
use Rattle.command_input.specs.Inputs.{Input, most_input}
use Rattle.command_input.specs.Outputs.{Output, IsTold}
use Rattle.command_input.specs.Scenarios.{IsBound, IsNotBound}
use Rattle.scenario_run.specs.Completeness.{NothingFailed}
use Rattle.scenario_run.specs.Opening.{AreNotOpened, AreOpenedOn, IsNotOpenedWith, IsOther, open_refusal}
use Rattle.scenario_run.proofs.NothingWrong.{catalog_of, ill_formed, one_sound, unbound}
use Rattle.scenario_run.proofs.OpeningParts.{with_in_parts, IsRefusedWith}
use Rattle.scenario_run.proofs.OwnCatalog.{own_catalog}
use Rattle.session_text.specs.Sessions.{scenario_of}
use Rattle.driver_input.specs.Preamble.{HasNoScenario, IsScenarioTaken}
use Rattle.serve_run.specs.declared.command.Ending.{Ending}
use Rattle.serve_run.specs.declared.command.Ending.TheVariants.{Told, Due}
use Rattle.serve_run.specs.Dialogue.{Dialogue, EndsWith, IsDialogueTold, number_behind}
use Rattle.serve_run.proofs.ServeParts.{not_served_in_parts, IsNotRead, IsReadAndNotServed}
use Rattle.serve_run.specs.Serve.{HasScene, IsEndedWell, IsNoServeRead, IsNotServed, IsNotServedOn, IsServeDue, IsServeRead, IsServeTold, IsSpoken}

module _ (alloc : Global) (before after : Input) (files files_after : Files) (out out_after : Output) (bytes : List ℕ) (c : Catalog) (plans : List Plan) (h : History) (has : HasScene before bytes c plans)
    (known : IsKnown files.disk) (sound : IsSound c h files.disk.files) (quiet : NothingFailed before after files files_after) (quiet_out : ¬ Rose out.faults out_after.faults) (opened : SoundFilesAreOpened) where
  abbrev scene : List ℕ
  scene = scenario_of bytes

  -- the scenario that was taken is that one,
  scene_is : (left : Option (List ℕ)) (scenario ready : List ℕ) (first : ℕ) → IsScenarioTaken before.left left scenario ready first → scenario ≡ scene
  scene_is left scenario ready first taken = subst (λ o. IfSome o (λ text. scenario ≡ scenario_of text)) has.told taken.whole

  -- it isn't refused,
  no_scenario : (r : Refusal) → HasNoScenario r before after → r ≡ refusals.NoMemory
  no_scenario r (inl long) = absurd (let more = subst (λ o. IfSome o (λ text. most_input < length (scenario_of text))) has.told long.1 in let few = has.within in omega arith)
  no_scenario r (inr (inl fault)) = absurd (quiet.source fault.1)
  no_scenario r (inr (inr memory)) = memory

  not_refused : (r : Refusal) → IsNoServeRead before after (Refused r) → r ≡ refusals.NoMemory
  not_refused r (inl none) = no_scenario r none
  not_refused r (inr (scenario, (ready, first, taken), why)) = unbound alloc scene c plans has.bound r (subst (λ b. IsNotBound b (Refused r)) (scene_is after.left scenario ready first taken) why)

  not_ill : (line : _) → IsNoServeRead before after (IllFormed line) → ⊥
  not_ill line (inl none) = absurd none
  not_ill line (inr (scenario, (ready, first, taken), why)) = ill_formed alloc scene c plans has.bound line (subst (λ b. IsNotBound b (IllFormed line)) (scene_is after.left scenario ready first taken) why)

  -- its catalog is that one,
  same_catalog : (d : Catalog) (ps : List Plan) (first : ℕ) (taken : List ℕ) → IsServeRead before after d ps first taken → d ≡ c
  same_catalog d ps first taken read = catalog_of alloc scene c plans has.bound d ps (subst (λ b. IsBound b d ps) (scene_is read.mid read.scenario read.ready first read.preamble) read.bound)

  -- the files are opened,
  not_opened : (e : OpenError) (r : Refusal) → r ≡ open_refusal e → AreNotOpened e files files_after → r ≡ refusals.NoMemory
  not_opened e r is why = by_error (opened c h files.disk.files e sound (why.due known))
    where
      by_error : (e ≡ errors.DiskFault) ⊎ (e ≡ errors.NoMemory) → r ≡ refusals.NoMemory
      by_error (inl fault) = absurd (quiet.rack (why.fault fault))
      by_error (inr memory) = is ∙ ap open_refusal memory

  not_other : (d : Catalog) (k : History) (r : Refusal) → AreOpenedOn d k files files_after → IsOther c d r → r ≡ refusals.NoMemory
  not_other d k r on other = own_catalog c r (subst (λ e. IsOther c e r) (one_sound c d h k files.disk.files sound (on.sound known)).0 other)

  unopened : (r : Refusal) → IsNotOpenedWith c r files files_after → r ≡ refusals.NoMemory
  unopened r refused = by_part (with_in_parts c r files files_after refused)
    where
      by_part : IsRefusedWith c r files files_after → r ≡ refusals.NoMemory
      by_part (inl (e, is, why)) = not_opened e r is why
      by_part (inr (d, k, on, other)) = not_other d k r on other

  not_served_on : (d : Catalog) (found : Result Said Refusal) → d ≡ c → IsNotServedOn d files files_after found → found ≡ Err refusals.NoMemory
  not_served_on d (Ok s) same why = absurd why
  not_served_on d (Err r) same (inl closed) = ap (λ (e : Refusal). Err e) (unopened r (subst (λ e. IsNotOpenedWith e r files files_after) same closed))
  not_served_on d (Err r) same (inr (memory, left)) = ap (λ (e : Refusal). Err e) memory

  -- so nothing is due but want of memory,
  wanting_part : (found : Result Said Refusal) → IsNotRead before after files files_after found ⊎ IsReadAndNotServed before after files files_after found → found ≡ Err refusals.NoMemory
  wanting_part (Ok said) (inl (none, untouched)) = absurd (not_ill said.text none.1)
  wanting_part (Err r) (inl (none, untouched)) = ap (λ (e : Refusal). Err e) (not_refused r none)
  wanting_part found (inr (d, ps, first, taken, read, why)) = not_served_on d found (same_catalog d ps first taken read) why

  wanting : (found : Result Said Refusal) → IsNotServed before after files files_after found → found ≡ Err refusals.NoMemory
  wanting found why = wanting_part found (not_served_in_parts before after files files_after found why)

  -- or the dialogue ends by `stop` or with its input.
  by_status : (s : Status) (ended : Status) (last : _) (n : ℕ) (u : Option (List ℕ)) (tail : List ℕ) (now : _) (d : Catalog) (ps : List Plan) → ended ≡ s → EndsWith d ps last n u tail now s → (s ≡ statuses.DiskFault → Rose files.faults files_after.faults)
      → (s ≡ statuses.ReadFault → Rose before.faults after.faults) → (s ≡ statuses.WriteFault → ⊥) → IsEndedWell (Told ended)
  by_status statuses.Done ended last n u tail now d ps is ends disk read write = inl is
  by_status statuses.NoMemory ended last n u tail now d ps is ends disk read write = inr is
  by_status statuses.ReadFault ended last n u tail now d ps is ends disk read write = absurd (quiet.source (read refl))
  by_status statuses.DiskFault ended last n u tail now d ps is ends disk read write = absurd (quiet.rack (disk refl))
  by_status statuses.WriteFault ended last n u tail now d ps is ends disk read write = absurd (write refl)
  by_status statuses.BadWords ended last n u tail now d ps is ends disk read write = absurd ends
  by_status statuses.BadInput ended last n u tail now d ps is ends disk read write = absurd ends
  by_status statuses.IllFormed ended last n u tail now d ps is ends disk read write = absurd ends
  by_status statuses.Limit ended last n u tail now d ps is ends disk read write = absurd ends
  by_status statuses.Unfinished ended last n u tail now d ps is ends disk read write = absurd ends
  by_status statuses.BadFile ended last n u tail now d ps is ends disk read write = absurd ends
  by_status statuses.BookDiffers ended last n u tail now d ps is ends disk read write = absurd ends
  by_status statuses.Exhausted ended last n u tail now d ps is ends disk read write = absurd ends
  by_status statuses.NotReduced ended last n u tail now d ps is ends disk read write = absurd ends

  held_well : (ended s : Status) (d : Dialogue) → IsServeTold before after files files_after d s → IsDialogueTold d s out out_after ended → IsEndedWell (Told ended)
  held_well ended s d (e, ps, first, taken, read, served) told = by_told told.told
    where
      by_spoken : ended ≡ s → IsSpoken e ps served.history first served.now taken after.left d s → IsEndedWell (Told ended)
      by_spoken same (inl (front, is)) =
          by_status s ended is.last (number_behind first d.exchanges) d.unanswered d.tail served.now e ps same is.ends served.disk served.read (λ fault. quiet_out (told.write fault))
      by_spoken same (inr (none, fault, left)) = absurd (quiet_out (told.write fault))

      by_told : IsTold s d.tail told.mid out_after ended → IsEndedWell (Told ended)
      by_told (inl (same, all)) = by_spoken same served.spoken
      by_told (inr failed) = absurd (quiet_out (subst (λ f. Rose f out_after.faults) told.quiet failed.1))

  pub ended_well : (ending : Ending) → IsServeDue before after files files_after out out_after ending → IsEndedWell ending
  ended_well (Told ended) (d, s, told_so, told) = held_well ended s d told_so told
  ended_well (Due found) (why, unsaid) = wanting found why
