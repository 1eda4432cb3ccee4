-- What was answered in a dialogue is kept.
use Rattle.std.proofs.Common.{◌≡◌, ℕ, List, [], ◌∷◌, ◌++◌, Some, subst}
use Rattle.process_flow.specs.declared.source.Source.{Ghosts as Sources}
use Rattle.process_flow.specs.declared.sink.Sink.{Ghosts as Sinks}
use Rattle.process_disk.specs.declared.rack.Rack.{Ghosts as Racks}
use Rattle.process_disk.specs.Disk.{Disk, IsHonest, Told}
use Rattle.process_disk.proofs.Images.{still_told}
use Rattle.schedule_model.specs.declared.event.Event.{Event}
use Rattle.schedule_model.specs.declared.history.History.{History}
use Rattle.commute_table.specs.declared.catalog.Catalog.{Catalog}
use Rattle.process_core.specs.Cores.{history_of}
use Rattle.history_files.specs.Sound.{IsSound}
use Rattle.process_engine.specs.declared.gates.Gate.{Ghosts as Gates}
use Rattle.resource_box.specs.declared.resource.Resource.{Ghosts as Resources}
use Rattle.command_refusals.specs.declared.status.Status.{Status}
use Rattle.program_words.specs.declared.reading.Command.TheVariants.{Serve}
use Rattle.serve_run.specs.Dialogue.{AreTied, Dialogue, Exchange, HasAtLeast, IsTied}
use Rattle.serve_run.specs.Serve.{IsServeTold}
use Rattle.same_histories.proofs.SameHistories.{one_sound}
use Rattle.process_top.specs.Commands.{IsDueTo}
use Rattle.process_top.specs.Run.{gates_asked}
use Rattle.process_top.specs.Worlds.{World}
use Rattle.headline.specs.Answered.{AnswersAreKept}
use Rattle.headline.specs.Headline.{IsAtEntry, seen}

-- one of the answers is tied as all are
tied_at : (c : Catalog) (there : List Event) (old new : Disk) (since : ℕ) (earlier later : List Exchange) (x : Exchange) → AreTied c there old new since (earlier ++ x ∷ later) → (from : ℕ) × IsTied c there old new from x
tied_at c there old new since [] later x (one, rest) = (since, one)
tied_at c there old new since (y ∷ earlier) later x (one, rest) = tied_at c there old new y.moment earlier later x rest

module _ {S K R : Type 0} (before after : World S K R) (c : Catalog) (h : History) (entry : IsAtEntry c h before.files.disk) (known : Told after.files.disk) (honest : IsHonest after.files.disk) where
  -- a dialogue that was held, and files that are left since an answer was whole
  kept_answer : (d : Dialogue) (status : Status) → IsServeTold before.input after.input before.files after.files d status → (earlier later : List Exchange) (x : Exchange) → d.exchanges ≡ earlier ++ x ∷ later
      → (files : List (List ℕ)) → after.files.disk.left_since x.moment files → (read : History) × IsSound c read files × ((rest : List Event) × (read.events ≡ history_of x.state.core ++ rest))
  kept_answer d status (e, plans, first, taken, read, held) earlier later x is files image =
      let old = before.files.disk in
      let new = after.files.disk in
      let same = (one_sound c e h held.history old.files entry.created (held.kept.sound entry.told)).0 in
      let tied = tied_at e held.history.events old new old.moment earlier later x (subst (AreTied e held.history.events old new old.moment) is (held.tied entry.told)) in
      let has : HasAtLeast e (history_of x.state.core) files = tied.1.kept.has files image in
      (has.0, subst (λ k. IsSound k has.0 files) same has.1, has.2)

module _ {S K R B G : Type 0} (sources : Sources S) (sinks : Sinks K) (racks : Racks R) (resources : Resources B) (workers : Gates G)
    (honest : (rack : R) → Told (racks.disk rack) → IsHonest (racks.disk rack)) where
  pub answers_are_kept : AnswersAreKept sources sinks racks resources workers
  answers_are_kept words before after number refusal c h asks answered entry d status is earlier later x among moment late again finds =
      let old = seen sources sinks racks resources workers before in
      let new = seen sources sinks racks resources workers after in
      let known = still_told old.files.disk new.files.disk answered.left.tells entry.told in
      let due : IsServeTold old.input new.input old.files new.files d status =
      subst (IsDueTo (Some Serve) (gates_asked old.gates new.gates) old.input new.input old.files new.files) is
      (subst (λ o. IsDueTo o (gates_asked old.gates new.gates) old.input new.input old.files new.files answered.reply) asks answered.due) in
      let good = honest after.rack known in
      let files = (seen sources sinks racks resources workers again).files.disk.files in
      kept_answer old new c h entry known good d status due earlier later x among files (good.earlier x.moment moment files late finds.found.image)
