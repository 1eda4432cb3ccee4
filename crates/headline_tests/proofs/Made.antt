-- The files that a session begins on were made, and are on a rack that nobody has called.
use Rattle.std.proofs.Common.{◌≡◌, ◌∙◌, ℕ, false, [], ◌∷◌, Option, Some, None, IfSome, refl, inl, inr, subst, sym}
use Rattle.std.specs.Prelude.{codes}
use Rattle.process_flow.specs.declared.source.Source.{Ghosts as Sources}
use Rattle.process_flow.specs.declared.sink.Sink.{Ghosts as Sinks}
use Rattle.process_disk.specs.declared.rack.Rack.{Ghosts as Racks}
use Rattle.process_disk.specs.Disk.{FileSet, Told}
use Rattle.process_disk.specs.Memory.{MemoryDisk, disk_of, fresh}
use Rattle.process_journal.specs.Bodies.{no_history}
use Rattle.history_files.specs.Sound.{IsSound}
use Rattle.commute_table.specs.declared.catalog.Catalog.{Catalog}
use Rattle.process_engine.specs.declared.gates.Gate.{Ghosts as Gates}
use Rattle.resource_box.specs.declared.resource.Resource.{Ghosts as Resources}
use Rattle.command_refusals.specs.declared.refusal.Refusal.{Refusal}
use Rattle.command_refusals.specs.declared.status.Status.{Status}
use Rattle.command_refusals.specs.declared.status.Status.TheVariants.{Done}
use Rattle.process_top.specs.Commands.{IsDueTo}
use Rattle.process_top.specs.Init.{IsInitDue}
use Rattle.process_top.specs.Replies.{Reply, accepted, checked, created, ended, printed, refused, served, shown, IsReplyTold}
use Rattle.process_top.specs.Run.{gates_asked}
use Rattle.process_top.specs.Told.{IsRefusalTold, Output}
use Rattle.process_top.specs.Worlds.{World}
use Rattle.process_top.proofs.RefusedStatuses.{refused_undone}
use Rattle.process_top.proofs.StatusNumbers.{same_status}
use Rattle.headline.specs.Headline.{IsAtEntry}
use Rattle.headline_tests.specs.Example.{IsAnswered, see}
use Rattle.headline_tests.proofs.Asked.{init_asked}

-- what is refused isn't told at the status of work that was done
never_done : (r : Refusal) (before after : Output) (status : Status) → status ≡ Done → IsRefusalTold r before after status → ⊥
never_done r before after status is (inl (inl told)) = refused_undone r (sym told.0 ∙ is)
never_done r before after status is (inl (inr failed)) = absurd (let write = failed.0 in cc)
never_done r before after status is (inr (needs, inl told)) = absurd (let memory = told.0 in cc)
never_done r before after status is (inr (needs, inr failed)) = absurd (let write = failed.0 in cc)

module _ {S K R : Type 0} (before after : World S K R) (told : Told before.files.disk) (status : Status) (done : status ≡ Done) where
  abbrev Made : Type 0
  Made = (c : Catalog) × IsSound c no_history after.files.disk.files

  made_by : (reply : Reply) → IsInitDue false false before.input after.input before.files after.files reply → IsReplyTold reply before.output after.output status → Made
  made_by created (c, read, made) out = (c, made.read told)
  made_by (refused r) due out = absurd (never_done r before.output after.output status done out)
  made_by (checked ps vs) due out = absurd due
  made_by (ended said) ((bytes, whole, (s, says, sound, (is, held))), untouched) out = absurd (let strict = is in cc)
  made_by (shown c h) due out = absurd due
  made_by (served text at) due out = absurd due
  made_by accepted due out = absurd due
  made_by (printed text) due out = absurd due

-- The files of an `init` that ended well are sound for a history without events.
module _ {S K R B G : Type 0} (sources : Sources S) (sinks : Sinks K) (racks : Racks R) (resources : Resources B) (workers : Gates G) where
  pub made_well : (rack left : R) (status : ℕ) (sink : K) → Told (racks.disk rack) → status ≡ 0 → IsAnswered sources sinks racks resources workers (codes "init" ∷ []) rack status sink left
      → (c : Catalog) × IsSound c no_history (racks.disk left).files
  made_well rack left status sink told zero call =
      let old = see sources sinks racks resources workers call.before in
      let new = see sources sinks racks resources workers call.after in
      let answers = call.answered in
      let due = subst (λ o. IsDueTo o (gates_asked old.gates new.gates) old.input new.input old.files new.files answers.reply) init_asked answers.due in
      let made = made_by old new (subst (λ r. Told (racks.disk r)) (sym call.on) told) answers.status (same_status answers.status Done (sym answers.numbered ∙ zero)) answers.reply due answers.told in
      (made.0, subst (λ r. IsSound made.0 no_history (racks.disk r).files) call.leaves made.1)

-- what there is has this, and so that
pub some_so : {X : Type 0} (o : Option X) (P Q : X → Type 0) → ((x : X) → P x → Q x) → IfSome o P → IfSome o Q
some_so None P Q so has = tt
some_so (Some x) P Q so has = so x has

-- A rack that nobody has called, whose files are so, is one that a call may begin on.
pub fresh_at_entry : (c : Catalog) (files : FileSet) (m : MemoryDisk) → m ≡ fresh files [] → IsSound c no_history files → IsAtEntry c no_history (disk_of m)
fresh_at_entry c files m is sound = subst (λ x. IsAtEntry c no_history (disk_of x)) (sym is) (record {
  told = refl;
  created = sound;
  images = λ left may. subst (λ fs. IsSound c no_history fs) (sym may) sound;
})
