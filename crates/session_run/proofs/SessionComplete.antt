-- Whatever is due, all lines are answered where the source has a session, the files are sound for a history at rest and nothing failed.
use Rattle.std.proofs.Common.{◌≡◌, ◌≢◌, ◌⊎◌, ℕ, List, Result, Ok, Err, inl, inr, refl, subst}
use Rattle.std.specs.declared.alloc.Global.{Global}
use Rattle.process_tree.specs.declared.plan.Plan.{Plan}
use Rattle.schedule_model.specs.declared.history.History.{History}
use Rattle.commute_table.specs.declared.catalog.Catalog.{Catalog}
use Rattle.history_opening.specs.Laws.{SoundFilesAreOpened}
use Rattle.command_refusals.specs.declared.refusal.Refusal.{Refusal}
use Rattle.command_refusals.specs.declared.refusal.Refusal.TheVariants as refusals
use Rattle.command_refusals.specs.declared.status.Status.{Status}
use Rattle.command_refusals.specs.declared.status.Status.TheVariants as statuses
use Rattle.command_input.specs.declared.said.Said.{Said}
use Rattle.command_input.specs.declared.scenario.NoPlans.TheVariants.{Refused, IllFormed}
use Rattle.command_input.specs.FilesLeft.{Files}
use Rattle.command_input.specs.Inputs.{Input, HasNoText, IsWholeText}
use Rattle.command_input.specs.Scenarios.{IsBound, IsNotBound}
use Rattle.scenario_run.specs.Completeness.{AreSoundAndIdle, NothingFailed}
use Rattle.scenario_run.specs.Opening.{IsNotOpenedFor}
use Rattle.scenario_run.proofs.NothingWrong.{catalog_of, ill_formed, no_lack, unbound, unopened, whole_is}
use Rattle.session_text.specs.declared.line.Line.{Line}
use Rattle.session_text.specs.Sessions.{scenario_of}
use Rattle.session_run.specs.Completeness.{AreAllAnswered, HasSession, IsSessionComplete}
use Rattle.session_run.specs.Playthrough.{EndsAt}
use Rattle.session_run.proofs.SessionParts as parts
use Rattle.session_run.proofs.SessionParts.{IsTextRefused}
use Rattle.session_run.specs.Session.{HasBadLine, IsNoSessionRead, IsPlayedOn, IsSessionDue, IsSessionRead}

-- how a session may end where no call of the rack failed
ended : (c : Catalog) (plans : List Plan) (first now : _) (answered rest : List Line) (status : Status) → EndsAt c plans first now answered rest status → status ≢ statuses.DiskFault → (status ≡ statuses.Done) ⊎ (status ≡ statuses.NoMemory)
ended c plans first now answered rest statuses.Done ends quiet = inl refl
ended c plans first now answered rest statuses.DiskFault ends quiet = absurd (quiet refl)
ended c plans first now answered rest statuses.NoMemory ends quiet = inr refl
ended c plans first now answered rest statuses.BadWords ends quiet = absurd ends
ended c plans first now answered rest statuses.BadInput ends quiet = absurd ends
ended c plans first now answered rest statuses.IllFormed ends quiet = absurd ends
ended c plans first now answered rest statuses.Limit ends quiet = absurd ends
ended c plans first now answered rest statuses.Unfinished ends quiet = absurd ends
ended c plans first now answered rest statuses.BadFile ends quiet = absurd ends
ended c plans first now answered rest statuses.BookDiffers ends quiet = absurd ends
ended c plans first now answered rest statuses.ReadFault ends quiet = absurd ends
ended c plans first now answered rest statuses.WriteFault ends quiet = absurd ends
ended c plans first now answered rest statuses.Exhausted ends quiet = absurd ends
ended c plans first now answered rest statuses.NotReduced ends quiet = absurd ends

module _ (alloc : Global) (before after : Input) (files files_after : Files) (bytes : List ℕ) (c : Catalog) (plans : List Plan) (lines : List Line) (h : History)
    (has : HasSession before bytes c plans lines) (rest : AreSoundAndIdle c h files) (quiet : NothingFailed before after files files_after) (opened : SoundFilesAreOpened) where
  -- the text of the scenario
  abbrev scene : List ℕ
  scene = scenario_of bytes

  text_is : (text : List ℕ) → IsWholeText before after text → text ≡ bytes
  text_is = whole_is before after files files_after bytes has.told has.within quiet

  -- the lines have forms,
  good_lines : (r : Refusal) → HasBadLine bytes r → r ≡ refusals.NoMemory
  good_lines r (inl memory) = memory
  good_lines r (inr (n, is, bad)) = absurd (let good = has.asked in cc)

  -- the scenario is not refused,
  not_read : (r : Refusal) → HasNoText r before after ⊎ IsTextRefused before after r → r ≡ refusals.NoMemory
  not_read r (inl lack) = no_lack before after files files_after bytes has.told has.within quiet r lack
  not_read r (inr (text, whole, inl why)) = unbound alloc scene c plans has.bound r (subst (λ b. IsNotBound (scenario_of b) (Refused r)) (text_is text whole) why)
  not_read r (inr (text, whole, inr bad)) = good_lines r (subst (λ b. HasBadLine b r) (text_is text whole) bad.1)

  -- its processes are well-formed,
  not_ill : (line : _) → IsNoSessionRead before after (IllFormed line) → ⊥
  not_ill line none =
      let ill = parts.ill_formed before after line none in
      ill_formed alloc scene c plans has.bound line (subst (λ b. IsNotBound (scenario_of b) (IllFormed line)) (text_is ill.0 ill.1) ill.2)

  -- the catalog that is read is that of the scenario,
  read_catalog : (d : Catalog) (ps : List Plan) (ls : List Line) → IsSessionRead before after d ps ls → d ≡ c
  read_catalog d ps ls (text, whole, bound, are) = catalog_of alloc scene c plans has.bound d ps (subst (λ b. IsBound (scenario_of b) d ps) (text_is text whole) bound)

  -- and the files are opened
  refused : (d : Catalog) (ps : List Plan) (ls : List Line) (r : Refusal) → d ≡ c → IsPlayedOn d ps ls files files_after (Err r) → r ≡ refusals.NoMemory
  refused d ps ls r same (inl why) = unopened c h before after files files_after rest quiet opened r (subst (λ x. IsNotOpenedFor x r files files_after) same why)
  refused d ps ls r same (inr begun) = begun.0

  by_part : (found : Result Said Refusal) → parts.IsNotRead before after files files_after found ⊎ parts.IsReadAndPlayed before after files files_after found → AreAllAnswered found
  by_part (Ok s) (inl ill) = absurd (not_ill s.text ill.0.1)
  by_part (Ok s) (inr (d, ps, ls, read, on)) = ended d ps _ on.now on.played.answered on.played.rest s.status on.played.ends (λ fault. quiet.rack (on.fault fault))
  by_part (Err r) (inl unread) = not_read r (parts.not_read before after r unread.0)
  by_part (Err r) (inr (d, ps, ls, read, why)) = refused d ps ls r (read_catalog d ps ls read) why

  pub answered : (found : Result Said Refusal) → IsSessionDue before after files files_after found → AreAllAnswered found
  answered found due = by_part found (parts.due_in_parts before after files files_after found due)

-- So it is whatever is due.
pub due_is_complete : (alloc : Global) (before after : Input) (files files_after : Files) (found : Result Said Refusal) → SoundFilesAreOpened
    → IsSessionDue before after files files_after found → IsSessionComplete before after files files_after found
due_is_complete alloc before after files files_after found opened due bytes c plans lines h has room quiet =
    answered alloc before after files files_after bytes c plans lines h has room quiet opened found due
