-- Whatever is due, the report is there where the source has a scenario, the files have room for it and nothing failed.
use Rattle.std.proofs.Common.{◌≡◌, ◌∙◌, ◌⊎◌, ℕ, ◌+◌, List, [], ◌∷◌, length, map, Result, Ok, Err, inl, inr, refl, ap, sym, subst}
use Rattle.std.specs.List.{sum_by}
use Rattle.std.specs.declared.alloc.Global.{Global}
use Rattle.process_tree.specs.Blocks.{Outline}
use Rattle.process_tree.specs.Form.{AreEqualPlans}
use Rattle.process_tree.specs.declared.plan.Plan.{Plan}
use Rattle.schedule_model.specs.declared.event.Event.{Event}
use Rattle.schedule_model.specs.declared.history.History.{History}
use Rattle.schedule_model.specs.Course.{Course, course_of, courses_of, allowance_of}
use Rattle.schedule_model.specs.Histories.{active, starts}
use Rattle.schedule_model.specs.Limits.{entries}
use Rattle.commute_table.specs.declared.catalog.Catalog.{Catalog}
use Rattle.process_core.specs.Cores.{opened_on}
use Rattle.process_journal.specs.Laws.{AreEqualInTurn}
use Rattle.history_opening.specs.Laws.{SoundFilesAreOpened}
use Rattle.worker_gate.specs.ManyGates.{AskedGates}
use Rattle.process_engine.specs.Fitting.{first_passed, limit_passed, need_of}
use Rattle.command_refusals.specs.declared.refusal.Refusal.{Refusal}
use Rattle.command_refusals.specs.declared.refusal.Refusal.TheVariants as refusals
use Rattle.command_refusals.specs.Order.{IsFirstRefusal}
use Rattle.command_input.specs.declared.said.Said.{Said}
use Rattle.command_input.specs.declared.scenario.NoPlans.TheVariants.{Refused, IllFormed}
use Rattle.command_input.specs.FilesLeft.{Files}
use Rattle.command_input.specs.Inputs.{Input, IsWholeText}
use Rattle.command_input.specs.Scenarios.{IsBound, IsNotBound}
use Rattle.scenario_run.specs.Completeness.{HasRoomFor, HasScenario, IsReportThere, IsRunComplete, NothingFailed}
use Rattle.scenario_run.specs.Opening.{IsNotOpenedFor}
use Rattle.scenario_run.specs.Run.{IsCutOff, IsPastLimit, IsRefusedOn, IsRunDue, IsRunOf, run_opening_tests}
use Rattle.scenario_run.specs.Scenario.{IsNoScenarioRead, IsScenarioRead}
use Rattle.scenario_run.proofs.OpeningParts.{idle_or_room}
use Rattle.scenario_run.proofs.RunParts.{due_in_parts, IsNotRead, IsReadAndRun}
use Rattle.scenario_run.proofs.NothingWrong.{catalog_of, ill_formed, no_lack, one_sound, unbound, unopened, whole_is}

-- plans that are equal in turn have the same courses
same_course : (p q : Plan) → AreEqualPlans p q → course_of p ≡ course_of q
same_course p q is =
    ap (λ (o : Outline). record { shape = record { kinds = map (λ s. s.kind) o.steps; paths = o.paths }; ops = p.ops; keys = map (λ s. s.key) o.steps; allowances = map allowance_of o.steps }) is.says
    ∙ ap (λ ops. record { shape = (course_of q).shape; ops = ops; keys = (course_of q).keys; allowances = (course_of q).allowances }) is.ops

same_courses : (ps qs : List Plan) → AreEqualInTurn ps qs → courses_of ps ≡ courses_of qs
same_courses [] [] are = refl
same_courses [] (q ∷ qs) are = absurd are
same_courses (p ∷ ps) [] are = absurd are
same_courses (p ∷ ps) (q ∷ qs) are = ap (λ c. c ∷ courses_of ps) (same_course p q are.0) ∙ ap (λ cs. course_of q ∷ cs) (same_courses ps qs are.1)

module _ (alloc : Global) (gates : AskedGates) (before after : Input) (files files_after : Files) (bytes : List ℕ) (c : Catalog) (plans : List Plan) (h : History)
    (has : HasScenario before bytes c plans) (room : HasRoomFor bytes c h files) (quiet : NothingFailed before after files files_after) (opened : SoundFilesAreOpened) where
  text_is : (text : List ℕ) → IsWholeText before after text → text ≡ bytes
  text_is = whole_is before after files files_after bytes has.told has.within quiet

  -- the scenario is not refused,
  not_read : (r : Refusal) → IsNoScenarioRead before after (Refused r) → r ≡ refusals.NoMemory
  not_read r (inl lack) = no_lack before after files files_after bytes has.told has.within quiet r lack
  not_read r (inr (text, whole, why)) = unbound alloc bytes c plans has.bound r (subst (λ b. IsNotBound b (Refused r)) (text_is text whole) why)

  -- its processes are well-formed,
  not_ill : (line : _) → IsNoScenarioRead before after (IllFormed line) → ⊥
  not_ill line (inl none) = absurd none
  not_ill line (inr (text, whole, why)) = ill_formed alloc bytes c plans has.bound line (subst (λ b. IsNotBound b (IllFormed line)) (text_is text whole) why)

  -- what is read is what the scenario is bound to,
  read_bound : (d : Catalog) (ps : List Plan) → IsScenarioRead before after d ps → (d ≡ c) × IsBound bytes c ps
  read_bound d ps (text, whole, bound) =
      let is = subst (λ b. IsBound b d ps) (text_is text whole) bound in
      let same : d ≡ c = catalog_of alloc bytes c plans has.bound d ps is in
      (same, subst (λ e. IsBound bytes e ps) same is)

  -- the processes fit beside those of the files,
  not_past : (ps : List Plan) → IsBound bytes c ps → (r : Refusal) (k : History) → IsPastLimit c k ps files files_after r → r ≡ refusals.NoMemory
  not_past ps bound r k (limit, is, passed, kept) =
      let same = one_sound c c h k files.disk.files room.rest.sound (kept.sound room.rest.told) in
      let courses = same_courses h.plans k.plans same.1.plans in
      absurd (let none = room.fit ps bound in
      let moved : limit_passed (opened_on c.conflicts k.plans k.events) ps ≡ limit_passed (opened_on c.conflicts h.plans h.events) ps
      = ap (λ (es : List Event). limit_passed (opened_on c.conflicts k.plans es) ps) (sym same.1.events)
      ∙ ap (λ (cs : List Course). first_passed (length (starts h.events) + length ps) (length (active h.events) + length ps) (entries cs h.events + sum_by need_of ps)) (sym courses) in
      cc)

  -- and the run isn't cut off
  not_cut : (ps : List Plan) (r : Refusal) → IsCutOff gates c ps files files_after r → r ≡ refusals.NoMemory
  not_cut ps r (k, started, rest, now, are, inl memory) = memory.0
  not_cut ps r (k, started, rest, now, are, inr fault) = absurd (quiet.rack fault.2)

  refused_on : (ps : List Plan) (r : Refusal) → IsBound bytes c ps → IsNotOpenedFor c r files files_after ⊎ ((k : History) × IsPastLimit c k ps files files_after r) → r ≡ refusals.NoMemory
  refused_on ps r bound (inl why) = unopened c h before after files files_after room.rest quiet opened r why
  refused_on ps r bound (inr (k, past)) = not_past ps bound r k past

  refused : (d : Catalog) (ps : List Plan) (r : Refusal) → IsScenarioRead before after d ps → IsRefusedOn gates d ps files files_after (Err r) ⊎ IsRunOf gates d ps files files_after (Err r) → r ≡ refusals.NoMemory
  refused d ps r read (inl why) =
      let bound = read_bound d ps read in
      refused_on ps r bound.1 (idle_or_room c r files files_after ps (subst (λ e. IsFirstRefusal (run_opening_tests e ps files files_after) r) bound.0 why.0))
  refused d ps r read (inr cut) = not_cut ps r (subst (λ e. IsCutOff gates e ps files files_after r) (read_bound d ps read).0 cut)

  said : (d : Catalog) (ps : List Plan) (s : Said) → IsRunOf gates d ps files files_after (Ok s) → IsReportThere (Ok s)
  said d ps s (k, now, run, inl done) = inl done.0
  said d ps s (k, now, run, inr stuck) = inr stuck.1

  by_part : (found : Result Said Refusal) → IsNotRead before after files files_after gates found ⊎ IsReadAndRun before after files files_after gates found → IsReportThere found
  by_part (Ok s) (inl ill) = absurd (not_ill s.text ill.0.1)
  by_part (Ok s) (inr (d, ps, read, inl none)) = absurd none
  by_part (Ok s) (inr (d, ps, read, inr ran)) = said d ps s ran
  by_part (Err r) (inl unread) = not_read r unread.0
  by_part (Err r) (inr (d, ps, read, why)) = refused d ps r read why

  pub report_there : (found : Result Said Refusal) → IsRunDue gates before after files files_after found → IsReportThere found
  report_there found due = by_part found (due_in_parts before after files files_after gates found due)

-- So it is whatever is due.
pub due_is_complete : (alloc : Global) (gates : AskedGates) (before after : Input) (files files_after : Files) (found : Result Said Refusal) → SoundFilesAreOpened
    → IsRunDue gates before after files files_after found → IsRunComplete before after files files_after found
due_is_complete alloc gates before after files files_after found opened due bytes c plans h has room quiet =
    report_there alloc gates before after files files_after bytes c plans h has room quiet opened found due
