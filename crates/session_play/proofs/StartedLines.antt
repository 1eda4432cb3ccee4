-- Starts, as lines of a session.
use Rattle.std.proofs.Common.{◌≡◌, ◌≢◌, ◌∙◌, ◌+◌, ℕ, Bool, List, [], length, map, find, ◌<◌, Option, Some, None, Ok, refl, ap, sym, subst}
use Rattle.std.specs.List.{Contains}
use Rattle.process_tree.specs.Form.{AreEqualPlans}
use Rattle.process_tree.specs.Making.{same_text}
use Rattle.process_tree.specs.Order.{Each}
use Rattle.process_tree.specs.declared.plan.Plan.{Plan}
use Rattle.process_tree.specs.Blocks.{Outline}
use Rattle.process_tree.specs.Termination.{IsWellFormed}
use Rattle.process_text.specs.Canonical.{line_of}
use Rattle.schedule_model.specs.Course.{course_of}
use Rattle.schedule_model.specs.Histories.{starts}
use Rattle.commute_table.specs.declared.catalog.Catalog.{Catalog}
use Rattle.commute_table.specs.Binding.{numbers_bound}
use Rattle.machine_model.specs.declared.replies.StartWhy.{StartWhy}
use Rattle.machine_model.specs.declared.replies.StartWhy.TheVariants as whys
use Rattle.machine_model.specs.Calls.{Reply, start, started, start_unless as answer_unless}
use Rattle.machine_model.specs.Runs.{start_refusal}
use Rattle.machine_model.specs.Replies.{Handed}
use Rattle.machine_model.proofs.OpenHoldings.{Each-contained}
use Rattle.machine_model.proofs.TidyMoments.{Each-find}
use Rattle.process_core.specs.Answers.{after_start, answer_in}
use Rattle.process_core.specs.Cores.{CoreState, courses_in, history_of, moment_of}
use Rattle.engine_steps.specs.Beginning.{IsDueToStart, IsPlanFor, of_start_why}
use Rattle.engine_steps.specs.Engines.{EngineState}
use Rattle.engine_steps.specs.declared.beginning.EngineStartWhy.{EngineStartWhy}
use Rattle.engine_calls.specs.Acknowledged.{IsOneOf}
use Rattle.scenario_run.proofs.OneOf.{equal_plan}
use Rattle.session_text.specs.Answers.{not_started_words, started_words}
use Rattle.session_text.specs.declared.line.Line.{Line}
use Rattle.session_text.specs.declared.line.Line.TheVariants.{Start, Admit, Next, Finish, Queue, Flush, Abort, Show, Stop}
use Rattle.session_play.specs.Answering.{IsAnswered}
use Rattle.session_play.specs.Pieces.{session_of}
use Rattle.session_play.specs.Playing.{plan_for, plan_named, play_start, start_unless}

-- the number of a process that started
abbrev number_in : Reply → ℕ → ℕ
number_in (started i) other = i
number_in r other = other

module _ (old : CoreState) (ps qs : List Handed) (name : List ℕ) (plan : Plan) where
  started_by : (o : Option StartWhy) (i : ℕ) (new : CoreState) (text : List ℕ) → (answer_unless (length (starts (history_of old)) + 1) old.served (course_of plan) o).reply ≡ started i
      → new ≡ after_start old plan → text ≡ line_of (started_words i name) → IsAnswered (start_unless (session_of old ps qs) name plan o) new ps qs text
  started_by None i new text replied is told = record {
    state = ap (λ c. session_of c ps qs) is;
    printed = told ∙ ap (λ n. line_of (started_words n name)) (sym (ap (λ r. number_in r i) replied));
  }
  started_by (Some why) i new text replied is told = absurd cc

  -- A process started,
  pub start_answered : (i : ℕ) (new : CoreState) (text : List ℕ) → (answer_in old (start (course_of plan))).reply ≡ started i → new ≡ after_start old plan
      → text ≡ line_of (started_words i name) → IsAnswered (play_start (session_of old ps qs) name (Some plan)) new ps qs text
  start_answered i new text replied is told = started_by (start_refusal (courses_in old) (moment_of old) (course_of plan)) i new text replied is told

  -- or the machine refused it.
  pub start_refused : (why : StartWhy) (new : CoreState) (text : List ℕ) → start_refusal (courses_in old) (moment_of old) (course_of plan) ≡ Some why → new ≡ old
      → text ≡ line_of (not_started_words why) → IsAnswered (play_start (session_of old ps qs) name (Some plan)) new ps qs text
  start_refused why new text refused left told =
      subst (λ o. IsAnswered (start_unless (session_of old ps qs) name plan o) new ps qs text) (sym refused) (record { state = ap (λ c. session_of c ps qs) left; printed = told })

-- The machine's refusal of a start is the engine's, unless memory was wanting.
pub due_refusal : {R B : Type 0} (e : EngineState R B) (plan : Plan) (why : EngineStartWhy) (core : StartWhy) → IsDueToStart e plan why → why ≡ of_start_why core → core ≢ whys.NoMemory
    → start_refusal (courses_in e.core) (moment_of e.core) (course_of plan) ≡ Some core
due_refusal e plan why core due is memory = by core (subst (IsDueToStart e plan) is due) memory
  where
    by : (core : StartWhy) → IsDueToStart e plan (of_start_why core) → core ≢ whys.NoMemory → start_refusal (courses_in e.core) (moment_of e.core) (course_of plan) ≡ Some core
    by (whys.TooMany n) due' memory' = due'.1
    by (whys.NoRoom n) due' memory' = due'.1
    by whys.NoMemory due' memory' = absurd (memory' refl)

-- The copy of a plan that may start may start.
pub copy_starts : (c : Catalog) (p q : Plan) → AreEqualPlans p q → IsPlanFor c p → IsPlanFor c q
copy_starts c p q equal is = record {
  bound = record {
    name = refl;
    tree = refl;
    numbers = ap (λ (o : Outline). numbers_bound c.ops [] o.steps) (sym equal.says) ∙ (is.bound.numbers ∙ ap Ok equal.ops);
    count = sym (ap length equal.ops) ∙ (is.bound.count ∙ ap (λ (o : Outline). length o.steps) equal.says);
    within = subst (Each (λ n. n < length c.ops)) equal.ops is.bound.within;
  };
  well_formed = subst (λ (o : Outline). IsWellFormed (record { kinds = map (λ s. s.kind) o.steps; paths = o.paths })) equal.says is.well_formed;
}

-- A plan of that name is one of them.
pub found_among : (plans : List Plan) (test : Plan → Bool) (p : Plan) → find test plans ≡ Some p → Contains plans p
found_among plans test p found = Each-find (Contains plans) test plans p (Each-contained (Contains plans) plans (λ q among. among)) found

-- So it is one of them,
pub named_is_one : (plans : List Plan) (name : List ℕ) (p : Plan) → plan_named plans name ≡ Some p → IsOneOf plans p
named_is_one plans name p found = (p, found_among plans (λ (x : Plan). same_text x.name name) p found, equal_plan p)

-- and its copy equals whatever it equals.
pub one_of_copy : (plans : List Plan) (p q : Plan) → IsOneOf plans p → AreEqualPlans p q → IsOneOf plans q
one_of_copy plans p q (x, among, same) equal =
    (x, among, record { name = same.name ∙ equal.name; tree = same.tree ∙ equal.tree; says = same.says ∙ equal.says; ops = same.ops ∙ equal.ops })

-- The plan that a line takes is one of them.
pub planned_is_one : (plans : List Plan) (line : Line) (p : Plan) → plan_for plans line ≡ Some p → IsOneOf plans p
planned_is_one plans (Start name) p found = named_is_one plans name p found
planned_is_one plans (Admit i) p found = absurd (cc)
planned_is_one plans Next p found = absurd (cc)
planned_is_one plans (Finish n outcome) p found = absurd (cc)
planned_is_one plans (Queue n outcome) p found = absurd (cc)
planned_is_one plans Flush p found = absurd (cc)
planned_is_one plans (Abort i) p found = absurd (cc)
planned_is_one plans Show p found = absurd (cc)
planned_is_one plans Stop p found = absurd (cc)
