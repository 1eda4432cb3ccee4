-- By which rule an event may not come.
use Rattle.std.specs.Prelude.{◌≡◌, ◌≤◌, ℕ, ◌-◌, false, true, List, [], ◌∷◌, length, take, Option, Some, None, option_and_then, IsTrue}
use Rattle.std.specs.List.{slice_get}
use Rattle.process_tree.specs.Conflicts.{Table, do_conflict}
use Rattle.process_tree.specs.declared.plan.Plan.{Plan}
use Rattle.schedule_model.specs.declared.event.Event.{Event}
use Rattle.schedule_model.specs.Blocking.{Clash, Clashes}
use Rattle.schedule_model.specs.Conflict.{ConflictRelation}
use Rattle.schedule_model.specs.Course.{Course, courses_of}
use Rattle.schedule_model.specs.Histories.{starts}
use Rattle.schedule_model.specs.Legal.{against_event, is_clear, is_legal}
use Rattle.schedule_model.specs.OwnOrder.{keeps_order}
use Rattle.machine_model.specs.declared.blocked.Rule.{Rule}
use Rattle.machine_model.specs.declared.blocked.Rule.TheVariants.{A0, A1, A2, A3, A4, A5}
use Rattle.history_judging.specs.Keeping.{ArePlans}

-- this rule, where it names a clash, or else another
abbrev pub rule_or : Rule → List Clash → Option Rule → Option Rule
rule_or rule [] other = other
rule_or rule (clash ∷ clashes) other = Some rule

-- the first rule by which something stands against a piece
abbrev pub first_rule : Clashes → Option Rule
first_rule c = rule_or A0 c.a0 (rule_or A1 c.a1 (rule_or A2 c.a2 (rule_or A3 c.a3 (rule_or A4 c.a4 (rule_or A5 c.a5 None)))))

-- the first rule by which something stands against an event after a history
abbrev pub rule_against : ConflictRelation → List Course → List Event → Event → Option Rule
rule_against table courses before e = first_rule (against_event table courses before e)

-- the same of the event at a place of a history, counted from 1, after those before it
abbrev pub refusing_rule : ConflictRelation → List Course → List Event → ℕ → Option Rule
refusing_rule table courses h n = option_and_then (rule_against table courses (take (n - 1) h)) (slice_get h (n - 1))

-- After a legal history over these plans the event keeps own order, and something stands against it.
pub record IsRefused (table : Table) (plans : List Plan) (before : List Event) (e : Event) : Type 0 where
  pub planned : ArePlans table plans
  pub enough : length (starts before) ≤ length plans
  pub legal : IsTrue (is_legal (do_conflict table) (courses_of plans) before)
  pub order : keeps_order (courses_of plans) before e ≡ true
  pub refused : is_clear (do_conflict table) (courses_of plans) before e ≡ false
