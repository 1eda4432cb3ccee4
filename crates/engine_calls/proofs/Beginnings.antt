-- Histories that go on, and their beginnings.
use Rattle.std.proofs.Common.{◌≡◌, ◌∙◌, List, [], ◌++◌, length, take, ap, sym, append-nil, arith}
use Rattle.std.proofs.lemmas.List.{take-append-le, take_all}
use Rattle.process_tree.specs.declared.plan.Plan.{Plan}
use Rattle.schedule_model.specs.declared.event.Event.{Event}
use Rattle.schedule_model.specs.declared.history.History.{History}
use Rattle.schedule_model.specs.Histories.{starts}
use Rattle.schedule_model.specs.Laws.{plans_in}
use Rattle.process_journal.specs.Laws.{beginning}

-- each plan of the history is of a process that started
abbrev pub OneEach : History → Type 0
OneEach h = length h.plans ≡ length (starts h.events)

-- a history goes on with these events and plans
pub record Continues (h k : History) : Type 0 where
  pub events : List Event
  pub is : k.events ≡ h.events ++ events
  pub plans : List Plan
  pub are : k.plans ≡ h.plans ++ plans

-- A history that goes on to another is a beginning of it.
pub is_beginning : (g k : History) → OneEach g → Continues g k → g ≡ beginning k g.events
is_beginning g k each on = ap (λ ps. record { plans = ps; events = g.events }) (sym same)
  where
    same : plans_in k.plans g.events ≡ g.plans
    same = ap (take (length (starts g.events))) on.are ∙ (take-append-le (length (starts g.events)) g.plans on.plans (omega (arith, each)) ∙ take_all (length (starts g.events)) g.plans (omega (arith, each)))

-- a history goes on to itself with nothing
pub continues_none : (h : History) → Continues h h
continues_none h = record { events = []; is = sym (append-nil h.events); plans = []; are = sym (append-nil h.plans) }
