-- The laws of judging, as statements.
use Rattle.std.specs.Prelude.{List, ◌++◌}
use Rattle.process_tree.specs.declared.plan.Plan.{Plan}
use Rattle.process_tree.specs.Conflicts.{Table}
use Rattle.schedule_model.specs.declared.event.Event.{Event}
use Rattle.history_judging.specs.Keeping.{ArePlans, IsJudged, Tables}

-- A history is judged alike where there are plans for more processes.
abbrev pub MorePlansJudgeAlike : Type 0
MorePlansJudgeAlike = (table : Table) (plans more : List Plan) (h : List Event) (t : Tables) → ArePlans table (plans ++ more)
    → IsJudged table plans h t → IsJudged table (plans ++ more) h t
