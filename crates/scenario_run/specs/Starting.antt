-- Processes that start in a core, one after another.
use Rattle.std.specs.Prelude.{ℕ, ◌+◌, List, [], ◌∷◌, ◌++◌, length}
use Rattle.process_tree.specs.declared.plan.Plan.{Plan}
use Rattle.schedule_model.specs.declared.history.History.{History}
use Rattle.machine_model.specs.declared.kept.Kept.{Kept}
use Rattle.machine_model.specs.declared.kept.Kept.TheVariants.{Start}
use Rattle.commute_table.specs.declared.catalog.Catalog.{Catalog}
use Rattle.process_core.specs.Cores.{CoreState, opened_on}

-- what is kept of the starts of these plans, the first of which has this number
abbrev pub starts_from : ℕ → List Plan → List Kept
starts_from i [] = []
starts_from i (p ∷ plans) = Start i ∷ starts_from (i + 1) plans

-- the core in which processes of these plans have started too, in this order, and nothing else was kept
abbrev pub with_started : CoreState → List Plan → CoreState
with_started core started = record {
  conflicts = core.conflicts;
  plans = core.plans ++ started;
  opening = core.opening;
  kept = core.kept ++ starts_from (length core.plans + 1) started;
  served = core.served;
}

-- the same of a core that opened on this history, by the conflicts of this catalog
abbrev pub started_on : Catalog → History → List Plan → CoreState
started_on c h started = with_started (opened_on c.conflicts h.plans h.events) started
