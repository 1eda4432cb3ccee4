-- Machines and sessions that are alike, wherever the plans of their processes lie in memory.
use Rattle.std.specs.Prelude.{◌≡◌, List}
use Rattle.process_tree.specs.declared.plan.Plan.{Plan}
use Rattle.process_core.specs.Cores.{CoreState}
use Rattle.process_journal.specs.Laws.{AreEqualInTurn}
use Rattle.session_play.specs.Playing.{SessionState}

-- a core with these plans in place of its own
abbrev pub with_plans : CoreState → List Plan → CoreState
with_plans c plans = record { conflicts = c.conflicts; plans = plans; opening = c.opening; kept = c.kept; served = c.served }

-- Two cores are alike: they are the same, but that each plan of the one is equal to that of the other.
pub record AreAlike (c d : CoreState) : Type 0 where
  pub same : d ≡ with_plans c d.plans
  pub equal : AreEqualInTurn c.plans d.plans

-- Two sessions are alike: their machines are, and the same pieces are unfinished and queued.
pub record AreAlikeSessions (s t : SessionState) : Type 0 where
  pub cores : AreAlike s.core t.core
  pub unfinished : s.unfinished ≡ t.unfinished
  pub group : s.group ≡ t.group
