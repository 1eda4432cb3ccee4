-- How many pieces may be queued.
use Rattle.std.specs.Prelude.{ℕ, ◌*◌}
use Rattle.schedule_model.specs.Limits.{most_active}

-- of each process that is active one that runs, and one that was dropped
abbrev pub most_queued : ℕ
most_queued = 2 * most_active
