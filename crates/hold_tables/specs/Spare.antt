-- Spare: the room that is taken for a process before it opens.
use Rattle.std.specs.Prelude.{◌≤◌, ◌<◌, ◌+◌, ℕ, length}
use Rattle.hold_tables.specs.Tables.{Tables}
use Rattle.hold_tables.specs.Places.{all_steps}

pub record SpareRoom : Type 0 where
  -- how many steps the process may reserve, which is how many its plan has
  pub steps : ℕ
  -- how many net entries there is room for, those of all open processes together
  pub net : ℕ
  -- how many open processes there is room for
  pub processes : ℕ

-- the process that it was taken for can open in these tables: not too many are open, and what is in the tables and may come has
-- room in it
pub record IsRoomIn (t : Tables) (s : SpareRoom) : Type 0 where
  pub few : length t.processes < 256
  pub net : length t.net + (all_steps t.processes + s.steps) ≤ s.net
  pub processes : length t.processes < s.processes
