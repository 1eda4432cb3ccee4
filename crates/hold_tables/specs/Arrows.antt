-- Arrows: what is kept of the conflict graph, the pairs that make its arrows and where its walks lead.
use Rattle.std.specs.Prelude.{◌≡◌, ◌<◌, ℕ, Bool, true, List, length}
use Rattle.process_tree.specs.Conflicts.{do_conflict}
use Rattle.schedule_model.specs.Graph.{Arrow}
use Rattle.hold_tables.specs.declared.graph.Graph.{Graph}
use Rattle.hold_tables.specs.Counts.{Pairs, TellCounts, TellCountsBut}
use Rattle.hold_tables.specs.Tables.{Tables}
use Rattle.hold_tables.specs.Walks.{TellWalks, TellWalksBut, arrows_from, steps_under_way}
use Rattle.bit_rows.specs.Cells.{cell}

-- the arrows that the tables make
abbrev pub arrows_in : Tables → Arrow
arrows_in t = arrows_from (do_conflict t.conflicts) (steps_under_way t.processes) t.net

-- an arrow between two of the first n places is marked, and each row marks what a row marks that it marks, and nothing else
pub record IsClosed (n : ℕ) (arrow : Arrow) (marks : List (List Bool)) : Type 0 where
  pub count : length marks ≡ n
  pub more : (a b : ℕ) → a < n → b < n → arrow a b ≡ true → cell marks a b ≡ true
  pub through : (a m b : ℕ) → a < n → m < n → b < n → cell marks a m ≡ true → cell marks m b ≡ true → cell marks a b ≡ true
  pub least : (led : Arrow)
      → ((a m b : ℕ) → a < n → m < n → b < n → led a m ≡ true → led m b ≡ true → led a b ≡ true)
      → ((a b : ℕ) → a < n → b < n → arrow a b ≡ true → led a b ≡ true)
      → (a b : ℕ) → a < n → b < n → cell marks a b ≡ true → led a b ≡ true

-- what is kept of the graph tells the pairs that make its arrows, and where its walks lead
abbrev pub TellGraph : Tables → Graph → Type 0
TellGraph t g = TellCounts t g.counts × TellWalks t g.walks

-- the same once these pairs are counted, and the arrows that they make are added
abbrev pub TellGraphBut : Tables → Pairs → Arrow → Graph → Type 0
TellGraphBut t pairs arrows g = TellCountsBut t pairs g.counts × TellWalksBut t arrows g.walks
