-- What a turn is to its callers: in its turn a seat sees the whole history.
use Rattle.std.specs.Prelude.{ℕ, List, Option as Maybe}
use Rattle.atomic_table.specs.Seated.{TableId}
use Rattle.history_lock.specs.declared.desk.Turn.{Turn}

module _ {S X : Type 0} where
  -- the state with which the desk was opened
  abbrev pub opening_at : Turn S X → Maybe S
  opening_at t = t.place.me.0.opening

  -- all entries so far
  abbrev pub history : Turn S X → List X
  history t = t.place.me.0.seen

  -- the places of the seat's own entries
  abbrev pub places_at : Turn S X → List (ℕ × X)
  places_at t = t.place.me.0.places

  -- the share of the seat
  abbrev pub share_at : Turn S X → ℕ
  share_at t = t.place.me.0.share

  -- the state as it is now
  abbrev pub state_at : Turn S X → S
  state_at t = t.state

  -- which desk the turn is at
  abbrev pub desk_at : Turn S X → TableId
  desk_at t = t.place.table_id
