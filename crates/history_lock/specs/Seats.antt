-- What a seat is to its callers: how the desk began, what the seat has seen of the history, which places are its own, and its share
-- of the whole.
use Rattle.std.specs.Prelude.{◌≡◌, ℕ, List, Option as Maybe}
use Rattle.atomic_table.specs.Seated.{TableId}
use Rattle.history_lock.specs.declared.desk.Desk.{Desk}
use Rattle.history_lock.specs.declared.desk.Seat.{Seat}
use Rattle.history_lock.specs.declared.held.Held.{Ghosts as Helds}

module _ {S X : Type 0} {h : Helds S X} where
  -- the state with which the desk was opened
  abbrev pub opening : Seat S X h → Maybe S
  opening s = s.place.me.0.opening

  -- the history, as far as the seat has seen it
  abbrev pub seen : Seat S X h → List X
  seen s = s.place.me.0.seen

  -- the places of the seat's own entries in the history, counted from 1, in the order in which the seat got them
  abbrev pub places : Seat S X h → List (ℕ × X)
  places s = s.place.me.0.places

  -- of the shares of a desk's seats, which are 2 ^ 62 together
  abbrev pub share : Seat S X h → ℕ
  share s = s.place.me.0.share

  -- which desk the seat is of
  abbrev pub desk_of : Seat S X h → TableId
  desk_of s = s.place.table_id

-- which desk this is
abbrev pub id : {S X : Type 0} → Desk S X → TableId
id desk = desk.table.shared.table_id

-- the seat is one of this desk
abbrev pub IsOf : {S X : Type 0} {h : Helds S X} → Desk S X → Seat S X h → Type 0
IsOf desk s = desk_of s ≡ id desk
