-- What a seat is between its steps, and what each step tells. `me` is the view of the seat and the slots that it holds.
use Rattle.std.specs.Prelude.{◌≡◌, ◌≢◌, ◌<◌, ◌≤◌, ℕ, ◌+◌, ◌^◌, List, [], ◌∷◌, ◌++◌, length, Option as Maybe}
use Rattle.atomic_table.specs.Table.{Me}
use Rattle.history_lock.specs.declared.view.View.{View}
use Rattle.history_lock.specs.Rule.{resting, clear, waiting, turning, Took, NoPlaceTwice}

-- the same number before each entry
abbrev pub at_place : {X : Type 0} → ℕ → List X → List (ℕ × X)
at_place n [] = []
at_place n (x ∷ xs) = (n, x) ∷ at_place n xs

module _ {O T X : Type 0} where
  -- with the same opening, history, places and share: between two turns
  abbrev pub rested : Me (Maybe T) (View O X) → Me (Maybe T) (View O X)
  rested me = (resting me.0.opening me.0.seen me.0.places me.0.share, [])

  -- cleared to draw a ticket
  abbrev pub cleared : Me (Maybe T) (View O X) → Me (Maybe T) (View O X)
  cleared me = (clear me.0.opening me.0.seen me.0.places me.0.share, [])

  -- waiting with a ticket
  abbrev pub queued : Me (Maybe T) (View O X) → ℕ → Me (Maybe T) (View O X)
  queued me ticket = (waiting me.0.opening me.0.seen me.0.places me.0.share ticket, [])

  -- in its turn with this in the slot, its entry counted or not
  abbrev pub in_turn : Me (Maybe T) (View O X) → ℕ → Maybe T → Me (Maybe T) (View O X)
  in_turn me counted held =
      (turning me.0.opening me.0.seen me.0.places me.0.share me.0.ticket counted, (0, held) ∷ [])

  -- its turn with these entries counted, at the place behind its ticket
  abbrev pub counting : Me (Maybe T) (View O X) → List X → View O X
  counting me entries =
      turning me.0.opening (me.0.seen ++ entries) (me.0.places ++ at_place (me.0.ticket + 1) entries) me.0.share me.0.ticket 1

  -- just joined with another, of which it has heard
  abbrev pub joined : Me (Maybe T) (View O X) → Me (Maybe T) (View O X)
  joined me = (record (resting me.0.opening me.0.seen me.0.places me.0.share) { heard = me.0.heard }, [])

  abbrev pub IsResting : Me (Maybe T) (View O X) → Type 0
  IsResting me = (me ≡ rested me) × (1 ≤ me.0.share)

  abbrev pub IsClear : Me (Maybe T) (View O X) → Type 0
  IsClear me = (me ≡ cleared me) × (1 ≤ me.0.share)

  abbrev pub IsWaiting : Me (Maybe T) (View O X) → Type 0
  IsWaiting me = (me ≡ queued me me.0.ticket) × (1 ≤ me.0.share)

  -- in its turn, with this in the slot; it has seen the history, which has as many entries as turns are over
  abbrev pub IsTurning : Maybe T → Me (Maybe T) (View O X) → Type 0
  IsTurning held me = (me ≡ in_turn me 0 held) × (1 ≤ me.0.share) × (length me.0.seen ≡ me.0.ticket)

  abbrev pub HasCounted : Maybe T → Me (Maybe T) (View O X) → Type 0
  HasCounted held me = (me ≡ in_turn me 1 held) × (1 ≤ me.0.share)

  -- it may draw where fewer than 2 ^ 63 turns are over
  abbrev pub Cleared : Me (Maybe T) (View O X) → ℕ → Me (Maybe T) (View O X) → Type 0
  Cleared me found after = (found < 2 ^ 63 → after ≡ cleared me) × (2 ^ 63 ≤ found → after ≡ me)

  -- it has the ticket that it found
  abbrev pub Drew : Me (Maybe T) (View O X) → ℕ → Me (Maybe T) (View O X) → Type 0
  Drew me found after = after ≡ queued me found

  -- the entries are the next of the history
  abbrev pub Counted : List X → Me (Maybe T) (View O X) → ℕ → Me (Maybe T) (View O X) → Type 0
  Counted entries me found after = (found ≡ me.0.ticket) × (after ≡ (counting me entries, me.1))

  -- its turn is over
  abbrev pub Passed : Me (Maybe T) (View O X) → ℕ → Me (Maybe T) (View O X) → Type 0
  Passed me found after = after ≡ rested me

  -- a change was announced, or a bell was rung
  abbrev pub Announced : Me (Maybe T) (View O X) → Me (Maybe T) (View O X) → Type 0
  Announced me after = after ≡ me

  -- what a join did not tell: no place stands twice, and the shorter of the two lists begins the longer
  abbrev pub Learned : Me (Maybe T) (View O X) → ℕ → Me (Maybe T) (View O X) → Type 0
  Learned me found after =
      (after ≡ rested me) × NoPlaceTwice me.0.places
      × (length me.0.heard ≤ length me.0.seen → (more : List X) × (me.0.heard ++ more ≡ me.0.seen))

-- it took the slot, where its ticket is served
abbrev pub Looked : {S X : Type 0} → (S → List X → S → Type 0)
    → Me (Maybe S) (View S X) → ℕ → Me (Maybe S) (View S X) → Type 0
Looked stands_for me found after =
    (found ≡ me.0.ticket → Took stands_for me.0.opening me.0.seen me.0.places me.0.share me.0.ticket after)
    × (found ≢ me.0.ticket → after ≡ me)
