-- What is true of a desk between any two steps. Its first words are the ticket that is served now, the next ticket, and how many
-- entries the history has. Behind them stand counts on which threads sleep: of the changes that were announced, and of the rings of
-- each bell. Its one slot has the state.
use Rattle.std.specs.Prelude.{◌≡◌, ◌≢◌, ◌⊎◌, ◌<◌, ◌≤◌, ℕ, ◌+◌, ◌-◌, ◌/◌, ◌^◌, List, [], ◌∷◌, ◌++◌, length, cond, nat_lt, nat_eq}
use Rattle.std.specs.Prelude.{IfSome, Some, None, Option as Maybe}
use mathlib.Core.Option.{none, some}
use lib.ListN.{get_elem?}
use Rattle.atomic_table.specs.Table.{State, Me}
use Rattle.history_lock.specs.declared.view.View.{View}
use Rattle.history_lock.specs.Weights.{total, weigh, weigh_from, AllStand}

-- the longer of two lists, and the other
abbrev pub longer : {X : Type 0} → List X → List X → List X
longer a b = cond (nat_lt (length a) (length b)) b a

abbrev pub shorter : {X : Type 0} → List X → List X → List X
shorter a b = cond (nat_lt (length a) (length b)) a b

module _ {O X : Type 0} where
  abbrev pub view : Maybe O → List X → List (ℕ × X) → ℕ → ℕ → ℕ → ℕ → ℕ → ℕ → View O X
  view opening seen places share cleared drawn ticket turn counted =
      record {
        marker = record {};
        opening = opening;
        seen = seen;
        heard = [];
        places = places;
        share = share;
        cleared = cleared;
        drawn = drawn;
        ticket = ticket;
        turn = turn;
        counted = counted;
      }

  -- between two turns
  abbrev pub resting : Maybe O → List X → List (ℕ × X) → ℕ → View O X
  resting opening seen places share = view opening seen places share 0 0 0 0 0

  abbrev pub clear : Maybe O → List X → List (ℕ × X) → ℕ → View O X
  clear opening seen places share = view opening seen places share 1 0 0 0 0

  abbrev pub waiting : Maybe O → List X → List (ℕ × X) → ℕ → ℕ → View O X
  waiting opening seen places share ticket = view opening seen places share 0 1 ticket 0 0

  -- in its turn, before and after its entry is counted
  abbrev pub turning : Maybe O → List X → List (ℕ × X) → ℕ → ℕ → ℕ → View O X
  turning opening seen places share ticket counted = view opening seen places share 0 1 ticket 1 counted

  abbrev pub spent : View O X
  spent = view None [] [] 0 0 0 0 0 0

  abbrev pub both : View O X → View O X → View O X
  both v w =
      record (resting v.opening (longer v.seen w.seen) (v.places ++ w.places) (v.share + w.share)) {
        heard = shorter v.seen w.seen;
      }

  abbrev pub left : View O X → View O X
  left v = record v { share = v.share - v.share / 2 }

  abbrev pub right : View O X → View O X
  right v = record v { places = []; share = v.share / 2 }

-- one view, beside the opening, the history and the first two words
pub record SeatInvariant {O X : Type 0} (opening : O) (history : List X) (serving tickets : ℕ) (v : View O X) : Type 0 where
  pub opened : 1 ≤ v.share → v.opening ≡ Some opening
  pub later : List X
  pub prefix : v.seen ++ later ≡ history
  pub past : List X
  pub told : v.heard ++ past ≡ history
  pub stand : AllStand history v.places
  pub busy : v.cleared + v.drawn ≤ v.share
  pub idle : v.share ≡ 0 → v.places ≡ []
  pub queued : v.drawn ≡ 1 → (serving ≤ v.ticket) × (v.ticket < tickets)
  pub turned : v.turn ≡ 1 → (v.drawn ≡ 1) × (v.ticket ≡ serving) × (v.seen ≡ history) × (length history ≡ serving + v.counted)

-- no two views have one ticket
abbrev pub NoSharedTicket : {O X : Type 0} → List (View O X) → Type 0
NoSharedTicket {O} {X} views =
    (j k : ℕ) (v w : View O X) → get_elem? views j ≡ some v → get_elem? views k ≡ some w
    → v.drawn ≡ 1 → w.drawn ≡ 1 → v.ticket ≡ w.ticket → j ≡ k

-- nobody has the turn, and the state is at home
abbrev pub AtHome : {S X : Type 0} → (S → List X → S → Type 0) → S → List X → ℕ → State (Maybe S) (View S X) → Type 0
AtHome {S} {X} stands_for opening history serving state =
    (x : S) × (state.homes ≡ some (Some x) ∷ []) × stands_for opening history x × (length history ≡ serving)
    × ((k : ℕ) (v : View S X) → get_elem? state.views k ≡ some v → v.turn ≢ 1)

-- the state is out with the one that has the turn
abbrev pub IsOut : {S X : Type 0} → State (Maybe S) (View S X) → Type 0
IsOut {S} {X} state = (k : ℕ) × (v : View S X) × (state.homes ≡ none ∷ []) × (get_elem? state.views k ≡ some v) × (v.turn ≡ 1)

pub record DeskInvariant {S X : Type 0} (stands_for : S → List X → S → Type 0) (opening : S)
    (state : State (Maybe S) (View S X)) : Type 0 where
  pub history : List X
  pub serving : ℕ
  pub tickets : ℕ
  -- nothing depends on these
  pub counts : List ℕ
  pub words : state.words ≡ serving ∷ tickets ∷ length history ∷ counts
  pub each : (k : ℕ) (v : View S X) → get_elem? state.views k ≡ some v → SeatInvariant opening history serving tickets v
  pub alone : NoSharedTicket state.views
  pub slot : AtHome stands_for opening history serving state ⊎ IsOut state
  -- each ticket that is not passed is with a view
  pub drawn : serving + total (λ v. v.drawn) state.views ≡ tickets
  -- so no ticket wraps: a seat draws one only while fewer than 2 ^ 63 are served, and at most 2 ^ 62 seats draw at once
  pub bound : tickets + total (λ v. v.cleared) state.views ≤ 2 ^ 63 + 2 ^ 62
  -- the shares of all seats are the share of the first one
  pub shares : total (λ v. v.share) state.views ≡ 2 ^ 62
  -- the places of all views are those of the history
  pub placed : (h : ℕ → X → ℕ) → total (λ v. weigh h v.places) state.views ≡ weigh_from h 0 history

-- the slot was taken with a turn: the history goes on from what was seen, and the state stands for it
abbrev pub Took : {S X : Type 0} → (S → List X → S → Type 0) → Maybe S → List X → List (ℕ × X) → ℕ → ℕ
    → Me (Maybe S) (View S X) → Type 0
Took {S} {X} stands_for opening seen places share ticket after =
    (x : S) × (more : List X) × (after ≡ (turning opening (seen ++ more) places share ticket 0, (0, Some x) ∷ []))
    × IfSome opening (λ o. stands_for o (seen ++ more) x) × (length (seen ++ more) ≡ ticket) × AllStand (seen ++ more) places
    × (ticket < 2 ^ 63 + 2 ^ 62)

-- no place stands twice
abbrev pub NoPlaceTwice : {X : Type 0} → List (ℕ × X) → Type 0
NoPlaceTwice places = (n : ℕ) → weigh (λ m _. cond (nat_eq m n) 1 0) places ≤ 1

-- the state stands for the whole history, which goes on from what was seen and whose places are these
abbrev pub IsWhole : {S X : Type 0} → (S → List X → S → Type 0) → Maybe S → List X → List (ℕ × X) → S → Type 0
IsWhole {S} {X} stands_for opening seen places x =
    (more : List X) × IfSome opening (λ o. stands_for o (seen ++ more) x) × AllStand (seen ++ more) places
    × ((h : ℕ → X → ℕ) → weigh h places ≡ weigh_from h 0 (seen ++ more))
