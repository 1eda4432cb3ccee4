-- Guaranteed termination: which processes can't get stuck, and the first fault of one that can.
use Rattle.std.specs.Prelude.{◌≡◌, ◌≢◌, ℕ, ◌+◌, ◌*◌, ◌≤◌, ◌&&◌, Bool, List, [], ◌∷◌, ◌++◌, length, drop, filter, Some}
use Rattle.std.specs.Prelude.{if◌then◌else◌, not, nat_eq, nat_lt, IsTrue, replicate}
use Rattle.std.specs.List.{list_any, starts_with}
use Rattle.process_tree.specs.declared.play.Outcome.{Outcome}
use Rattle.process_tree.specs.declared.play.Outcome.TheVariants.{Done, Refused}
use Rattle.process_tree.specs.declared.play.Played.TheVariants.{Stuck}
use Rattle.process_tree.specs.Blocks.{numbers_from}
use Rattle.process_tree.specs.Shape.{Shape, kind_of, can_be_refused, next_steps, goes_on_to, branch_to}
use Rattle.process_tree.specs.Play.{asks, stand, play, fallback_of}

-- no outcomes get the process stuck
abbrev pub NeverStuck : Shape → Type 0
NeverStuck t = (os : List Outcome) (b : ℕ) → play t os ≢ Stuck b

-- each number once
abbrev pub once : List ℕ → List ℕ
once [] = []
once (e ∷ es) = if list_any (nat_eq e) es then once es else e ∷ once es

-- the first steps of the ways before d, where d begins one: one for each alternative, and more for one that begins with a choice
abbrev pub ways_before : Shape → ℕ → List ℕ
ways_before t d = once (filter (λ e. nat_lt e d) (next_steps t (branch_to t d)))

-- b can be refused, and is the first such step behind v on its branch
abbrev pub is_first_tried : Shape → List ℕ → ℕ → Bool
is_first_tried t v b =
    can_be_refused (kind_of t b)
    && starts_with nat_eq (branch_to t b) v
    && not (list_any (λ x. can_be_refused (kind_of t x)) (drop (length v) (branch_to t b)))

-- the steps by whose refusals play passes over the ways before d: of each the first that can be refused
abbrev pub tried_before : Shape → ℕ → List ℕ
tried_before t d = filter (is_first_tried t (branch_to t d)) (numbers_from 0 d)

-- d begins an alternative other than the first
abbrev pub is_later_way : Shape → ℕ → Bool
is_later_way t d = goes_on_to t (branch_to t d) d && nat_lt 0 (length (ways_before t d))

-- after some outcomes a refusal makes play fall back to d
abbrev pub IsFallenTo : Shape → ℕ → Type 0
IsFallenTo t d = (os : List Outcome) × (w : List ℕ) × (b : ℕ) × (stand t os ≡ asks w b) × (fallback_of t w b ≡ Some d)

-- no outcomes make play fall back to the alternative that d begins
abbrev pub IsUnreachable : Shape → ℕ → Type 0
IsUnreachable t d = IsTrue (is_later_way t d) × (¬ IsFallenTo t d)

-- no outcomes get the process stuck, and each alternative can be reached
pub record IsWellFormed (t : Shape) : Type 0 where
  pub never_stuck : NeverStuck t
  pub reached : (d : ℕ) → IsTrue (is_later_way t d) → IsFallenTo t d

-- the outcomes by which play goes along these steps to b and is refused there: a refusal of the first step that can be
-- refused in each way that is passed over, and each such step on the branch is done
abbrev pub outcomes_along : Shape → List ℕ → ℕ → List Outcome
outcomes_along t [] b = replicate (length (tried_before t b)) Refused ++ Refused ∷ []
outcomes_along t (x ∷ xs) b =
    replicate (length (tried_before t x)) Refused
    ++ (if can_be_refused (kind_of t x) then Done ∷ [] else [])
    ++ outcomes_along t xs b

abbrev pub outcomes_to : Shape → ℕ → List Outcome
outcomes_to t b = outcomes_along t (branch_to t b) b

-- what may be wrong with a process
pub data Fault : Type 0 where
  stuck_at : ℕ → List Outcome → Fault
  unreachable_at : ℕ → Fault

-- what is wrong with t
abbrev pub IsFault : Shape → Fault → Type 0
IsFault t (unreachable_at d) = IsUnreachable t d
IsFault t (stuck_at b os) = (os ≡ outcomes_to t b) × (play t os ≡ Stuck b)

-- the order of faults: by steps, and at one step that it is unreachable comes first
abbrev pub rank : Fault → ℕ
rank (unreachable_at d) = 2 * d
rank (stuck_at b os) = 2 * b + 1

pub record IsFirstFault (t : Shape) (fault : Fault) : Type 0 where
  pub is : IsFault t fault
  pub first : (other : Fault) → IsFault t other → rank fault ≤ rank other
