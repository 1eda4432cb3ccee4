-- Worked examples, computed: a purchase and a sale of one stock, and two that take for good.
use Rattle.std.specs.Prelude.{◌≡◌, ◌<◌, ◌≤◌, ℕ, suc, zero, true, false, List, [], ◌∷◌, length, refl}
use Rattle.std.proofs.Common.{arith, inl, inr}
use Rattle.std.proofs.lemmas.Bool.{false≢true}
use Rattle.process_tree.specs.declared.step.StepKind.TheVariants.{P, R}
use Rattle.schedule_model.specs.declared.event.Event.{Event}
use Rattle.schedule_model.specs.declared.event.Event.TheVariants.{Start}
use Rattle.schedule_model.specs.Course.{Course}
use Rattle.schedule_model.specs.Graph.{Arrow, leads}
use Rattle.schedule_model.specs.Histories.{doing, undoing}
use Rattle.schedule_model.specs.Samples.{stock_table, did, line, take, note}
use Rattle.schedule_model.specs.Examples.{shop, paid_too_early, paid_in_time}
use Rattle.dependence_model.specs.Dependence.{can_go, left_of, is_barred, is_cyclic, must_precede, processes_of, entries_of}
use Rattle.dependence_model.specs.SerialOrder.{order_of, serial_list}
use Rattle.dependence_model.specs.Audited.{completed_schedule, ComesBack, StandsBefore, IsToldCycle}

-- The sale took what the purchase had added, and was paid: were all cut off now, the purchase would be undone under it.
pub paid_too_early_is_barred : is_barred stock_table (completed_schedule shop paid_too_early) ≡ true
paid_too_early_is_barred = refl

-- what is left: the addition, the taking, the payment, and the undo of the addition
pub paid_too_early_is_left : left_of stock_table (completed_schedule shop paid_too_early)
    ≡ record { place = 1; entry = doing shop 1 0 } ∷ record { place = 2; entry = doing shop 2 0 }
    ∷ record { place = 3; entry = doing shop 2 1 } ∷ record { place = 4; entry = undoing (doing shop 1 0) } ∷ []
paid_too_early_is_left = refl

-- before it was paid: the taking would be undone first, and then the addition could go, too
abbrev pub before_payment : List Event
before_payment = Start 1 ∷ Start 2 ∷ did shop 1 0 ∷ did shop 2 0 ∷ []

pub before_payment_nothing_is_left : left_of stock_table (completed_schedule shop before_payment) ≡ []
before_payment_nothing_is_left = refl

pub before_payment_is_not_barred : is_barred stock_table (completed_schedule shop before_payment) ≡ false
before_payment_is_not_barred = refl

-- with the taking between them the addition and its undo can't go, and without it they can
pub addition_stays : can_go stock_table (doing shop 1 0) (doing shop 2 0 ∷ []) (undoing (doing shop 1 0)) ≡ false
addition_stays = refl

pub addition_goes : can_go stock_table (doing shop 1 0) (doing shop 2 1 ∷ []) (undoing (doing shop 1 0)) ≡ true
addition_goes = refl

-- Paid in time, the purchase has to come before the sale, and so they are put.
pub paid_in_time_is_not_cyclic : is_cyclic stock_table (completed_schedule shop paid_in_time) ≡ false
paid_in_time_is_not_cyclic = refl

pub paid_in_time_is_left : entries_of (left_of stock_table (completed_schedule shop paid_in_time)) ≡ completed_schedule shop paid_in_time
paid_in_time_is_left = refl

pub paid_in_time_in_order : order_of stock_table (left_of stock_table (completed_schedule shop paid_in_time)) ≡ 1 ∷ 2 ∷ []
paid_in_time_in_order = refl

-- Two that each take for good and then note: the first takes first and the second notes first, so each would have to come
-- before the other.
abbrev pub takers : List Course
takers = line (P ∷ R ∷ []) (take ∷ note ∷ []) ∷ line (P ∷ R ∷ []) (take ∷ note ∷ []) ∷ []

abbrev pub crossed : List Event
crossed = Start 1 ∷ Start 2 ∷ did takers 1 0 ∷ did takers 2 0 ∷ did takers 2 1 ∷ []

pub crossed_is_not_barred : is_barred stock_table (completed_schedule takers crossed) ≡ false
crossed_is_not_barred = refl

pub crossed_is_cyclic : is_cyclic stock_table (completed_schedule takers crossed) ≡ true
crossed_is_cyclic = refl

-- the first owes its note, and all stands for good
pub crossed_is_left : entries_of (left_of stock_table (completed_schedule takers crossed))
    ≡ doing takers 1 0 ∷ doing takers 2 0 ∷ doing takers 2 1 ∷ doing takers 1 1 ∷ []
crossed_is_left = refl

-- the cycle that is told of it: from the first to the second, and back
pub crossed_is_told : (let left = left_of stock_table (completed_schedule takers crossed) in
    IsToldCycle (must_precede stock_table left) (processes_of left) (1 ∷ 2 ∷ []))
crossed_is_told = record {
  first = 1;
  others = 2 ∷ [];
  is = refl;
  comes_back = (refl, refl);
  least_process = least_process;
  fewest = fewest;
  least = least;
}
  where
    arrow : Arrow
    arrow = must_precede stock_table (left_of stock_table (completed_schedule takers crossed))

    least_process : (i : ℕ) → i < 1 → leads arrow (1 ∷ 2 ∷ 2 ∷ 1 ∷ []) i i ≡ false
    least_process zero less = refl
    least_process (suc i) less = absurd (omega arith)

    fewest : (ks : List ℕ) → ComesBack arrow 1 1 ks → 1 ≤ length ks
    fewest [] back = absurd (false≢true back)
    fewest (k ∷ ks) back = omega arith

    least : (ks : List ℕ) → ComesBack arrow 1 1 ks → length ks ≡ 1 → StandsBefore ks (2 ∷ []) → ⊥
    least [] back long before = before
    least (zero ∷ ks) back long before = false≢true back.0
    least (suc zero ∷ ks) back long before = false≢true back.0
    least (suc (suc k) ∷ ks) back long (inl less) = absurd (omega arith)
    least (suc (suc k) ∷ []) back long (inr same) = same.1
    least (suc (suc k) ∷ l ∷ ks) back long (inr same) = absurd (omega arith)

-- one event before, the first notes before the second: it comes first
abbrev pub not_yet_crossed : List Event
not_yet_crossed = Start 1 ∷ Start 2 ∷ did takers 1 0 ∷ did takers 2 0 ∷ []

pub not_yet_crossed_is_not_cyclic : is_cyclic stock_table (completed_schedule takers not_yet_crossed) ≡ false
not_yet_crossed_is_not_cyclic = refl

pub not_yet_crossed_is_ordered : serial_list stock_table (completed_schedule takers not_yet_crossed)
    ≡ doing takers 1 0 ∷ doing takers 1 1 ∷ doing takers 2 0 ∷ doing takers 2 1 ∷ []
not_yet_crossed_is_ordered = refl
