-- Worked examples, computed: dialogues about orders that pay, take from the stock and ship.
use Rattle.std.specs.Prelude.{◌≡◌, true, false, [], ◌∷◌, refl}
use Rattle.process_tree.specs.declared.play.Outcome.TheVariants.{Done, Refused}
use Rattle.schedule_model.specs.Conflict.{no_conflict}
use Rattle.schedule_model.specs.Samples.{order}
use Rattle.machine_model.specs.Advance.{Machine}
use Rattle.machine_model.specs.Calls.{start, next, session}
use Rattle.machine_model.specs.Replies.{all_ended}
use Rattle.driver_guarantees.specs.Dialogue.{after_requests, is_free_at_each, is_over, is_served, told}

-- one order has started
abbrev pub one_order : Machine
one_order = (session no_conflict [] [] (start order ∷ [])).machine

-- its three steps and its end are four pieces; then all have ended, and not before
pub done_ends : told no_conflict (after_requests 4 no_conflict (λ d. Done) one_order) ≡ all_ended
done_ends = refl

pub done_goes_on : is_over (told no_conflict (after_requests 3 no_conflict (λ d. Done) one_order)) ≡ false
done_goes_on = refl

-- a driver that refuses everything: the payment is refused, and nothing is left to do but to end
pub refused_ends : told no_conflict (after_requests 2 no_conflict (λ d. Refused) one_order) ≡ all_ended
refused_ends = refl

-- two orders have started: two requests serve both
abbrev pub two_orders : Machine
two_orders = (session no_conflict [] [] (start order ∷ start order ∷ [])).machine

pub the_second_is_free : is_free_at_each no_conflict 2 two_orders (next ∷ next ∷ []) ≡ true
the_second_is_free = refl

pub the_second_is_served : is_served no_conflict 2 two_orders (next ∷ next ∷ []) ≡ true
the_second_is_served = refl

-- the first of the two serves the other one
pub not_at_once : is_served no_conflict 2 two_orders (next ∷ []) ≡ false
not_at_once = refl
