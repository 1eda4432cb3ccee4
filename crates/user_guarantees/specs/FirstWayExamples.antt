-- Worked examples, computed: an order that pays, and then takes from the stock and ships, or ships by another way.
use Rattle.std.specs.Prelude.{◌≡◌, true, false, List, [], ◌∷◌, refl}
use Rattle.process_tree.specs.declared.play.Outcome.TheVariants.{Done, Refused}
use Rattle.schedule_model.specs.Conflict.{no_conflict}
use Rattle.schedule_model.specs.Histories.{ends, net_steps}
use Rattle.schedule_model.specs.Samples.{order}
use Rattle.machine_model.specs.Advance.{Machine}
use Rattle.machine_model.specs.Calls.{Call, start, next, finish, session}
use Rattle.machine_model.specs.Moment.{has_begun}
use Rattle.machine_model.specs.Runs.{history, now}
use Rattle.machine_model.specs.State.{refused_steps}
use Rattle.user_guarantees.specs.FirstWay.{undoes_next}

-- the machine after these calls
abbrev pub after_calls : List Call → Machine
after_calls cs = (session no_conflict [] [] cs).machine

-- it is shipped: the order has ended on its first way
abbrev pub shipped : Machine
shipped =
    after_calls (start order ∷ next ∷ finish 1 Done ∷ next ∷ finish 2 Done ∷ next ∷ finish 3 Done ∷ next ∷ finish 4 Done ∷ [])

pub shipped_is_over : ends (history no_conflict shipped) ≡ 1 ∷ []
shipped_is_over = refl

pub shipped_on_its_first_way : net_steps (history no_conflict shipped) 1 ≡ 0 ∷ 1 ∷ 2 ∷ []
shipped_on_its_first_way = refl

-- shipping is refused: that is kept, and what was taken is undone
abbrev pub not_shipped : Machine
not_shipped = after_calls (start order ∷ next ∷ finish 1 Done ∷ next ∷ finish 2 Done ∷ next ∷ finish 3 Refused ∷ [])

pub not_shipped_undoes : undoes_next not_shipped.courses (now no_conflict not_shipped) 1 ≡ true
not_shipped_undoes = refl

pub not_shipped_has_a_cause : refused_steps not_shipped.courses (now no_conflict not_shipped) 1 ≡ 2 ∷ []
not_shipped_has_a_cause = refl

pub not_shipped_goes_on : has_begun (now no_conflict not_shipped) 1 ≡ false
not_shipped_goes_on = refl
