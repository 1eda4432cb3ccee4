-- Worked examples, computed: a shop whose first purchase is forgotten.
use Rattle.std.specs.Prelude.{◌≡◌, true, List, [], ◌∷◌, ◌++◌, map, refl}
use Rattle.schedule_model.specs.declared.event.Event.{Event}
use Rattle.schedule_model.specs.declared.event.Event.TheVariants.{Start, End}
use Rattle.schedule_model.specs.Course.{Course}
use Rattle.schedule_model.specs.Histories.{active, ends}
use Rattle.schedule_model.specs.Completion.{completed}
use Rattle.schedule_model.specs.Legal.{is_legal}
use Rattle.schedule_model.specs.Samples.{stock_table, purchase, sale, did}
use Rattle.forgetting_model.specs.Remaining.{as_before, as_since, courses_left, number_in, number_since, remaining}

-- a purchase, a sale, another purchase and another sale
abbrev pub shop : List Course
shop = purchase ∷ sale ∷ purchase ∷ sale ∷ []

-- the first purchase has ended, the second one and a sale go on
abbrev pub one_ended : List Event
one_ended = Start 1 ∷ Start 2 ∷ did shop 1 0 ∷ did shop 1 1 ∷ Start 3 ∷ End 1 ∷ did shop 2 0 ∷ did shop 3 0 ∷ []

pub one_ended_is_legal : is_legal stock_table shop one_ended ≡ true
one_ended_is_legal = refl

pub two_go_on : active one_ended ≡ 2 ∷ 3 ∷ []
two_go_on = refl

-- the sale is process 1 from then on, and the purchase process 2
abbrev pub shop_since : List Course
shop_since = sale ∷ purchase ∷ sale ∷ []

pub what_remains : remaining one_ended ≡ Start 1 ∷ Start 2 ∷ did shop_since 1 0 ∷ did shop_since 2 0 ∷ []
what_remains = refl

pub whose_courses : courses_left shop one_ended ≡ shop_since
whose_courses = refl

pub it_is_legal : is_legal stock_table shop_since (remaining one_ended) ≡ true
it_is_legal = refl

-- the fourth process is the third from then on
pub numbers_before : map (number_in one_ended) (1 ∷ 2 ∷ 3 ∷ 4 ∷ []) ≡ 2 ∷ 3 ∷ 4 ∷ 5 ∷ []
numbers_before = refl

pub numbers_since : map (number_since one_ended) (1 ∷ 2 ∷ 3 ∷ 4 ∷ []) ≡ 0 ∷ 1 ∷ 2 ∷ 3 ∷ []
numbers_since = refl

-- another sale starts, and the first one is paid
abbrev pub goes_on_so : List Event
goes_on_so = Start 3 ∷ did shop_since 1 1 ∷ End 1 ∷ []

pub went_on_so : as_before one_ended goes_on_so ≡ Start 4 ∷ did shop 2 1 ∷ End 2 ∷ []
went_on_so = refl

pub there_and_back : as_since one_ended (as_before one_ended goes_on_so) ≡ goes_on_so
there_and_back = refl

pub both_are_legal : is_legal stock_table shop (one_ended ++ as_before one_ended goes_on_so)
    ≡ is_legal stock_table shop_since (remaining one_ended ++ goes_on_so)
both_are_legal = refl

-- the order of ends: the forgotten purchase first
pub in_order : ends (completed shop (one_ended ++ as_before one_ended goes_on_so))
    ≡ 1 ∷ map (number_in one_ended) (ends (completed shop_since (remaining one_ended ++ goes_on_so)))
in_order = refl
