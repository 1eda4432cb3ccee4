-- Worked examples, computed: two processes that work on one stock.
use Rattle.std.specs.Prelude.{◌≡◌, ℕ, true, false, List, [], ◌∷◌, ◌++◌, Some, None, refl}
use Rattle.process_tree.specs.declared.entry.Entry.{Entry}
use Rattle.schedule_model.specs.declared.event.Event.{Event}
use Rattle.schedule_model.specs.declared.event.Event.TheVariants.{Start, End}
use Rattle.schedule_model.specs.declared.trace_step.TraceStep.TheVariants.{Move, Cancel}
use Rattle.schedule_model.specs.Course.{Course}
use Rattle.schedule_model.specs.Histories.{acts, net, doing, outlives}
use Rattle.schedule_model.specs.Limits.{Limits, keeps_limits, stands_within}
use Rattle.schedule_model.specs.Recovery.{backward_entries, owed}
use Rattle.schedule_model.specs.Completion.{completion}
use Rattle.schedule_model.specs.OwnOrder.{keeps_order}
use Rattle.schedule_model.specs.Legal.{is_legal, is_reducible, first_illegal}
use Rattle.schedule_model.specs.Reduction.{applied, applied_all, is_serial, not_serial}
use Rattle.schedule_model.specs.PrintedTrace.{printed_trace}
use Rattle.schedule_model.specs.Samples.{stock_table, goods_table, of_goods, purchase, sale, delivery, addition, order, nested, did}
use Rattle.schedule_model.specs.Samples.{undid}

-- process 1 is a purchase, and process 2 a sale
abbrev pub shop : List Course
shop = purchase ∷ sale ∷ []

-- the sale took what the purchase had added, and was paid first: were the purchase undone now, the sale would have sold what
-- isn't there
abbrev pub paid_too_early : List Event
paid_too_early = Start 1 ∷ Start 2 ∷ did shop 1 0 ∷ did shop 2 0 ∷ did shop 2 1 ∷ []

pub paid_too_early_is_illegal : first_illegal stock_table shop paid_too_early ≡ Some 5
paid_too_early_is_illegal = refl

-- a purchase of goods 1 and a sale of goods k, which was paid first
abbrev pub goods_shop : ℕ → List Course
goods_shop k = of_goods 1 purchase ∷ of_goods k sale ∷ []

abbrev pub paid_first : ℕ → List Event
paid_first k = Start 1 ∷ Start 2 ∷ did (goods_shop k) 1 0 ∷ did (goods_shop k) 2 0 ∷ did (goods_shop k) 2 1 ∷ []

-- of other goods it may be
pub other_goods_are_paid_first : first_illegal goods_table (goods_shop 2) (paid_first 2) ≡ None
other_goods_are_paid_first = refl

-- of the same goods it may not
pub the_same_goods_are_not : first_illegal goods_table (goods_shop 1) (paid_first 1) ≡ Some 5
the_same_goods_are_not = refl

-- the same after the purchase has ended
abbrev pub paid_in_time : List Event
paid_in_time = Start 1 ∷ Start 2 ∷ did shop 1 0 ∷ did shop 1 1 ∷ End 1 ∷ did shop 2 0 ∷ did shop 2 1 ∷ []

pub paid_in_time_is_legal : is_legal stock_table shop paid_in_time ≡ true
paid_in_time_is_legal = refl

pub paid_in_time_has_no_fault : first_illegal stock_table shop paid_in_time ≡ None
paid_in_time_has_no_fault = refl

-- cut off after its first step: the purchase is undone, and both end with nothing
pub cut_off : completion shop (Start 1 ∷ Start 2 ∷ did shop 1 0 ∷ []) ≡ undid shop 1 0 ∷ End 1 ∷ End 2 ∷ []
cut_off = refl

pub cut_off_trace : (printed_trace shop (Start 1 ∷ Start 2 ∷ did shop 1 0 ∷ [])).steps ≡ Cancel 1 ∷ []
cut_off_trace = refl

-- both cut off: what was done last is undone first
pub both_cut_off : completion shop (Start 1 ∷ Start 2 ∷ did shop 1 0 ∷ did shop 2 0 ∷ [])
    ≡ undid shop 2 0 ∷ undid shop 1 0 ∷ End 1 ∷ End 2 ∷ []
both_cut_off = refl

-- the undo of what the sale builds on comes too early
pub undone_too_early : first_illegal stock_table shop (Start 1 ∷ Start 2 ∷ did shop 1 0 ∷ did shop 2 0 ∷ undid shop 1 0 ∷ [])
    ≡ Some 5
undone_too_early = refl

-- both undone: two cancels, and nothing is left
abbrev pub both_undone : List Event
both_undone = Start 1 ∷ Start 2 ∷ did shop 1 0 ∷ did shop 2 0 ∷ undid shop 2 0 ∷ undid shop 1 0 ∷ End 2 ∷ End 1 ∷ []

pub both_undone_is_legal : is_legal stock_table shop both_undone ≡ true
both_undone_is_legal = refl

pub both_undone_trace : printed_trace shop both_undone ≡ record { steps = Cancel 2 ∷ Cancel 1 ∷ []; list = [] }
both_undone_trace = refl

-- process 1 is a purchase, and process 2 a delivery: adding doesn't conflict with adding
abbrev pub yard : List Course
yard = purchase ∷ delivery ∷ []

-- they go on side by side, and the delivery ends first
abbrev pub interleaved : List Event
interleaved =
    Start 1 ∷ Start 2 ∷ did yard 1 0 ∷ did yard 2 0 ∷ did yard 2 1 ∷ did yard 1 1 ∷ End 2 ∷ End 1 ∷ []

pub interleaved_is_legal : is_legal stock_table yard interleaved ≡ true
interleaved_is_legal = refl

-- the delivery ended first, so its entries come to the front
abbrev pub one_by_one : List Entry
one_by_one = doing yard 2 0 ∷ doing yard 2 1 ∷ doing yard 1 0 ∷ doing yard 1 1 ∷ []

pub interleaved_trace : printed_trace yard interleaved ≡ record { steps = Move 2 1 ∷ Move 3 2 ∷ []; list = one_by_one }
interleaved_trace = refl

pub interleaved_applies : applied_all stock_table (Move 2 1 ∷ Move 3 2 ∷ []) (acts interleaved) ≡ Some one_by_one
interleaved_applies = refl

-- a step that would carry an entry past one of its own process doesn't apply
pub wrong_move : applied_all stock_table (Move 2 1 ∷ Move 3 1 ∷ []) (acts interleaved) ≡ None
wrong_move = refl

pub one_by_one_is_serial : is_serial one_by_one ≡ true
one_by_one_is_serial = refl

-- left as it was, the list is out of order where process 1 is taken up again
pub interleaved_is_not_serial : not_serial (acts interleaved) ≡ Some 4
interleaved_is_not_serial = refl

-- what was taken can't change places with what was added
pub no_exchange : applied stock_table (Move 1 2) (doing shop 1 0 ∷ doing shop 2 0 ∷ []) ≡ None
no_exchange = refl

-- process 1 adds to the stock, and process 2 is an order
abbrev pub counter : List Course
counter = addition ∷ order ∷ []

-- the order has paid and taken from the stock after the addition
abbrev pub ordered : List Event
ordered = Start 1 ∷ Start 2 ∷ did counter 2 0 ∷ did counter 1 0 ∷ did counter 2 1 ∷ []

pub ordered_undoable : backward_entries counter ordered 2 ≡ doing counter 2 1 ∷ []
ordered_undoable = refl

pub ordered_owed : owed counter ordered 2 ≡ doing counter 2 4 ∷ []
ordered_owed = refl

-- cut off: the taking and the addition are undone, and the order ships by its last way
abbrev pub ordered_end : List Event
ordered_end = undid counter 2 1 ∷ undid counter 1 0 ∷ End 1 ∷ did counter 2 4 ∷ End 2 ∷ []

pub ordered_completion : completion counter ordered ≡ ordered_end
ordered_completion = refl

pub ordered_is_legal : is_legal stock_table counter (ordered ++ ordered_end) ≡ true
ordered_is_legal = refl

pub ordered_net : net (ordered ++ ordered_end) ≡ doing counter 2 0 ∷ doing counter 2 4 ∷ []
ordered_net = refl

pub ordered_trace : printed_trace counter ordered
    ≡ record { steps = Cancel 3 ∷ Cancel 2 ∷ []; list = doing counter 2 0 ∷ doing counter 2 4 ∷ [] }
ordered_trace = refl

-- once the second way of a nested choice was gone and the last one taken back, the second may not come any more
abbrev pub taken_back : List Event
taken_back = Start 1 ∷ did (nested ∷ []) 1 2 ∷ undid (nested ∷ []) 1 2 ∷ []

pub no_earlier_way : keeps_order (nested ∷ []) taken_back (did (nested ∷ []) 1 1) ≡ false
no_earlier_way = refl

pub it_may_end : keeps_order (nested ∷ []) taken_back (End 1) ≡ true
it_may_end = refl

-- limits of two active processes, two processes in all, and five acts and ends
abbrev pub narrow : Limits
narrow = record { active = 2; processes = 2; entries = 5 }

-- two additions at once may need three each; with one End more there are four, but the second start was too much
abbrev pub both_at_once : List Event
both_at_once = Start 1 ∷ Start 2 ∷ End 1 ∷ []

pub both_at_once_at_last : stands_within narrow (addition ∷ addition ∷ []) both_at_once ≡ true
both_at_once_at_last = refl

pub both_at_once_is_too_much : keeps_limits narrow (addition ∷ addition ∷ []) both_at_once ≡ false
both_at_once_is_too_much = refl

-- one after the other there is room
pub one_after_the_other : keeps_limits narrow (addition ∷ addition ∷ []) (Start 1 ∷ End 1 ∷ Start 2 ∷ []) ≡ true
one_after_the_other = refl

-- of two that ended, the one that ended later outlives the other
pub purchase_outlives : outlives both_undone 1 2 ≡ true
purchase_outlives = refl

pub sale_is_outlived : outlives both_undone 2 1 ≡ false
sale_is_outlived = refl

-- what is reducible need not be legal: a sale that was paid too early, but ended after the purchase
abbrev pub paid_early : List Event
paid_early = paid_too_early ++ did shop 1 1 ∷ End 1 ∷ End 2 ∷ []

pub paid_early_is_reducible : is_reducible stock_table shop paid_early ≡ true
paid_early_is_reducible = refl

pub paid_early_is_illegal : first_illegal stock_table shop paid_early ≡ Some 5
paid_early_is_illegal = refl

pub interleaved_reduces : is_reducible stock_table yard interleaved ≡ true
interleaved_reduces = refl
