-- The conflict table and the processes of the worked examples.
use Rattle.std.specs.Prelude.{ℕ, ◌&&◌, ◌||◌, List, [], ◌∷◌, length, map, nat_eq}
use Rattle.process_tree.specs.declared.step.StepKind.{StepKind}
use Rattle.process_tree.specs.declared.step.StepKind.TheVariants.{C, P, R}
use Rattle.process_tree.specs.Blocks.{numbers_from}
use Rattle.schedule_model.specs.declared.event.Event.{Event}
use Rattle.schedule_model.specs.declared.event.Event.TheVariants.{Act}
use Rattle.schedule_model.specs.Conflict.{ConflictRelation}
use Rattle.schedule_model.specs.Course.{Course}
use Rattle.schedule_model.specs.Histories.{doing, undoing}

-- an operation: to add to the stock
abbrev pub add : ℕ
add = 0

-- to take from the stock
abbrev pub take : ℕ
take = 1

-- to pay
abbrev pub pay : ℕ
pay = 2

-- to ship
abbrev pub ship : ℕ
ship = 3

-- to write a note
abbrev pub note : ℕ
note = 4

-- what is taken depends on what was added and on what else was taken, and notes depend on notes
abbrev pub stock_table : ConflictRelation
stock_table a b =
    (nat_eq a.op add && nat_eq b.op take) || (nat_eq a.op take && nat_eq b.op add) || (nat_eq a.op take && nat_eq b.op take)
    || (nat_eq a.op note && nat_eq b.op note)

-- the same where the stock is of several goods: what is done to different goods doesn't conflict
abbrev pub goods_table : ConflictRelation
goods_table a b = stock_table a b && nat_eq a.key b.key

-- steps one after another
abbrev pub line : List StepKind → List ℕ → Course
line kinds ops =
    record { shape = record { kinds = kinds; paths = numbers_from 0 (length kinds) ∷ [] }; ops = ops; keys = []; allowances = [] }

-- a purchase adds to the stock, and pays
abbrev pub purchase : Course
purchase = line (C ∷ P ∷ []) (add ∷ pay ∷ [])

-- a sale takes from the stock, and is paid
abbrev pub sale : Course
sale = line (C ∷ P ∷ []) (take ∷ pay ∷ [])

-- a delivery adds to the stock, and ships as often as it takes
abbrev pub delivery : Course
delivery = line (C ∷ R ∷ []) (add ∷ ship ∷ [])

-- an addition alone
abbrev pub addition : Course
addition = line (C ∷ []) (add ∷ [])

-- an order pays, and then takes from the stock and ships, or ships by another way, or ships as often as it takes
abbrev pub order : Course
order = record {
  shape = record { kinds = P ∷ C ∷ C ∷ C ∷ R ∷ []; paths = (0 ∷ 1 ∷ 2 ∷ []) ∷ (0 ∷ 3 ∷ []) ∷ (0 ∷ 4 ∷ []) ∷ [] };
  ops = pay ∷ take ∷ ship ∷ ship ∷ ship ∷ [];
  keys = [];
  allowances = [];
}

-- a taking alone
abbrev pub withdrawal : Course
withdrawal = line (C ∷ []) (take ∷ [])

-- a prepaid taking pays, and then takes from the stock as often as it takes
abbrev pub prepaid : Course
prepaid = line (P ∷ R ∷ []) (pay ∷ take ∷ [])

-- a purchase that is noted for good
abbrev pub noted_purchase : Course
noted_purchase = line (C ∷ P ∷ []) (add ∷ note ∷ [])

-- a sale that is noted first, and takes for good
abbrev pub noted_sale : Course
noted_sale = line (C ∷ P ∷ []) (note ∷ take ∷ [])

-- a purchase that is noted, of which nothing is for good
abbrev pub loose_purchase : Course
loose_purchase = line (C ∷ C ∷ []) (add ∷ note ∷ [])

-- a sale that is noted first, of which nothing is for good
abbrev pub loose_sale : Course
loose_sale = line (C ∷ C ∷ []) (note ∷ take ∷ [])

-- a choice of which the first way is a choice: a or b, or else d
abbrev pub nested : Course
nested = record {
  shape = record { kinds = C ∷ C ∷ C ∷ []; paths = (0 ∷ []) ∷ (1 ∷ []) ∷ (2 ∷ []) ∷ [] };
  ops = pay ∷ pay ∷ pay ∷ [];
  keys = [];
  allowances = [];
}

-- the same process, each step of which is of goods k
abbrev pub of_goods : ℕ → Course → Course
of_goods k c = record { shape = c.shape; ops = c.ops; keys = map (λ o. k) c.ops; allowances = c.allowances }

-- step b of process i took effect
abbrev pub did : List Course → ℕ → ℕ → Event
did courses i b = Act (doing courses i b)

-- its undo did
abbrev pub undid : List Course → ℕ → ℕ → Event
undid courses i b = Act (undoing (doing courses i b))
