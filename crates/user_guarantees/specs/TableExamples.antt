-- Worked examples, computed: a shop whose table is loosened from the whole stock to single goods.
use Rattle.std.specs.Prelude.{◌≡◌, [], ◌∷◌, Some, None, refl}
use Rattle.process_tree.specs.Conflicts.{Table, do_conflict}
use Rattle.process_tree.specs.declared.conflicts.Mode.TheVariants.{Never, Key, Always}
use Rattle.schedule_model.specs.Examples.{goods_shop, paid_first}
use Rattle.schedule_model.specs.Legal.{first_illegal}

-- to add, to take and to pay: whatever is taken conflicts with what was added and with what else was taken
abbrev pub of_stock : Table
of_stock = (Never ∷ Always ∷ Never ∷ []) ∷ (Always ∷ Never ∷ []) ∷ (Never ∷ []) ∷ []

-- the same of one kind of goods
abbrev pub of_goods : Table
of_goods = (Never ∷ Key ∷ Never ∷ []) ∷ (Key ∷ Never ∷ []) ∷ (Never ∷ []) ∷ []

-- a sale may not be paid before the purchase has ended, whatever the goods are
pub one_stock_forbids : first_illegal (do_conflict of_stock) (goods_shop 2) (paid_first 2) ≡ Some 5
one_stock_forbids = refl

-- of other goods it may, by the looser table
pub other_goods_allow : first_illegal (do_conflict of_goods) (goods_shop 2) (paid_first 2) ≡ None
other_goods_allow = refl

-- of the same goods it may not by either
pub the_same_goods_forbid : first_illegal (do_conflict of_goods) (goods_shop 1) (paid_first 1) ≡ Some 5
the_same_goods_forbid = refl
