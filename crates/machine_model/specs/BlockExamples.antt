-- Worked examples, computed: a piece that has to wait, by each rule.
use Rattle.std.specs.Prelude.{◌≡◌, List, [], ◌∷◌, ◌++◌, refl}
use Rattle.process_tree.specs.declared.play.Outcome.TheVariants.{Done}
use Rattle.schedule_model.specs.Samples.{purchase, sale, delivery, addition, withdrawal, prepaid, loose_purchase, loose_sale}
use Rattle.machine_model.specs.declared.blocked.Rule.TheVariants.{A0, A1, A2, A3, A4, A5}
use Rattle.machine_model.specs.declared.kept.Work.TheVariants.{Forward, End}
use Rattle.machine_model.specs.declared.replies.Aborted.TheVariants.{Ok}
use Rattle.machine_model.specs.Calls.{Call, start, admit, finish, abort, started, aborted}
use Rattle.machine_model.specs.Examples.{from_nothing, out, done_at, blocked_on}

-- A0: while something is being added, nothing is taken
pub taken_while_added : (from_nothing (start addition ∷ start withdrawal ∷ admit 1 ∷ admit 2 ∷ [])).replies ≡
    started 1 ∷ started 2 ∷ out 1 1 Forward 0 ∷ blocked_on 1 0 0 A0 ∷ []
taken_while_added = refl

-- A1: while a prepaid taking is being paid, the taking that it will owe is reserved, and nothing is added
pub added_before_owed : (from_nothing (start prepaid ∷ start addition ∷ admit 1 ∷ admit 2 ∷ [])).replies ≡
    started 1 ∷ started 2 ∷ out 1 1 Forward 0 ∷ blocked_on 1 1 0 A1 ∷ []
added_before_owed = refl

-- A2: the purchase would build on the sale, which builds on the purchase by the step that is under way
pub circle : (from_nothing
    (start loose_purchase ∷ start loose_sale ∷ admit 1 ∷ finish 1 Done ∷ admit 2 ∷ finish 2 Done ∷ admit 2 ∷ admit 1
    ∷ [])).replies ≡
    started 1 ∷ started 2 ∷ out 1 1 Forward 0 ∷ done_at 3 ∷ out 2 2 Forward 0 ∷ done_at 4 ∷ out 3 2 Forward 1 ∷ blocked_on 2 0 1 A2
    ∷ []
circle = refl

-- a purchase adds, a sale takes, and then the sale would be paid
abbrev pub shop_calls : List Call
shop_calls = start purchase ∷ start sale ∷ admit 1 ∷ finish 1 Done ∷ admit 2 ∷ finish 2 Done ∷ admit 2 ∷ []

-- A3: the sale is paid for good, and took what the purchase may still take back
pub paid_too_early : (from_nothing shop_calls).replies ≡
    started 1 ∷ started 2 ∷ out 1 1 Forward 0 ∷ done_at 3 ∷ out 2 2 Forward 0 ∷ done_at 4 ∷ blocked_on 1 0 0 A3 ∷ []
paid_too_early = refl

-- once the purchase has ended, the sale is paid
pub paid_in_time : (from_nothing (shop_calls ++ admit 1 ∷ finish 3 Done ∷ admit 1 ∷ finish 4 Done ∷ admit 2 ∷ [])).replies ≡
    (from_nothing shop_calls).replies ++ out 3 1 Forward 1 ∷ done_at 5 ∷ out 4 1 End 0 ∷ done_at 6 ∷ out 5 2 Forward 1 ∷ []
paid_in_time = refl

-- A4: a prepaid taking isn't paid while what was added may still be taken back, since it would owe a taking
pub owed_after_added : (from_nothing (start prepaid ∷ start addition ∷ admit 2 ∷ finish 1 Done ∷ admit 1 ∷ [])).replies ≡
    started 1 ∷ started 2 ∷ out 1 2 Forward 0 ∷ done_at 3 ∷ blocked_on 2 0 1 A4 ∷ []
owed_after_added = refl

-- A5: what the sale builds on isn't undone before the sale is
pub undone_too_early : (from_nothing (shop_calls ++ abort 1 ∷ admit 1 ∷ [])).replies ≡
    (from_nothing shop_calls).replies ++ aborted Ok ∷ blocked_on 2 0 0 A5 ∷ []
undone_too_early = refl

-- two processes that don't conflict go on side by side, each at its own pace
pub side_by_side : (from_nothing
    (start purchase ∷ start delivery ∷ admit 1 ∷ finish 1 Done ∷ admit 2 ∷ finish 2 Done ∷ admit 2 ∷ finish 3 Done
    ∷ admit 1 ∷ finish 4 Done ∷ admit 2 ∷ finish 5 Done ∷ admit 1 ∷ finish 6 Done ∷ [])).replies ≡
    started 1 ∷ started 2 ∷ out 1 1 Forward 0 ∷ done_at 3 ∷ out 2 2 Forward 0 ∷ done_at 4 ∷ out 3 2 Forward 1 ∷ done_at 5
    ∷ out 4 1 Forward 1 ∷ done_at 6 ∷ out 5 2 End 0 ∷ done_at 7 ∷ out 6 1 End 0 ∷ done_at 8 ∷ []
side_by_side = refl
