-- Worked examples, computed.
use Rattle.std.specs.Prelude.{◌≡◌, true, false, [], ◌∷◌, refl}
use Rattle.process_tree.specs.declared.step.StepKind.TheVariants.{C, P, R, Cr}
use Rattle.process_tree.specs.declared.play.Outcome.TheVariants.{Done, Refused}
use Rattle.process_tree.specs.declared.play.Played.TheVariants.{Path, Nothing, Stuck, Unfinished}
use Rattle.process_tree.specs.Shape.{Shape, commits, fixed_len}
use Rattle.process_tree.specs.Play.{play}
use Rattle.process_tree.specs.Termination.{is_later_way, tried_before, ways_before, outcomes_to}
use Rattle.process_tree.specs.Recovery.{backward, forward}

-- a pivot, and a compensatable step behind it
abbrev pub late_step : Shape
late_step = record { kinds = P ∷ C ∷ []; paths = (0 ∷ 1 ∷ []) ∷ [] }

-- refused, the late step leaves the process stuck
pub late_step_is_stuck : play late_step (outcomes_to late_step 1) ≡ Stuck 1
late_step_is_stuck = refl

pub late_step_outcomes : outcomes_to late_step 1 ≡ Done ∷ Refused ∷ []
late_step_outcomes = refl

pub late_step_goes_well : play late_step (Done ∷ Done ∷ []) ≡ Path (0 ∷ 1 ∷ [])
late_step_goes_well = refl

-- a pivot x, and then y and z, or m, or t, of which t alone is retriable
abbrev pub three_ways : Shape
three_ways = record { kinds = P ∷ C ∷ C ∷ C ∷ R ∷ []; paths = (0 ∷ 1 ∷ 2 ∷ []) ∷ (0 ∷ 3 ∷ []) ∷ (0 ∷ 4 ∷ []) ∷ [] }

-- z refused: y is undone, and m is next; then t, which can't be refused
pub second_way : play three_ways (Done ∷ Done ∷ Refused ∷ Done ∷ []) ≡ Path (0 ∷ 3 ∷ [])
second_way = refl

pub last_way : play three_ways (Done ∷ Refused ∷ Refused ∷ []) ≡ Path (0 ∷ 4 ∷ [])
last_way = refl

pub nothing_done : play three_ways (Refused ∷ []) ≡ Nothing
nothing_done = refl

pub not_over : play three_ways (Done ∷ Done ∷ []) ≡ Unfinished
not_over = refl

-- cut off after y: y is to be undone, and t is owed
pub three_ways_backward : backward three_ways (0 ∷ 1 ∷ []) ≡ 1 ∷ []
three_ways_backward = refl

pub three_ways_forward : forward three_ways (0 ∷ 1 ∷ []) ≡ 4 ∷ []
three_ways_forward = refl

-- a pivot, and then the retriable y or z: z can't be reached
abbrev pub no_need : Shape
no_need = record { kinds = P ∷ R ∷ R ∷ []; paths = (0 ∷ 1 ∷ []) ∷ (0 ∷ 2 ∷ []) ∷ [] }

pub no_need_later : is_later_way no_need 2 ≡ true
no_need_later = refl

-- whatever becomes of its first step, play doesn't come to the third
pub no_need_done : play no_need (Done ∷ []) ≡ Path (0 ∷ 1 ∷ [])
no_need_done = refl

pub no_need_refused : play no_need (Refused ∷ []) ≡ Nothing
no_need_refused = refl

-- an order: reserve, payment, and then pick and ship and tell, or post and tell
abbrev pub order : Shape
order = record { kinds = C ∷ P ∷ C ∷ P ∷ R ∷ R ∷ R ∷ []; paths = (0 ∷ 1 ∷ 2 ∷ 3 ∷ 4 ∷ []) ∷ (0 ∷ 1 ∷ 5 ∷ 6 ∷ []) ∷ [] }

pub order_shipped : play order (Done ∷ Done ∷ Done ∷ Done ∷ []) ≡ Path (0 ∷ 1 ∷ 2 ∷ 3 ∷ 4 ∷ [])
order_shipped = refl

pub order_posted : play order (Done ∷ Done ∷ Done ∷ Refused ∷ []) ≡ Path (0 ∷ 1 ∷ 5 ∷ 6 ∷ [])
order_posted = refl

pub order_not_paid : play order (Done ∷ Refused ∷ []) ≡ Nothing
order_not_paid = refl

pub order_not_over : play order (Done ∷ Done ∷ []) ≡ Unfinished
order_not_over = refl

pub order_ways : ways_before order 5 ≡ 2 ∷ []
order_ways = refl

-- a pivot pay, and then ship and load, or mail; ship can be tried until it is done, and can be undone
abbrev pub shipped_or_mailed : Shape
shipped_or_mailed = record { kinds = P ∷ Cr ∷ C ∷ R ∷ []; paths = (0 ∷ 1 ∷ 2 ∷ []) ∷ (0 ∷ 3 ∷ []) ∷ [] }

-- ship is not on the last way behind the pivot, so it is no commit point, and is to be undone
pub ship_stays : commits shipped_or_mailed 1 ≡ false
ship_stays = refl

pub ship_is_undone : backward shipped_or_mailed (0 ∷ 1 ∷ []) ≡ 1 ∷ []
ship_is_undone = refl

pub mail_is_owed : forward shipped_or_mailed (0 ∷ 1 ∷ []) ≡ 3 ∷ []
mail_is_owed = refl

-- load refused: ship is undone, and mail is done at once
pub mailed : play shipped_or_mailed (Done ∷ Refused ∷ []) ≡ Path (0 ∷ 3 ∷ [])
mailed = refl

-- ship uses no outcome, so one refusal passes over its way
pub ship_is_passed : tried_before shipped_or_mailed 3 ≡ 2 ∷ []
ship_is_passed = refl

-- two such steps around a pivot: the one behind it is on the last way, so it is a commit point
abbrev pub around_a_pivot : Shape
around_a_pivot = record { kinds = Cr ∷ P ∷ Cr ∷ []; paths = (0 ∷ 1 ∷ 2 ∷ []) ∷ [] }

pub first_stays : commits around_a_pivot 0 ≡ false
first_stays = refl

pub last_commits : commits around_a_pivot 2 ≡ true
last_commits = refl

pub all_is_fixed : fixed_len around_a_pivot (0 ∷ 1 ∷ 2 ∷ []) ≡ 3
all_is_fixed = refl

-- a pivot, and then ship, or mail and tell, of which tell alone can be refused: it has no way on then
abbrev pub late_tell : Shape
late_tell = record { kinds = P ∷ Cr ∷ C ∷ Cr ∷ C ∷ []; paths = (0 ∷ 1 ∷ 2 ∷ []) ∷ (0 ∷ 3 ∷ 4 ∷ []) ∷ [] }

pub late_tell_outcomes : outcomes_to late_tell 4 ≡ Done ∷ Refused ∷ Refused ∷ []
late_tell_outcomes = refl

pub late_tell_is_stuck : play late_tell (outcomes_to late_tell 4) ≡ Stuck 4
late_tell_is_stuck = refl
