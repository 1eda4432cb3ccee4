-- Own order of the acts of one process, as an opening hands them to it.
use Rattle.std.specs.Prelude.{ℕ, Bool, true, not, ◌&&◌, List, [], ◌∷◌, ◌++◌, drop, filter, nat_lt, if◌then◌else◌}
use Rattle.std.specs.List.{list_all}
use Rattle.process_tree.specs.declared.entry.Entry.{Entry}
use Rattle.process_tree.specs.Shape.{Shape, fixed_len, goes_on_to}
use Rattle.schedule_model.specs.Histories.{net_acts, steps_of}
use Rattle.schedule_model.specs.OwnOrder.{is_of_last}

-- the steps that these acts did, undone ones too
abbrev pub steps_done : List Entry → List ℕ
steps_done acts = steps_of (filter (λ e. not e.undo) acts)

-- step b goes on from the net of these acts, and is greater than each step that they did
abbrev pub goes_further : Shape → List Entry → ℕ → Bool
goes_further t acts b = goes_on_to t (steps_of (net_acts acts)) b && list_all (λ d. nat_lt d b) (steps_done acts)

-- e may come next: a step goes further, and an undo is of the last entry behind the last commit point
abbrev pub may_follow : Shape → List Entry → Entry → Bool
may_follow t acts e =
    if e.undo then is_of_last (drop (fixed_len t (steps_of (net_acts acts))) (net_acts acts)) e else goes_further t acts e.step

-- each of these acts may come after those before it
abbrev pub each_follows : Shape → List Entry → List Entry → Bool
each_follows t before [] = true
each_follows t before (e ∷ acts) = may_follow t before e && each_follows t (before ++ e ∷ []) acts

-- the acts of one process are in own order
abbrev pub are_in_own_order : Shape → List Entry → Bool
are_in_own_order t acts = each_follows t [] acts
