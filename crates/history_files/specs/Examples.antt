-- Worked effects: two steps on subsystem 0 and one on subsystem 4, of which the first is undone.
use Rattle.std.specs.Prelude.{◌≡◌, ℕ, pos, Bool, true, false, List, [], ◌∷◌, refl}
use Rattle.process_tree.specs.declared.entry.Entry.{Entry}
use Rattle.commute_table.specs.declared.op.Op.{Op}
use Rattle.commute_table.specs.declared.op.Verb.{Verb}
use Rattle.commute_table.specs.declared.op.Verb.TheVariants.{Add, Put}
use Rattle.subsystem_store.specs.declared.effect.Effect.{Effect}
use Rattle.history_files.specs.Effects.{effects_from}
use Rattle.history_files.specs.Sound.{counted}

-- operation 0 adds on subsystem 0, and operation 1 puts on subsystem 4
abbrev ops : List Op
ops = record { name = []; subsystem = 0; verb = Add } ∷ record { name = []; subsystem = 4; verb = Put } ∷ []

abbrev act : ℕ → ℕ → ℕ → Bool → Entry
act process step op undo = record { process = process; step = step; op = op; key = 0; undo = undo }

abbrev schedule : List Entry
schedule = act 1 0 0 false ∷ act 2 0 1 false ∷ act 1 0 0 true ∷ []

-- of plans that aren't known the keys and amounts are 0
abbrev effect : ℕ → ℕ → Bool → Verb → Effect
effect number process undo verb =
    record { number = number; process = process; step = 0; undo = undo; call = record { verb = verb; key = 0; amount = pos 0 } }

-- the numbers count the acts of all subsystems
on_the_counters : effects_from ops [] 0 0 schedule ≡ effect 0 1 false Add ∷ effect 2 1 true Add ∷ []
on_the_counters = refl

on_the_cells : effects_from ops [] 4 0 schedule ≡ effect 1 2 false Put ∷ []
on_the_cells = refl

-- effects in doubt count where all of them stand among the effects, and only there
in_doubt_and_recorded : counted (effect 0 1 false Add ∷ effect 2 1 true Add ∷ []) (effect 0 1 false Add ∷ [])
    (effect 2 1 true Add ∷ []) ≡ effect 0 1 false Add ∷ effect 2 1 true Add ∷ []
in_doubt_and_recorded = refl

in_doubt_and_not_recorded : counted (effect 0 1 false Add ∷ []) (effect 0 1 false Add ∷ []) (effect 2 1 true Add ∷ [])
    ≡ effect 0 1 false Add ∷ []
in_doubt_and_not_recorded = refl

two_in_doubt_and_recorded : counted (effect 0 1 false Add ∷ effect 2 1 true Add ∷ []) [] (effect 0 1 false Add ∷ effect 2 1 true Add ∷ [])
    ≡ effect 0 1 false Add ∷ effect 2 1 true Add ∷ []
two_in_doubt_and_recorded = refl

one_of_two_recorded : counted (effect 0 1 false Add ∷ []) [] (effect 0 1 false Add ∷ effect 2 1 true Add ∷ []) ≡ []
one_of_two_recorded = refl
