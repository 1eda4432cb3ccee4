-- The effects of a history on a subsystem.
use Rattle.std.specs.Prelude.{ℕ, ℤ, pos, ◌+◌, ◌-◌, ◌==◌, List, [], ◌∷◌, map, slice_index_or, if◌then◌else◌}
use Rattle.process_tree.specs.declared.step.Step.{Step}
use Rattle.process_tree.specs.declared.entry.Entry.{Entry}
use Rattle.process_tree.specs.declared.plan.Plan.{Plan}
use Rattle.process_tree.specs.Blocks.{outline}
use Rattle.schedule_model.specs.declared.history.History.{History}
use Rattle.schedule_model.specs.Histories.{acts}
use Rattle.commute_table.specs.declared.op.Op.{Op}
use Rattle.commute_table.specs.declared.op.Verb.{Verb}
use Rattle.commute_table.specs.declared.op.Verb.TheVariants.{Look}
use Rattle.resource_box.specs.declared.call.Call.{Call}
use Rattle.subsystem_store.specs.declared.effect.Effect.{Effect}

-- the steps of process i in text order: processes count from 1
abbrev pub steps_of_process : List Plan → ℕ → List Step
steps_of_process plans i = slice_index_or (map (λ p. (outline p.tree).steps) plans) (i - 1) []

-- the key and the amount of step b of process i
abbrev pub key_of : List Plan → ℕ → ℕ → ℕ
key_of plans i b = slice_index_or (map (λ s. s.key) (steps_of_process plans i)) b 0

abbrev pub amount_of : List Plan → ℕ → ℕ → ℤ
amount_of plans i b = slice_index_or (map (λ s. s.amount) (steps_of_process plans i)) b (pos 0)

-- the verb of an operation, and the subsystem that it is on
abbrev pub verb_of : List Op → ℕ → Verb
verb_of ops op = slice_index_or (map (λ o. o.verb) ops) op Look

abbrev pub subsystem_of : List Op → ℕ → ℕ
subsystem_of ops op = slice_index_or (map (λ o. o.subsystem) ops) op 0

-- what an entry asks of its subsystem
abbrev pub call_of : List Op → List Plan → Entry → Call
call_of ops plans e =
    record { verb = verb_of ops e.op; key = key_of plans e.process e.step; amount = amount_of plans e.process e.step }

-- the effect of an entry before which n others stand
abbrev pub effect_of : List Op → List Plan → ℕ → Entry → Effect
effect_of ops plans n e = record { number = n; process = e.process; step = e.step; undo = e.undo; call = call_of ops plans e }

-- the effects on subsystem q of these entries, before which n others stand
abbrev pub effects_from : List Op → List Plan → ℕ → ℕ → List Entry → List Effect
effects_from ops plans q n [] = []
effects_from ops plans q n (e ∷ es) =
    if subsystem_of ops e.op == q then effect_of ops plans n e ∷ effects_from ops plans q (n + 1) es
    else effects_from ops plans q (n + 1) es

-- the effects of a history on subsystem q, in order; the number of each is how many acts on any subsystem stand before it
abbrev pub effects : List Op → History → ℕ → List Effect
effects ops h q = effects_from ops h.plans q 0 (acts h.events)
