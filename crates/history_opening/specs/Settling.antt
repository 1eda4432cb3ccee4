-- Stores of which what is in doubt is settled by a history.
use Rattle.std.specs.Prelude.{◌≡◌, ◌<◌, ℕ, true, List}
use Rattle.schedule_model.specs.declared.history.History.{History}
use Rattle.commute_table.specs.declared.op.Op.{Op}
use Rattle.subsystem_store.specs.Opened.{Opened}
use Rattle.history_files.specs.Effects.{effects}
use Rattle.history_files.specs.Sound.{are_among}
use Rattle.history_files.specs.Standing.{AtEach}

-- each effect in doubt in the stores of the subsystems below n stands among the effects of the history
abbrev pub AreDueBelow : {B : Type 0} → ℕ → List Op → History → List (Opened B) → Type 0
AreDueBelow n ops h stores = AtEach (λ q s. q < n → are_among s.doubt (effects ops h q) ≡ true) stores
