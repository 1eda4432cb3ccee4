use Rattle.std.proofs.Common.{List, ℕ, subst, sym}
use Rattle.std.specs.List.{Contains}
use Rattle.serial_values.proofs.telling.told_values.Goals as goal

pub put_values-requires-clause-keys : goal.put_values-requires-clause-keys
put_values-requires-clause-keys c k is = subst (λ (ks : List ℕ). Contains ks k) (sym c.deref.ensures.value) (c.in_ok-keys.ensures.all k is)
