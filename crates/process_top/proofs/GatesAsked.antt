-- The first gate is asked.
use Rattle.std.proofs.Common.{◌≡◌, ◌≤◌, List, [], ◌∷◌, length, slice_set, slice_index_or, sym, ap, arith}
use Rattle.process_engine.specs.declared.gates.Gate.{Ghosts as Gates}
use Rattle.engine_calls.specs.GateAnswers.{asked}
use Rattle.process_top.specs.Worlds.{gates}
use Rattle.process_top.specs.Run.{first_gate, gates_asked}

-- so what is told of it is what it came to
pub first_asked : {G : Type 0} (g : Gates G) (xs : List G) (x y : G) → 1 ≤ length xs → x ≡ slice_index_or xs 0 x → first_gate (gates_asked (gates g xs) (gates g (slice_set xs 0 y))) ≡ asked g x y
first_asked g [] x y some first = absurd (omega arith)
first_asked g (z ∷ xs) x y some first = ap (λ w. asked g w y) (sym first)
