-- What commands ask for where a call may not wait.
use Rattle.std.proofs.Common.{◌≡◌, Option, Some, None, ℕ, ap, refl, subst, sym, unwrap_or}
use Rattle.program_words.specs.declared.reading.Command.{Command}
use Rattle.program_words.specs.declared.reading.Command.TheVariants.{Check, Expand, Init, Run, Session, Serve, Restart, Show, Replay, Verify, Audit, Gen, Bulk, Help, Version}
use Rattle.process_top.specs.Worlds.{GatesState}
use Rattle.process_top.specs.Commands.{AreOthersAsBefore, at_once, needs}

-- the first gate alone is asked
one_at_once : (o : Option Command) → (needs (at_once o)).gates ≡ 1
one_at_once None = refl
one_at_once (Some Check) = refl
one_at_once (Some Expand) = refl
one_at_once (Some (Init values strict)) = refl
one_at_once (Some (Run workers)) = refl
one_at_once (Some Session) = refl
one_at_once (Some Serve) = refl
one_at_once (Some Restart) = refl
one_at_once (Some Show) = refl
one_at_once (Some Replay) = refl
one_at_once (Some Verify) = refl
one_at_once (Some (Audit history)) = refl
one_at_once (Some (Gen number count)) = refl
one_at_once (Some (Bulk number count)) = refl
one_at_once (Some (Help about)) = refl
one_at_once (Some Version) = refl

pub others_at_once : (o : Option Command) (before after : GatesState) → AreOthersAsBefore 1 before after → AreOthersAsBefore (needs (at_once o)).gates before after
others_at_once o before after others = subst (λ n. AreOthersAsBefore n before after) (sym (one_at_once o)) others

-- a command with workers is `run`,
pub run_is : (c : Command) (workers : ℕ) → (needs (Some c)).workers ≡ Some workers → c ≡ Run workers
run_is Check workers is = absurd cc
run_is Expand workers is = absurd cc
run_is (Init values strict) workers is = absurd cc
run_is (Run n) workers is = ap (λ o. Run (unwrap_or o 0)) is
run_is Session workers is = absurd cc
run_is Serve workers is = absurd cc
run_is Restart workers is = absurd cc
run_is Show workers is = absurd cc
run_is Replay workers is = absurd cc
run_is Verify workers is = absurd cc
run_is (Audit history) workers is = absurd cc
run_is (Gen number count) workers is = absurd cc
run_is (Bulk number count) workers is = absurd cc
run_is (Help about) workers is = absurd cc
run_is Version workers is = absurd cc

-- and each other is asked for at once
pub at_once_is : (c : Command) → (needs (Some c)).workers ≡ None → at_once (Some c) ≡ Some c
at_once_is Check is = refl
at_once_is Expand is = refl
at_once_is (Init values strict) is = refl
at_once_is (Run workers) is = absurd cc
at_once_is Session is = refl
at_once_is Serve is = refl
at_once_is Restart is = refl
at_once_is Show is = refl
at_once_is Replay is = refl
at_once_is Verify is = refl
at_once_is (Audit history) is = refl
at_once_is (Gen number count) is = refl
at_once_is (Bulk number count) is = refl
at_once_is (Help about) is = refl
at_once_is Version is = refl
