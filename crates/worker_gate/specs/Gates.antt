-- What gates are seen as, and what the plain gate answers.
use Rattle.std.specs.Prelude.{ℕ, List, nat_lt, if◌then◌else◌}
use Rattle.machine_model.specs.Replies.{Handed}
use Rattle.process_engine.specs.declared.gates.Answer.{Answer}
use Rattle.process_engine.specs.declared.gates.Answer.TheVariants.{Done, Refused}

-- the plain gate: how many pieces it was asked to work on and how many it has refused, or the last number of a counter
pub record PlainState : Type 0 where
  pub calls : ℕ
  pub refusals : ℕ

-- a gate by a script: the calls that it refuses, how many were made, and how many pieces it has refused
pub record ScriptState : Type 0 where
  pub refuse : List ℕ
  pub calls : ℕ
  pub refusals : ℕ

-- the plain gate refuses a piece exactly where it was refused fewer times than its step says
abbrev pub plain_answer : Handed → Answer
plain_answer p = if nat_lt p.tried p.refuse then Refused else Done
