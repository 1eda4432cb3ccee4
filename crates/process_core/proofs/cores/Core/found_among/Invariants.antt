use Rattle.std.proofs.Common.{◌≡◌, ◌-◌, ◌≤◌, None}
use Rattle.process_tree.specs.Blocks.{numbers_from}
use Rattle.process_core.specs.Moments.{reply_in}
use Rattle.process_core.specs.Rotation.{first_told, piece_in, waiting_in}
use Rattle.process_core.proofs.cores.Core.found_among.Given as goal

-- no piece is free so far, and this is the first that is blocked
abbrev pub invariant-loop-i : goal.invariant-loop-i
invariant-loop-i l = record {
  piece : first_told (λ i. piece_in (reply_in l.self i)) (numbers_from l.from (l.i - l.from)) ≡ None;
  waiting : l.waiting ≡ first_told (λ i. waiting_in i (reply_in l.self i)) (numbers_from l.from (l.i - l.from));
  low : l.from ≤ l.i;
}
