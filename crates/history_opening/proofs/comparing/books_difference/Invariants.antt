use Rattle.std.proofs.Common.{◌≡◌, ◌+◌, length}
use Rattle.history_files.specs.Standing.{AreGoodBooks}
use Rattle.history_opening.specs.Comparing.{books_difference}
use Rattle.history_opening.proofs.comparing.books_difference.Given as goal

abbrev pub invariant-loop-store : goal.invariant-loop-store
invariant-loop-store g l = record {
  same : books_difference l.fn.ops l.fn.history l.q l.rest ≡ books_difference l.fn.ops l.fn.history 0 l.fn.stores;
  at : l.q + length l.rest ≡ 8;
  good : AreGoodBooks l.rest;
}

abbrev pub decreases-loop-store : goal.decreases-loop-store
decreases-loop-store g l = length l.rest
