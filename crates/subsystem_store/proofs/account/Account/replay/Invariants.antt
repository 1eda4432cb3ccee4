use Rattle.std.proofs.Common.{◌≡◌, ◌+◌, ◌++◌, ℕ, List, length}
use Rattle.subsystem_store.specs.Bodies.{AreBodiesOf}
use Rattle.subsystem_store.specs.Order.{read_bodies, no_book}
use Rattle.subsystem_store.specs.Opened.{Fits, book_of}
use Rattle.subsystem_store.proofs.account.Account.replay.Given as goal

abbrev pub invariant-bodies : goal.invariant-bodies
invariant-bodies g l = record {
  fits : Fits g.B.Resource l.account;
  kind : l.account.kind ≡ l.fn.self.kind;
  sort : g.B.Resource.sort l.account.resource ≡ g.B.Resource.sort l.fn.self.resource;
  read : read_bodies l.fn.self.kind l.number l.rest (book_of l.account) ≡ read_bodies l.fn.self.kind 1 l.bodies no_book;
  taken : List (List ℕ);
  of : AreBodiesOf l.account.book l.account.doubt taken;
  all : taken ++ l.rest ≡ l.bodies;
  number : l.number + length l.rest ≡ 1 + length l.bodies;
}

abbrev pub decreases-bodies : goal.decreases-bodies
decreases-bodies g l = length l.rest
