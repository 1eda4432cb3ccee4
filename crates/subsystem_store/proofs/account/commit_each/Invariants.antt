use Rattle.std.proofs.Common.{◌≡◌, ◌++◌, length}
use Rattle.subsystem_store.specs.Opened.{Fits}
use Rattle.subsystem_store.proofs.account.commit_each.Given as goal

abbrev pub invariant-loop-account : goal.invariant-loop-account
invariant-loop-account g l = record {
  fits : Fits g.B.Resource l.account;
  kind : l.account.kind ≡ l.fn.account.kind;
  sort : g.B.Resource.sort l.account.resource ≡ g.B.Resource.sort l.fn.account.resource;
  all : l.account.book ++ l.account.doubt ≡ l.fn.account.book ++ l.fn.account.doubt;
  ready : l.account.ready ≡ l.fn.account.ready;
}

abbrev pub decreases-loop-account : goal.decreases-loop-account
decreases-loop-account g l = length l.account.doubt
