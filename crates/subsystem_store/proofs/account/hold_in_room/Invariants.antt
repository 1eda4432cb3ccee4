use Rattle.std.proofs.Common.{◌≡◌, ◌⊎◌, ◌≤◌, ◌+◌, ◌++◌, length, true, All}
use Rattle.resource_box.specs.Meaning.{has_key}
use Rattle.subsystem_store.specs.declared.effect.Effect.{Effect}
use Rattle.subsystem_store.specs.Order.{MayFollowEach, most_effects}
use Rattle.subsystem_store.specs.Room.{forwards}
use Rattle.subsystem_store.specs.Opened.{Fits}
use Rattle.subsystem_store.proofs.account.hold_in_room.Given as goal

abbrev pub invariant-effects : goal.invariant-effects
invariant-effects g l = record {
  fits : Fits g.B.Resource l.account;
  kind : l.account.kind ≡ l.fn.account.kind;
  book : l.account.book ≡ l.fn.account.book;
  all : l.account.doubt ++ l.rest ≡ l.fn.account.doubt ++ l.effects;
  few : length (l.account.book ++ l.account.doubt) + length l.rest ≤ most_effects;
  follow : MayFollowEach l.account.kind (l.account.book ++ l.account.doubt) l.rest;
  keys : All (λ (e : Effect). (e.undo ≡ true) ⊎ (has_key (g.B.Resource.meaning l.account.resource).items e.call.key ≡ true)) l.rest;
  many : forwards l.rest ≤ length l.account.ready;
}

abbrev pub decreases-effects : goal.decreases-effects
decreases-effects g l = length l.rest
