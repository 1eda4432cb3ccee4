use Rattle.std.proofs.Common.{sym, ap, subst, ◌∙◌, unwrap_or, is_some, T}
use Rattle.history_lock.specs.Rule.{IsWhole}
use Rattle.history_lock.proofs.Calls.{closes}
use Rattle.history_lock.proofs.desk.Desk.close.Goals as goal

pub unreachable-requires : goal.unreachable-requires
unreachable-requires g c = let e = closes g.S.Held.stands_for c.args.self.table.shared.key.value _ _ c.args.seat.place.id c.args.seat.place.me c.take-state.result c.close_with-closed.ensures.values.2 c.args.seat.rests c.requires.only c.take-state.ensures.value in subst (λ b. T b) (ap is_some (sym e.1 ∙ c.in-None.is)) tt

pub returns : goal.returns
returns g c = let e = closes g.S.Held.stands_for c.args.self.table.shared.key.value _ _ c.args.seat.place.id c.args.seat.place.me c.take-state.result c.close_with-closed.ensures.values.2 c.args.seat.rests c.requires.only c.take-state.ensures.value in let same = ap (λ m. unwrap_or m e.0) (sym e.1 ∙ c.in-Some.is) in subst (λ y. IsWhole g.S.Held.stands_for c.args.seat.place.me.0.opening c.args.seat.place.me.0.seen c.args.seat.place.me.0.places y) same e.2
