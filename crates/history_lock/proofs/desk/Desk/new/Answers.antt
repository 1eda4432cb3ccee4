use Rattle.std.proofs.Common.{◌^◌, [], sym, subst, Some}
use lib.ListN.{replicate}
use Rattle.atomic_table.specs.Table.{opening}
use Rattle.history_lock.specs.Rule.{DeskInvariant, resting}
use Rattle.history_lock.proofs.Shares.{begins}
use Rattle.history_lock.proofs.desk.Desk.new.Goals as goal

pub new-requires : goal.new-requires
new-requires g c = let S = g.S.Held.stands_for in let o = c.of-opening.result.value in
    subst (λ l. DeskInvariant S o (opening (replicate 20 0) l (resting (Some o) [] [] (2 ^ 62)))) (sym c.in-Ok.ensures.ok) (begins S o (replicate 17 0) c.args.state (subst (λ z. S z [] c.args.state) (sym c.of-opening.ensures) (g.S.Held.opens c.args.state)))
