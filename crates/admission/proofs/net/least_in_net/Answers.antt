use Rattle.std.proofs.Common.{take, sym, ap, ◌∙◌}
use Rattle.std.proofs.Math.Seq.{take-length}
use Rattle.process_tree.specs.Conflicts.{do_conflict}
use Rattle.admission.specs.Least.{least_on, lesser_of}
use Rattle.admission.proofs.Clear.{none_on}
use Rattle.admission.proofs.net.least_in_net.Goals as goal

pub returns : goal.returns
returns c =
    let t = c.args.holds.now in
    c.least_between.ensures
    ∙ ap (λ o. lesser_of o c.args.found) (ap (λ n. least_on (do_conflict t.conflicts) c.args.rule c.args.own (take n t.net)) c.net_len.ensures.len ∙ ap (least_on (do_conflict t.conflicts) c.args.rule c.args.own) (take-length t.net))

pub returns-then-is_clear_of_net : goal.returns-then-is_clear_of_net
returns-then-is_clear_of_net c =
    let t = c.args.holds.now in
    sym (ap (λ o. lesser_of o c.args.found) (none_on t.conflicts c.args.own c.args.rule t.net (c.is_clear_of_net.ensures.clear c.if-is_clear_of_net.true)))
