use Rattle.std.proofs.Common.{◌<◌, sym, subst}
use Rattle.process_tree.specs.Recovery.{place_of}
use Rattle.process_tree.specs.Stands.{left_from}
use Rattle.process_tree.proofs.Along.{LeadsOn, leads_first, leads_here, leads_later, leads_up}
use Rattle.process_tree.proofs.ways.is_owed.Goals as goal

pub loop-next-init : goal.loop-next-init
loop-next-init c = record {
  leads = leads_first c.args.paths.now c.args.count c.requires.within c.requires.order c.requires.rising c.args.commit c.args.step c.greatest_behind-next.result c.greatest_behind-next.ensures;
}

pub returns-then-step-owed : goal.returns-then-step-owed
returns-then-step-owed c =
    leads_here c.args.paths.now c.args.count c.requires.within c.requires.order c.requires.rising c.args.commit c.args.step c.in-Some.owed
    (subst (LeadsOn c.args.paths.now c.args.count c.args.commit c.args.step) c.in-Some.is c.loop-next.invariant.leads) c.if-step-owed.true

pub loop-next-smaller : goal.loop-next-smaller
loop-next-smaller c =
    subst (λ o. left_from c.args.count (place_of c.greatest_behind-next-in-Some.result) < left_from c.args.count (place_of o)) (sym c.in-Some.is)
    (leads_up c.args.paths.now c.args.count c.requires.within c.requires.order c.requires.rising c.args.commit c.args.step c.in-Some.owed
    (subst (LeadsOn c.args.paths.now c.args.count c.args.commit c.args.step) c.in-Some.is c.loop-next.invariant.leads)
    c.greatest_behind-next-in-Some.result c.greatest_behind-next-in-Some.ensures)

pub loop-next-preserved : goal.loop-next-preserved
loop-next-preserved c = record {
  leads =
      leads_later c.args.paths.now c.args.count c.requires.within c.requires.order c.requires.rising c.args.commit c.args.step c.in-Some.owed
      (subst (LeadsOn c.args.paths.now c.args.count c.args.commit c.args.step) c.in-Some.is c.loop-next.invariant.leads)
      c.greatest_behind-next-in-Some.result c.greatest_behind-next-in-Some.ensures c.if-step-owed.false;
}
