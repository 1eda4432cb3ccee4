use Rattle.std.proofs.Common.{subst, sym}
use Rattle.process_disk.proofs.Images.{still_told}
use Rattle.history_files.specs.Standing.{EachFits}
use Rattle.engine_steps.specs.Beginning.{IsDueToStart}
use Rattle.engine_calls.proofs.Ends.{refused_start_goes, start_goes}
use Rattle.engine_calls.proofs.calls.start.Goals as goal

pub returns-in-Ok-clause-goes : goal.returns-in-Ok-clause-goes
returns-in-Ok-clause-goes g c may_start one =
    let old = c.args.engine.now in
    let new = c.start.new.self in
    let after = c.invariant_holds-in-Ok.ensures in
    start_goes g.R.Rack may_start old new c.invariant_holds.ensures.run (c.invariant_holds.ensures.each c.requires.ready.settled) c.start.ensures.rack.tells c.start.ensures.rack.later c.start.ensures.rack.follow
    c.args.plan c.in-Ok.i after.run c.in-Ok.ensures.started.reply c.in-Ok.ensures.started.core c.start.ensures.catalog (c.start.ensures.any_moment c.requires.ready.settled)
    (λ told. after.each c.in-Ok.ensures.started.phase (still_told (g.R.Rack.disk old.files.rack) (g.R.Rack.disk new.files.rack) c.start.ensures.rack.tells told))

pub returns-in-Ok-clause-ready : goal.returns-in-Ok-clause-ready
returns-in-Ok-clause-ready g c = record {
  settled = c.in-Ok.ensures.started.phase;
  fits = subst (EachFits g.B.Resource) (sym c.start.ensures.stores) c.requires.ready.fits;
}

pub returns-in-Err-clause-goes : goal.returns-in-Err-clause-goes
returns-in-Err-clause-goes g c may_start one =
    let old = c.args.engine.now in
    refused_start_goes g.R.Rack may_start old c.start.new.self c.invariant_holds.ensures.run (c.invariant_holds.ensures.each c.requires.ready.settled) c.start.ensures.rack.tells c.start.ensures.rack.later c.start.ensures.rack.follow
    c.args.plan c.in-Err.refused.why one (λ fault. (subst (IsDueToStart old c.args.plan) fault c.in-Err.ensures.refused.why).1) c.in-Err.ensures.refused.left c.in-Err.ensures.refused.closed c.start.ensures.catalog
    (c.start.ensures.any_moment c.requires.ready.settled)

pub returns-in-Ok-clause-fits : goal.returns-in-Ok-clause-fits
returns-in-Ok-clause-fits g c = subst (EachFits g.B.Resource) (sym c.in-Ok.ensures.stores) c.requires.ready.fits

pub returns-in-Err-clause-fits : goal.returns-in-Err-clause-fits
returns-in-Err-clause-fits g c = subst (EachFits g.B.Resource) (sym c.in-Err.ensures.stores) c.requires.ready.fits
