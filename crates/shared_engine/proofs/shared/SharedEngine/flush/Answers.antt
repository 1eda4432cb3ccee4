use Rattle.std.proofs.Common.{false, refl}
use Rattle.shared_engine.proofs.Leading.{flush_leads, flushed_leads, settled_of}
use Rattle.shared_engine.proofs.shared.SharedEngine.flush.Goals as goal

pub returns-in-Err-clause-leads : goal.returns-in-Err-clause-leads
returns-in-Err-clause-leads g c o es led =
    flushed_leads g.R.Rack g.B.Resource o c.args.self.now es led c.in-Err.ensures.closed.closed c.in-Err.field-0.0 c.in-Err.ensures.closed.kept c.requires.due

pub returns-clause-leads : goal.returns-clause-leads
returns-clause-leads g c o es led =
    let x = c.args.self.now in
    let made = c.flush.ensures in
    flush_leads g.R.Rack g.B.Resource o x (record { engine = c.flush.new.engine; queued = c.flush.new.queued; due = false; starved = x.starved }) es led
    (settled_of x.engine.phase c.requires.called.rest c.in_default.ensures.open) c.invariant_holds.ensures.run (g.met.R.Rack.honest c.flush.new.engine.files.rack) made.goes c.requires.due refl c.flush.result made.flushes made.ready made.queued made.fits made.fault
