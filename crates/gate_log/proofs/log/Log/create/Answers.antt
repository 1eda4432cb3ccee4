use Rattle.std.proofs.Common.{inr, refl}
use Rattle.process_disk.proofs.Images.{still_told}
use Rattle.gate_log.proofs.Appending.{log_created}
use Rattle.gate_log.proofs.Plain.{plain_created}
use Rattle.gate_log.proofs.log.Log.create.Goals as goal

pub returns-clause-stands : goal.returns-clause-stands
returns-clause-stands g c = λ told.
    let old = g.R.Rack.disk c.args.rack.now in
    let new = g.R.Rack.disk c.write_and_sync.new.rack in
    let told_new = still_told old new c.write_and_sync.ensures.rack.tells told in
    log_created _ 2 c.args.file (inr refl) c.first_bytes.result old new (g.met.R.Rack.honest c.args.rack.now told) (g.met.R.Rack.honest c.write_and_sync.new.rack told_new) c.requires.file c.first_bytes.ensures
    (c.in_ok-write_and_sync.ensures.written told) (c.in_ok-write_and_sync.ensures.durable told) refl refl refl

pub returns-clause-bytes : goal.returns-clause-bytes
returns-clause-bytes g c = λ told.
    let old = g.R.Rack.disk c.args.rack.now in
    let new = g.R.Rack.disk c.write_and_sync.new.rack in
    plain_created 2 c.args.file c.first_bytes.result old new (g.met.R.Rack.honest c.args.rack.now told) c.requires.file (c.requires.empty told) c.first_bytes.ensures (c.in_ok-write_and_sync.ensures.written told)
