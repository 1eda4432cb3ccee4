use Rattle.gate_log.proofs.StagedImages.{ok_so}
use Rattle.subsystem_store.specs.Staged.{IsWritten}
use Rattle.store_group.proofs.disk.write_one.Goals as goal

pub returns-then-has_staged-clause-written : goal.returns-then-has_staged-clause-written
returns-then-has_staged-clause-written g c = λ told.
    let s = c.args.store.now in
    let disk = g.R.Rack.disk c.write_staged.new.rack in
    ok_so c.write_staged.result
    (λ (is : IsWritten s disk). record {
      stands = record { bodies = is.bodies; of = is.of; so = is.so.stands };
      written = λ some. is;
    })
    (c.write_staged.ensures.written told)
