use Rattle.std.proofs.Common.{◌≡◌, ◌+◌, ◌∙◌, length, refl, ap, arith}
use Rattle.process_disk.proofs.Images.{still_told}
use Rattle.gate_log.specs.LogFile.{bodies_after}
use Rattle.gate_log.proofs.Logs.{last_of_short}
use Rattle.gate_log.proofs.Appending.{log_opened}
use Rattle.gate_log.proofs.log.Log.open.Goals as goal

pub returns-clause-stands : goal.returns-clause-stands
returns-clause-stands g c = λ told.
    let old = g.R.Rack.disk c.args.rack.now in
    let synced = g.R.Rack.disk c.sync.new.self in
    let new = g.R.Rack.disk c.whole_file.new.rack in
    let told_synced = still_told old synced c.sync.ensures.looks.tells told in
    let told_new = still_told synced new c.whole_file.ensures.rack.tells told_synced in
    let bodies = c.in_ok-read-in-Some.read.bodies.items in
    let file = c.deref.ensures.value ∙ c.in_ok-bytes.ensures.bytes told_synced in
    let read = ap bodies_after c.in-Some.ensures ∙ c.in_ok-read-in-Some.ensures.ok in
    let only = c.in_ok-sync.ensures.durable told in
    let count : c.len.result ≡ length bodies = omega (arith, c.len.ensures) in
    log_opened _ c.args.file c.deref.result.now bodies synced new (g.met.R.Rack.honest c.whole_file.new.rack told_new) file read only (c.whole_file.ensures.all told_synced) refl count
    (ap (λ n. 8 + n) c.in_ok-read-in-Some.ensures.size)

pub invariant_of-log : goal.invariant_of-log
invariant_of-log g c =
    let read = c.in_ok-read-in-Some.ensures in
    let bodies = c.in_ok-read-in-Some.read.bodies.items in (
      c.requires,
      omega (arith, c.len.ensures, read.count),
      omega (arith, c.len.ensures, read.bound),
      omega arith,
      omega (arith, c.len.ensures, read.count, ap length c.in_ok-staged.ensures),
    )

pub returns-clause-log : goal.returns-clause-log
returns-clause-log g c =
    let read = c.in_ok-read-in-Some.ensures in
    let bodies = c.in_ok-read-in-Some.read.bodies.items in
    let count : c.len.result ≡ length bodies = omega (arith, c.len.ensures) in
    record {
      file = refl;
      count = count;
      few = read.count;
      last = last_of_short _ bodies count (ap (λ n. 8 + n) read.size) read.short;
      unstaged = c.in_ok-staged.ensures;
    }
