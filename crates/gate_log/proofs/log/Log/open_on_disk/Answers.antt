use Rattle.process_disk.proofs.Images.{still_told, others_then, others_of_all, each_then}
use Rattle.gate_log.specs.Staging.{LogsBeforeOrWithAll}
use Rattle.gate_log.proofs.StagedImages.{ok_so, each_still, staged_stands}
use Rattle.gate_log.proofs.log.Log.open_on_disk.Goals as goal

pub returns-clause-stands : goal.returns-clause-stands
returns-clause-stands g c = λ told bodies are.
    let old = g.R.Rack.disk c.args.rack.now in
    let mid = g.R.Rack.disk c.open_gate.new.rack in
    let new = g.R.Rack.disk c.sync.new.rack in
    let told_mid = still_told old mid c.open_gate.ensures.rack.tells told in
    let told_new = still_told mid new c.sync.ensures.rack.tells told_mid in
    let opened = c.in_ok-open_gate.ensures.opened told bodies are in
    ok_so c.sync.result (λ only. staged_stands _ bodies mid new (g.met.R.Rack.honest c.sync.new.rack told_new) (c.sync.ensures.all told_mid) only opened) (c.sync.ensures.durable told_mid)

pub returns-clause-any_moment : goal.returns-clause-any_moment
returns-clause-any_moment g c = λ told bodies are.
    let old = g.R.Rack.disk c.args.rack.now in
    let mid = g.R.Rack.disk c.open_gate.new.rack in
    let new = g.R.Rack.disk c.sync.new.rack in
    let told_mid = still_told old mid c.open_gate.ensures.rack.tells told in
    let P = LogsBeforeOrWithAll c.args.self.now.file bodies c.args.self.now.staged in
    let run = c.sync.ensures.all told_mid in
    let opened = c.in_ok-open_gate.ensures.opened told bodies are in
    each_then mid new old.moment P (c.open_gate.ensures.others told).follow.later run.follow (c.open_gate.ensures.any_moment told bodies are)
    (each_still P mid new (g.met.R.Rack.honest c.open_gate.new.rack told_mid) run opened.each)

pub returns-clause-others : goal.returns-clause-others
returns-clause-others g c = λ told.
    let old = g.R.Rack.disk c.args.rack.now in
    let mid = g.R.Rack.disk c.open_gate.new.rack in
    let new = g.R.Rack.disk c.sync.new.rack in
    let told_mid = still_told old mid c.open_gate.ensures.rack.tells told in
    let told_new = still_told mid new c.sync.ensures.rack.tells told_mid in
    let q = c.args.self.now.file in
    others_then q old mid new (g.met.R.Rack.honest c.open_gate.new.rack told_mid) (g.met.R.Rack.honest c.sync.new.rack told_new)
    (c.open_gate.ensures.others told) (others_of_all q mid new (c.sync.ensures.all told_mid))
