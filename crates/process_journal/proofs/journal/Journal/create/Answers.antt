use Rattle.std.proofs.Common.{◌≡◌, ◌∙◌, ◌∷◌, [], ap, sym, subst}
use Rattle.process_disk.specs.Disk.{file_of}
use Rattle.process_disk.specs.Images.{OthersAsBefore}
use Rattle.process_disk.proofs.Images.{others_then, still_told}
use Rattle.gate_log.specs.LogFile.{plain_log}
use Rattle.journal_records.specs.Bytes.{bytes_of}
use Rattle.process_journal.proofs.journal.Journal.create.Goals as goal

pub returns-in_err-add-clause-others : goal.returns-in_err-add-clause-others
returns-in_err-add-clause-others g c = λ told.
    let old = g.R.Rack.disk c.args.rack.now in
    let mid = g.R.Rack.disk c.create.new.rack in
    let new = g.R.Rack.disk c.add.new.rack in
    let told_mid = still_told old mid c.in_ok-log.ensures.rack.tells told in
    let told_new = still_told mid new c.add.ensures.rack.tells told_mid in
    others_then 0 old mid new (g.met.R.Rack.honest c.create.new.rack told_mid) (g.met.R.Rack.honest c.add.new.rack told_new) (c.in_ok-log.ensures.others told)
    (subst (λ q. OthersAsBefore q mid new) c.add.ensures.file (c.add.ensures.others told_mid))

pub returns-clause-others : goal.returns-clause-others
returns-clause-others g c = λ told.
    let old = g.R.Rack.disk c.args.rack.now in
    let mid = g.R.Rack.disk c.create.new.rack in
    let new = g.R.Rack.disk c.add.new.rack in
    let told_mid = still_told old mid c.in_ok-log.ensures.rack.tells told in
    let told_new = still_told mid new c.add.ensures.rack.tells told_mid in
    others_then 0 old mid new (g.met.R.Rack.honest c.create.new.rack told_mid) (g.met.R.Rack.honest c.add.new.rack told_new) (c.in_ok-log.ensures.others told)
    (subst (λ q. OthersAsBefore q mid new) c.add.ensures.file (c.add.ensures.others told_mid))

pub returns-clause-bytes : goal.returns-clause-bytes
returns-clause-bytes g c = λ told.
    let old = g.R.Rack.disk c.args.rack.now in
    let mid = g.R.Rack.disk c.create.new.rack in
    let new = g.R.Rack.disk c.add.new.rack in
    let told_mid = still_told old mid c.in_ok-log.ensures.rack.tells told in
    let zero = c.add.ensures.file in
    let before = subst (λ k. file_of mid.files k ≡ plain_log 2 k []) (sym zero) (c.in_ok-log.ensures.bytes told) in
    let after = c.in_ok-add.ensures.bytes told_mid 2 [] (c.in_ok-log.ensures.stands told) before in
    subst (λ k. file_of new.files k ≡ plain_log 2 k (bytes_of c.in_ok-setup.setup ∷ [])) zero after ∙ ap (λ r. plain_log 2 0 (bytes_of r ∷ [])) c.in_ok-setup.ensures.setup
