use Rattle.std.proofs.Common.{◌∙◌, false, sym}
use Rattle.history_files.proofs.Answered.{OnOk-then}
use Rattle.history_opening.proofs.SettledStores.{below_with, come_with, doubt_is}
use Rattle.history_opening.proofs.settling.take_back.Goals as goal

pub returns-clause-come : goal.returns-clause-come
returns-clause-come g c =
    let ops = c.args.catalog.now.ops in
    let h = c.args.history.now in
    let out = doubt_is ops h c.args.q false c.in_doubt.result.now c.args.files.now.stores (λ s at. sym (c.in_doubt.ensures s at)) (sym c.are_recorded.ensures ∙ c.if-are_recorded.false) in
    OnOk-then (λ changes. come_with ops h c.args.q c.args.files.now.stores c.roll_back.new.self.stores out changes c.requires.come) c.roll_back.result c.roll_back.ensures.ok

pub returns-clause-below : goal.returns-clause-below
returns-clause-below g c =
    OnOk-then (λ changes. below_with c.args.catalog.now.ops c.args.history.now c.args.q c.args.files.now.stores c.roll_back.new.self.stores changes c.requires.below)
    c.roll_back.result c.roll_back.ensures.ok
