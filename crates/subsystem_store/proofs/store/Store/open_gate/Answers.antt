use Rattle.std.proofs.Common.{◌++◌, ◌∷◌, [], sym, subst}
use Rattle.process_disk.specs.Images.{EachImage}
use Rattle.gate_log.specs.Staging.{LogsBeforeOrWithAll}
use Rattle.subsystem_store.specs.Bodies.{prepared_bodies, committed_bytes, last_number}
use Rattle.subsystem_store.specs.Staged.{IsOnDisk}
use Rattle.subsystem_store.proofs.StoreFiles.{bodies_prepared, bodies_committed, images_of_two}
use Rattle.subsystem_store.proofs.store.Store.open_gate.Goals as goal

pub returns-clause-prepared : goal.returns-clause-prepared
returns-clause-prepared g c = rw (← c.self.view_is) (λ told effects staged.
    let old = g.R.Rack.disk c.args.rack.now in
    let new = g.R.Rack.disk c.open_gate.new.rack in
    let file = c.self.inside.log.file in
    let book = c.self.inside.account.book in
    let doubt = c.self.inside.account.doubt in
    let there = subst (λ s. IsOnDisk s old) (sym c.self.view_is) (c.requires.on_disk told) in
    let images = subst (λ more. EachImage new old.moment (LogsBeforeOrWithAll file there.bodies more)) staged (c.open_gate.ensures.any_moment told there.bodies there.so) in
    images_of_two file (book, doubt) (book, doubt ++ effects) there.bodies (prepared_bodies effects) new old.moment there.of (bodies_prepared book doubt effects there.bodies there.of) images)

pub returns-clause-committed : goal.returns-clause-committed
returns-clause-committed g c = rw (← c.self.view_is) (λ told some staged.
    let old = g.R.Rack.disk c.args.rack.now in
    let new = g.R.Rack.disk c.open_gate.new.rack in
    let file = c.self.inside.log.file in
    let book = c.self.inside.account.book in
    let doubt = c.self.inside.account.doubt in
    let there = subst (λ s. IsOnDisk s old) (sym c.self.view_is) (c.requires.on_disk told) in
    let images = subst (λ more. EachImage new old.moment (LogsBeforeOrWithAll file there.bodies more)) staged (c.open_gate.ensures.any_moment told there.bodies there.so) in
    images_of_two file (book, doubt) (book ++ doubt, []) there.bodies (committed_bytes (last_number doubt) ∷ []) new old.moment there.of (bodies_committed book doubt there.bodies some there.of) images)
