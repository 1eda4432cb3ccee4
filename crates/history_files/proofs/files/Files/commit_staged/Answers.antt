use Rattle.std.proofs.Common.{◌∙◌, ap, subst, sym, OnOk, rules, OnErr}
use Rattle.process_disk.specs.Disk.{Told}
use Rattle.process_disk.specs.Images.{EachImage, ImagesFollow}
use Rattle.schedule_model.specs.declared.history.History.{History}
use Rattle.commute_table.specs.declared.catalog.Catalog.{Catalog}
use Rattle.store_group.specs.Events.{BecomeEach, IsCommitted, IsUnchanged}
use Rattle.history_files.specs.Groups.{HasEachDoubt}
use Rattle.history_files.specs.Sound.{IsSound}
use Rattle.history_files.specs.Standing.{AreGoodBooks, EachFits, Stand}
use Rattle.history_files.proofs.Answered.{OnOk-both, either_answer}
use Rattle.history_files.proofs.EndedDoubts.{ended_is_good}
use Rattle.history_files.proofs.NoDoubt.{none_committed}
use Rattle.history_files.proofs.Groups.{after_commit, as_committed, committed_keep, good_unchanged, good_with_commits, images_of_group, may_be_committed, stands_with_group, stores_became, unchanged_keep}
use Rattle.history_files.proofs.files.Files.commit_staged.Goals as goal

pub commit_each-requires-clause-order : goal.commit_each-requires-clause-order
commit_each-requires-clause-order g c = c.self.invariant.0.file

pub commit_each-requires-clause-fits : goal.commit_each-requires-clause-fits
commit_each-requires-clause-fits g c =
    let box = g.B.Resource in
    subst (λ f. EachFits box f.stores) (sym c.self.view_is) c.requires.fits

pub commit_each-requires-clause-stand : goal.commit_each-requires-clause-stand
commit_each-requires-clause-stand g c = λ told.
    let stand = subst (λ f. Told (g.R.Rack.disk f.rack) → (c' : Catalog) × (h : History) × Stand c' h f.journal f.stores (g.R.Rack.disk f.rack)) (sym c.self.view_is) c.requires.stand told in
    stand.2.stores

pub invariant_of-self : goal.invariant_of-self
invariant_of-self g c =
    let old = c.self.inside.stores.items in
    let new = c.commit_each.new.stores.items in
    let keep = either_answer (committed_keep old new) (unchanged_keep old new) c.commit_each.result c.commit_each.ensures.ok c.commit_each.ensures.err in (
      stores_became old new c.self.invariant.0 keep,
      c.self.invariant.1,
      c.self.invariant.2,
      c.self.invariant.3,
    )

pub returns-clause-acknowledged : goal.returns-clause-acknowledged
returns-clause-acknowledged g c =
    let law = ended_is_good c.calls_make_good_books.ensures.commit c.calls_make_good_books.ensures.roll_back in
    let old = c.self.inside.stores.items in
    let new = c.commit_each.new.stores.items in
    let start = g.R.Rack.disk c.self.inside.rack in
    let now = g.R.Rack.disk c.commit_each.new.rack in
    let did = c.commit_each.ensures in
    let are = c.self.invariant.0 in
    subst (λ f. Told (g.R.Rack.disk f.rack) → (c' : Catalog) (h : History) → Stand c' h f.journal f.stores (g.R.Rack.disk f.rack) → HasEachDoubt c'.ops h f.stores → OnOk c.commit_each.result (Stand c' h c.self.inside.journal new now))
    c.self.view_is
    (λ told c' h stand has.
    OnOk-both (λ became stands. stands_with_group c' h c.self.inside.journal old new start now after_commit (g.met.R.Rack.honest c.self.inside.rack told) (g.met.R.Rack.honest c.commit_each.new.rack (did.rack.tells ∙ told))
    are c.self.invariant.1 stand (did.others told) (may_be_committed law c' h c.self.inside.journal old start are stand has) (as_committed old new became) stands)
    c.commit_each.result did.ok (did.acknowledged told))

pub returns-clause-any_moment : goal.returns-clause-any_moment
returns-clause-any_moment g c =
    let law = ended_is_good c.calls_make_good_books.ensures.commit c.calls_make_good_books.ensures.roll_back in
    let old = c.self.inside.stores.items in
    let start = g.R.Rack.disk c.self.inside.rack in
    let now = g.R.Rack.disk c.commit_each.new.rack in
    let did = c.commit_each.ensures in
    let are = c.self.invariant.0 in
    subst (λ f. Told (g.R.Rack.disk f.rack) → (c' : Catalog) (h : History) → Stand c' h f.journal f.stores (g.R.Rack.disk f.rack) → HasEachDoubt c'.ops h f.stores → EachImage now (g.R.Rack.disk f.rack).moment (IsSound c' h))
    c.self.view_is
    (λ told c' h stand has.
    images_of_group c' h c.self.inside.journal old start now after_commit (g.met.R.Rack.honest c.self.inside.rack told) are c.self.invariant.1 stand (did.others told)
    (may_be_committed law c' h c.self.inside.journal old start are stand has) (did.any_moment told))

pub returns-clause-rack : goal.returns-clause-rack
returns-clause-rack g c = record {
  follow =
      subst (λ f. Told (g.R.Rack.disk f.rack) → ImagesFollow (g.R.Rack.disk f.rack) (g.R.Rack.disk c.commit_each.new.rack)) c.self.view_is (λ told. (c.commit_each.ensures.others told).follow);
  tells = search rules;
  later = search rules;
  fault = search rules;
}

pub returns-clause-good : goal.returns-clause-good
returns-clause-good g c =
    let old = c.self.inside.stores.items in
    let new = c.commit_each.new.stores.items in
    subst (λ f. AreGoodBooks f.stores → AreGoodBooks new) c.self.view_is (λ good.
    either_answer (λ became. good_with_commits c.calls_make_good_books.ensures.commit old new became good) (λ same. good_unchanged old new same good) c.commit_each.result c.commit_each.ensures.ok c.commit_each.ensures.err)

pub returns-clause-ok : goal.returns-clause-ok
returns-clause-ok g c =
    subst (λ ss. OnOk c.commit_each.result (BecomeEach (λ q s t. IsCommitted s t) ss c.commit_each.new.stores.items)) (ap (λ f. f.stores) c.self.view_is) c.commit_each.ensures.ok

pub returns-clause-err : goal.returns-clause-err
returns-clause-err g c =
    subst (λ ss. OnErr c.commit_each.result (BecomeEach (λ q s t. IsUnchanged s t) ss c.commit_each.new.stores.items)) (ap (λ f. f.stores) c.self.view_is) c.commit_each.ensures.err

pub returns-then-not-has_doubt-clause-ok : goal.returns-then-not-has_doubt-clause-ok
returns-then-not-has_doubt-clause-ok g c = none_committed c.args.self.now.stores (c.has_doubt.ensures.settled c.if-not-has_doubt.true)
