use Rattle.std.proofs.Common.{◌≡◌, ◌≢◌, [], Some, false, sym, ◌∙◌, ap, subst, OnOk}
use Rattle.std.specs.Prelude.{slice_set}
use Rattle.std.specs.List.{slice_get}
use Rattle.process_disk.specs.Disk.{Told}
use Rattle.process_disk.specs.Images.{EachImage}
use Rattle.schedule_model.specs.declared.history.History.{History}
use Rattle.commute_table.specs.declared.catalog.Catalog.{Catalog}
use Rattle.history_files.specs.Sound.{IsSound}
use Rattle.history_files.specs.Standing.{AreGoodBooks, Stand, EachFits, DoubtIs, RollsBack}
use Rattle.history_files.proofs.CalledStore.{asked_of_it, it_fits, it_stands}
use Rattle.history_files.proofs.EndedDoubts.{ended_is_good, images_of_roll_back, stands_with_roll_back}
use Rattle.history_files.proofs.Places.{at_place}
use Rattle.history_files.proofs.OneStore.{changed, fits_with, stores_with}
use Rattle.history_files.proofs.Answered.{OnOk-then, OnOk-both}
use Rattle.history_files.proofs.GoodBooks.{good_with, good_rolled_back}
use Rattle.history_files.proofs.files.Files.roll_back.Given as given
use Rattle.history_files.proofs.files.Files.roll_back.Goals as goal
use Rattle.history_files.proofs.files.Files.roll_back.Goals.{After-index_mut}

-- the store that is called
its_store : (g : given.Over) (c : goal.After-index_mut g) → slice_get c.self.inside.stores.items c.args.q ≡ Some c.index_mut.result.now
its_store g c = at_place _ c.args.q _ _ c.from.ensures c.self.invariant.0.eight c.requires.subsystem c.index_mut.ensures.value

-- in which something is in doubt
has_doubt : (g : given.Over) (c : goal.After-index_mut g) → c.index_mut.result.now.doubt ≢ []
has_doubt g c = asked_of_it _ _ c.self.view_is c.args.q _ (its_store g c) (λ s. s.doubt ≢ []) c.requires.doubt

pub roll_back-requires-clause-doubt : goal.roll_back-requires-clause-doubt
roll_back-requires-clause-doubt g c = has_doubt g (goal.at.roll_back-requires-clause-doubt g c).After-index_mut

pub roll_back-requires-clause-fits : goal.roll_back-requires-clause-fits
roll_back-requires-clause-fits g c =
    it_fits _ _ c.self.view_is c.args.q _ (its_store g (goal.at.roll_back-requires-clause-fits g c).After-index_mut) g.B.Resource c.requires.fits

pub roll_back-requires-clause-stands : goal.roll_back-requires-clause-stands
roll_back-requires-clause-stands g c =
    it_stands _ _ c.self.view_is c.args.q _ (its_store g (goal.at.roll_back-requires-clause-stands g c).After-index_mut) g.R.Rack.disk c.requires.stand

pub invariant_of-self : goal.invariant_of-self
invariant_of-self g c =
    let at = its_store g (goal.at.invariant_of-self g c).After-index_mut in (
      stores_with c.self.inside.stores.items c.args.q c.from.result c.index_mut.result.now c.roll_back.new.self c.from.ensures at c.self.invariant.0 c.roll_back.ensures.same.0 c.roll_back.ensures.same.1,
      c.self.invariant.1,
      c.self.invariant.2,
      c.self.invariant.3,
    )

pub returns-clause-acknowledged : goal.returns-clause-acknowledged
returns-clause-acknowledged g c =
    let q = c.args.q in
    let before = (goal.at.returns-clause-acknowledged g c).After-index_mut in
    let at = its_store g before in
    let law = ended_is_good c.calls_make_good_books.ensures.commit c.calls_make_good_books.ensures.roll_back in
    let did = c.roll_back.ensures in
    subst (λ f. Told (g.R.Rack.disk f.rack) → (c' : Catalog) (h : History) → Stand c' h f.journal f.stores (g.R.Rack.disk f.rack) → DoubtIs false c'.ops h q f.stores → OnOk c.roll_back.result (Stand c' h c.self.inside.journal (slice_set c.self.inside.stores.items c.from.result c.roll_back.new.self) (g.R.Rack.disk c.roll_back.new.rack)))
    c.self.view_is
    (λ told c' h stand due. OnOk-both (λ ends stands. subst (λ r. Stand c' h c.self.inside.journal (slice_set c.self.inside.stores.items r c.roll_back.new.self) (g.R.Rack.disk c.roll_back.new.rack)) (sym c.from.ensures)
    (stands_with_roll_back law c' h c.self.inside.journal c.self.inside.stores.items (g.R.Rack.disk c.self.inside.rack) (g.R.Rack.disk c.roll_back.new.rack) q c.index_mut.result.now c.roll_back.new.self
    (g.met.R.Rack.honest c.self.inside.rack told) (g.met.R.Rack.honest c.roll_back.new.rack (did.rack.tells ∙ told)) c.self.invariant.0 c.self.invariant.1 stand at due (did.others told) did.same.1 (ends, did.same.2) stands))
    c.roll_back.result did.ok (did.acknowledged told))

pub returns-clause-any_moment : goal.returns-clause-any_moment
returns-clause-any_moment g c =
    let q = c.args.q in
    let before = (goal.at.returns-clause-any_moment g c).After-index_mut in
    let at = its_store g before in
    let law = ended_is_good c.calls_make_good_books.ensures.commit c.calls_make_good_books.ensures.roll_back in
    subst (λ f. Told (g.R.Rack.disk f.rack) → (c' : Catalog) (h : History) → Stand c' h f.journal f.stores (g.R.Rack.disk f.rack) → DoubtIs false c'.ops h q f.stores → EachImage (g.R.Rack.disk c.roll_back.new.rack) (g.R.Rack.disk f.rack).moment (IsSound c' h))
    c.self.view_is
    (λ told c' h stand due. images_of_roll_back law c' h c.self.inside.journal c.self.inside.stores.items (g.R.Rack.disk c.self.inside.rack) (g.R.Rack.disk c.roll_back.new.rack) q c.index_mut.result.now
    (g.met.R.Rack.honest c.self.inside.rack told) c.self.invariant.0 c.self.invariant.1 stand at due (c.roll_back.ensures.others told) (c.roll_back.ensures.any_moment told))

pub returns-clause-fits : goal.returns-clause-fits
returns-clause-fits g c =
    let at = its_store g (goal.at.returns-clause-fits g c).After-index_mut in
    fits_with c.self.inside.stores.items c.args.q c.from.result c.index_mut.result.now c.roll_back.new.self c.from.ensures at g.B.Resource
    (subst (λ f. EachFits g.B.Resource f.stores) (sym c.self.view_is) c.requires.fits) c.roll_back.ensures.fits

pub returns-clause-ok : goal.returns-clause-ok
returns-clause-ok g c =
    let at = its_store g (goal.at.returns-clause-ok g c).After-index_mut in
    OnOk-then (λ none. changed c.self.inside.stores.items c.args.q c.from.result c.index_mut.result.now c.roll_back.new.self c.from.ensures at RollsBack _ (ap (λ f. f.stores) c.self.view_is) (none, c.roll_back.ensures.same.2))
    c.roll_back.result c.roll_back.ensures.ok

pub returns-clause-good : goal.returns-clause-good
returns-clause-good g c =
    let before = (goal.at.returns-clause-good g c).After-index_mut in
    let at = its_store g before in
    subst (λ f. AreGoodBooks f.stores → AreGoodBooks (slice_set c.self.inside.stores.items c.from.result c.roll_back.new.self))
    c.self.view_is
    (λ all. good_with c.self.inside.stores.items c.from.result c.roll_back.new.self all
    (good_rolled_back c.calls_make_good_books.ensures.roll_back c.index_mut.result.now c.roll_back.new.self c.roll_back.result (all c.args.q c.index_mut.result.now at)
    c.roll_back.ensures.same.1 c.roll_back.ensures.same.2 c.roll_back.ensures.ok c.roll_back.ensures.err))
