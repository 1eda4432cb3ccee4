use Rattle.std.proofs.Common.{◌≢◌, [], ap, subst, sym, OnOk, rules, OnErr}
use Rattle.process_disk.specs.Disk.{Told}
use Rattle.process_disk.specs.Images.{EachImage, ImagesFollow}
use Rattle.schedule_model.specs.declared.history.History.{History}
use Rattle.commute_table.specs.declared.catalog.Catalog.{Catalog}
use Rattle.process_journal.specs.Staged.{IsOnDisk}
use Rattle.store_group.specs.Events.{BecomeEach, IsPrepared, IsUnchanged, MayPrepareEach, effects_for}
use Rattle.history_files.specs.Groups.{LacksEach}
use Rattle.history_files.specs.Sound.{IsSound}
use Rattle.history_files.specs.Standing.{AreGoodBooks, EachFits, Stand, StandForSome}
use Rattle.history_files.proofs.Answered.{either_answer}
use Rattle.history_files.proofs.Groups.{prepared_keep, stores_became, unchanged_keep}
use Rattle.history_files.proofs.files.Files.prepare_staged.Goals as goal

pub prepare_all-requires-clause-are : goal.prepare_all-requires-clause-are
prepare_all-requires-clause-are g c = c.self.invariant.0

pub prepare_all-requires-clause-file : goal.prepare_all-requires-clause-file
prepare_all-requires-clause-file g c = c.self.invariant.1

pub prepare_all-requires-clause-staged : goal.prepare_all-requires-clause-staged
prepare_all-requires-clause-staged g c = subst (λ f. f.journal.staged ≢ []) (sym c.self.view_is) c.requires.staged

pub prepare_all-requires-clause-fits : goal.prepare_all-requires-clause-fits
prepare_all-requires-clause-fits g c = subst (λ f. EachFits g.B.Resource f.stores) (sym c.self.view_is) c.requires.fits

pub prepare_all-requires-clause-may : goal.prepare_all-requires-clause-may
prepare_all-requires-clause-may g c = subst (λ f. MayPrepareEach c.args.group.now f.stores) (sym c.self.view_is) c.requires.may_come

pub prepare_all-requires-clause-stand : goal.prepare_all-requires-clause-stand
prepare_all-requires-clause-stand g c = subst (λ f. Told (g.R.Rack.disk f.rack) → StandForSome f.journal f.stores (g.R.Rack.disk f.rack)) (sym c.self.view_is) c.requires.stand

pub invariant_of-self : goal.invariant_of-self
invariant_of-self g c =
    let old = c.self.inside.stores.items in
    let new = c.prepare_all.new.stores.items in
    let keep = either_answer (prepared_keep c.args.group.now old new) (unchanged_keep old new) c.prepare_all.result c.prepare_all.ensures.ok c.prepare_all.ensures.err in (
      stores_became old new c.self.invariant.0 keep,
      c.self.invariant.1,
      c.self.invariant.2,
      c.self.invariant.3,
    )

pub returns-clause-acknowledged : goal.returns-clause-acknowledged
returns-clause-acknowledged g c =
    subst (λ f. Told (g.R.Rack.disk f.rack) → (c' : Catalog) (h : History) → Stand c' h f.journal f.stores (g.R.Rack.disk f.rack) → LacksEach c'.ops h c.args.group.now
    → OnOk c.prepare_all.result (Stand c' h c.self.inside.journal c.prepare_all.new.stores.items (g.R.Rack.disk c.prepare_all.new.rack))) c.self.view_is c.prepare_all.ensures.acknowledged

pub returns-clause-on_disk : goal.returns-clause-on_disk
returns-clause-on_disk g c =
    subst (λ f. Told (g.R.Rack.disk f.rack) → (c' : Catalog) (h : History) → Stand c' h f.journal f.stores (g.R.Rack.disk f.rack)
    → OnOk c.prepare_all.result (IsOnDisk c.self.inside.journal c' h (g.R.Rack.disk c.prepare_all.new.rack))) c.self.view_is c.prepare_all.ensures.on_disk

pub returns-clause-any_moment : goal.returns-clause-any_moment
returns-clause-any_moment g c =
    subst (λ f. Told (g.R.Rack.disk f.rack) → (c' : Catalog) (h : History) → Stand c' h f.journal f.stores (g.R.Rack.disk f.rack) → LacksEach c'.ops h c.args.group.now
    → EachImage (g.R.Rack.disk c.prepare_all.new.rack) (g.R.Rack.disk f.rack).moment (IsSound c' h)) c.self.view_is c.prepare_all.ensures.any_moment

pub returns-clause-good : goal.returns-clause-good
returns-clause-good g c = subst (λ f. AreGoodBooks f.stores → AreGoodBooks c.prepare_all.new.stores.items) c.self.view_is c.prepare_all.ensures.good

pub returns-clause-ok : goal.returns-clause-ok
returns-clause-ok g c =
    subst (λ ss. OnOk c.prepare_all.result (BecomeEach (λ q s t. IsPrepared (effects_for c.args.group.now q) s t) ss c.prepare_all.new.stores.items)) (ap (λ f. f.stores) c.self.view_is) c.prepare_all.ensures.ok

pub returns-clause-err : goal.returns-clause-err
returns-clause-err g c =
    subst (λ ss. OnErr c.prepare_all.result (BecomeEach (λ q s t. IsUnchanged s t) ss c.prepare_all.new.stores.items)) (ap (λ f. f.stores) c.self.view_is) c.prepare_all.ensures.err

pub returns-clause-rack : goal.returns-clause-rack
returns-clause-rack g c = record {
  follow = subst (λ f. Told (g.R.Rack.disk f.rack) → ImagesFollow (g.R.Rack.disk f.rack) (g.R.Rack.disk c.prepare_all.new.rack)) c.self.view_is c.prepare_all.ensures.rack.follow;
  tells = search rules;
  later = search rules;
  fault = search rules;
}
