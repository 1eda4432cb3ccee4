use Rattle.std.proofs.Common.{◌∙◌, List, sym, subst}
use Rattle.process_disk.specs.Disk.{Told}
use Rattle.process_disk.specs.Images.{EachImage}
use Rattle.schedule_model.specs.declared.history.History.{History}
use Rattle.subsystem_store.specs.declared.effect.Effect.{Effect}
use Rattle.history_files.specs.Sound.{IsSound}
use Rattle.history_files.specs.Standing.{EachFits}
use Rattle.engine_steps.specs.Engines.{EngineState}
use Rattle.engine_steps.specs.Groups.{IsGroupCommitted, IsGroupRecorded}
use Rattle.engine_steps.proofs.GroupSteps.{group_committed, has_each}
use Rattle.engine_steps.proofs.engines.Engine.commit_group.Goals as goal

pub commit_staged-requires-clause-fits : goal.commit_staged-requires-clause-fits
commit_staged-requires-clause-fits g c = subst (λ x. EachFits g.B.Resource x.files.stores) (sym c.self.view_is) c.requires.fits

pub returns-in-Ok-clause-committed : goal.returns-in-Ok-clause-committed
returns-in-Ok-clause-committed g c =
    let e : EngineState g.row.R.Denot g.row.B.Denot = record { core = c.self.inside.core; catalog = c.self.inside.catalog; files = c.self.inside.files; phase = c.self.inside.phase } in
    subst (λ x. (group : List (List Effect)) (h : History) → IsGroupRecorded x (g.R.Rack.disk x.files.rack) group h
    → IsGroupCommitted (record { core = e.core; catalog = e.catalog; files = c.commit_staged.new.self; phase = e.phase }) (g.R.Rack.disk c.commit_staged.new.self.rack) h) c.self.view_is
    (λ group h recorded. group_committed e (g.R.Rack.disk e.files.rack) group h recorded c.books_come_to_groups.ensures.committed c.commit_staged.new.self (g.R.Rack.disk c.commit_staged.new.self.rack)
    c.in-Ok.ensures.ok c.commit_staged.ensures.journal (c.commit_staged.ensures.good recorded.good)
    (λ told. let before = sym c.commit_staged.ensures.rack.tells ∙ told in
    c.in-Ok.ensures.acknowledged before e.catalog h (recorded.stand before) (has_each e (g.R.Rack.disk e.files.rack) group h recorded c.books_come_to_groups.ensures.prepared)))

pub returns-in-Ok-clause-any_moment : goal.returns-in-Ok-clause-any_moment
returns-in-Ok-clause-any_moment g c =
    let e : EngineState g.row.R.Denot g.row.B.Denot = record { core = c.self.inside.core; catalog = c.self.inside.catalog; files = c.self.inside.files; phase = c.self.inside.phase } in
    subst (λ x. Told (g.R.Rack.disk x.files.rack) → (group : List (List Effect)) (h : History) → IsGroupRecorded x (g.R.Rack.disk x.files.rack) group h
    → EachImage (g.R.Rack.disk c.commit_staged.new.self.rack) (g.R.Rack.disk x.files.rack).moment (IsSound x.catalog h)) c.self.view_is
    (λ told group h recorded. c.commit_staged.ensures.any_moment told e.catalog h (recorded.stand told) (has_each e (g.R.Rack.disk e.files.rack) group h recorded c.books_come_to_groups.ensures.prepared))

pub returns-in-Err-clause-any_moment : goal.returns-in-Err-clause-any_moment
returns-in-Err-clause-any_moment g c =
    let e : EngineState g.row.R.Denot g.row.B.Denot = record { core = c.self.inside.core; catalog = c.self.inside.catalog; files = c.self.inside.files; phase = c.self.inside.phase } in
    subst (λ x. Told (g.R.Rack.disk x.files.rack) → (group : List (List Effect)) (h : History) → IsGroupRecorded x (g.R.Rack.disk x.files.rack) group h
    → EachImage (g.R.Rack.disk c.commit_staged.new.self.rack) (g.R.Rack.disk x.files.rack).moment (IsSound x.catalog h)) c.self.view_is
    (λ told group h recorded. c.commit_staged.ensures.any_moment told e.catalog h (recorded.stand told) (has_each e (g.R.Rack.disk e.files.rack) group h recorded c.books_come_to_groups.ensures.prepared))
