use Rattle.std.proofs.Common.{◌∙◌, List, sym, subst}
use Rattle.process_disk.specs.Disk.{Told}
use Rattle.process_disk.specs.Images.{EachImage}
use Rattle.schedule_model.specs.declared.event.Event.{Event}
use Rattle.subsystem_store.specs.declared.effect.Effect.{Effect}
use Rattle.history_files.specs.Sound.{IsSoundForEither}
use Rattle.history_files.specs.Standing.{EachFits, Stand}
use Rattle.engine_steps.specs.Engines.{EngineState, full_history}
use Rattle.engine_steps.specs.Groups.{IsGroupRecorded, MayBeRecorded, with_events}
use Rattle.engine_steps.proofs.GroupSteps.{group_recorded, may_open, of_group, some_bodies}
use Rattle.engine_steps.proofs.engines.Engine.record_group.Goals as goal

pub record_written-requires-clause-staged : goal.record_written-requires-clause-staged
record_written-requires-clause-staged g c none =
    let may = subst (λ x. (events : List Event) × (group : List (List Effect)) × MayBeRecorded x (g.R.Rack.disk x.files.rack) events group) (sym c.self.view_is) c.requires.may in
    some_bodies may.0 may.2.prepared.are.some (sym may.2.prepared.staged ∙ none)

pub record_written-requires-clause-on_disk : goal.record_written-requires-clause-on_disk
record_written-requires-clause-on_disk g c told =
    let e : EngineState g.row.R.Denot g.row.B.Denot = record { core = c.self.inside.core; catalog = c.self.inside.catalog; files = c.self.inside.files; phase = c.self.inside.phase } in
    let may = subst (λ x. (events : List Event) × (group : List (List Effect)) × MayBeRecorded x (g.R.Rack.disk x.files.rack) events group) (sym c.self.view_is) c.requires.may in
    may_open e g.R.Rack.disk may.0 may.1 may.2 told

pub returns-in-Ok-clause-recorded : goal.returns-in-Ok-clause-recorded
returns-in-Ok-clause-recorded g c =
    let e : EngineState g.row.R.Denot g.row.B.Denot = record { core = c.self.inside.core; catalog = c.self.inside.catalog; files = c.self.inside.files; phase = c.self.inside.phase } in
    let files = c.record_written.new.self in
    subst (λ x. (events : List Event) (group : List (List Effect)) → MayBeRecorded x (g.R.Rack.disk x.files.rack) events group
    → IsGroupRecorded (record { core = e.core; catalog = e.catalog; files = files; phase = e.phase }) (g.R.Rack.disk files.rack) group (with_events (full_history x.core) events)) c.self.view_is
    (λ events group may. group_recorded e g.R.Rack.disk events group may files c.record_written.ensures.same c.in-Ok.ensures.ok
    (λ told. of_group e g.R.Rack.disk events group may c.books_come_to_groups.ensures.prepared {P = λ d h after. Stand d after files.journal files.stores (g.R.Rack.disk files.rack)}
    c.in-Ok.ensures.acknowledged (sym c.record_written.ensures.rack.tells ∙ told)))

pub returns-in-Ok-clause-any_moment : goal.returns-in-Ok-clause-any_moment
returns-in-Ok-clause-any_moment g c =
    let e : EngineState g.row.R.Denot g.row.B.Denot = record { core = c.self.inside.core; catalog = c.self.inside.catalog; files = c.self.inside.files; phase = c.self.inside.phase } in
    let later = g.R.Rack.disk c.record_written.new.self.rack in
    subst (λ x. Told (g.R.Rack.disk x.files.rack) → (events : List Event) (group : List (List Effect)) → MayBeRecorded x (g.R.Rack.disk x.files.rack) events group
    → EachImage later (g.R.Rack.disk x.files.rack).moment (IsSoundForEither x.catalog (full_history x.core) (with_events (full_history x.core) events))) c.self.view_is
    (λ told events group may. of_group e g.R.Rack.disk events group may c.books_come_to_groups.ensures.prepared
    {P = λ d h after. EachImage later (g.R.Rack.disk e.files.rack).moment (IsSoundForEither d h after)} c.record_written.ensures.any_moment told)

pub returns-in-Ok-clause-fits : goal.returns-in-Ok-clause-fits
returns-in-Ok-clause-fits g c = subst (EachFits g.B.Resource) (sym c.record_written.ensures.same) (subst (λ x. EachFits g.B.Resource x.files.stores) (sym c.self.view_is) c.requires.fits)

pub returns-in-Err-clause-any_moment : goal.returns-in-Err-clause-any_moment
returns-in-Err-clause-any_moment g c =
    let e : EngineState g.row.R.Denot g.row.B.Denot = record { core = c.self.inside.core; catalog = c.self.inside.catalog; files = c.self.inside.files; phase = c.self.inside.phase } in
    let later = g.R.Rack.disk c.record_written.new.self.rack in
    subst (λ x. Told (g.R.Rack.disk x.files.rack) → (events : List Event) (group : List (List Effect)) → MayBeRecorded x (g.R.Rack.disk x.files.rack) events group
    → EachImage later (g.R.Rack.disk x.files.rack).moment (IsSoundForEither x.catalog (full_history x.core) (with_events (full_history x.core) events))) c.self.view_is
    (λ told events group may. of_group e g.R.Rack.disk events group may c.books_come_to_groups.ensures.prepared
    {P = λ d h after. EachImage later (g.R.Rack.disk e.files.rack).moment (IsSoundForEither d h after)} c.record_written.ensures.any_moment told)

pub returns-in-Err-clause-fits : goal.returns-in-Err-clause-fits
returns-in-Err-clause-fits g c = subst (EachFits g.B.Resource) (sym c.record_written.ensures.same) (subst (λ x. EachFits g.B.Resource x.files.stores) (sym c.self.view_is) c.requires.fits)
