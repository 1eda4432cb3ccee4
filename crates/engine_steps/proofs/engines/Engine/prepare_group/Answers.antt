use Rattle.std.proofs.Common.{◌≡◌, ◌∙◌, List, false, length, arith, ap, sym, subst}
use Rattle.subsystem_store.specs.declared.effect.Effect.{Effect}
use Rattle.process_disk.specs.Disk.{Told}
use Rattle.process_disk.specs.Images.{EachImage}
use Rattle.gate_log.specs.Staging.{staging_all, unstaged}
use Rattle.gate_log.specs.Standing.{LogState}
use Rattle.process_core.proofs.FewEvents.{few_events}
use Rattle.store_group.specs.Events.{BecomeEach, IsPrepared, MayPrepareEach, effects_for}
use Rattle.history_files.specs.Groups.{LacksEach}
use Rattle.history_files.specs.Sound.{IsSound}
use Rattle.history_files.specs.Standing.{AreGoodBooks, EachFits, Stand}
use Rattle.engine_steps.specs.Engines.{AreAtRest, full_history}
use Rattle.engine_steps.specs.Groups.{IsGroupPrepared, TouchesJournal, bodies_of, has_effect}
use Rattle.engine_steps.specs.Listing.{AreAmounts, next_group}
use Rattle.engine_steps.specs.declared.engines.Phase.TheVariants as phase
use Rattle.engine_steps.proofs.GroupSteps.{files_are, group_prepared, some_bodies, stands_staged, with_log}
use Rattle.engine_steps.proofs.engines.Engine.prepare_group.Given as given
use Rattle.engine_steps.proofs.engines.Engine.prepare_group.Goals as goal
use Rattle.engine_steps.proofs.engines.Engine.prepare_group.Goals.{After-stage_each}

-- the files were at rest,
rest : (g : given.Over) (c : After-stage_each g) → AreAtRest c.self.inside.catalog (full_history c.self.inside.core) c.self.inside.files (g.R.Rack.disk c.self.inside.files.rack)
rest g c = c.self.invariant.1 (subst (λ x. x.phase ≡ phase.Settled) (sym c.self.view_is) c.requires.settled)

-- the effects of the events were lacking,
abbrev listed : (g : given.Over) → After-stage_each g → List (List Effect)
listed g c = next_group c.self.inside.catalog.ops (full_history c.self.inside.core) c.args.events.now

lacks : (g : given.Over) (c : After-stage_each g) → LacksEach c.self.inside.catalog.ops (full_history c.self.inside.core) (listed g c)
lacks g c = subst (λ x. LacksEach x.catalog.ops (full_history x.core) (next_group x.catalog.ops (full_history x.core) c.args.events.now)) (sym c.self.view_is) c.requires.lacks

-- with the records staged nothing else changed,
staged : (g : given.Over) (c : After-stage_each g) → c.stage_each.new.files.journal ≡ staging_all (unstaged c.self.inside.files.journal) (bodies_of c.args.events.now)
staged g c = c.stage_each.ensures.journal ∙ ap (λ l. staging_all l (bodies_of c.args.events.now)) c.unstage_records.ensures.journal

same : (g : given.Over) (c : After-stage_each g) → c.stage_each.new.files.stores ≡ c.self.inside.files.stores
same g c = c.stage_each.ensures.same.0 ∙ c.unstage_records.ensures.same.0

are : (g : given.Over) (c : After-stage_each g) → c.stage_each.new.files ≡ with_log c.self.inside.files (staging_all (unstaged c.self.inside.files.journal) (bodies_of c.args.events.now))
are g c = files_are c.self.inside.files c.stage_each.new.files _ (staged g c) (same g c) (c.stage_each.ensures.same.1 ∙ c.unstage_records.ensures.same.1)

-- and the files stand as before
stand : (g : given.Over) (c : After-stage_each g) → Told (g.R.Rack.disk c.stage_each.new.files.rack)
    → Stand c.self.inside.catalog (full_history c.self.inside.core) c.stage_each.new.files.journal c.stage_each.new.files.stores (g.R.Rack.disk c.stage_each.new.files.rack)
stand g c = subst (λ f. Told (g.R.Rack.disk f.rack) → Stand c.self.inside.catalog (full_history c.self.inside.core) f.journal f.stores (g.R.Rack.disk f.rack)) (sym (are g c))
    (λ told. stands_staged c.self.inside.catalog (full_history c.self.inside.core) c.self.inside.files.journal (bodies_of c.args.events.now) c.self.inside.files.stores (g.R.Rack.disk c.self.inside.files.rack) ((rest g c).stand told))

pub stage_each-requires-clause-room : goal.stage_each-requires-clause-room
stage_each-requires-clause-room g c =
    let rest = c.self.invariant.1 (subst (λ x. x.phase ≡ phase.Settled) (sym c.self.view_is) c.requires.settled) in
    let few = few_events c.self.inside.core c.run_holds.ensures in
    let log = c.unstage_records.ensures.journal in
    omega (arith, few, c.requires.events.few, rest.count, ap (λ (l : LogState). l.count) log, ap (λ (l : LogState). length l.staged) log)

pub write_group-requires-clause-staged : goal.write_group-requires-clause-staged
write_group-requires-clause-staged g c none =
    let c = (goal.at.write_group-requires-clause-staged g c).After-stage_each in
    some_bodies c.args.events.now c.requires.events.some (sym (ap (λ (l : LogState). l.staged) (staged g c)) ∙ none)

pub write_group-requires-clause-fits : goal.write_group-requires-clause-fits
write_group-requires-clause-fits g c =
    let c = (goal.at.write_group-requires-clause-fits g c).After-stage_each in
    subst (EachFits g.B.Resource) (sym (same g c)) (subst (λ x. EachFits g.B.Resource x.files.stores) (sym c.self.view_is) c.requires.fits)

pub effects_fit-requires : goal.effects_fit-requires
effects_fit-requires g c =
    subst AreAmounts (sym (c.as_slice.ensures ∙ c.list_next.ensures)) (subst (λ x. AreAmounts (next_group x.catalog.ops (full_history x.core) c.args.events.now)) (sym c.self.view_is) c.requires.amounts)

pub write_group-requires-clause-may : goal.write_group-requires-clause-may
write_group-requires-clause-may g c =
    let d = (goal.at.write_group-requires-clause-may g c).After-stage_each in
    subst (λ group. MayPrepareEach group c.stage_each.new.files.stores) (sym (c.as_slice-2.ensures ∙ c.list_next.ensures))
    (subst (MayPrepareEach (listed g d)) (sym (same g d))
    (subst (λ x. MayPrepareEach (next_group x.catalog.ops (full_history x.core) c.args.events.now) x.files.stores) (sym c.self.view_is) c.requires.may))

pub write_group-requires-clause-stand : goal.write_group-requires-clause-stand
write_group-requires-clause-stand g c told =
    let c = (goal.at.write_group-requires-clause-stand g c).After-stage_each in
    (c.self.inside.catalog, full_history c.self.inside.core, stand g c told)

pub returns-in-Ok-clause-prepared : goal.returns-in-Ok-clause-prepared
returns-in-Ok-clause-prepared g c =
    let d = (goal.at.returns-in-Ok-clause-prepared g c).After-stage_each in
    let files = c.write_group.new.files in
    let core = c.self.inside.core in
    let catalog = c.self.inside.catalog in
    let events = c.args.events.now in
    let is = c.as_slice-2.ensures ∙ c.list_next.ensures in
    let lacked = subst (LacksEach catalog.ops (full_history core)) (sym is) (lacks g d) in
    subst (λ x. IsGroupPrepared (record { core = core; catalog = catalog; files = files; phase = phase.UnderWay }) (g.R.Rack.disk files.rack) events (next_group x.catalog.ops (full_history x.core) events)) c.self.view_is
    (group_prepared catalog core c.self.inside.files files (g.R.Rack.disk c.self.inside.files.rack) (g.R.Rack.disk files.rack) events (listed g d) (rest g d) c.requires.events
    (c.write_group.ensures.journal ∙ staged g d)
    (subst (λ group. BecomeEach (λ q s t. IsPrepared (effects_for group q) s t) c.self.inside.files.stores files.stores) is
    (subst (λ ss. BecomeEach (λ q s t. IsPrepared (effects_for c.as_slice-2.result.now q) s t) ss files.stores) (same g d) c.in-Ok.ensures.ok))
    (c.write_group.ensures.good (subst AreGoodBooks (sym (same g d)) (rest g d).good))
    (λ told. let before = sym c.write_group.ensures.rack.tells ∙ told in c.in-Ok.ensures.acknowledged before catalog (full_history core) (stand g d before) lacked)
    (λ told. let before = sym c.write_group.ensures.rack.tells ∙ told in c.in-Ok.ensures.on_disk before catalog (full_history core) (stand g d before)))

-- each image meanwhile is sound
pub returns-in-Ok-clause-any_moment : goal.returns-in-Ok-clause-any_moment
returns-in-Ok-clause-any_moment g c =
    let d = (goal.at.returns-in-Ok-clause-any_moment g c).After-stage_each in
    let later = g.R.Rack.disk c.write_group.new.files.rack in
    let catalog = c.self.inside.catalog in
    let h = full_history c.self.inside.core in
    let lacked = subst (LacksEach catalog.ops h) (sym (c.as_slice-2.ensures ∙ c.list_next.ensures)) (lacks g d) in
    subst (λ x. Told (g.R.Rack.disk x.files.rack) → EachImage later (g.R.Rack.disk x.files.rack).moment (IsSound x.catalog (full_history x.core))) c.self.view_is
    (subst (λ f. Told (g.R.Rack.disk f.rack) → EachImage later (g.R.Rack.disk f.rack).moment (IsSound catalog h)) (are g d)
    (λ told. c.write_group.ensures.any_moment told catalog h (stand g d told) lacked))

pub returns-in-Err-clause-any_moment : goal.returns-in-Err-clause-any_moment
returns-in-Err-clause-any_moment g c =
    let d = (goal.at.returns-in-Err-clause-any_moment g c).After-stage_each in
    let later = g.R.Rack.disk c.write_group.new.files.rack in
    let catalog = c.self.inside.catalog in
    let h = full_history c.self.inside.core in
    let lacked = subst (LacksEach catalog.ops h) (sym (c.as_slice-2.ensures ∙ c.list_next.ensures)) (lacks g d) in
    subst (λ x. Told (g.R.Rack.disk x.files.rack) → EachImage later (g.R.Rack.disk x.files.rack).moment (IsSound x.catalog (full_history x.core))) c.self.view_is
    (subst (λ f. Told (g.R.Rack.disk f.rack) → EachImage later (g.R.Rack.disk f.rack).moment (IsSound catalog h)) (are g d)
    (λ told. c.write_group.ensures.any_moment told catalog h (stand g d told) lacked))

pub returns-in-Ok-clause-none : goal.returns-in-Ok-clause-none
returns-in-Ok-clause-none g c none =
    let d = (goal.at.returns-in-Ok-clause-none g c).After-stage_each in
    let nothing = subst (λ group. has_effect group ≡ false) (sym (c.as_slice-2.ensures ∙ c.list_next.ensures))
    (subst (λ x. has_effect (next_group x.catalog.ops (full_history x.core) c.args.events.now) ≡ false) (sym c.self.view_is) none) in
    let touches = subst (λ f. TouchesJournal g.R.Rack.disk f c.write_group.new.files) (are g d) (c.write_group.ensures.none nothing) in
    subst (λ x. TouchesJournal g.R.Rack.disk x.files c.write_group.new.files) c.self.view_is (record { stores = touches.stores; others = touches.others })

pub returns-in-Err-clause-none : goal.returns-in-Err-clause-none
returns-in-Err-clause-none g c none =
    let d = (goal.at.returns-in-Err-clause-none g c).After-stage_each in
    let nothing = subst (λ group. has_effect group ≡ false) (sym (c.as_slice-2.ensures ∙ c.list_next.ensures))
    (subst (λ x. has_effect (next_group x.catalog.ops (full_history x.core) c.args.events.now) ≡ false) (sym c.self.view_is) none) in
    let touches = subst (λ f. TouchesJournal g.R.Rack.disk f c.write_group.new.files) (are g d) (c.write_group.ensures.none nothing) in
    subst (λ x. TouchesJournal g.R.Rack.disk x.files c.write_group.new.files) c.self.view_is (record { stores = touches.stores; others = touches.others })
