use Rattle.std.proofs.Common.{◌≡◌, ◌∙◌, arith, subst}
use Rattle.history_files.specs.Effects.{effects}
use Rattle.engine_steps.specs.Engines.{full_history}
use Rattle.engine_steps.specs.declared.engines.Phase.TheVariants as phase
use Rattle.engine_steps.proofs.StoresThere.{at_place}
use Rattle.engine_steps.proofs.engines.Engine.book.Goals as goal

pub returns : goal.returns
returns g c =
    let stores = c.self.inside.files.stores in
    let eight = c.soundness_holds.ensures.stores.eight in
    let below = c.requires in
    let s = at_place stores c.args.q (omega arith) in
    subst (λ e. e.phase ≡ phase.Settled → c.book.result.now ≡ effects e.catalog.ops (full_history e.core) c.args.q) c.self.view_is
    (λ settled. c.book.ensures s.0 s.1 ∙ (c.self.invariant.1 settled).books c.args.q s.0 s.1)
