use Rattle.std.proofs.Common.{◌≡◌, ◌∷◌, [], length, length-append, sym, ◌∙◌, ap, arith, List}
use Rattle.gate_log.specs.LogFile.{records_size}
use Rattle.gate_log.specs.Standing.{LogState}
use Rattle.gate_log.specs.Staging.{staging, staging_all}
use Rattle.gate_log.proofs.Logs.{records_size-push}
use Rattle.subsystem_store.specs.declared.effect.Effect.{Effect}
use Rattle.subsystem_store.specs.Bodies.{prepared_bytes, prepared_bodies}
use Rattle.subsystem_store.proofs.StoreFiles.{staged_on}
use Rattle.subsystem_store.proofs.store.stage_each.Goals as goal

pub effects-preserved : goal.effects-preserved
effects-preserved c =
    let was = c.effects.invariant in
    let e = c.in-Some.effect.now in
    let after = c.in-Some.after.now in
    let split = c.in-Some.ensures.cases.0 in
    let log = c.effects.log in
    let staged : c.stage.new.self ≡ staging log (prepared_bytes e) = c.stage.ensures ∙ ap (staging log) c.prepared_bytes.ensures in
    record {
      log = ap (λ (l : LogState). staging_all l (prepared_bodies after)) staged ∙ staged_on log (prepared_bytes e) (prepared_bodies after) ∙ ap (λ (es : List Effect). staging_all log (prepared_bodies es)) (sym split) ∙ was.log;
      size = omega (arith, was.size, ap length split, ap (λ (l : LogState). records_size l.staged) staged, records_size-push log.staged (prepared_bytes e));
      room = omega (arith, was.room, ap length split, ap (λ (l : LogState). l.count) staged, ap (λ (l : LogState). length l.staged) staged, length-append log.staged (prepared_bytes e ∷ []));
    }
