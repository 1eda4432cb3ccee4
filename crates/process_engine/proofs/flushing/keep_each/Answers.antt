use Rattle.std.proofs.Common.{◌≡◌, ◌∙◌, ◌<◌, ◌∷◌, length, map, sym, ap, subst, arith}
use Rattle.process_tree.specs.declared.play.Outcome.TheVariants.{Done}
use Rattle.machine_model.specs.Calls.{finish}
use Rattle.process_core.specs.Answers.{after_call}
use Rattle.engine_steps.specs.Engines.{with_core}
use Rattle.process_engine.specs.declared.group.GroupEnd.TheVariants.{Effected, Dropped}
use Rattle.process_engine.specs.Ends.{ended_as}
use Rattle.process_engine.proofs.KeptEnds.{IsKeptSoFar, first_of, none_over, one_dropped, one_kept, place_is, told_ends}
use Rattle.process_engine.proofs.flushing.keep_each.Goals.{in-Out, in-Dropped}
use Rattle.process_engine.proofs.flushing.keep_each.Given as given
use Rattle.process_engine.proofs.flushing.keep_each.Goals as goal
use Rattle.process_engine.proofs.flushing.keep_each.Goals.{After-state}

-- the pieces before the first is taken out
before : (g : given.Over) (c : goal.After-state g) → IsKeptSoFar c.args.engine.now.core c.args.pieces.now.items c.loop-engine.engine.core (c.remove-piece.result ∷ c.remove-piece.new.self.items) (map ended_as c.loop-engine.ends.items)
before g c =
    let some : 0 < length c.loop-engine.pieces.items = omega (arith, c.remove-piece.ensures.len, c.loop-engine.pieces.ok) in
    let first = first_of c.loop-engine.pieces.items c.remove-piece.result some c.remove-piece.ensures.value in
    subst (λ xs. IsKeptSoFar c.args.engine.now.core c.args.pieces.now.items c.loop-engine.engine.core (c.remove-piece.result ∷ xs) (map ended_as c.loop-engine.ends.items)) (sym c.remove-piece.ensures.items)
    (subst (λ xs. IsKeptSoFar c.args.engine.now.core c.args.pieces.now.items c.loop-engine.engine.core xs (map ended_as c.loop-engine.ends.items)) first c.loop-engine.invariant.kept)

pub unreachable-requires : goal.unreachable-requires
unreachable-requires g c =
    none_over c.loop-engine.engine.core c.invariant_holds.ensures.run c.remove-piece.result.piece (before g (goal.at.unreachable-requires g c).After-state).unfinished.0 (sym c.state.ensures ∙ c.in-Over.is)

pub loop-engine-preserved : goal.loop-engine-preserved
loop-engine-preserved g c =
    let kept = before g (goal.at.loop-engine-preserved g c).After-state in
    let p = c.remove-piece.result.piece in
    let core = c.loop-engine.engine.core in
    let all = c.args.pieces.now.items in
    let first = c.args.engine.now.core in
    let rest = c.remove-piece.new.self.items in
    elim c.match-state.branch [
      | in-Out w ↦
          let next = after_call core (finish p.number Done) in
          let is = w.engine-is ∙ w.keep_effect.ensures.engine in
          let same : c.match-state.engine.core ≡ next = ap (λ e. e.core) is in
          let out = sym c.state.ensures ∙ w.in-Out.is in
          let told = told_ends c.loop-engine.ends.items c.push.new.self.items c.number-number.result p.number c.match-state.end (Effected w.keep_effect.result) c.push.ensures.items c.number-number.ensures w.end-is in
          record {
            kept = subst (λ x. IsKeptSoFar first all x rest (map ended_as c.push.new.self.items)) (sym same)
                (subst (λ es. IsKeptSoFar first all next rest es) (sym told)
                (one_kept first all core c.remove-piece.result rest (map ended_as c.loop-engine.ends.items) w.keep_effect.result c.invariant_holds.ensures.run out
                (place_is core p kept.unfinished.0.handed out w.keep_effect.result w.keep_effect.ensures.reply) kept));
            engine = is ∙ (ap (λ e. with_core e next) c.loop-engine.invariant.engine ∙ ap (with_core c.args.engine.now) (sym same));
            capacity = c.remove-piece.ensures.capacity ∙ c.loop-engine.invariant.capacity;
          }
      | in-Dropped w ↦
          let same : c.match-state.engine.core ≡ core = ap (λ e. e.core) w.engine-is in
          let state = sym c.state.ensures ∙ w.in-Dropped.is in
          let told = told_ends c.loop-engine.ends.items c.push.new.self.items c.number-number.result p.number c.match-state.end (Dropped w.in-Dropped.event) c.push.ensures.items c.number-number.ensures w.end-is in
          record {
            kept = subst (λ x. IsKeptSoFar first all x rest (map ended_as c.push.new.self.items)) (sym same)
                (subst (λ es. IsKeptSoFar first all core rest es) (sym told)
                (one_dropped first all core c.remove-piece.result rest (map ended_as c.loop-engine.ends.items) w.in-Dropped.event state kept));
            engine = w.engine-is ∙ (c.loop-engine.invariant.engine ∙ ap (with_core c.args.engine.now) (sym same));
            capacity = c.remove-piece.ensures.capacity ∙ c.loop-engine.invariant.capacity;
          }
    ]
