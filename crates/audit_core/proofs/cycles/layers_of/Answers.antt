use Rattle.std.proofs.Common.{◌≡◌, ◌⊎◌, inl, inr, ◌<◌, ◌≤◌, ◌+◌, ◌∷◌, ◌∙◌, [], ℕ, length, sym, ap, subst, arith, length-append}
use Rattle.std.proofs.lemmas.Bool.{cases_lt}
use Rattle.audit_core.specs.Arrows.{IsLayer, AreLayers, AreShortest}
use Rattle.audit_core.proofs.Layers.{layers-more, next_layer, none_longer, none_more, is_shortest}
use Rattle.audit_core.proofs.cycles.layers_of.Goals.{then-loop-last-test+else-not-is_empty, else-loop-last-test}
use Rattle.audit_core.proofs.cycles.layers_of.Goals as goal

pub returns-then-back : goal.returns-then-back
returns-then-back c = λ arrow arrows.
    let i = c.loop-last.invariant arrow arrows in
    subst (AreShortest arrow c.args.first) (sym c.in_ok-push.ensures.items)
    (is_shortest arrow c.args.rows.now arrows c.args.first c.loop-last.layers.items c.loop-last.last i.layers i.last (sym c.has-back.ensures ∙ c.if-back.true) i.none)

pub loop-last-preserved : goal.loop-last-preserved
loop-last-preserved c = λ arrow arrows.
    let i = c.loop-last.invariant arrow arrows in
    let sets = c.loop-last.layers.items in
    let set = c.loop-last.last in
    let n : ℕ = length sets in
    let long : length c.push.new.self.items ≡ n + 1 = ap length c.in_ok-push.ensures.items ∙ length-append sets (set ∷ []) in
    record {
      layers = subst (AreLayers arrow c.args.first 0) (sym c.in_ok-push.ensures.items)
          (layers-more arrow c.args.rows.now arrows c.args.first 0 sets set i.layers (subst (λ k. IsLayer arrow c.args.first k set) (omega arith) i.last));
      last = subst (λ k. IsLayer arrow c.args.first k c.step_back-next.result) (sym long)
          (next_layer arrow c.args.rows.now arrows c.args.first n set c.step_back-next.result i.last c.step_back-next.ensures);
      none = λ ks less. none_more arrow c.args.rows.now arrows c.args.first n set i.last (sym c.has-back.ensures ∙ c.if-back.false) i.none ks (omega (arith, less, long));
    }

pub returns : goal.returns
returns c = λ arrow arrows ks back.
    let i = c.loop-last.invariant arrow arrows in
    let n : ℕ = length c.loop-last.layers.items in
    elim c.loop-last-test.branch [
      | then-loop-last-test+else-not-is_empty w ↦
          absurd (i.none ks (none_longer arrow c.args.rows.now arrows c.args.first n c.loop-last.last i.last (w.is_empty.ensures.none w.if-not-is_empty.false) ks back) back)
      | else-loop-last-test w ↦ by_length c.args.most n (length ks) (omega (arith, w.loop-last-test.false)) (λ less. i.none ks less back) (cases_lt (length ks) n)
    ]
  where
    by_length : (most n k : ℕ) → most < n → (k < n → ⊥) → (k < n) ⊎ (n ≤ k) → most < k
    by_length most n k long none (inl less) = absurd (none less)
    by_length most n k long none (inr more) = omega (arith, long, more)
