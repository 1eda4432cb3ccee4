use Rattle.std.proofs.Common.{◌∙◌, ◌<◌, ◌-◌, ◌++◌, ◌∷◌, [], List, ℕ, ap, sym, append_assoc, arith}
use Rattle.process_expand.specs.Layout.{indent}
use Rattle.process_expand.proofs.Steps.{indent_more}
use Rattle.process_expand.proofs.writing.add_new_line.Goals as goal

pub loop-left-preserved : goal.loop-left-preserved
loop-left-preserved c =
    let some : 0 < c.loop-left.left = omega arith in
    ap (λ (xs : List ℕ). xs ++ indent (c.loop-left.left - 1)) c.in_ok-extend_from_slice.ensures.items
    ∙ append_assoc c.loop-left.out.items (32 ∷ 32 ∷ []) (indent (c.loop-left.left - 1))
    ∙ ap (λ (xs : List ℕ). c.loop-left.out.items ++ xs) (sym (indent_more c.loop-left.left some))
    ∙ c.loop-left.invariant
