use Rattle.std.proofs.Common.{◌≡◌, ◌||◌, ◌∙◌, Some, ap, sym}
use Rattle.process_tree.specs.Conflicts.{mode_of, covers}
use Rattle.trace_verify.specs.Names.{found}
use Rattle.trace_verify.proofs.MarkedPairs.{pair-marked}
use Rattle.trace_verify.proofs.numbering.mark.Goals as goal

pub returns-in-Some-Some-clause-pairs : goal.returns-in-Some-Some-clause-pairs
returns-in-Some-Some-clause-pairs c = λ a b.
    let ops = c.args.ops.now in
    let p = c.args.pair.now in
    let m = c.in-Some-Some.a in
    let n = c.in-Some-Some.b in
    let first : found ops p.first ≡ Some m = ap (λ q. found ops q.first) (sym c.pair.view_is) ∙ sym c.in-Some-Some.ensures.found in
    let second : found ops p.second ≡ Some n = ap (λ q. found ops q.second) (sym c.pair.view_is) ∙ sym c.in-Some-Some.ensures'.found in
    let wide : covers c.wider-mode.result a.key b.key ≡ (covers (mode_of c.args.table.now m n) a.key b.key || covers p.mode a.key b.key) =
    c.wider-mode.ensures a.key b.key
    ∙ (ap (λ x. covers x a.key b.key || covers c.pair.inside.mode a.key b.key) c.mode.ensures.mode
    ∙ ap (λ q. covers (mode_of c.args.table.now m n) a.key b.key || covers q.mode a.key b.key) c.pair.view_is) in
    pair-marked c.args.table.now c.set.new.self ops p m n c.wider-mode.result a b c.requires.once first second wide (c.set.ensures.pairs a.op b.op)
