use Rattle.std.proofs.Common.{◌∙◌, ◌&&◌, ap, sym}
use Rattle.std.specs.List.{list_all}
use Rattle.std.proofs.Math.Bool.{and-true}
use Rattle.process_tree.specs.Name.{is_name}
use Rattle.trace_verify.specs.Lines.{parts}
use Rattle.trace_verify.proofs.Cuts.{parts-none, parts-some, cut-shorter}
use Rattle.trace_verify.proofs.cutting.are_names.Goals as goal

pub loop-word-smaller : goal.loop-word-smaller
loop-word-smaller c = cut-shorter 32 c.loop-word.rest.now c.in-Some.word.now c.in-Some.behind.now c.in-Some.ensures

pub loop-word-preserved : goal.loop-word-preserved
loop-word-preserved c =
    let split = parts-some 32 c.loop-word.rest.now c.in-Some.word.now c.in-Some.behind.now c.in-Some.ensures in
    ap (λ b. b && list_all is_name (parts 32 c.in-Some.behind.now)) (sym (sym c.is_name.ensures ∙ c.if-not-is_name.false))
    ∙ (sym (ap (list_all is_name) split) ∙ c.loop-word.invariant)

pub returns-then-not-is_name : goal.returns-then-not-is_name
returns-then-not-is_name c =
    let split = parts-some 32 c.loop-word.rest.now c.in-Some.word.now c.in-Some.behind.now c.in-Some.ensures in
    sym (sym c.loop-word.invariant ∙ (ap (list_all is_name) split ∙ ap (λ b. b && list_all is_name (parts 32 c.in-Some.behind.now)) (sym c.is_name.ensures ∙ c.if-not-is_name.true)))

pub returns : goal.returns
returns c =
    let split = parts-none 32 c.loop-word.rest.now c.in_default.ensures in
    c.is_name-2.ensures ∙ (sym (and-true (is_name c.loop-word.rest.now)) ∙ (sym (ap (list_all is_name) split) ∙ c.loop-word.invariant))
