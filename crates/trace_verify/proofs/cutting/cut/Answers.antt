use Rattle.std.proofs.Common.{◌∙◌, ap, take, drop}
use Rattle.trace_verify.proofs.Cuts.{cut-none_at, cut-some_at}
use Rattle.trace_verify.proofs.cutting.cut.Goals as goal

pub returns-in-empty : goal.returns-in-empty
returns-in-empty c =
    cut-none_at c.args.byte c.args.text.now c.split_at.result.1.now (c.split_at.ensures.back ∙ ap (λ n. drop n c.args.text.now) c.size_before.ensures.size) c.in-empty.len_below

pub returns-in-len1-up : goal.returns-in-len1-up
returns-in-len1-up c =
    cut-some_at c.args.byte c.args.text.now c.split_at.result.0.now c.split_at.result.1.now
    (c.split_at.ensures.front ∙ ap (λ n. take n c.args.text.now) c.size_before.ensures.size)
    (c.split_at.ensures.back ∙ ap (λ n. drop n c.args.text.now) c.size_before.ensures.size) c.in-len1-up.len_at_least
