use Rattle.std.proofs.Common.{◌∙◌, ap, ap₂, subst}
use Rattle.memchr.specs.Find.{FindsNeedle}
use Rattle.refusal_hints.specs.Pointing.{found_at, point}
use Rattle.refusal_hints.proofs.pointing.point_in_scenario.Goals as goal

pub returns : goal.returns
returns c =
    let text = c.bytes-text.ensures in
    let finds = subst (λ t. FindsNeedle c.args.input.now t 0 c.find-n.result) text c.find-n.ensures in
    let about = c.in_ok-about.ensures ∙ ap (λ t. found_at c.args.tells c.args.line c.args.column t) text in
    (c.find-n.result, finds, ap₂ point c.moved_place-at.ensures about)
