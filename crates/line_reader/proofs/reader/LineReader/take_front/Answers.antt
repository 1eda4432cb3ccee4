use Rattle.std.proofs.Common.{◌≡◌, ◌-◌, ◌∙◌, ap, sym, length, take, drop, Some}
use Rattle.trace_verify.specs.Lines.{cut}
use Rattle.line_reader.proofs.Fronts.{rest_is, cut_left, cut_within}
use Rattle.line_reader.proofs.reader.LineReader.take_front.Goals as goal

pub invariant_of-self : goal.invariant_of-self
invariant_of-self c =
    let at = c.self.inside.at in
    let bytes = c.self.inside.bytes.items in
    let is : cut 10 (drop at bytes) ≡ Some (c.in-Some.front.now, c.in-Some.field-0-1.now) =
    ap (cut 10) (sym (rest_is bytes at)) ∙ (ap (λ bs. cut 10 (take (length bs - at) (drop at bs))) (sym c.deref.ensures.value) ∙ c.in-Some.ensures) in
    (cut_within bytes c.in-Some.front.now c.in-Some.field-0-1.now at 10 c.self.invariant.0 is, c.self.invariant.1)

pub returns-in_ok-keep-in-Some-clause-taken : goal.returns-in_ok-keep-in-Some-clause-taken
returns-in_ok-keep-in-Some-clause-taken c =
    let at = c.self.inside.at in
    let bytes = c.self.inside.bytes.items in
    let front = c.in-Some.front.now in
    let left = c.in-Some.field-0-1.now in
    let is : cut 10 (drop at bytes) ≡ Some (front, left) =
    ap (cut 10) (sym (rest_is bytes at)) ∙ (ap (λ bs. cut 10 (take (length bs - at) (drop at bs))) (sym c.deref.ensures.value) ∙ c.in-Some.ensures) in
    (front, ap (cut 10) (sym c.self.view_is) ∙ (is ∙ ap (λ bs. Some (front, bs)) (sym (cut_left bytes front left at 10 is))), c.in_ok-keep-in-Some.ensures)
