use Rattle.std.proofs.Common.{◌≡◌, ◌+◌, ◌-◌, drop, sym, ap, ◌∙◌, arith}
use Rattle.std.specs.Prelude.{slice_index_or}
use Rattle.admission.specs.Least.{least_over, lesser_of}
use Rattle.admission.specs.Parts.{least_of_process}
use Rattle.admission.specs.declared.processes.Sought.TheVariants.{Next}
use Rattle.admission.proofs.HeldUp.{some_among, some_first}
use Rattle.admission.proofs.Holders.{open_there, process_more}
use Rattle.admission.proofs.held.is_held_at.Goals as goal

pub holds_against-requires-clause-open : goal.holds_against-requires-clause-open
holds_against-requires-clause-open c =
    let len = c.open_len.ensures.len in
    let test = c.if-place-open_len.false in
    open_there c.args.holds.now c.args.place c.open_at.result (omega (arith, test, len)) c.open_at.ensures.number

pub returns-clause-held : goal.returns-clause-held
returns-clause-held c is =
    let t = c.args.holds.now in
    let e = c.args.own in
    let place = c.args.place in
    let len = c.open_len.ensures.len in
    let test = c.if-place-open_len.false in
    let f = least_of_process t Next e in
    let behind = least_over f (drop (place + 1) t.processes) in
    let same : place + 1 - 1 ≡ place = omega arith in
    let found = c.holds_against.ensures is in
    let first = some_first found.0 behind in
    let more = process_more t Next e (place + 1) (omega arith) (omega (arith, test, len)) c.open_len.ensures.tidy.numbered c.open_at.result
    (λ d. c.open_at.ensures.number d ∙ ap (λ n. (slice_index_or t.processes n d).process) (sym same)) in
    some_among f t.processes (place + 1 - 1) first.0 (sym more ∙ ap (λ o. lesser_of o behind) found.1 ∙ first.1)
