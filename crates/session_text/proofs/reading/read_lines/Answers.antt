use Rattle.std.proofs.Common.{◌≡◌, ◌+◌, [], Ok, Err, if◌then◌else◌, sym, ap, ◌∙◌, arith, rules}
use Rattle.trace_verify.specs.Lines.{parts}
use Rattle.trace_verify.proofs.Cuts.{cut-shorter}
use Rattle.session_text.specs.Sessions.{after, said_from}
use Rattle.session_text.proofs.Marks.{said-end, said-line}
use Rattle.session_text.proofs.Lines.{bad_answers, ended}
use Rattle.session_text.proofs.reading.read_lines.Goals as goal

pub loop-line-smaller : goal.loop-line-smaller
loop-line-smaller c = cut-shorter 10 c.loop-line.rest.now c.in-Some.line.now c.in-Some.behind.now c.in-Some.ensures

pub loop-line-preserved : goal.loop-line-preserved
loop-line-preserved c =
    let n = c.loop-line.number in
    let line = c.in-Some.line.now in
    let rest = said_from (n + 1) (parts 10 c.in-Some.behind.now) in
    let new = c.read_line.new.lines.items in
    let same = ap (after c.loop-line.lines.items) (sym (said-line n c.loop-line.rest.now line c.in-Some.behind.now c.in-Some.ensures)) ∙ c.loop-line.invariant.same in
    record {
      same = sym (c.in_ok-read_line.ensures.on rest ∙ ap (λ b. if b then after new rest else Ok new) c.if-not-branch.false) ∙ same;
      within = omega (arith, cut-shorter 10 c.loop-line.rest.now line c.in-Some.behind.now c.in-Some.ensures, c.loop-line.invariant.within);
    }

pub returns-in_err-read_line : goal.returns-in_err-read_line
returns-in_err-read_line c =
    let n = c.loop-line.number in
    let line = c.in-Some.line.now in
    let rest = said_from (n + 1) (parts 10 c.in-Some.behind.now) in
    let lines = c.loop-line.lines.items in
    let same = ap (after lines) (sym (said-line n c.loop-line.rest.now line c.in-Some.behind.now c.in-Some.ensures)) ∙ c.loop-line.invariant.same in
    let failed : c.from_residual.result ≡ Err c.in_err-read_line.field-0.0 = search rules in
    rw failed (bad_answers (said_from c.args.first (parts 10 c.args.text.now)) lines line n rest c.in_err-read_line.field-0.0 same c.in_err-read_line.ensures.bad)

pub returns-then-not-branch : goal.returns-then-not-branch
returns-then-not-branch c =
    let n = c.loop-line.number in
    let line = c.in-Some.line.now in
    let rest = said_from (n + 1) (parts 10 c.in-Some.behind.now) in
    let new = c.read_line.new.lines.items in
    let same = ap (after c.loop-line.lines.items) (sym (said-line n c.loop-line.rest.now line c.in-Some.behind.now c.in-Some.ensures)) ∙ c.loop-line.invariant.same in
    sym same ∙ (c.in_ok-read_line.ensures.on rest ∙ ap (λ b. if b then after new rest else Ok new) c.if-not-branch.true)

pub returns-in_err-read_line-2 : goal.returns-in_err-read_line-2
returns-in_err-read_line-2 c =
    let n = c.loop-line.number in
    let line = c.loop-line.rest.now in
    let lines = c.loop-line.lines.items in
    let same = ap (after lines) (sym (said-end n line c.in_default.ensures)) ∙ c.loop-line.invariant.same in
    let failed : c.from_residual-in_err-read_line-2.result ≡ Err c.in_err-read_line-2.field-0.0 = search rules in
    rw failed (bad_answers (said_from c.args.first (parts 10 c.args.text.now)) lines line n (Ok []) c.in_err-read_line-2.field-0.0 same c.in_err-read_line-2.ensures.bad)

pub returns : goal.returns
returns c =
    let n = c.loop-line.number in
    let line = c.loop-line.rest.now in
    let lines = c.loop-line.lines.items in
    let same = ap (after lines) (sym (said-end n line c.in_default.ensures)) ∙ c.loop-line.invariant.same in
    sym same ∙ (c.in_ok-read_line-2.ensures.on (Ok []) ∙ ended c.in_ok-read_line-2.field-0 c.read_line-2.new.lines.items)
