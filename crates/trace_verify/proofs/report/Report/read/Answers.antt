use Rattle.std.proofs.Common.{◌≡◌, ◌∙◌, ◌+◌, sym, ap, arith, rules, Some, None, if◌then◌else◌}
use Rattle.trace_verify.specs.Lines.{parts}
use Rattle.trace_verify.specs.Reports.{reading_from, on_or_bad, after_line, whole, bad_line, at_end}
use Rattle.trace_verify.proofs.Cuts.{cut-shorter}
use Rattle.trace_verify.proofs.Readings.{reading-line, reading-end}
use Rattle.trace_verify.proofs.report.Report.read.Goals as goal

pub loop-line-smaller : goal.loop-line-smaller
loop-line-smaller c = cut-shorter 10 c.loop-line.rest.now c.in-Some.line.now c.in-Some.behind.now c.in-Some.ensures

pub loop-line-preserved : goal.loop-line-preserved
loop-line-preserved c =
    let n = c.loop-line.number in
    let line = c.in-Some.line.now in
    let behind = c.in-Some.behind.now in
    let taken : after_line c.loop-line.self line ≡ Some c.take_line.new.self = search rules in
    let less = cut-shorter 10 c.loop-line.rest.now line behind c.in-Some.ensures in
    record {
      same = sym (ap (on_or_bad n (λ s. reading_from s (n + 1) (parts 10 behind))) taken)
          ∙ (sym (reading-line c.loop-line.self n c.loop-line.rest.now line behind c.in-Some.ensures) ∙ c.loop-line.invariant.same);
      within = omega (arith, less, c.loop-line.invariant.within);
    }

pub returns-then-not-branch : goal.returns-then-not-branch
returns-then-not-branch c =
    let n = c.loop-line.number in
    let line = c.in-Some.line.now in
    let behind = c.in-Some.behind.now in
    let none : after_line c.loop-line.self line ≡ None = search rules in
    sym c.loop-line.invariant.same
    ∙ (reading-line c.loop-line.self n c.loop-line.rest.now line behind c.in-Some.ensures
    ∙ ap (on_or_bad n (λ s. reading_from s (n + 1) (parts 10 behind))) none)

pub returns-then-may_end : goal.returns-then-may_end
returns-then-may_end c =
    let r = c.loop-line.self in
    let n = c.loop-line.number in
    let rest = c.loop-line.rest.now in
    let same = ap (λ s. s.section) c.self.view_is in
    sym c.loop-line.invariant.same
    ∙ (reading-end r n rest c.in_default.ensures
    ∙ (ap (λ s. at_end r n s rest) (sym same)
    ∙ (c.may_end.ensures r n ∙ ap (λ b. if b then whole r else bad_line n) c.if-may_end.true)))

pub returns : goal.returns
returns c =
    let r = c.loop-line.self in
    let n = c.loop-line.number in
    let rest = c.loop-line.rest.now in
    let same = ap (λ s. s.section) c.self.view_is in
    sym c.loop-line.invariant.same
    ∙ (reading-end r n rest c.in_default.ensures
    ∙ (ap (λ s. at_end r n s rest) (sym same)
    ∙ (c.may_end.ensures r n ∙ ap (λ b. if b then whole r else bad_line n) c.if-may_end.false)))
