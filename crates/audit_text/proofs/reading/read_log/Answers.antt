use Rattle.std.proofs.Common.{◌≡◌, ◌∙◌, ◌+◌, [], None, Some, sym, ap, arith, rules}
use Rattle.trace_verify.specs.Lines.{parts}
use Rattle.trace_verify.proofs.Cuts.{cut-shorter, parts-none, parts-some}
use Rattle.audit_text.specs.Logs.{after_line, log_from, nothing, on_or_bad}
use Rattle.audit_text.proofs.Readings.{bad_answer}
use Rattle.audit_text.proofs.Soundness.{log_sound}
use Rattle.audit_text.proofs.reading.read_log.Goals as goal

pub loop-line-smaller : goal.loop-line-smaller
loop-line-smaller c = cut-shorter 10 c.loop-line.rest.now c.in-Some.line.now c.in-Some.behind.now c.in-Some.ensures

pub loop-line-preserved : goal.loop-line-preserved
loop-line-preserved c =
    let n = c.loop-line.number in
    let plans = c.args.plans.now in
    let line = c.in-Some.line.now in
    let behind = c.in-Some.behind.now in
    let taken : after_line plans c.loop-line.log line ≡ Some c.take_line.new.self = search rules in
    record {
      same = sym (ap (on_or_bad n (λ m. log_from plans m (n + 1) (parts 10 behind))) taken)
          ∙ (sym (ap (log_from plans c.loop-line.log n) (parts-some 10 c.loop-line.rest.now line behind c.in-Some.ensures)) ∙ c.loop-line.invariant.same);
      within = omega (arith, cut-shorter 10 c.loop-line.rest.now line behind c.in-Some.ensures, c.loop-line.invariant.within);
    }

pub returns-then-not-branch-clause-bad : goal.returns-then-not-branch-clause-bad
returns-then-not-branch-clause-bad c =
    let n = c.loop-line.number in
    let plans = c.args.plans.now in
    let line = c.in-Some.line.now in
    let behind = c.in-Some.behind.now in
    let none : after_line plans c.loop-line.log line ≡ None = search rules in
    let said = ap (log_from plans c.loop-line.log n) (parts-some 10 c.loop-line.rest.now line behind c.in-Some.ensures)
    ∙ ap (on_or_bad n (λ m. log_from plans m (n + 1) (parts 10 behind))) none in
    bad_answer (log_from plans nothing c.args.first (parts 10 c.args.text.now)) n c.bad_line.result (sym c.loop-line.invariant.same ∙ said) c.bad_line.ensures

pub returns-then-not-branch-2-clause-bad : goal.returns-then-not-branch-2-clause-bad
returns-then-not-branch-2-clause-bad c =
    let n = c.loop-line.number in
    let plans = c.args.plans.now in
    let rest = c.loop-line.rest.now in
    let none : after_line plans c.loop-line.log rest ≡ None = search rules in
    let said = ap (log_from plans c.loop-line.log n) (parts-none 10 rest c.in_default.ensures) ∙ ap (on_or_bad n (λ m. log_from plans m (n + 1) [])) none in
    bad_answer (log_from plans nothing c.args.first (parts 10 c.args.text.now)) n c.bad_line-then-not-branch-2.result (sym c.loop-line.invariant.same ∙ said)
    c.bad_line-then-not-branch-2.ensures

pub returns-clause-log : goal.returns-clause-log
returns-clause-log c =
    let n = c.loop-line.number in
    let plans = c.args.plans.now in
    let rest = c.loop-line.rest.now in
    let taken : after_line plans c.loop-line.log rest ≡ Some c.take_line-2.new.self = search rules in
    sym c.loop-line.invariant.same
    ∙ (ap (log_from plans c.loop-line.log n) (parts-none 10 rest c.in_default.ensures) ∙ ap (on_or_bad n (λ m. log_from plans m (n + 1) [])) taken)

pub returns-clause-sound : goal.returns-clause-sound
returns-clause-sound c = λ operations good.
    let n = c.loop-line.number in
    let plans = c.args.plans.now in
    let rest = c.loop-line.rest.now in
    let taken : after_line plans c.loop-line.log rest ≡ Some c.take_line-2.new.self = search rules in
    let said = sym c.loop-line.invariant.same
    ∙ (ap (log_from plans c.loop-line.log n) (parts-none 10 rest c.in_default.ensures) ∙ ap (on_or_bad n (λ m. log_from plans m (n + 1) [])) taken) in
    log_sound operations plans good c.args.first (parts 10 c.args.text.now) c.take_line-2.new.self said
