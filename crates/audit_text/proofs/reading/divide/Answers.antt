use Rattle.std.proofs.Common.{◌≡◌, ◌+◌, ◌-◌, true, false, length, codes, sym, ap, ◌∙◌, arith}
use Rattle.process_tree.specs.Making.{same_text}
use Rattle.trace_verify.specs.Lines.{parts}
use Rattle.trace_verify.proofs.Cuts.{cut-shorter}
use Rattle.session_text.specs.Sessions.{mark_from, before_mark}
use Rattle.audit_text.specs.Logs.{log_behind}
use Rattle.session_text.proofs.Marks.{mark-here, mark-last, mark-other, no-mark, size_on}
use Rattle.audit_text.proofs.reading.divide.Goals as goal
use Rattle.audit_text.proofs.reading.divide.Goals.{then-is_word-2, else-is_word-2}

pub loop-line-smaller : goal.loop-line-smaller
loop-line-smaller c = cut-shorter 10 c.loop-line.rest.now c.in-Some.line.now c.in-Some.behind.now c.in-Some.ensures

pub loop-line-preserved : goal.loop-line-preserved
loop-line-preserved c =
    let text = c.args.text.now in
    let rest = c.loop-line.rest.now in
    let line = c.in-Some.line.now in
    let behind = c.in-Some.behind.now in
    let n = c.loop-line.first in
    let less = cut-shorter 10 rest line behind c.in-Some.ensures in
    let other : same_text line (codes "%%") ≡ false = sym c.is_word.ensures ∙ c.if-is_word.false in
    record {
      same = ap (λ size. mark_from size (n + 1) (parts 10 behind)) (sym (size_on (length text) rest line behind c.in-Some.ensures c.loop-line.invariant.left))
          ∙ (sym (mark-other (length text - length rest) n rest line behind c.in-Some.ensures other) ∙ c.loop-line.invariant.same);
      within = omega (arith, less, c.loop-line.invariant.within);
      left = omega (arith, less, c.loop-line.invariant.left);
    }

pub returns-then-is_word-clause-scenario : goal.returns-then-is_word-clause-scenario
returns-then-is_word-clause-scenario c =
    let rest = c.loop-line.rest.now in
    let mark : same_text c.in-Some.line.now (codes "%%") ≡ true = sym c.is_word.ensures ∙ c.if-is_word.true in
    let is = sym c.loop-line.invariant.same ∙ mark-here (length c.args.text.now - length rest) c.loop-line.first rest c.in-Some.line.now c.in-Some.behind.now c.in-Some.ensures mark in
    sym (ap (before_mark c.args.text.now) is)

pub returns-then-is_word-clause-lines : goal.returns-then-is_word-clause-lines
returns-then-is_word-clause-lines c = λ plans.
    let rest = c.loop-line.rest.now in
    let mark : same_text c.in-Some.line.now (codes "%%") ≡ true = sym c.is_word.ensures ∙ c.if-is_word.true in
    let is = sym c.loop-line.invariant.same ∙ mark-here (length c.args.text.now - length rest) c.loop-line.first rest c.in-Some.line.now c.in-Some.behind.now c.in-Some.ensures mark in
    sym (ap (log_behind plans) is)

pub returns-then-is_word-clause-within : goal.returns-then-is_word-clause-within
returns-then-is_word-clause-within c =
    omega (arith, cut-shorter 10 c.loop-line.rest.now c.in-Some.line.now c.in-Some.behind.now c.in-Some.ensures, c.loop-line.invariant.within)

pub returns-clause-scenario : goal.returns-clause-scenario
returns-clause-scenario c =
    let rest = c.loop-line.rest.now in
    elim c.if-is_word-2.branch [
      | then-is_word-2 w ↦
          let mark : same_text rest (codes "%%") ≡ true = sym c.is_word-2.ensures ∙ w.if-is_word-2.true in
          ap (λ s. s.now) w.scenario-is
          ∙ sym (ap (before_mark c.args.text.now) (sym c.loop-line.invariant.same ∙ mark-last (length c.args.text.now - length rest) c.loop-line.first rest c.in_default.ensures mark))
      | else-is_word-2 w ↦
          let other : same_text rest (codes "%%") ≡ false = sym c.is_word-2.ensures ∙ w.if-is_word-2.false in
          ap (λ s. s.now) w.scenario-is
          ∙ sym (ap (before_mark c.args.text.now) (sym c.loop-line.invariant.same ∙ no-mark (length c.args.text.now - length rest) c.loop-line.first rest c.in_default.ensures other))
    ]

pub returns-clause-lines : goal.returns-clause-lines
returns-clause-lines c = λ plans.
    let rest = c.loop-line.rest.now in
    elim c.if-is_word-2.branch [
      | then-is_word-2 w ↦
          let mark : same_text rest (codes "%%") ≡ true = sym c.is_word-2.ensures ∙ w.if-is_word-2.true in
          sym (ap (log_behind plans) (sym c.loop-line.invariant.same ∙ mark-last (length c.args.text.now - length rest) c.loop-line.first rest c.in_default.ensures mark))
      | else-is_word-2 w ↦
          let other : same_text rest (codes "%%") ≡ false = sym c.is_word-2.ensures ∙ w.if-is_word-2.false in
          sym (ap (log_behind plans) (sym c.loop-line.invariant.same ∙ no-mark (length c.args.text.now - length rest) c.loop-line.first rest c.in_default.ensures other))
    ]
