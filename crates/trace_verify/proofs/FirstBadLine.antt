-- The first line that isn't what its place wants.
use Rattle.std.proofs.Common.{◌≡◌, ℕ, ◌+◌, ◌≤◌, List, [], ◌∷◌, ◌++◌, length, Option, Some, None, refl, ap, ◌∙◌, arith}
use Rattle.schedule_model.specs.Reduction.{and_then}
use Rattle.trace_verify.specs.declared.section.Section.{Section}
use Rattle.trace_verify.specs.declared.section.Section.TheVariants.{Opening, Conflicts, History, Completion, Ends, Causes, Trace, Serial}
use Rattle.trace_verify.specs.Lines.{parts}
use Rattle.trace_verify.specs.Reports.{Report, unread, bad_line, at_end, on_or_bad, after_line, reading_from, reading}
use Rattle.trace_verify.specs.Laws.{read_lines, IsBad, IsBadLine}
use Rattle.trace_verify.proofs.Readings.{some_parts}

-- a text doesn't end so
end-bad : (r : Report) (n k : ℕ) (s : Section) (rest : List ℕ) → at_end r n s rest ≡ bad_line k → (n ≡ k) × ¬ ((s ≡ Serial) × (rest ≡ []))
end-bad r n k Serial [] e = absurd (cc)
end-bad r n k Serial (b ∷ bs) e = (cc, λ p. let none : b ∷ bs ≡ [] = p.1 in cc)
end-bad r n k Opening rest e = (cc, λ p. let other : Opening ≡ Serial = p.0 in cc)
end-bad r n k Conflicts rest e = (cc, λ p. let other : Conflicts ≡ Serial = p.0 in cc)
end-bad r n k History rest e = (cc, λ p. let other : History ≡ Serial = p.0 in cc)
end-bad r n k Completion rest e = (cc, λ p. let other : Completion ≡ Serial = p.0 in cc)
end-bad r n k Ends rest e = (cc, λ p. let other : Ends ≡ Serial = p.0 in cc)
end-bad r n k Causes rest e = (cc, λ p. let other : Causes ≡ Serial = p.0 in cc)
end-bad r n k Trace rest e = (cc, λ p. let other : Trace ≡ Serial = p.0 in cc)

-- of these lines, of which the first has number n, line k is the first bad one
record FirstBad (r : Report) (n : ℕ) (lines : List (List ℕ)) (k : ℕ) : Type 0 where
  before : List (List ℕ)
  line : List ℕ
  behind : List (List ℕ)
  split : lines ≡ before ++ line ∷ behind
  counted : k ≡ length before + n
  report : Report
  read : read_lines r before ≡ Some report
  bad : IsBad report line behind

bad-at : (r : Report) (n : ℕ) (lines : List (List ℕ)) (k : ℕ) → 1 ≤ length lines → reading_from r n lines ≡ bad_line k → FirstBad r n lines k
bad-at r n [] k some e = absurd (omega arith)
bad-at r n (line ∷ []) k some e =
    let ends = end-bad r n k r.section line e in
    record { before = []; line = line; behind = []; split = refl; counted = omega (arith, ends.0); report = r; read = refl; bad = ends.1 }
bad-at r n (line ∷ next ∷ lines) k some e = by (after_line r line) refl (λ s f. bad-at s (n + 1) (next ∷ lines) k (omega arith) f) e
  where
    by : (o : Option Report) → after_line r line ≡ o → ((s : Report) → reading_from s (n + 1) (next ∷ lines) ≡ bad_line k → FirstBad s (n + 1) (next ∷ lines) k)
        → on_or_bad n (λ s. reading_from s (n + 1) (next ∷ lines)) o ≡ bad_line k → FirstBad r n (line ∷ next ∷ lines) k
    by None is rest f =
        let same : n ≡ k = cc in
        record { before = []; line = line; behind = next ∷ lines; split = refl; counted = omega (arith, same); report = r; read = refl; bad = is }
    by (Some s) is rest f =
        let later = rest s f in
        record {
          before = line ∷ later.before;
          line = later.line;
          behind = later.behind;
          split = ap (λ ls. line ∷ ls) later.split;
          counted = omega (arith, later.counted);
          report = later.report;
          read = ap (λ o. and_then o (λ t. read_lines t later.before)) is ∙ later.read;
          bad = later.bad;
        }

pub bad-line : (text : List ℕ) (n : ℕ) → reading text ≡ bad_line n → IsBadLine text n
bad-line text n e =
    let first = bad-at unread 1 (parts 10 text) n (some_parts 10 text) e in
    record {
      before = first.before;
      line = first.line;
      behind = first.behind;
      lines = first.split;
      counted = first.counted;
      report = first.report;
      read = first.read;
      bad = first.bad;
    }
