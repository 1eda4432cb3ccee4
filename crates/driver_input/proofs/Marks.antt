-- Where the mark of a text stands, or where it can't stand.
use Rattle.std.proofs.Common.{◌≡◌, ℕ, ◌+◌, ◌≤◌, ◌<◌, Bool, true, false, List, [], ◌∷◌, ◌++◌, length, Option, Some, None, codes, if◌then◌else◌, refl, sym, ap, ◌∙◌, arith, length-append}
use Rattle.std.specs.Cmp.Lexicographic as texts
use Rattle.std.proofs.lemmas.List.{length-take}
use Rattle.process_tree.specs.Making.{same_text}
use Rattle.trace_verify.specs.Lines.{Parts, cut, parts}
use Rattle.session_text.specs.Sessions.{Mark, mark_from, mark_of, before_mark, scenario_of}
use Rattle.session_text.proofs.Marks.{mark-other, no-mark}
use Rattle.line_reader.proofs.Cuts.{cut-behind, cut-nowhere}

-- it stands among the lines, not before them
pub mark-among : (size n : ℕ) (lines : List (List ℕ)) (m : Mark) → mark_from size n lines ≡ Some m → size ≤ m.size
mark-among size n [] m e = absurd (cc)
mark-among size n (line ∷ lines) m e = by (same_text line (codes "%%")) (mark-among (size + length line + 1) (n + 1) lines m) e
  where
    by : (t : Bool) → (mark_from (size + length line + 1) (n + 1) lines ≡ Some m → size + length line + 1 ≤ m.size)
        → (if t then Some (record { size = size; number = n; lines = lines }) else mark_from (size + length line + 1) (n + 1) lines) ≡ Some m → size ≤ m.size
    by true later f =
        let same : record { size = size; number = n; lines = lines } ≡ m = cc in
        let sizes : size ≡ m.size = ap (λ k. k.size) same in
        omega arith
    by false later f = let less = later f in omega (arith, less)

-- a line of more bytes than the mark has isn't the mark
pub no_mark_if_long : (line : List ℕ) → 2 < length line → same_text line (codes "%%") ≡ false
no_mark_if_long line long = by (same_text line (codes "%%")) refl
  where
    by : (t : Bool) → same_text line (codes "%%") ≡ t → t ≡ false
    by true is = let two : length line ≡ 2 = ap length (texts.same_text line (codes "%%") (sym is)) in absurd (omega arith)
    by false is = refl

-- it stands behind a long line
pub mark-behind_long : (size n : ℕ) (front rest : List ℕ) (m : Mark) → cut 10 front ≡ None → 2 < length front → mark_from size n (parts 10 (front ++ rest)) ≡ Some m → length front ≤ m.size
mark-behind_long size n front rest m none long e = by (cut 10 rest) refl
  where
    by : (o : Option Parts) → cut 10 rest ≡ o → length front ≤ m.size
    by None is =
        let other = no_mark_if_long (front ++ rest) (omega (arith, length-append front rest)) in
        let nowhere : mark_from size n (parts 10 (front ++ rest)) ≡ None = no-mark size n (front ++ rest) (cut-nowhere 10 front rest none is) other in
        absurd (cc)
    by (Some p) is =
        let other = no_mark_if_long (front ++ p.0) (omega (arith, length-append front p.0)) in
        let on = mark-other size n (front ++ rest) (front ++ p.0) p.1 (cut-behind 10 front rest p.0 p.1 none is) other in
        omega (arith, length-append front p.0, mark-among (size + length (front ++ p.0) + 1) (n + 1) (parts 10 p.1) m (sym on ∙ e))

-- the scenario has so many bytes where the text has them, and no mark stands before
pub scenario-at_least : (text : List ℕ) (k : ℕ) → k ≤ length text → ((m : Mark) → mark_of text ≡ Some m → k ≤ m.size) → k ≤ length (scenario_of text)
scenario-at_least text k all before = by (mark_of text) before
  where
    by : (o : Option Mark) → ((m : Mark) → o ≡ Some m → k ≤ m.size) → k ≤ length (before_mark text o)
    by None before = all
    by (Some m) before = omega (arith, before m refl, length-take m.size text)
