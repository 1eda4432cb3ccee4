-- Texts of lines, read.
use Rattle.std.proofs.Common.{◌≡◌, ℕ, ◌+◌, true, List, [], ◌∷◌, ◌++◌, append_assoc, append-nil, map, Some, sym, refl, ap, ◌∙◌}
use Rattle.process_text.specs.Canonical.{line_of}
use Rattle.trace_verify.specs.Lines.{parts, cut}
use Rattle.trace_verify.specs.Reports.{Report, after_line, on_or_bad, reading_from}
use Rattle.trace_verify.proofs.Readings.{reading-line}
use Rattle.process_report.specs.Lines.{Line, text_of}
use Rattle.process_report.specs.Blocks.{joined}
use Rattle.process_report.proofs.Plain.{lacks, cut-at}

-- this text brings what is read so far to that
abbrev pub Reads : Report → List ℕ → Report → Type 0
Reads r text s = (n : ℕ) (rest : List ℕ) → (m : ℕ) × (reading_from r n (parts 10 (text ++ rest)) ≡ reading_from s m (parts 10 rest))

pub reads-then : (r s v : Report) (t u : List ℕ) → Reads r t s → Reads s u v → Reads r (t ++ u) v
reads-then r s v t u first second n rest =
    let one = first n (u ++ rest) in
    let two = second one.0 rest in
    (two.0, ap (λ x. reading_from r n (parts 10 x)) (append_assoc t u rest) ∙ (one.1 ∙ two.1))

-- a line is its words and a line feed
pub line-is : (ws : Line) → line_of ws ≡ (joined ws) ++ (10 ∷ [])
line-is [] = refl
line-is (w ∷ ws) = refl

-- a line that is taken
pub reads-line : (r s : Report) (ws : Line) → lacks 10 (joined ws) ≡ true → after_line r (joined ws) ≡ Some s → Reads r (line_of ws) s
reads-line r s ws free taken n rest =
    let whole : line_of ws ++ rest ≡ joined ws ++ 10 ∷ rest = ap (λ t. t ++ rest) (line-is ws) ∙ append_assoc (joined ws) (10 ∷ []) rest in (
      n + 1,
      reading-line r n (line_of ws ++ rest) (joined ws) rest (ap (cut 10) whole ∙ cut-at 10 (joined ws) rest free)
          ∙ ap (on_or_bad n (λ x. reading_from x (n + 1) (parts 10 rest))) taken,
    )

module _ {X : Type 0} (f : X → Line) (state : List X → Report) (all : List X) where
  -- lines that are taken one after another
  pub reads-each : (step : (done : List X) (x : X) (after : List X) → all ≡ done ++ x ∷ after → Reads (state done) (line_of (f x)) (state (done ++ x ∷ [])))
      → (done rest : List X) → all ≡ done ++ rest → Reads (state done) (text_of (map f rest)) (state all)
  reads-each step done [] is = λ n rest. (n, ap (λ xs. reading_from (state xs) n (parts 10 rest)) (sym (is ∙ append-nil done)))
  reads-each step done (x ∷ after) is =
      reads-then (state done) (state (done ++ x ∷ [])) (state all) (line_of (f x)) (text_of (map f after)) (step done x after is)
      (reads-each step (done ++ x ∷ []) after (is ∙ sym (append_assoc done (x ∷ []) after)))
