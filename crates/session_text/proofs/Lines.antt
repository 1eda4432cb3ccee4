-- What is answered of lines, one after another.
use Rattle.std.proofs.Common.{◌≡◌, ◌⊎◌, ℕ, Bool, true, false, if◌then◌else◌, List, [], ◌∷◌, Some, Ok, Err, refl, sym, ap, subst, ◌∙◌, inl, inr, append-nil}
use Rattle.session_text.specs.declared.line.Line.{Line}
use Rattle.session_text.specs.declared.line.LinesError.{LinesError}
use Rattle.session_text.specs.declared.line.LinesError.TheVariants.{BadLine, NoMemory}
use Rattle.session_text.specs.Forms.{line_of}
use Rattle.session_text.specs.Sessions.{Said, after, line_then, unless_empty, Answers}

-- a line that isn't empty
pub line-some : (line : List ℕ) (n : ℕ) (rest : Said) (l : Line) → (line ≡ [] → ⊥) → line_of line ≡ Some l → unless_empty line n rest ≡ line_then n rest (Some l)
line-some [] n rest l some is = absurd (some refl)
line-some (c ∷ cs) n rest l some is = ap (line_then n rest) is

-- the first line without a form is told
pub bad_answers : (all : Said) (lines : List Line) (line : List ℕ) (n : ℕ) (rest : Said) (e : LinesError) → after lines (unless_empty line n rest) ≡ all
    → (e ≡ NoMemory) ⊎ ((e ≡ BadLine n) × ((rest : Said) → unless_empty line n rest ≡ Err n)) → Answers all (Err e)
bad_answers all lines line n rest e same (inl memory) = subst (λ (x : LinesError). Answers all (Err x)) (sym memory) tt
bad_answers all lines line n rest e same (inr bad) =
    subst (λ (x : LinesError). Answers all (Err x)) (sym bad.0) (sym same ∙ ap (after lines) (bad.1 rest))

-- behind the last line there is nothing more, whether or not it was looked at
pub ended : (on : Bool) (ls : List Line) → (if on then after ls (Ok []) else Ok ls) ≡ Ok ls
ended true ls = ap Ok (append-nil ls)
ended false ls = refl
