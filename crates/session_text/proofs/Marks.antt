-- Where the mark of a text stands, and what lines say, line by line.
use Rattle.std.proofs.Common.{◌≡◌, ℕ, ◌+◌, ◌-◌, ◌≤◌, true, false, List, [], length, Some, None, Ok, ap, ◌∙◌, arith, codes, if◌then◌else◌}
use Rattle.process_tree.specs.Making.{same_text}
use Rattle.trace_verify.specs.Lines.{parts, cut}
use Rattle.trace_verify.proofs.Cuts.{parts-none, parts-some}
use Rattle.session_text.specs.Sessions.{mark_from, said_from, unless_empty}
use Rattle.session_text.proofs.Cuts.{cut-length}

-- by the first line, where another follows
pub mark-line : (size n : ℕ) (text line behind : List ℕ) → cut 10 text ≡ Some (line, behind)
    → mark_from size n (parts 10 text) ≡ (if same_text line (codes "%%") then Some (record { size = size; number = n; lines = parts 10 behind }) else mark_from (size + length line + 1) (n + 1) (parts 10 behind))
mark-line size n text line behind is = ap (mark_from size n) (parts-some 10 text line behind is)

-- by the last line
pub mark-end : (size n : ℕ) (text : List ℕ) → cut 10 text ≡ None
    → mark_from size n (parts 10 text) ≡ (if same_text text (codes "%%") then Some (record { size = size; number = n; lines = [] }) else None)
mark-end size n text is = ap (mark_from size n) (parts-none 10 text is)

-- how much stands before the next line
pub size_on : (whole : ℕ) (text line behind : List ℕ) → cut 10 text ≡ Some (line, behind) → length text ≤ whole → whole - length text + length line + 1 ≡ whole - length behind
size_on whole text line behind is within = omega (arith, cut-length 10 text line behind is, within)

-- what lines say, by the first
pub said-line : (n : ℕ) (text line behind : List ℕ) → cut 10 text ≡ Some (line, behind) → said_from n (parts 10 text) ≡ unless_empty line n (said_from (n + 1) (parts 10 behind))
said-line n text line behind is = ap (said_from n) (parts-some 10 text line behind is)

-- and by the last
pub said-end : (n : ℕ) (text : List ℕ) → cut 10 text ≡ None → said_from n (parts 10 text) ≡ unless_empty text n (Ok [])
said-end n text is = ap (said_from n) (parts-none 10 text is)

-- what comes of the mark where the first line is no mark, or is it
pub mark-other : (size n : ℕ) (text line behind : List ℕ) → cut 10 text ≡ Some (line, behind) → same_text line (codes "%%") ≡ false
    → mark_from size n (parts 10 text) ≡ mark_from (size + length line + 1) (n + 1) (parts 10 behind)
mark-other size n text line behind is other =
    mark-line size n text line behind is
    ∙ ap (λ b. if b then Some (record { size = size; number = n; lines = parts 10 behind }) else mark_from (size + length line + 1) (n + 1) (parts 10 behind)) other

pub mark-here : (size n : ℕ) (text line behind : List ℕ) → cut 10 text ≡ Some (line, behind) → same_text line (codes "%%") ≡ true
    → mark_from size n (parts 10 text) ≡ Some (record { size = size; number = n; lines = parts 10 behind })
mark-here size n text line behind is mark =
    mark-line size n text line behind is
    ∙ ap (λ b. if b then Some (record { size = size; number = n; lines = parts 10 behind }) else mark_from (size + length line + 1) (n + 1) (parts 10 behind)) mark

-- and the same of the last line
pub no-mark : (size n : ℕ) (text : List ℕ) → cut 10 text ≡ None → same_text text (codes "%%") ≡ false → mark_from size n (parts 10 text) ≡ None
no-mark size n text is other = mark-end size n text is ∙ ap (λ b. if b then Some (record { size = size; number = n; lines = [] }) else None) other

pub mark-last : (size n : ℕ) (text : List ℕ) → cut 10 text ≡ None → same_text text (codes "%%") ≡ true → mark_from size n (parts 10 text) ≡ Some (record { size = size; number = n; lines = [] })
mark-last size n text is mark = mark-end size n text is ∙ ap (λ b. if b then Some (record { size = size; number = n; lines = [] }) else None) mark
