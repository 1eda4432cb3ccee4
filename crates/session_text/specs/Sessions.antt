-- What a text says to a session.
use Rattle.std.specs.Prelude.{◌≡◌, ℕ, ◌+◌, List, [], ◌∷◌, ◌++◌, length, take, Option, Some, None, Result, Ok, Err, ⊤, codes}
use Rattle.std.specs.Prelude.{if◌then◌else◌}
use Rattle.std.specs.Prelude.{Vec}
use Rattle.std.specs.declared.alloc.Global.{Global}
use Rattle.process_tree.specs.Making.{same_text}
use Rattle.trace_verify.specs.Lines.{parts}
use Rattle.session_text.specs.declared.line.Line.{Line}
use Rattle.session_text.specs.declared.line.Line.TheVariants.{Start, Admit, Next, Finish, Queue, Flush, Abort, Show, Stop}
use Rattle.session_text.specs.declared.line.LinesError.{LinesError}
use Rattle.session_text.specs.declared.line.LinesError.TheVariants.{BadLine, NoMemory}
use Rattle.session_text.specs.Forms.{line_of}

-- The first line that is `%%`: how many bytes stand before it, its number, and the lines behind it.
pub record Mark : Type 0 where
  pub size : ℕ
  pub number : ℕ
  pub lines : List (List ℕ)

-- the same of these lines, before which so many bytes stand, and of which the first has the number n
abbrev pub mark_from : ℕ → ℕ → List (List ℕ) → Option Mark
mark_from size n [] = None
mark_from size n (line ∷ lines) =
    if same_text line (codes "%%") then Some (record { size = size; number = n; lines = lines })
    else mark_from (size + length line + 1) (n + 1) lines

-- of a text
abbrev pub mark_of : List ℕ → Option Mark
mark_of text = mark_from 0 1 (parts 10 text)

-- the scenario: what stands before the mark, or all where there is none
abbrev pub before_mark : List ℕ → Option Mark → List ℕ
before_mark text None = text
before_mark text (Some m) = take m.size text

abbrev pub scenario_of : List ℕ → List ℕ
scenario_of text = before_mark text (mark_of text)

-- what lines say in order, or the number of the first that has no form
abbrev pub Said : Type 0
Said = Result (List Line) ℕ

-- one line more in front
abbrev pub with_line : Line → Said → Said
with_line l (Ok ls) = Ok (l ∷ ls)
with_line l (Err n) = Err n

-- a line, and then what the others say; those behind `stop` are not looked at
abbrev pub line_then : ℕ → Said → Option Line → Said
line_then n rest None = Err n
line_then n rest (Some Stop) = Ok []
line_then n rest (Some (Start name)) = with_line (Start name) rest
line_then n rest (Some (Admit i)) = with_line (Admit i) rest
line_then n rest (Some Next) = with_line Next rest
line_then n rest (Some (Finish k outcome)) = with_line (Finish k outcome) rest
line_then n rest (Some (Queue k outcome)) = with_line (Queue k outcome) rest
line_then n rest (Some Flush) = with_line Flush rest
line_then n rest (Some (Abort i)) = with_line (Abort i) rest
line_then n rest (Some Show) = with_line Show rest

-- an empty line is passed over
abbrev pub unless_empty : List ℕ → ℕ → Said → Said
unless_empty [] n rest = rest
unless_empty (c ∷ cs) n rest = line_then n rest (line_of (c ∷ cs))

-- of these lines the first has the number n
abbrev pub said_from : ℕ → List (List ℕ) → Said
said_from n [] = Ok []
said_from n (line ∷ lines) = unless_empty line n (said_from (n + 1) lines)

-- what the lines behind the mark say; without a mark there are none
abbrev pub said_behind : Option Mark → Said
said_behind None = Ok []
said_behind (Some m) = said_from (m.number + 1) m.lines

-- what a text says
abbrev pub said : List ℕ → Said
said text = said_behind (mark_of text)

-- more lines in front
abbrev pub after : List Line → Said → Said
after done (Ok ls) = Ok (done ++ ls)
after done (Err n) = Err n

-- what is answered of lines; want of memory is free
abbrev pub Answers : Said → Result (Vec Line Global) LinesError → Type 0
Answers lines (Ok ls) = lines ≡ Ok ls.items
Answers lines (Err (BadLine n)) = lines ≡ Err n
Answers lines (Err NoMemory) = ⊤
