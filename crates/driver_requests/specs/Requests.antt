-- The forms of the lines of a driver: those of a session, and some more. One space stands between two words of a line.
use Rattle.std.specs.Prelude.{ℕ, List, Bool, ◌&&◌, if◌then◌else◌, Option, Some, None, codes}
use Rattle.process_tree.specs.Name.{is_name}
use Rattle.process_tree.specs.Making.{same_text}
use Rattle.trace_verify.specs.Lines.{Parts, cut, of_both, both_pass}
use Rattle.trace_verify.specs.Forms.{number_of}
use Rattle.session_text.specs.declared.line.Line.{Line}
use Rattle.session_text.specs.Forms.{line_of}
use Rattle.driver_requests.specs.declared.request.Request.{Request}
use Rattle.driver_requests.specs.declared.request.Request.TheVariants.{Session, StartSpelled, Pieces, Waits, Happened, Started}

-- a process and the name of a step
abbrev pub happened : List ℕ → ℕ → Option Request
happened step i = if is_name step then Some (Happened i step) else None

-- the same, if the first is a number
abbrev pub happened_by : List ℕ → Option ℕ → Option Request
happened_by step None = None
happened_by step (Some i) = happened step i

-- `I.STEP`
abbrev pub happened_of : List ℕ → Option Request
happened_of text = of_both (λ process step. happened_by step (number_of process)) (cut 46 text)

-- `NAME`
abbrev pub started_of : List ℕ → Option Request
started_of text = if is_name text then Some (Started text) else None

-- the text begins with the word `process` and has more words: whether these are a process is not asked here
abbrev pub is_spelled : List ℕ → Bool
is_spelled text = both_pass (λ word rest. same_text word (codes "process")) (cut 32 text)

-- `done I.STEP`, `started NAME`, or `start process NAME .. end`, by its first word and the rest
abbrev pub more_words : List ℕ → List ℕ → Option Request
more_words word rest =
    if same_text word (codes "done") then happened_of rest
    else (if same_text word (codes "started") then started_of rest
    else (if same_text word (codes "start") && is_spelled rest then Some StartSpelled else None))

-- `pieces` or `waits`
abbrev pub one_word : List ℕ → Option Request
one_word word = if same_text word (codes "pieces") then Some Pieces else (if same_text word (codes "waits") then Some Waits else None)

-- a line that no session has, cut behind its first word if it has more
abbrev pub own_line : List ℕ → Option Parts → Option Request
own_line line None = one_word line
own_line line (Some p) = more_words p.0 p.1

-- a line of a session, or else one of a driver's own
abbrev pub by_session : List ℕ → Option Line → Option Request
by_session line (Some l) = Some (Session l)
by_session line None = own_line line (cut 32 line)

-- what a line asks for, if it has a form
abbrev pub request_of : List ℕ → Option Request
request_of line = by_session line (line_of line)
