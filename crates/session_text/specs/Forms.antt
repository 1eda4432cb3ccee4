-- The forms of the lines of a session. One space stands between two words of a line.
use Rattle.std.specs.Prelude.{ℕ, List, if◌then◌else◌, Option, Some, None, codes}
use Rattle.std.specs.Option.{option_map}
use Rattle.process_tree.specs.Name.{is_name}
use Rattle.process_tree.specs.Making.{same_text}
use Rattle.process_tree.specs.declared.play.Outcome.{Outcome}
use Rattle.process_tree.specs.declared.play.Outcome.TheVariants.{Done, Refused}
use Rattle.trace_verify.specs.Lines.{Parts, cut, of_both}
use Rattle.trace_verify.specs.Forms.{number_of}
use Rattle.session_text.specs.declared.line.Line.{Line}
use Rattle.session_text.specs.declared.line.Line.TheVariants.{Start, Admit, Next, Finish, Queue, Flush, Abort, Show, Stop}

-- `next`, `flush`, `show` or `stop`
abbrev pub one_word : List ℕ → Option Line
one_word w =
    if same_text w (codes "next") then Some Next
    else (if same_text w (codes "flush") then Some Flush
    else (if same_text w (codes "show") then Some Show
    else (if same_text w (codes "stop") then Some Stop else None)))

-- `done` or `refused`
abbrev pub outcome_of : List ℕ → Option Outcome
outcome_of w = if same_text w (codes "done") then Some Done else (if same_text w (codes "refused") then Some Refused else None)

-- both, if they are there
abbrev pub both : Option ℕ → Option Outcome → Option (ℕ × Outcome)
both None outcome = None
both (Some n) None = None
both (Some n) (Some outcome) = Some (n, outcome)

-- `N done` or `N refused`
abbrev pub end_of : List ℕ → Option (ℕ × Outcome)
end_of text = of_both (λ n outcome. both (number_of n) (outcome_of outcome)) (cut 32 text)

-- the same, behind `finish`
abbrev pub finish_of : List ℕ → Option Line
finish_of text = option_map (λ e. Finish e.0 e.1) (end_of text)

-- and behind `queue`
abbrev pub queue_of : List ℕ → Option Line
queue_of text = option_map (λ e. Queue e.0 e.1) (end_of text)

-- a name
abbrev pub start_of : List ℕ → Option Line
start_of name = if is_name name then Some (Start name) else None

-- `start NAME`, `admit I`, `abort I`, and `finish` or `queue` with `N done` or `N refused`, by its first word and the rest
abbrev pub more_words : List ℕ → List ℕ → Option Line
more_words word rest =
    if same_text word (codes "start") then start_of rest
    else (if same_text word (codes "admit") then option_map Admit (number_of rest)
    else (if same_text word (codes "abort") then option_map Abort (number_of rest)
    else (if same_text word (codes "finish") then finish_of rest
    else (if same_text word (codes "queue") then queue_of rest else None))))

-- a line, cut behind its first word if it has more
abbrev pub line_by : List ℕ → Option Parts → Option Line
line_by line None = one_word line
line_by line (Some p) = more_words p.0 p.1

-- what a line asks for, if it has a form
abbrev pub line_of : List ℕ → Option Line
line_of line = line_by line (cut 32 line)
