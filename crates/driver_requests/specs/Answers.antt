-- The words of what a driver reads.
use Rattle.std.specs.Prelude.{ℕ, ◌-◌, List, [], ◌∷◌, ◌++◌, Bool, true, false, map, filter, length, take, nat_eq, slice_index_or}
use Rattle.std.specs.Prelude.{if◌then◌else◌, Option, Some, None, codes, decimal}
use Rattle.std.specs.Fmt.{signed_decimal}
use Rattle.std.specs.List.{slice_get}
use Rattle.process_tree.specs.Blocks.{outline}
use Rattle.process_tree.specs.declared.plan.Plan.{Plan}
use Rattle.process_tree.specs.declared.step.Step.{Step}
use Rattle.process_text.specs.Canonical.{line_of, spaced}
use Rattle.machine_model.specs.declared.kept.Work.{Work}
use Rattle.machine_model.specs.declared.kept.Work.TheVariants.{Forward, Undo, End}
use Rattle.machine_model.specs.Moment.{Piece}
use Rattle.process_report.specs.Lines.{Line, place_word}
use Rattle.process_report.specs.Names.{process_name}
use Rattle.session_text.specs.Answers.{numbered, piece_words}
use Rattle.driver_requests.specs.declared.request.Happening.{Happening}
use Rattle.driver_requests.specs.declared.request.Happening.TheVariants.{Done, Undone, NotDone}

-- the steps of a plan, in text order
abbrev pub steps_in : Plan → List Step
steps_in p = (outline p.tree).steps

-- step b of process i, if there is one
abbrev pub step_at : List Plan → ℕ → ℕ → Option Step
step_at plans i b = slice_get (slice_index_or (map steps_in plans) (i - 1) []) b

-- what a step calls: `OP KEY AMOUNT`
abbrev pub call_words : Option Step → Line
call_words None = []
call_words (Some s) = s.op ∷ decimal s.key ∷ signed_decimal s.amount ∷ []

-- what the work of a piece calls; an end calls nothing
abbrev pub work_call : List Plan → ℕ → ℕ → Work → Line
work_call plans i b Forward = call_words (step_at plans i b)
work_call plans i b Undo = call_words (step_at plans i b)
work_call plans i b End = []

abbrev pub piece_call : List Plan → Piece → Line
piece_call plans p = work_call plans p.process p.step p.work

-- a piece with what it calls: `piece N: do I.STEP OP KEY AMOUNT`, `piece N: undo I.STEP OP KEY AMOUNT` or `piece N: end I`
abbrev pub called_piece : List Plan → Piece → Line
called_piece plans p = piece_words plans p ++ piece_call plans p

-- more words at the end of the last line of a text
abbrev pub with_words : List ℕ → Line → List ℕ
with_words text words = take (length text - 1) text ++ spaced words ++ 10 ∷ []

-- how many lines a text has
abbrev pub lines_in : List ℕ → ℕ
lines_in text = length (filter (λ c. nat_eq c 10) text)

-- a text behind the number of its lines: `lines N`
abbrev pub numbered_lines : List ℕ → List ℕ
numbered_lines text = line_of (numbered (codes "lines") (lines_in text)) ++ text

-- How a driver sees where an answer ends: it is one line, or `lines N` and N lines. What may have any number of lines has that
-- number always.
abbrev pub framed : Bool → List ℕ → List ℕ
framed true text = numbered_lines text
framed false text = if nat_eq (lines_in text) 1 then text else numbered_lines text

-- `ready N`: so many processes are active in the files and begin to complete
abbrev pub ready_words : ℕ → Line
ready_words n = numbered (codes "ready") n

-- `completing I NAME`
abbrev pub completing_words : List Plan → ℕ → Line
completing_words plans i = codes "completing" ∷ decimal i ∷ process_name plans i ∷ []

-- `bad line N`
abbrev pub bad_line_words : ℕ → Line
bad_line_words n = codes "bad" ∷ numbered (codes "line") n

-- `no step NAME`: the process has no such step
abbrev pub no_step_words : List ℕ → Line
no_step_words name = codes "no" ∷ codes "step" ∷ name ∷ []

-- `done I.STEP E`, `undone I.STEP E` or `not done I.STEP`
abbrev pub happening_words : List Plan → ℕ → ℕ → Happening → Line
happening_words plans i b (Done e) = codes "done" ∷ place_word plans i b ∷ decimal e ∷ []
happening_words plans i b (Undone e) = codes "undone" ∷ place_word plans i b ∷ decimal e ∷ []
happening_words plans i b NotDone = codes "not" ∷ codes "done" ∷ place_word plans i b ∷ []
