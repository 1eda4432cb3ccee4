-- What a report is: seven sections in this order, each a line with its title and then its lines. Each line ends with a line feed.
-- The first title says the form of the report.
use Rattle.std.specs.Prelude.{◌≡◌, ℕ, ◌+◌, List, [], ◌∷◌, ◌++◌, Bool, true, false, length, nat_lt, if◌then◌else◌, Option, Some}
use Rattle.std.specs.Prelude.{None, codes}
use Rattle.std.specs.Option.{option_map}
use Rattle.process_tree.specs.Making.{same_text}
use Rattle.schedule_model.specs.declared.trace_step.TraceStep.{TraceStep}
use Rattle.trace_verify.specs.declared.form.Form.{Form}
use Rattle.trace_verify.specs.declared.form.Form.TheVariants.{Plain}
use Rattle.trace_verify.specs.declared.section.Section.{Section}
use Rattle.trace_verify.specs.declared.section.Section.TheVariants.{Opening, Conflicts, History, Completion, Ends, Causes, Trace}
use Rattle.trace_verify.specs.declared.section.Section.TheVariants.{Serial}
use Rattle.trace_verify.specs.Lines.{parts}
use Rattle.trace_verify.specs.Forms.{NamedAct, Pair, form_of_title, pair_line, event_line, is_end_line, is_cause_line, step_line}
use Rattle.trace_verify.specs.Forms.{serial_line}

-- What is read of a report, up to some line, and the section in which the next line stands.
pub record Report : Type 0 where
  pub section : Section
  -- plain until the first title says which
  pub form : Form
  -- the operations that conflict
  pub pairs : List Pair
  -- the acts of the history and of its completion
  pub acts : List NamedAct
  pub steps : List TraceStep
  -- the printed serial list
  pub serial : List NamedAct

-- nothing is read
abbrev pub unread : Report
unread = record { section = Opening; form = Plain; pairs = []; acts = []; steps = []; serial = [] }

-- the first section begins, of a report of this form
abbrev pub in_form : Report → Form → Report
in_form r f = record { section = Conflicts; form = f; pairs = r.pairs; acts = r.acts; steps = r.steps; serial = r.serial }

-- a section begins
abbrev pub in_section : Report → Section → Report
in_section r s = record { section = s; form = r.form; pairs = r.pairs; acts = r.acts; steps = r.steps; serial = r.serial }

-- two operations that conflict are added
abbrev pub with_pair : Report → Pair → Report
with_pair r p =
    record { section = r.section; form = r.form; pairs = r.pairs ++ p ∷ []; acts = r.acts; steps = r.steps; serial = r.serial }

-- an act is added
abbrev pub with_act : Report → NamedAct → Report
with_act r a =
    record { section = r.section; form = r.form; pairs = r.pairs; acts = r.acts ++ a ∷ []; steps = r.steps; serial = r.serial }

-- a step of the trace is added
abbrev pub with_step : Report → TraceStep → Report
with_step r s =
    record { section = r.section; form = r.form; pairs = r.pairs; acts = r.acts; steps = r.steps ++ s ∷ []; serial = r.serial }

-- an entry of the printed serial list is added
abbrev pub with_serial : Report → NamedAct → Report
with_serial r a =
    record { section = r.section; form = r.form; pairs = r.pairs; acts = r.acts; steps = r.steps; serial = r.serial ++ a ∷ [] }

-- the section that a title opens behind another; the first title is the one line of the opening
abbrev pub opened : Section → List ℕ → Option Section
opened Opening line = None
opened Conflicts line = if same_text line (codes "history") then Some History else None
opened History line = if same_text line (codes "completion") then Some Completion else None
opened Completion line = if same_text line (codes "ends") then Some Ends else None
opened Ends line = if same_text line (codes "causes") then Some Causes else None
opened Causes line = if same_text line (codes "trace") then Some Trace else None
opened Trace line = if same_text line (codes "serial") then Some Serial else None
opened Serial line = None

-- an event is read, and its act is added, if it has one. There are at most 32,768 acts
abbrev pub with_event : Report → Option (Option NamedAct) → Option Report
with_event r None = None
with_event r (Some None) = Some r
with_event r (Some (Some a)) = if nat_lt (length r.acts) 32768 then Some (with_act r a) else None

-- a step is read and added. There are at most 65,536
abbrev pub with_new_step : Report → Option TraceStep → Option Report
with_new_step r None = None
with_new_step r (Some s) = if nat_lt (length r.steps) 65536 then Some (with_step r s) else None

-- a line that opens no further section: what is read then, if the line has its form
abbrev pub with_line : Section → Report → List ℕ → Option Report
with_line Opening r line = option_map (in_form r) (form_of_title line)
with_line Conflicts r line = option_map (with_pair r) (pair_line r.form line)
with_line History r line = with_event r (event_line r.form line)
with_line Completion r line = with_event r (event_line r.form line)
with_line Ends r line = if is_end_line line then Some r else None
with_line Causes r line = if is_cause_line line then Some r else None
with_line Trace r line = with_new_step r (step_line line)
with_line Serial r line = option_map (with_serial r) (serial_line r.form line)

-- the title of the next section, or else a line of this one
abbrev pub title_or : Report → List ℕ → Option Section → Option Report
title_or r line None = with_line r.section r line
title_or r line (Some s) = Some (in_section r s)

-- what is read after one line more, if that is what its place wants
abbrev pub after_line : Report → List ℕ → Option Report
after_line r line = title_or r line (opened r.section line)

-- a text is a report, or the number of the first line that isn't what its place wants, counted from 1; where it ends too
-- early that is the number of its lines and one
pub data Reading : Type 0 where
  whole : Report → Reading
  bad_line : ℕ → Reading

-- the end of a text, this standing behind its last line feed
abbrev pub at_end : Report → ℕ → Section → List ℕ → Reading
at_end r n Serial [] = whole r
at_end r n Serial (b ∷ bs) = bad_line n
at_end r n Opening rest = bad_line n
at_end r n Conflicts rest = bad_line n
at_end r n History rest = bad_line n
at_end r n Completion rest = bad_line n
at_end r n Ends rest = bad_line n
at_end r n Causes rest = bad_line n
at_end r n Trace rest = bad_line n

-- goes on, or the line is at fault
abbrev pub on_or_bad : ℕ → (Report → Reading) → Option Report → Reading
on_or_bad n on None = bad_line n
on_or_bad n on (Some r) = on r

-- the reading of these lines, of which the last lacks its line feed, and n is the number of the first
abbrev pub reading_from : Report → ℕ → List (List ℕ) → Reading
reading_from r n [] = bad_line n
reading_from r n (line ∷ []) = at_end r n r.section line
reading_from r n (line ∷ next ∷ lines) = on_or_bad n (λ s. reading_from s (n + 1) (next ∷ lines)) (after_line r line)

-- the reading of a text
abbrev pub reading : List ℕ → Reading
reading text = reading_from unread 1 (parts 10 text)

-- what is said of a report when a line is taken: what comes of the line is the report then, or nothing comes of it
abbrev pub IsTaken : Option Report → Bool → Report → Type 0
IsTaken comes true new = comes ≡ Some new
IsTaken comes false new = comes ≡ None

-- what is said of a report when a text is read: it is whole then, or line n is bad
abbrev pub IsRead : Reading → Option ℕ → Report → Type 0
IsRead comes None new = comes ≡ whole new
IsRead comes (Some n) new = comes ≡ bad_line n
