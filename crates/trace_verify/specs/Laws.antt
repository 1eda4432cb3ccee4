-- What the verdicts mean, as laws.
use Rattle.std.specs.Prelude.{◌≡◌, ◌<◌, ◌-◌, ◌+◌, ℕ, List, [], ◌∷◌, ◌++◌, length, map, take, slice_index_or, Option, Some, None}
use Rattle.std.specs.Prelude.{IsTrue}
use Rattle.process_tree.specs.declared.entry.Entry.{Entry}
use Rattle.schedule_model.specs.declared.trace_step.TraceStep.{TraceStep}
use Rattle.schedule_model.specs.Reduction.{and_then, applied, applied_all, not_serial, is_serial, AreReduced}
use Rattle.trace_verify.specs.declared.verdict.Verified.{Verified}
use Rattle.trace_verify.specs.declared.verdict.Verified.TheVariants.{Accepted, BadText, StepRefused, NotSerial, SerialDiffers}
use Rattle.trace_verify.specs.declared.verdict.Verified.TheVariants.{NoMemory}
use Rattle.trace_verify.specs.declared.section.Section.TheVariants.{Serial}
use Rattle.trace_verify.specs.Lines.{parts}
use Rattle.trace_verify.specs.Forms.{NamedAct}
use Rattle.trace_verify.specs.Reports.{Report, unread, after_line, whole, reading}
use Rattle.trace_verify.specs.Names.{is_among, number_among, step_names, op_names, schedule, conflicts_of}
use Rattle.trace_verify.specs.Verdicts.{verdict}

-- an entry as it is printed, by these names of steps and operations
abbrev pub printed_by : List (List ℕ) → List (List ℕ) → Entry → NamedAct
printed_by steps ops e =
    record {
      process =
          e.process;
      step = slice_index_or steps e.step [];
      op = slice_index_or ops e.op [];
      key = e.key;
      undo = e.undo;
    }

-- entries as they are printed in this report
abbrev pub printed : Report → List Entry → List NamedAct
printed r es = map (printed_by (step_names r.acts) (op_names r.acts)) es

-- a text is accepted: it is a report, and its steps bring its schedule to the serial list that it prints
pub record IsAccepted (text : List ℕ) : Type 0 where
  pub report : Report
  pub is_report : reading text ≡ whole report
  pub list : List Entry
  -- the steps apply in turn
  pub applies : applied_all (conflicts_of report) report.steps (schedule report.acts) ≡ Some list
  -- that is a chain of single exchanges of neighbours that don't conflict and of removals of a step with its undo behind it
  pub reduced : AreReduced (conflicts_of report) (schedule report.acts) list
  pub serial : IsTrue (is_serial list)
  pub is_printed : printed report list ≡ report.serial

-- what is read of a report by these lines, if each is what its place wants
abbrev pub read_lines : Report → List (List ℕ) → Option Report
read_lines r [] = Some r
read_lines r (line ∷ lines) = and_then (after_line r line) (λ s. read_lines s lines)

-- a line isn't what its place wants, these standing behind it; the last of a text stands behind its last line feed, where the text
-- may end in its last section alone
abbrev pub IsBad : Report → List ℕ → List (List ℕ) → Type 0
IsBad r line [] = ¬ ((r.section ≡ Serial) × (line ≡ []))
IsBad r line (next ∷ more) = after_line r line ≡ None

-- line n of a text is the first that isn't what its place wants
pub record IsBadLine (text : List ℕ) (n : ℕ) : Type 0 where
  pub before : List (List ℕ)
  pub line : List ℕ
  pub behind : List (List ℕ)
  pub lines : parts 10 text ≡ before ++ line ∷ behind
  pub counted : n ≡ length before + 1
  pub report : Report
  pub read : read_lines unread before ≡ Some report
  pub bad : IsBad report line behind

-- step k of a report is the first that doesn't apply
pub record IsRefused (text : List ℕ) (k : ℕ) : Type 0 where
  pub report : Report
  pub is_report : reading text ≡ whole report
  pub list : List Entry
  pub before : List TraceStep
  pub step : TraceStep
  pub behind : List TraceStep
  pub steps : report.steps ≡ before ++ step ∷ behind
  pub counted : k ≡ length before + 1
  pub applies : applied_all (conflicts_of report) before (schedule report.acts) ≡ Some list
  pub refused : applied (conflicts_of report) step list ≡ None

-- all steps apply, and place n of the last list is the first that is out of place
pub record IsNotSerial (text : List ℕ) (n : ℕ) : Type 0 where
  pub report : Report
  pub is_report : reading text ≡ whole report
  pub list : List Entry
  pub applies : applied_all (conflicts_of report) report.steps (schedule report.acts) ≡ Some list
  pub place : not_serial list ≡ Some n

-- all steps apply and the last list is serial, and place n is the first at which the printed list isn't that list
pub record IsOther (text : List ℕ) (n : ℕ) : Type 0 where
  pub report : Report
  pub is_report : reading text ≡ whole report
  pub list : List Entry
  pub applies : applied_all (conflicts_of report) report.steps (schedule report.acts) ≡ Some list
  pub serial : IsTrue (is_serial list)
  pub counted : 0 < n
  pub same_before : take (n - 1) (printed report list) ≡ take (n - 1) report.serial
  pub other : ¬ (take n (printed report list) ≡ take n report.serial)

-- what each verdict on a text means
abbrev pub Means : List ℕ → Verified → Type 0
Means text Accepted = IsAccepted text
Means text (BadText n) = IsBadLine text n
Means text (StepRefused k) = IsRefused text k
Means text (NotSerial n) = IsNotSerial text n
Means text (SerialDiffers n) = IsOther text n
Means text NoMemory = Unit

-- The verdict on each text means what it says.
abbrev pub VerdictsMean : Type 0
VerdictsMean = (text : List ℕ) → Means text (verdict text)

-- What is accepted has that verdict, so nothing else is said of a text that has all that acceptance asks.
abbrev pub AcceptanceIsExact : Type 0
AcceptanceIsExact = (text : List ℕ) → IsAccepted text → verdict text ≡ Accepted

-- Two names of a report have one number exactly where they are one name.
abbrev pub NumbersAreNames : Type 0
NumbersAreNames = (names : List (List ℕ)) (v w : List ℕ) → IsTrue (is_among names v) → IsTrue (is_among names w)
    → number_among names v ≡ number_among names w → v ≡ w
