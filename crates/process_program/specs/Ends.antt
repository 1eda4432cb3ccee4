-- How a call of the program ends.
use Rattle.std.specs.Prelude.{◌≡◌, ◌⊎◌, ℕ, Bool, true, false, not, List, Option, Some}
use Rattle.process_flow.specs.declared.source.Source.{Ghosts as Sources}
use Rattle.process_flow.specs.declared.sink.Sink.{Ghosts as Sinks}
use Rattle.process_flow.specs.Causes.{Rose}
use Rattle.process_disk.specs.declared.rack.Rack.{Ghosts as Racks}
use Rattle.process_disk.specs.Calls.{OnlyLooks}
use Rattle.folder_files.specs.declared.barred.Barred.{Barred}
use Rattle.folder_files.specs.declared.folder.Folder.{Ghosts as Folders}
use Rattle.program_words.specs.Commands.{asked}
use Rattle.call_words.specs.Parts.{Parts}
use Rattle.command_input.specs.FilesLeft.{files}
use Rattle.command_refusals.specs.Statuses.{number_of}
use Rattle.command_refusals.specs.declared.refusal.Refusal.{Refusal}
use Rattle.command_refusals.specs.declared.status.Status.TheVariants.{NoMemory}
use Rattle.process_top.specs.Worlds.{World, input, output}
use Rattle.process_top.specs.Commands.{Answers, needs, only_reads}
use Rattle.kept_source.specs.Keeping.{IsKeptOf}
use Rattle.diagnostics.specs.Diagnostics.{IsSaidBeside}
use Rattle.process_program.specs.Bars.{IsBarred}
use Rattle.process_program.specs.Own.{Own, new_own}

-- the world of a source, a sink and a rack, with boxes and gates of the call's own
abbrev pub world_over : {S K R : Type 0} → Sources S → Sinks K → Racks R → S → K → R → Own → World S K R
world_over s k r source sink rack own = record {
  source = source;
  sink = sink;
  rack = rack;
  input = input s source;
  output = output k sink;
  files = files r rack;
  boxes = own.boxes;
  gates = own.gates;
}

-- What is asked of a rack over a folder: the folder, whether it may write, and that it was never called.
pub record RackOver (R D : Type 0) : Type 1 where
  pub folder : R → D
  pub writes : R → Bool
  pub is_new : R → Type 0

-- What `top` answers to these words, over a rack over this folder that was never called, and that may write unless the words only
-- read; with empty boxes and new gates, which are given up at the end. What there is to say beside this answer, of the input that was
-- handed on, went to the second sink.
abbrev pub AnswersSo : {S K E R D : Type 0} → Sources S → Sinks K → Sinks E → Racks R → RackOver R D → List (List ℕ) → S → K → E → D
    → S → K → E → R → ℕ → Type 0
AnswersSo {S} {K} {E} {R} {D} s k e r over words source sink errors folder source' sink' errors' rack' number =
    (rack : R) × (over.folder rack ≡ folder) × (over.writes rack ≡ not (only_reads words)) × over.is_new rack
    × ((own : Own) × (refusal : Option Refusal)
    × Answers words (world_over s k r source sink rack new_own) (world_over s k r source' sink' rack' own) number refusal
    × ((given : Option (List ℕ)) × IsKeptOf (s.left source) (s.left source') given
    × IsSaidBeside words number refusal given (output e errors) (output e errors')))

-- a folder that was only looked at, before it is entered
pub record IsLookedAt {D : Type 0} (d : Folders D) (before after : D) : Type 0 where
  pub access : d.access after ≡ d.access before
  pub looks : OnlyLooks (d.disk before) (d.disk after)

-- it was found that the folder can be used, and no call of it failed; or it is not used, and is as it was
abbrev pub IsProbed : {D : Type 0} → Folders D → Bool → D → D → Type 0
IsProbed d true before after = IsLookedAt d before after × (d.faults after ≡ d.faults before)
IsProbed d false before after = after ≡ before

-- The folder can be used, or isn't, and the words are answered so. Or they use it, and a call of it failed: why it can't be used is
-- told, and nothing was read. Or there is no memory for the boxes or the gates, and nothing was read or told.
abbrev pub EndsSo : {S K E R D : Type 0} → Sources S → Sinks K → Sinks E → Racks R → Folders D → RackOver R D → Parts → S → K → E → D
    → S → K → E → R → ℕ → Type 0
EndsSo {S} {K} {E} {R} {D} s k e r d over parts source sink errors folder source' sink' errors' rack' number =
    ((entered : D) × IsProbed d (needs (asked parts.words)).files folder entered
    × AnswersSo s k e r over parts.words source sink errors entered source' sink' errors' rack' number)
    ⊎ (((needs (asked parts.words)).files ≡ true) × IsLookedAt d folder (over.folder rack') × (source' ≡ source)
    × ((bar : Barred) × (d.bar (over.folder rack') ≡ Some bar) × Rose (d.faults folder) (d.faults (over.folder rack'))
    × IsBarred k e parts bar sink errors sink' errors' number))
    ⊎ ((number ≡ number_of NoMemory) × (source' ≡ source) × (sink' ≡ sink) × (errors' ≡ errors) × (over.folder rack' ≡ folder))
