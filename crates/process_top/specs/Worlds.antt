-- What a call of the program finds and what it leaves: its source, its sink and its rack with what each tells, the boxes of the
-- subsystems and the gates.
use Rattle.std.specs.Prelude.{ℕ, ℤ, List, Option, map}
use Rattle.process_flow.specs.declared.source.Source.{Ghosts as Sources}
use Rattle.process_flow.specs.declared.sink.Sink.{Ghosts as Sinks}
use Rattle.process_disk.specs.declared.rack.Rack.{Ghosts as Racks}
use Rattle.machine_model.specs.Replies.{Handed}
use Rattle.resource_box.specs.declared.call.Kind.{Kind}
use Rattle.resource_box.specs.declared.resource.Resource.{Ghosts as Resources}
use Rattle.process_engine.specs.declared.gates.Answer.{Answer}
use Rattle.process_engine.specs.declared.gates.Gate.{Ghosts as Gates}
use Rattle.engine_calls.specs.GateAnswers.{GateCounts, counts_of}
pub use Rattle.command_input.specs.Inputs.{Input, input}
pub use Rattle.process_top.specs.Told.{Output, output}
pub use Rattle.command_input.specs.FilesLeft.{Files, files}

-- a box at some moment: its kind, and the values at the keys that it has
pub record BoxState : Type 0 where
  pub kind : Kind
  pub values : List (ℕ × ℤ)

abbrev pub boxes : {B : Type 0} → Resources B → List B → List BoxState
boxes b resources = map (λ x. record { kind = b.sort x; values = (b.meaning x).items }) resources

-- gates at some moment: what those of their type answer to a piece, where they tell it, and how often each was asked and refused
pub record GatesState : Type 0 where
  pub answers : Handed → Option Answer
  pub counts : List GateCounts

abbrev pub gates : {G : Type 0} → Gates G → List G → GatesState
gates g workers = record { answers = g.answers; counts = map (counts_of g) workers }

pub record World (S K R : Type 0) : Type 1 where
  -- the source, the sink and the rack themselves
  pub source : S
  pub sink : K
  pub rack : R
  -- what is told of the input, of the output and of the files
  pub input : Input
  pub output : Output
  pub files : Files
  -- the boxes of the subsystems, and the gates
  pub boxes : List BoxState
  pub gates : GatesState

-- the world of these five
abbrev pub world : {S K R B G : Type 0} → Sources S → Sinks K → Racks R → Resources B → Gates G → S → K → R → List B → List G
    → World S K R
world s k r b g source sink rack resources workers = record {
  source = source;
  sink = sink;
  rack = rack;
  input = input s source;
  output = output k sink;
  files = files r rack;
  boxes = boxes b resources;
  gates = gates g workers;
}
