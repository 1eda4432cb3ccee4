-- What is answered on words is a call of the example.
use Rattle.std.proofs.Common.{◌≡◌, ℕ, List, [], Option, Some, Result, IfOk, IfSome, refl, subst}
use Rattle.process_flow.specs.declared.sink.MemorySink.{MemorySink}
use Rattle.process_flow.specs.declared.source.Source.{Ghosts as Sources}
use Rattle.process_flow.specs.declared.sink.Sink.{Ghosts as Sinks}
use Rattle.process_disk.specs.declared.memory.MemoryRack.{MemoryRack}
use Rattle.process_disk.specs.declared.rack.Rack.{Ghosts as Racks}
use Rattle.process_engine.specs.declared.gates.Gate.{Ghosts as Gates}
use Rattle.resource_box.specs.declared.resource.Resource.{Ghosts as Resources}
use Rattle.command_refusals.specs.declared.refusal.Refusal.{Refusal}
use Rattle.process_top.specs.Commands.{Answers}
use Rattle.headline.specs.Headline.{Outside}
use Rattle.headline_tests.specs.Example.{IsAnswered, see}
use Rattle.headline_tests.specs.declared.calls.Told.{Told}

module _ {S K R B G : Type 0} (sources : Sources S) (sinks : Sinks K) (racks : Racks R) (resources : Resources B) (workers : Gates G) where
  pub call_of : (before after : Outside S K R B G) (words own : List (List ℕ)) (status : ℕ) (refusal : Option Refusal) → words ≡ own → sinks.taken before.sink ≡ Some []
      → Answers words (see sources sinks racks resources workers before) (see sources sinks racks resources workers after) status refusal
      → IsAnswered sources sinks racks resources workers own before.rack status after.sink after.rack
  call_of before after words own status refusal same blank answers = record {
    before = before;
    after = after;
    on = refl;
    blank = blank;
    told = refl;
    leaves = refl;
    refusal = refusal;
    answered = subst (λ ws. Answers ws (see sources sinks racks resources workers before) (see sources sinks racks resources workers after) status refusal) same answers;
  }

-- what was answered on the same words
pub same_words : {S B G E : Type 0} (sources : Sources S) (sinks : Sinks MemorySink) (racks : Racks MemoryRack) (resources : Resources B) (workers : Gates G) (told : Result Told E) (words own : List (List ℕ)) (rack : MemoryRack)
    → words ≡ own → IfOk told (λ t. IsAnswered sources sinks racks resources workers words rack t.status t.sink t.rack) → IfOk told (λ t. IsAnswered sources sinks racks resources workers own rack t.status t.sink t.rack)
same_words sources sinks racks resources workers told words own rack same is =
    subst (λ ws. IfOk told (λ t. IsAnswered sources sinks racks resources workers ws rack t.status t.sink t.rack)) same is

-- what there is has what is said of it
pub of_some : {X : Type 0} (o : Option X) (x : X) (P : X → Type 0) → o ≡ Some x → IfSome o P → P x
of_some o x P is has = subst (λ o. IfSome o P) is has
