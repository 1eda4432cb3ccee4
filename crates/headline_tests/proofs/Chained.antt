-- The chain, put together: its calls are those that the law speaks of.
use Rattle.std.proofs.Common.{◌≡◌, ℕ, true, List, [], ◌∷◌, ap, refl, subst, sym}
use Rattle.std.specs.Prelude.{codes}
use Rattle.process_flow.specs.declared.source.Source.{Ghosts as Sources}
use Rattle.process_flow.specs.declared.sink.Sink.{Ghosts as Sinks}
use Rattle.process_disk.specs.declared.rack.Rack.{Ghosts as Racks}
use Rattle.process_disk.specs.declared.memory.MemoryRack.{MemoryRack}
use Rattle.process_disk.specs.Memory.{LeftSince, disk_of, fresh}
use Rattle.process_disk.specs.MemoryView.{memory}
use Rattle.process_disk.specs.Stop.{from_latest, is_through}
use Rattle.process_journal.specs.Bodies.{no_history}
use Rattle.commute_table.specs.declared.catalog.Catalog.{Catalog}
use Rattle.process_engine.specs.declared.gates.Gate.{Ghosts as Gates}
use Rattle.resource_box.specs.declared.resource.Resource.{Ghosts as Resources}
use Rattle.headline.specs.Chains.{Call, ChainsLoseNothing, IsCall, IsChain}
use Rattle.headline.specs.Headline.{FindsLeft, IsAtEntry, WereLeft, goes_on}
use Rattle.program_words.specs.Commands.{asked}
use Rattle.headline_tests.specs.Example.{IsAnswered, IsRestartedChain, IsStoppedRun, run_words, see}
use Rattle.headline_tests.proofs.Asked.{restart_asked, run_asked, serve_asked}
use Rattle.headline_tests.proofs.FoundLeft.{as_told, found_left}

module _ {S K B G : Type 0} (sources : Sources S) (sinks : Sinks K) (racks : Racks MemoryRack) (resources : Resources B) (workers : Gates G)
    (tells : (rack : MemoryRack) → racks.disk rack ≡ disk_of (memory rack)) where
  -- a call that was answered, stopped at a moment
  abbrev call_at : (words : List (List ℕ)) (rack left : MemoryRack) (status : ℕ) (sink : K) → IsAnswered sources sinks racks resources workers words rack status sink left → ℕ → Call S K MemoryRack B G
  call_at words rack left status sink was moment = record { words = words; before = was.before; after = was.after; number = status; refusal = was.refusal; moment = moment }

  is_call : (words : List (List ℕ)) (rack left : MemoryRack) (status : ℕ) (sink : K) (was : IsAnswered sources sinks racks resources workers words rack status sink left) (moment : ℕ) → goes_on (asked words) ≡ true
      → IsCall sources sinks racks resources workers (call_at words rack left status sink was moment)
  is_call words rack left status sink was moment opens = record { opens = opens; answered = was.answered }

  -- the run, and what a stop leaves of it
  pub stopped_run : (rack played left : MemoryRack) (number call t : ℕ) (sink : K) (c : Catalog) → IsAtEntry c no_history (disk_of (memory rack)) → (memory rack).made ≡ []
      → IsAnswered sources sinks racks resources workers run_words rack number sink played
      → LeftSince (memory played).first (from_latest (is_through call) (memory played).made) t (memory left).first → memory left ≡ fresh (memory left).first []
      → IsStoppedRun sources sinks racks resources workers left
  stopped_run rack played left number call t sink c entry unmade was image off = record {
    catalog = c;
    run = call_at run_words rack played number sink was t;
    words = refl;
    call = is_call run_words rack played number sink was t (ap goes_on run_asked);
    entry = as_told racks tells (IsAtEntry c no_history) was.before.rack rack was.on entry;
    finds = found_left sources sinks racks resources workers tells rack played left number call t sink run_words unmade was image off;
  }

  -- and the others
  pub restarted_chain : ChainsLoseNothing sources sinks racks resources workers → (left served again ended : MemoryRack) (number status call t : ℕ) (served_sink sink : K)
      → IsStoppedRun sources sinks racks resources workers left → (memory left).made ≡ []
      → IsAnswered sources sinks racks resources workers (codes "serve" ∷ []) left number served_sink served
      → LeftSince (memory served).first (from_latest (is_through call) (memory served).made) t (memory again).first → memory again ≡ fresh (memory again).first []
      → IsAnswered sources sinks racks resources workers (codes "restart" ∷ []) again status sink ended
      → IsRestartedChain sources sinks racks resources workers status sink
  restarted_chain law left served again ended number status call t served_sink sink first unmade serve image off restart =
      let two = call_at (codes "serve" ∷ []) left served number served_sink serve t in
      let three = call_at (codes "restart" ∷ []) again ended status sink restart 0 in
      let run_left = WereLeft (see sources sinks racks resources workers first.run.before) (see sources sinks racks resources workers first.run.after) first.run.moment in
      let serve_left = WereLeft (see sources sinks racks resources workers serve.before) (see sources sinks racks resources workers serve.after) t in
      let chain : IsChain sources sinks racks resources workers first.run (two ∷ three ∷ []) = (
        first.call,
        subst (λ r. FindsLeft run_left (racks.disk r)) (sym serve.on) first.finds,
        (
          is_call (codes "serve" ∷ []) left served number served_sink serve t (ap goes_on serve_asked),
          subst (λ r. FindsLeft serve_left (racks.disk r)) (sym restart.on)
              (found_left sources sinks racks resources workers tells left served again number call t served_sink (codes "serve" ∷ []) unmade serve image off),
          is_call (codes "restart" ∷ []) again ended status sink restart 0 (ap goes_on restart_asked),
        ),
      ) in
      record {
        catalog = first.catalog;
        run = first.run;
        serve = two;
        restart = three;
        ran = first.words;
        served = refl;
        restarted = refl;
        number = refl;
        blank = restart.blank;
        told = restart.told;
        chain = chain;
        entry = first.entry;
        nothing_lost = law first.catalog no_history first.run (two ∷ three ∷ []) chain first.entry;
      }
