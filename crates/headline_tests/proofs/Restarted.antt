-- The example, put together: its calls are those that the law speaks of.
use Rattle.std.proofs.Common.{◌≡◌, ℕ, List, [], ◌∷◌, Option, Some, ap, subst, sym}
use Rattle.std.specs.Prelude.{codes}
use Rattle.process_flow.specs.declared.source.Source.{Ghosts as Sources}
use Rattle.process_flow.specs.declared.sink.Sink.{Ghosts as Sinks}
use Rattle.process_disk.specs.declared.rack.Rack.{Ghosts as Racks}
use Rattle.process_disk.specs.declared.memory.MemoryRack.{MemoryRack}
use Rattle.process_disk.specs.Memory.{LeftSince, disk_of, fresh}
use Rattle.process_disk.specs.MemoryView.{memory}
use Rattle.process_disk.specs.Stop.{from_latest, is_through}
use Rattle.process_journal.specs.Bodies.{no_history}
use Rattle.schedule_model.specs.declared.event.Event.{Event}
use Rattle.schedule_model.specs.declared.history.History.{History}
use Rattle.commute_table.specs.declared.catalog.Catalog.{Catalog}
use Rattle.process_core.specs.Cores.{CoreState}
use Rattle.process_engine.specs.declared.gates.Gate.{Ghosts as Gates}
use Rattle.resource_box.specs.declared.resource.Resource.{Ghosts as Resources}
use Rattle.command_refusals.specs.Statuses.{number_of}
use Rattle.command_refusals.specs.declared.status.Status.TheVariants.{Done}
use Rattle.program_words.specs.declared.reading.Command.{Command}
use Rattle.program_words.specs.declared.reading.Command.TheVariants.{Session}
use Rattle.headline.specs.Headline.{FindsLeft, IsAhead, IsAtEntry, IsCompleted, IsRecovered, IsRestartOn, Outside, StopsAreRestored, WentOn, WereLeft, goes_on}
use Rattle.headline_tests.specs.Example.{IsAnswered, IsRestartedSession, see}
use Rattle.headline_tests.proofs.Asked.{restart_asked, session_asked}
use Rattle.headline_tests.proofs.FoundLeft.{as_told, found_left}

module _ {S K B G : Type 0} (sources : Sources S) (sinks : Sinks K) (racks : Racks MemoryRack) (resources : Resources B) (workers : Gates G)
    (law : StopsAreRestored sources sinks racks resources workers) (tells : (rack : MemoryRack) → racks.disk rack ≡ disk_of (memory rack)) where
  -- what the law says where these words ask for this
  abbrev Found : (c : Catalog) → (before after : Outside S K MemoryRack B G) → Option Command → Type 0
  Found c before after o =
      let old = see sources sinks racks resources workers before in
      let new = see sources sinks racks resources workers after in
      (now : CoreState) × (came : List (ℕ × List Event)) × (went : WentOn o c no_history old new now came)
      × ((moment : ℕ) (words : List (List ℕ)) (again last : Outside S K MemoryRack B G) (number : ℕ)
      → IsRestartOn (WereLeft old new moment) words (see sources sinks racks resources workers again) (see sources sinks racks resources workers last) number
      → (read : History)
      × IsRecovered c no_history (IsAhead o old.input new.input c went.opened now) now came moment read words (see sources sinks racks resources workers again)
      (see sources sinks racks resources workers last) number
      × (number ≡ number_of Done → IsCompleted c read (see sources sinks racks resources workers again) (see sources sinks racks resources workers last)))

  module _ (rack played left ended : MemoryRack) (number status call t : ℕ) (played_sink sink : K) (c : Catalog) (entry : IsAtEntry c no_history (disk_of (memory rack)))
      (unmade : (memory rack).made ≡ []) (session : IsAnswered sources sinks racks resources workers (codes "session" ∷ []) rack number played_sink played)
      (image : LeftSince (memory played).first (from_latest (is_through call) (memory played).made) t (memory left).first)
      (off : memory left ≡ fresh (memory left).first []) (restarted : IsAnswered sources sinks racks resources workers (codes "restart" ∷ []) left status sink ended) where
    at_entry : IsAtEntry c no_history (racks.disk session.before.rack)
    at_entry = as_told racks tells (IsAtEntry c no_history) session.before.rack rack session.on entry

    found : Found c session.before session.after (Some Session)
    found = subst (Found c session.before session.after) session_asked
        (let all = law (codes "session" ∷ []) session.before session.after number session.refusal c no_history (ap goes_on session_asked) session.answered at_entry in
        (all.0, all.1, all.2, λ moment words again last n on. (let one = all.5 moment words again last n on in (one.0, one.1, one.3))))

    on : IsRestartOn (WereLeft (see sources sinks racks resources workers session.before) (see sources sinks racks resources workers session.after) t) (codes "restart" ∷ [])
        (see sources sinks racks resources workers restarted.before) (see sources sinks racks resources workers restarted.after) status
    on = record {
      asks = restart_asked;
      finds = subst (λ r. FindsLeft (WereLeft (see sources sinks racks resources workers session.before) (see sources sinks racks resources workers session.after) t) (racks.disk r)) (sym restarted.on)
          (found_left sources sinks racks resources workers tells rack played left number call t played_sink (codes "session" ∷ []) unmade session image off);
      refusal = restarted.refusal;
      answered = restarted.answered;
    }

    pub restarted_session : IsRestartedSession sources sinks racks resources workers status sink
    restarted_session =
        let one = found.3 t (codes "restart" ∷ []) restarted.before restarted.after status on in
        record {
          before = session.before;
          after = session.after;
          again = restarted.before;
          last = restarted.after;
          number = number;
          catalog = c;
          moment = t;
          refusal = session.refusal;
          session = session.answered;
          entry = at_entry;
          restarted = on;
          blank = restarted.blank;
          told = restarted.told;
          now = found.0;
          came = found.1;
          went = found.2;
          read = one.0;
          recovered = one.1;
          completed = one.2;
        }
