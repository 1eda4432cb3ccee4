-- Which starts may have been under way as an engine went on.
use Rattle.std.proofs.Common.{◌≡◌, ℕ, List, [], ◌∷◌, Option, Some, None, refl, subst, sym}
use Rattle.process_disk.specs.declared.rack.Rack.{Ghosts as Racks}
use Rattle.process_disk.specs.Disk.{Told}
use Rattle.process_disk.specs.Images.{EachImage}
use Rattle.process_tree.specs.Order.{Each}
use Rattle.process_tree.specs.declared.plan.Plan.{Plan}
use Rattle.commute_table.specs.declared.catalog.Catalog.{Catalog}
use Rattle.process_core.specs.Cores.{IsCore, history_of}
use Rattle.history_files.specs.Sound.{IsSound}
use Rattle.engine_steps.specs.Engines.{EngineState, full_history}
use Rattle.engine_steps.specs.declared.engines.Phase.{Phase}
use Rattle.engine_steps.specs.declared.engines.Phase.TheVariants.{Settled, Closed}
use Rattle.engine_calls.specs.Acknowledged.{IsOneAhead, IsOneOf}
use Rattle.engine_calls.specs.Runs.{GoesOn}
use Rattle.engine_calls.proofs.Acknowledged.{in_turn_so}
use Rattle.engine_calls.proofs.Goes.{goes_none}
use Rattle.scenario_run.proofs.OneOf.{stands_among}
use Rattle.session_text.specs.declared.line.Line.{Line}
use Rattle.session_play.specs.Playing.{plan_for}
use Rattle.driver_requests.specs.Requests.{request_of}
use Rattle.driver_requests.specs.declared.request.Request.TheVariants.{Session}
use Rattle.driver_answers.specs.Serving.{AsksToStart}

-- an engine that is settled isn't closed
isnt_closed : (on : Phase) → on ≡ Settled → on ≡ Closed → ⊥
isnt_closed on settled closed = absurd cc

-- One that is settled went on whichever plans may start, since no image is ahead of it.
pub goes_settled : {R B : Type 0} (racks : Racks R) (may may' : List Plan) (old new : EngineState R B) → new.phase ≡ Settled → GoesOn racks may old new → GoesOn racks may' old new
goes_settled racks may may' old new settled goes = record {
  catalog = goes.catalog;
  conflicts = goes.conflicts;
  opening = goes.opening;
  added = goes.added;
  kept = goes.kept;
  started = goes.started;
  plans = goes.plans;
  came = goes.came;
  events = goes.events;
  tells = goes.tells;
  later = goes.later;
  follow = goes.follow;
  images = λ told. in_turn_so new.catalog (full_history new.core) (IsOneAhead new.catalog may new.core new.phase) (IsOneAhead new.catalog may' new.core new.phase) (racks.disk new.files.rack)
      (λ files ahead. absurd (isnt_closed new.phase settled ahead.0)) goes.came (history_of old.core) (racks.disk old.files.rack).moment (goes.images told);
}

-- So it is of one that nothing was asked of.
pub goes_at_rest : {R B : Type 0} (racks : Racks R) (Asked : Plan → Type 0) (e : EngineState R B) → IsCore e.core
    → (Told (racks.disk e.files.rack) → EachImage (racks.disk e.files.rack) (racks.disk e.files.rack).moment (IsSound e.catalog (full_history e.core)))
    → (asked : List Plan) × Each Asked asked × GoesOn racks asked e e
goes_at_rest racks Asked e core each = ([], tt, goes_none racks [] e core each)

-- One that a line of a session was asked of went on whichever more may start than the plan that the line takes.
pub goes_by_session : {R B : Type 0} (racks : Racks R) (c : Catalog) (plans : List Plan) (line : List ℕ) (l : Line) (old new : EngineState R B) → request_of line ≡ Some (Session l)
    → ((may : List Plan) → ((p : Plan) → plan_for plans l ≡ Some p → IsOneOf may p) → GoesOn racks may old new)
    → (asked : List Plan) × Each (AsksToStart c plans line (request_of line)) asked × GoesOn racks asked old new
goes_by_session racks c plans line l old new form goes = by (plan_for plans l) refl
  where
    by : (o : Option Plan) → plan_for plans l ≡ o → (asked : List Plan) × Each (AsksToStart c plans line (request_of line)) asked × GoesOn racks asked old new
    by None none = ([], tt, goes [] (λ p some. absurd (cc)))
    by (Some q) is = (
      q ∷ [],
      (subst (λ r. AsksToStart c plans line r q) (sym form) is, tt),
      goes (q ∷ []) (λ p some. let same : q ≡ p = cc in subst (IsOneOf (q ∷ [])) same (stands_among [] [] q)),
    )
