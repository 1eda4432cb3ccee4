-- What a crash may leave from before an opening up to a later moment of the engine that was opened.
use Rattle.std.proofs.Common.{◌≡◌, ◌⊎◌, ℕ, List, [], append-nil, sym, inl, inr, ⊎_elim, subst, arith}
use Rattle.process_disk.specs.declared.rack.Rack.{Ghosts as Racks}
use Rattle.process_disk.specs.Disk.{Disk, FileSet, IsHonest, Told}
use Rattle.process_disk.specs.Images.{EachImage, ImagesFollow}
use Rattle.process_disk.proofs.Images.{still_told}
use Rattle.process_core.specs.Cores.{history_of}
use Rattle.history_opening.specs.Images.{BecomesSound}
use Rattle.history_files.specs.Sound.{IsSound}
use Rattle.engine_steps.specs.Engines.{EngineState, full_history}
use Rattle.engine_steps.specs.declared.engines.Phase.TheVariants.{Settled}
use Rattle.process_tree.specs.declared.plan.Plan.{Plan}
use Rattle.process_journal.specs.Laws.{beginning}
use Rattle.engine_calls.proofs.Beginnings.{OneEach, continues_none, is_beginning}
use Rattle.engine_calls.specs.Acknowledged.{ComeInTurn, IsOneAhead}
use Rattle.engine_calls.specs.Runs.{GoesOn}
use Rattle.engine_calls.proofs.Goes.{begins_alike, continues}
use Rattle.engine_calls.proofs.Acknowledged.{in_turn_by}
use Rattle.engine_calls.specs.Opened.{AreKept, FromOpening}

module _ {R B : Type 0} (may_start : List Plan) (r : Racks R) (honest : (rack : R) → Told (r.disk rack) → IsHonest (r.disk rack)) (entry : R) (opening now : EngineState R B)
    (one_each : OneEach (full_history opening.core)) (tells : (r.disk opening.files.rack).tells ≡ (r.disk entry).tells)
    (was_sound : Told (r.disk entry) → IsSound opening.catalog (full_history opening.core) (r.disk entry).files)
    (became : Told (r.disk entry) → BecomesSound opening.catalog (full_history opening.core) (r.disk entry) (r.disk opening.files.rack))
    (invariant_holds : Told (r.disk entry) → EachImage (r.disk opening.files.rack) (r.disk opening.files.rack).moment (IsSound opening.catalog (full_history opening.core)))
    (goes : GoesOn r may_start opening now) where
  abbrev before : Disk
  before = r.disk entry

  abbrev settled : Disk
  settled = r.disk opening.files.rack

  abbrev after : Disk
  after = r.disk now.files.rack

  abbrev IsOld : FileSet → Type 0
  IsOld = IsSound opening.catalog (full_history opening.core)

  abbrev Ahead : FileSet → Type 0
  Ahead = IsOneAhead opening.catalog may_start now.core now.phase

  abbrev Turns : ℕ → Type 0
  Turns t = ComeInTurn opening.catalog (full_history now.core) Ahead after (history_of opening.core) t goes.came

  module _ (told : Told before) where
    told_settled : Told settled
    told_settled = still_told before settled tells told

    told_after : Told after
    told_after = still_told settled after goes.tells told_settled

    follow : ImagesFollow settled after
    follow = goes.follow told_settled

    becomes : BecomesSound opening.catalog (full_history opening.core) before settled
    becomes = became told

    -- an image is one of before the opening, or was left since the files were sound
    split : (fs : FileSet) → after.left_since before.moment fs → before.may_leave fs ⊎ after.left_since becomes.moment fs
    split fs is =
        ⊎_elim (λ first. ⊎_elim (λ may. inl may) (λ sound. inr (follow.keeps becomes.moment fs becomes.by_now sound)) (becomes.before fs first))
        (λ later. inr ((honest now.files.rack told_after).earlier becomes.moment settled.moment fs becomes.by_now later))
        (follow.nothing_else before.moment fs (let begun = becomes.begun in let by_now = becomes.by_now in omega arith) is)

    -- what came since the engine was opened, and nothing before
    own : ComeInTurn opening.catalog (full_history now.core) Ahead after (history_of opening.core) settled.moment goes.came
    own = subst (λ c. ComeInTurn c (full_history now.core) (IsOneAhead c may_start now.core now.phase) after (history_of opening.core) settled.moment goes.came) goes.catalog (goes.images told_settled)

    alike : beginning (full_history opening.core) (history_of opening.core) ≡ beginning (full_history now.core) (history_of opening.core)
    alike = begins_alike (full_history opening.core) (full_history now.core) one_each (continues r may_start opening now goes) (history_of opening.core) [] (sym (append-nil (history_of opening.core)))

    old_sound : (fs : FileSet) → IsOld fs → IsSound opening.catalog (beginning (full_history opening.core) (history_of opening.core)) fs
    old_sound fs sound = subst (λ h. IsSound opening.catalog h fs) (is_beginning (full_history opening.core) (full_history opening.core) one_each (continues_none (full_history opening.core))) sound

    pub in_turn : FromOpening Turns before after
    in_turn = record {
      moment = becomes.moment;
      begun = becomes.begun;
      by_now = let by_now = becomes.by_now in let later = follow.later in omega arith;
      before = split;
      since = in_turn_by opening.catalog (full_history opening.core) (full_history now.core) (λ fs. ⊥) Ahead settled after (honest now.files.rack told_after) follow (λ fs none. none)
          (history_of opening.core) becomes.moment goes.came alike becomes.by_now (record { has = λ fs left. inl (old_sound fs (becomes.each.has fs left)) }) own;
    }

  -- So the files of the history are kept by all that the engine did.
  pub are_kept : (now.phase ≡ Settled → Told after → IsSound now.catalog (full_history now.core) after.files)
      → (now.phase ≡ Settled → Told after → EachImage after after.moment (IsSound now.catalog (full_history now.core)))
      → AreKept opening.catalog (full_history opening.core) now.core Ahead now.phase before after
  are_kept read each = record {
    came = goes.came;
    events = goes.events;
    started = goes.started;
    plans = goes.plans;
    sound = was_sound;
    in_turn = in_turn;
    read = λ on told. subst (λ c. IsSound c (full_history now.core) after.files) goes.catalog (read on (told_after told));
    each = λ on told. subst (λ c. EachImage after after.moment (IsSound c (full_history now.core))) goes.catalog (each on (told_after told));
  }
