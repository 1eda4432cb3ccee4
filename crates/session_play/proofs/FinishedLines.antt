-- The end of a piece, as a line of a session.
use Rattle.std.proofs.Common.{◌≡◌, ◌≢◌, ◌∙◌, ◌⊎◌, ℕ, Bool, true, false, List, [], ◌++◌, Option, Some, None, inl, inr, refl, ap, sym, subst, append-nil}
use Rattle.process_disk.specs.Disk.{Disk}
use Rattle.process_tree.specs.declared.play.Outcome.{Outcome}
use Rattle.process_tree.specs.declared.play.Outcome.TheVariants.{Done, Refused}
use Rattle.schedule_model.specs.Conflict.{ConflictRelation}
use Rattle.schedule_model.specs.Course.{Course}
use Rattle.machine_model.specs.declared.kept.Work.TheVariants.{End}
use Rattle.machine_model.specs.declared.replies.PieceState.{PieceState}
use Rattle.machine_model.specs.declared.replies.PieceState.TheVariants as states
use Rattle.machine_model.specs.declared.replies.Refusal.{Refusal}
use Rattle.machine_model.specs.Calls.{finish}
use Rattle.machine_model.specs.Moment.{Moment, Piece}
use Rattle.machine_model.specs.Pieces.{piece_of, state_of}
use Rattle.machine_model.specs.Progress.{same_work}
use Rattle.machine_model.specs.Replies.{Finish as Reply, Handed, dropped, effected, finish_by, finish_kept, finish_piece, finish_reply, over, refused, refused_unless_end}
use Rattle.process_core.specs.Answers.{after_call}
use Rattle.process_core.specs.Cores.{courses_in, moment_of, relation}
use Rattle.engine_steps.specs.Engines.{EngineState}
use Rattle.process_engine.specs.Finishing.{Finishes, RepliesAs}
use Rattle.engine_steps.specs.declared.engines.Phase.TheVariants as phase
use Rattle.process_engine.specs.declared.finishing.Finish.{Finish}
use Rattle.process_engine.specs.declared.finishing.Finish.TheVariants as finishes

module _ (table : ConflictRelation) (courses : List Course) (m : Moment) where
  done_by : (n : ℕ) (r : Refusal) (s : PieceState) → finish_by (effected n) s ≡ refused r → ⊥
  done_by n r states.Out is = absurd cc
  done_by n r (states.Dropped k) is = absurd cc
  done_by n r states.Over is = absurd cc

  -- a piece whose outcome is that it is done is not refused,
  never_refused : (o : Option Piece) (r : Refusal) → finish_piece table courses m Done o ≡ refused r → ⊥
  never_refused None r is = absurd cc
  never_refused (Some p) r is = done_by _ r (state_of m p.number) is

  end_by : (p : Piece) (k : ℕ) (b : Bool) → refused_unless_end table courses m p b ≡ effected k → ⊥
  end_by p k true is = absurd cc
  end_by p k false is = absurd cc

  refused_by : (p : Piece) (k : ℕ) (s : PieceState) → finish_by (refused_unless_end table courses m p (same_work p.work End)) s ≡ effected k → ⊥
  refused_by p k states.Out is = end_by p k (same_work p.work End) is
  refused_by p k (states.Dropped j) is = absurd cc
  refused_by p k states.Over is = absurd cc

  -- and one whose outcome is that it is refused takes no effect.
  never_effected : (o : Option Piece) (k : ℕ) → finish_piece table courses m Refused o ≡ effected k → ⊥
  never_effected None k is = absurd cc
  never_effected (Some p) k is = refused_by p k (state_of m p.number) is

module _ {R B : Type 0} (disk : R → Disk) (old new : EngineState R B) (p : Handed) where
  -- the machine's reply
  abbrev replied : Outcome → Reply
  replied outcome = finish_reply (relation old.core) (courses_in old.core) (moment_of old.core) p.piece.number outcome

  -- A core that keeps nothing of a reply stays as it is.
  nothing_kept : (outcome : Outcome) (r : Reply) → replied outcome ≡ r → finish_kept p.piece.number r ≡ [] → new.core ≡ old.core → new.core ≡ after_call old.core (finish p.piece.number outcome)
  nothing_kept outcome r is none left =
      left ∙ sym (ap (λ ks. record { conflicts = old.core.conflicts; plans = old.core.plans; opening = old.core.opening; kept = old.core.kept ++ ks; served = old.core.served })
      (ap (finish_kept p.piece.number) is ∙ none)
      ∙ ap (λ ks. record { conflicts = old.core.conflicts; plans = old.core.plans; opening = old.core.opening; kept = ks; served = old.core.served }) (append-nil old.core.kept))

  -- What an engine made of a refusal,
  refused_core : (outcome : Outcome) (r : Refusal) → replied outcome ≡ refused r → new.core ≡ after_call old.core (finish p.piece.number Refused) → new.core ≡ after_call old.core (finish p.piece.number outcome)
  refused_core Refused r is core = core
  refused_core Done r is core = absurd (never_refused (relation old.core) (courses_in old.core) (moment_of old.core) (piece_of (moment_of old.core).kept p.piece.number) r is)

  -- and of an effect.
  effected_core : (outcome : Outcome) (k : ℕ) → replied outcome ≡ effected k → new.core ≡ after_call old.core (finish p.piece.number Done) → new.core ≡ after_call old.core (finish p.piece.number outcome)
  effected_core Done k is core = core
  effected_core Refused k is core = absurd (never_effected (relation old.core) (courses_in old.core) (moment_of old.core) (piece_of (moment_of old.core).kept p.piece.number) k is)

  -- The machine went on by the end of a piece, where memory was there and the rack didn't fail.
  pub finished_core : (outcome : Outcome) (found : Finish) → Finishes disk old new p outcome found → found ≢ finishes.DiskFault → ((q : Handed) → found ≢ finishes.NoMemory q)
      → new.core ≡ after_call old.core (finish p.piece.number outcome)
  finished_core outcome (finishes.Effected n) is rack memory = effected_core outcome n is.reply is.left.core
  finished_core outcome (finishes.Retry k) is rack memory = refused_core outcome _ is.reply is.left.0.core
  finished_core outcome finishes.Failed is rack memory = by is.reply
    where
      by : RepliesAs finishes.Failed (replied outcome) → new.core ≡ after_call old.core (finish p.piece.number outcome)
      by (inl other) = refused_core outcome _ other is.left.0.core
      by (inr back) = refused_core outcome _ back is.left.0.core
  finished_core outcome finishes.Over is rack memory = nothing_kept outcome over is.reply refl (ap (λ (e : EngineState R B). e.core) is.left)
  finished_core outcome (finishes.Dropped k) is rack memory = nothing_kept outcome (dropped k) is.reply refl (ap (λ (e : EngineState R B). e.core) is.left)
  finished_core outcome finishes.Exhausted is rack memory = refused_core outcome _ is.reply is.left.0.core
  finished_core outcome finishes.DiskFault is rack memory = absurd (rack refl)
  finished_core outcome (finishes.NoMemory q) is rack memory = absurd (memory q refl)
  finished_core outcome (finishes.Closed n) is rack memory = absurd is.reply

  -- It went on so, or stayed, where the rack didn't fail.
  pub finished_or_left : (outcome : Outcome) (found : Finish) → Finishes disk old new p outcome found → found ≢ finishes.DiskFault
      → (new.core ≡ old.core) ⊎ (new.core ≡ after_call old.core (finish p.piece.number outcome))
  finished_or_left outcome (finishes.NoMemory q) is rack = inl is.left.0.core
  finished_or_left outcome (finishes.Effected n) is rack = inr (finished_core outcome (finishes.Effected n) is rack (λ q no. absurd cc))
  finished_or_left outcome (finishes.Retry k) is rack = inr (finished_core outcome (finishes.Retry k) is rack (λ q no. absurd cc))
  finished_or_left outcome finishes.Failed is rack = inr (finished_core outcome finishes.Failed is rack (λ q no. absurd cc))
  finished_or_left outcome finishes.Over is rack = inr (finished_core outcome finishes.Over is rack (λ q no. absurd cc))
  finished_or_left outcome (finishes.Dropped k) is rack = inr (finished_core outcome (finishes.Dropped k) is rack (λ q no. absurd cc))
  finished_or_left outcome finishes.Exhausted is rack = inr (finished_core outcome finishes.Exhausted is rack (λ q no. absurd cc))
  finished_or_left outcome finishes.DiskFault is rack = absurd (rack refl)
  finished_or_left outcome (finishes.Closed n) is rack = absurd is.reply

  -- A call of the rack failed: the engine is closed with what it had.
  pub closed_core : (outcome : Outcome) → Finishes disk old new p outcome finishes.DiskFault → (new.core ≡ old.core) × (new.phase ≡ phase.Closed)
  closed_core outcome is = (is.left.core, is.left.phase)

  -- It was not closed before.
  pub never_closed : (outcome : Outcome) (found : Finish) (n : ℕ) → Finishes disk old new p outcome found → found ≡ finishes.Closed n → ⊥
  never_closed outcome found n is closed = (subst (λ f. RepliesAs f (replied outcome)) closed is.reply)
