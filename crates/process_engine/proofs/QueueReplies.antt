-- What the machine replies to the queueing of a piece.
use Rattle.std.proofs.Common.{◌≡◌, ◌∙◌, true, false, if◌then◌else◌, cond, ◌&&◌, ℕ, Bool, List, [], ◌∷◌, Option, Some, None, refl, sym, ap}
use Rattle.std.specs.List.{list_any}
use Rattle.process_tree.specs.Order.{Each}
use Rattle.process_tree.specs.declared.play.Outcome.TheVariants.{Refused as Fails}
use Rattle.schedule_model.specs.Histories.{is_in}
use Rattle.machine_model.specs.declared.kept.Kept.TheVariants.{Refuse}
use Rattle.machine_model.specs.declared.kept.Work.TheVariants.{End}
use Rattle.machine_model.specs.declared.replies.PieceState.{PieceState}
use Rattle.machine_model.specs.declared.replies.PieceState.TheVariants.{Out, Dropped, Over}
use Rattle.machine_model.specs.declared.replies.Refusal.{Refusal}
use Rattle.machine_model.specs.Advance.{advance}
use Rattle.machine_model.specs.Calls.{finish, finished}
use Rattle.machine_model.specs.Groups.{Targets, Taken, can_be_barred, is_end_piece, is_full, out_queue, over, dropped, pieces_in, queue_by, queue_piece, queue_reply, share_key}
use Rattle.machine_model.specs.Moment.{Piece}
use Rattle.machine_model.specs.Pieces.{dropped_or_over, piece_of, runs, state_of}
use Rattle.machine_model.specs.Progress.{same_work}
use Rattle.machine_model.specs.Replies.{finish_by, finish_piece, out_finish, refusal_reply, refused, refused_unless_end}
use Rattle.machine_model.proofs.Snoc.{now-kept}
use Rattle.process_core.specs.Answers.{answer_in}
use Rattle.process_core.specs.Cores.{CoreState, IsHandedBy, courses_in, machine_of, moment_of, relation}
use Rattle.process_engine.specs.Pieces.{numbers_of}
use Rattle.process_engine.specs.Queues.{IsUnfinished}

same_refusal : (a b : Refusal) → finished (refused a) ≡ finished (refused b) → a ≡ b
same_refusal a b is = cc

-- the pieces of a group are those of its numbers
pub group_pieces : (core : CoreState) (ps : List Piece) → Each (IsUnfinished core) ps → pieces_in (moment_of core) (numbers_of ps) ≡ ps
group_pieces core [] each = refl
group_pieces core (p ∷ ps) each =
    rw (ap (λ ks. piece_of ks p.number) (now-kept (relation core) (machine_of core)) ∙ each.0.handed) (ap (λ qs. p ∷ qs) (group_pieces core ps each.1))

module _ (core : CoreState) (p : Piece) (handed : IsHandedBy core p) where
  found : piece_of (moment_of core).kept p.number ≡ Some p
  found = ap (λ ks. piece_of ks p.number) (now-kept (relation core) (machine_of core)) ∙ handed

  -- what its refusal leads to
  abbrev pub refusal : Refusal
  refusal = refusal_reply (courses_in core) (advance (relation core) (courses_in core) (moment_of core) (Refuse p.number)) p

  pub refused_as : state_of (moment_of core) p.number ≡ Out → same_work p.work End ≡ false → (r : Refusal) → finished (refused r) ≡ (answer_in core (finish p.number Fails)).reply → r ≡ refusal
  refused_as out no_end r is =
      same_refusal r refusal (is
      ∙ ap (λ o. finished (finish_piece (relation core) (courses_in core) (moment_of core) Fails o)) found
      ∙ ap (λ s. finished (finish_by (out_finish (relation core) (courses_in core) (moment_of core) p Fails) s)) out
      ∙ ap (λ b. finished (refused_unless_end (relation core) (courses_in core) (moment_of core) p b)) no_end)

  module _ (targets : Targets) (group : List ℕ) (taken : Taken) (new : is_in p.number group ≡ false) where
    by_state : (s : PieceState) → state_of (moment_of core) p.number ≡ s
        → queue_reply (relation core) targets (courses_in core) (moment_of core) group p.number taken
        ≡ queue_by (out_queue (is_end_piece p) (is_full targets (courses_in core) (moment_of core) group p) refusal taken) s
    by_state s is =
        ap (queue_piece (relation core) targets (courses_in core) (moment_of core) group taken) found
        ∙ ap (λ b. if b then over else queue_by (out_queue (is_end_piece p) (is_full targets (courses_in core) (moment_of core) group p) refusal taken) (state_of (moment_of core) p.number)) new
        ∙ ap (queue_by (out_queue (is_end_piece p) (is_full targets (courses_in core) (moment_of core) group p) refusal taken)) is

    -- of a piece that is out
    pub out_reply : state_of (moment_of core) p.number ≡ Out → queue_reply (relation core) targets (courses_in core) (moment_of core) group p.number taken
        ≡ out_queue (is_end_piece p) (is_full targets (courses_in core) (moment_of core) group p) refusal taken
    out_reply out = by_state Out out

    pub dropped_reply : (k : ℕ) → state_of (moment_of core) p.number ≡ Dropped k → queue_reply (relation core) targets (courses_in core) (moment_of core) group p.number taken ≡ dropped k
    dropped_reply k is = by_state (Dropped k) is

    pub over_reply : state_of (moment_of core) p.number ≡ Over → queue_reply (relation core) targets (courses_in core) (moment_of core) group p.number taken ≡ over
    over_reply is = by_state Over is

  -- one that is queued is over
  pub queued_reply : (targets : Targets) (group : List ℕ) (taken : Taken) → is_in p.number group ≡ true
      → queue_reply (relation core) targets (courses_in core) (moment_of core) group p.number taken ≡ over
  queued_reply targets group taken queued =
      ap (queue_piece (relation core) targets (courses_in core) (moment_of core) group taken) found
      ∙ ap (λ b. if b then over else queue_by (out_queue (is_end_piece p) (is_full targets (courses_in core) (moment_of core) group p) refusal taken) (state_of (moment_of core) p.number)) queued

-- whether a group is full is told by its pieces
pub full_by : (core : CoreState) (targets : Targets) (ps : List Piece) (p : Piece) → Each (IsUnfinished core) ps
    → is_full targets (courses_in core) (moment_of core) (numbers_of ps) p
    ≡ (can_be_barred targets (courses_in core) p && list_any (λ q. share_key targets (courses_in core) p q && runs (moment_of core) q.number) ps)
full_by core targets ps p each = ap (λ qs. can_be_barred targets (courses_in core) p && list_any (λ q. share_key targets (courses_in core) p q && runs (moment_of core) q.number) qs) (group_pieces core ps each)

-- a piece is out where it runs
pub runs_by : (b : Bool) (d : Option ℕ) → cond b Out (dropped_or_over d) ≡ Out → b ≡ true
runs_by true d is = refl
runs_by false None is = cc
runs_by false (Some k) is = cc

-- and is dropped or over where it doesn't
pub stops_by : (b : Bool) (d : Option ℕ) (s : PieceState) → cond b Out (dropped_or_over d) ≡ s → (s ≡ Out → ⊥) → b ≡ false
stops_by true d s is other = absurd (other (sym is))
stops_by false d s is other = refl
