-- Queueing a piece and flushing a group answer what they answered before.
use Rattle.std.proofs.Common.{◌≡◌, ℕ, ◌+◌, Bool, true, false, not, eqb, ◌&&◌, ◌||◌, if◌then◌else◌, List, [], ◌∷◌, length, map, sym, refl, ap, ◌∙◌, arith}
use Rattle.std.specs.Prelude.{Option, Some, None, slice_index_or, unwrap_or}
use Rattle.std.specs.Bool.{IsTrue}
use Rattle.std.specs.List.{cons_option, list_any}
use Rattle.std.specs.Option.{option_map}
use Rattle.std.proofs.Math.Bool.{and-false}
use Rattle.std.proofs.lemmas.Bool.{eqb-true}
use Rattle.std.proofs.lemmas.Option.{same_Some}
use Rattle.process_tree.specs.declared.plan.Plan.{Plan}
use Rattle.schedule_model.specs.declared.event.Event.{Event}
use Rattle.schedule_model.specs.Course.{Course, course, key_of, op_of}
use Rattle.schedule_model.specs.Conflict.{ConflictRelation}
use Rattle.schedule_model.specs.Histories.{is_active, is_in}
use Rattle.machine_model.specs.declared.kept.Kept.TheVariants.{Refuse}
use Rattle.machine_model.specs.declared.kept.Work.TheVariants.{Forward, End}
use Rattle.machine_model.specs.declared.replies.Refusal.{Refusal}
use Rattle.machine_model.specs.declared.replies.PieceState.TheVariants.{Out}
use Rattle.machine_model.specs.Advance.{Machine, advance}
use Rattle.machine_model.specs.Groups.{Ended, Queue, Taken, Targets, as_barred, as_done, as_refused, can_be_barred, dropped_at_event, effected, ended_then, flush_reply, is_end_piece, is_full, out_queue, over, pieces_in, queue_by, queue_piece, queue_reply, share_key}
use Rattle.machine_model.specs.Laws.{IsSession}
use Rattle.machine_model.specs.Moment.{Moment, Piece}
use Rattle.machine_model.specs.Pieces.{dropped_at, dropped_or_over, hands, piece_of, runs, state_of}
use Rattle.machine_model.specs.Progress.{same_work}
use Rattle.machine_model.specs.Replies.{refusal_reply}
use Rattle.machine_model.specs.Runs.{now}
use Rattle.forgetting_model.specs.Moments.{IsLeftOf, renumbered_piece}
use Rattle.forgetting_model.specs.Remaining.{courses_left, number_since}
use Rattle.forgetting_model.specs.Replies.{ForgettingChangesNoFlush, ForgettingChangesNoQueue, forgotten, later_end}
use Rattle.forgetting_model.proofs.FinishAlike.{dropped_alike, places, refusal_alike, runs_alike}
use Rattle.forgetting_model.proofs.LeftMoments.{piece_of-by}
use Rattle.forgetting_model.proofs.Mirrored.{find-passes}
use Rattle.forgetting_model.proofs.MomentLaws.{are, known, known_since, own}

-- what is taken from a list, each
taken_step : {Y Z : Type 0} (g : Y → Z) (a : Option Z) (b : Option Y) (zs : List Z) (ys : List Y) → a ≡ option_map g b → zs ≡ map g ys → cons_option a zs ≡ map g (cons_option b ys)
taken_step g a None zs ys same rest = ap (λ o. cons_option o zs) same ∙ rest
taken_step g a (Some y) zs ys same rest = ap (λ o. cons_option o zs) same ∙ ap (λ vs. g y ∷ vs) rest

module _ (table : ConflictRelation) (plans : List Plan) (s : Machine) (h : List Event) (n : Moment) (session : IsSession table plans s) (left : IsLeftOf h (now table s) n) where
  abbrev m : Moment
  m = now table s

  abbrev since : List Course
  since = courses_left s.courses h

  abbrev rp : Piece → Piece
  rp = renumbered_piece (number_since h)

  pieces_alike : (group : List ℕ) → pieces_in n group ≡ map rp (pieces_in m group)
  pieces_alike [] = refl
  pieces_alike (x ∷ group) =
      taken_step rp (piece_of n.kept x) (piece_of m.kept x) (pieces_in n group) (pieces_in m group)
      (ap (λ ks. piece_of ks x) left.kept ∙ piece_of-by (number_since h) m.kept x) (pieces_alike group)

  number_of : (x : ℕ) (p : Piece) → piece_of m.kept x ≡ Some p → p.number ≡ x
  number_of x p at = eqb-true p.number x (find-passes (λ (q : Piece). eqb q.number x) (hands m.kept) p at)

  goes_with : (x : ℕ) (p : Piece) → piece_of m.kept x ≡ Some p → runs m x ≡ true → IsTrue (is_active m.events p.process)
  goes_with x p at out =
      let q = own table plans s h n session left x out in
      ap (λ (r : Piece). is_active m.events r.process) (sym (same_Some q.piece p (sym q.found ∙ at))) ∙ q.active

  course_alike : (i : ℕ) → IsTrue (is_active m.events i) → course s.courses i ≡ course since (number_since h i)
  course_alike i goes =
      ap (course s.courses) (sym (known table plans s h n session left i goes))
      ∙ (are table plans s h n session left).same (number_since h i) (known_since table plans s h n session left i goes)

  op_alike : (i b : ℕ) → IsTrue (is_active m.events i) → op_of s.courses i b ≡ op_of since (number_since h i) b
  op_alike i b goes = ap (λ (c : Course). slice_index_or c.ops b 0) (course_alike i goes)

  key_alike : (i b : ℕ) → IsTrue (is_active m.events i) → key_of s.courses i b ≡ key_of since (number_since h i) b
  key_alike i b goes = ap (λ (c : Course). slice_index_or c.keys b 0) (course_alike i goes)

  module _ (targets : Targets) (p : Piece) (goes : IsTrue (is_active m.events p.process)) where
    barred_alike : can_be_barred targets s.courses p ≡ can_be_barred targets since (rp p)
    barred_alike = ap (λ o. same_work p.work Forward && (targets o).has_bar) (op_alike p.process p.step goes)

    share_alike : (q : Piece) → IsTrue (is_active m.events q.process) → share_key targets s.courses p q ≡ share_key targets since (rp p) (rp q)
    share_alike q goes_q =
        ap (λ o. not (is_end_piece p) && not (is_end_piece q) && eqb (targets o).subsystem (targets (op_of s.courses q.process q.step)).subsystem && eqb (key_of s.courses p.process p.step) (key_of s.courses q.process q.step)) (op_alike p.process p.step goes)
        ∙ (ap (λ o. not (is_end_piece p) && not (is_end_piece q) && eqb (targets (op_of since (number_since h p.process) p.step)).subsystem (targets o).subsystem && eqb (key_of s.courses p.process p.step) (key_of s.courses q.process q.step)) (op_alike q.process q.step goes_q)
        ∙ (ap (λ k. not (is_end_piece p) && not (is_end_piece q) && eqb (targets (op_of since (number_since h p.process) p.step)).subsystem (targets (op_of since (number_since h q.process) q.step)).subsystem && eqb k (key_of s.courses q.process q.step)) (key_alike p.process p.step goes)
        ∙ ap (λ k. not (is_end_piece p) && not (is_end_piece q) && eqb (targets (op_of since (number_since h p.process) p.step)).subsystem (targets (op_of since (number_since h q.process) q.step)).subsystem && eqb (key_of since (number_since h p.process) p.step) k) (key_alike q.process q.step goes_q)))

    one_alike : (x : ℕ) (q : Piece) → piece_of m.kept x ≡ Some q → (t : Bool) → runs m q.number ≡ t
        → (share_key targets s.courses p q && runs m q.number) ≡ (share_key targets since (rp p) (rp q) && runs n q.number)
    one_alike x q at true out =
        ap (λ t. t && runs m q.number) (share_alike q (goes_with x q at (ap (runs m) (sym (number_of x q at)) ∙ out)))
        ∙ ap (λ t. share_key targets since (rp p) (rp q) && t) (runs_alike table plans s h n session left q.number)
    one_alike x q at false none =
        ap (λ t. share_key targets s.courses p q && t) none ∙ (and-false (share_key targets s.courses p q)
        ∙ sym (ap (λ t. share_key targets since (rp p) (rp q) && t) (sym (runs_alike table plans s h n session left q.number) ∙ none) ∙ and-false (share_key targets since (rp p) (rp q))))

    any_piece : (x : ℕ) (o : Option Piece) (qs : List Piece) → piece_of m.kept x ≡ o
        → list_any (λ (q : Piece). share_key targets s.courses p q && runs m q.number) qs ≡ list_any (λ (q : Piece). share_key targets since (rp p) q && runs n q.number) (map rp qs)
        → list_any (λ (q : Piece). share_key targets s.courses p q && runs m q.number) (cons_option o qs) ≡ list_any (λ (q : Piece). share_key targets since (rp p) q && runs n q.number) (map rp (cons_option o qs))
    any_piece x None qs at rest = rest
    any_piece x (Some q) qs at rest =
        ap (λ t. t || list_any (λ (q : Piece). share_key targets s.courses p q && runs m q.number) qs) (one_alike x q at (runs m q.number) refl)
        ∙ ap (λ t. (share_key targets since (rp p) (rp q) && runs n q.number) || t) rest

    any_alike : (group : List ℕ) → list_any (λ (q : Piece). share_key targets s.courses p q && runs m q.number) (pieces_in m group)
        ≡ list_any (λ (q : Piece). share_key targets since (rp p) q && runs n q.number) (map rp (pieces_in m group))
    any_alike [] = refl
    any_alike (x ∷ group) = any_piece x (piece_of m.kept x) (pieces_in m group) refl (any_alike group)

    full_alike : (group : List ℕ) → is_full targets s.courses m group p ≡ is_full targets since n group (rp p)
    full_alike group =
        ap (λ t. t && list_any (λ (q : Piece). share_key targets s.courses p q && runs m q.number) (pieces_in m group)) barred_alike
        ∙ ap (λ t. can_be_barred targets since (rp p) && t)
        (any_alike group ∙ ap (list_any (λ (q : Piece). share_key targets since (rp p) q && runs n q.number)) (sym (pieces_alike group)))

  -- what an end that is out is answered doesn't ask what a refusal would lead to
  end_queue : (f : Bool) (r q : Refusal) (taken : Taken) → out_queue true f r taken ≡ out_queue true f q taken
  end_queue f r q as_done = refl
  end_queue f r q as_refused = refl
  end_queue f r q as_barred = refl

  dropped_same : (a b : Queue) (d : Option ℕ) → queue_by a (dropped_or_over d) ≡ queue_by b (dropped_or_over d)
  dropped_same a b None = refl
  dropped_same a b (Some e) = refl

  module _ (targets : Targets) (group : List ℕ) (taken : Taken) (x : ℕ) (p : Piece) (at : piece_of m.kept x ≡ Some p) where
    abbrev refusal_before : Refusal
    refusal_before = refusal_reply s.courses (advance table s.courses m (Refuse p.number)) p

    abbrev refusal_since : Refusal
    refusal_since = refusal_reply since (advance table since n (Refuse p.number)) (rp p)

    refusals_same : runs m x ≡ true → same_work p.work End ≡ false → refusal_before ≡ refusal_since
    refusals_same out no_end =
        ap (λ y. refusal_reply s.courses (advance table s.courses m (Refuse y)) p) (number_of x p at)
        ∙ (refusal_alike table plans s h n session left x p at (goes_with x p at out) no_end out
        ∙ ap (λ y. refusal_reply since (advance table since n (Refuse y)) (rp p)) (sym (number_of x p at)))

    out_by : runs m x ≡ true → (t : Bool) → same_work p.work End ≡ t → out_queue t (is_full targets s.courses m group p) refusal_before taken ≡ out_queue t (is_full targets since n group (rp p)) refusal_since taken
    out_by out true is =
        end_queue (is_full targets s.courses m group p) refusal_before refusal_since taken
        ∙ ap (λ f. out_queue true f refusal_since taken) (full_alike targets p (goes_with x p at out) group)
    out_by out false is =
        ap (λ r. out_queue false (is_full targets s.courses m group p) r taken) (refusals_same out is)
        ∙ ap (λ f. out_queue false f refusal_since taken) (full_alike targets p (goes_with x p at out) group)

    by_state : (t : Bool) → runs m x ≡ t
        → queue_by (out_queue (is_end_piece p) (is_full targets s.courses m group p) refusal_before taken) (if t then Out else dropped_or_over (dropped_at m x))
        ≡ queue_by (out_queue (is_end_piece p) (is_full targets since n group (rp p)) refusal_since taken) (if t then Out else dropped_or_over (dropped_at n x))
    by_state true out = out_by out (same_work p.work End) refl
    by_state false none =
        ap (λ d. queue_by (out_queue (is_end_piece p) (is_full targets s.courses m group p) refusal_before taken) (dropped_or_over d)) (dropped_alike table plans s h n session left x)
        ∙ dropped_same (out_queue (is_end_piece p) (is_full targets s.courses m group p) refusal_before taken) (out_queue (is_end_piece p) (is_full targets since n group (rp p)) refusal_since taken) (dropped_at n x)

    states : queue_by (out_queue (is_end_piece p) (is_full targets s.courses m group p) refusal_before taken) (state_of m p.number)
        ≡ queue_by (out_queue (is_end_piece p) (is_full targets since n group (rp p)) refusal_since taken) (state_of n p.number)
    states =
        ap (λ y. queue_by (out_queue (is_end_piece p) (is_full targets s.courses m group p) refusal_before taken) (state_of m y)) (number_of x p at)
        ∙ (by_state (runs m x) refl
        ∙ (ap (λ t. queue_by (out_queue (is_end_piece p) (is_full targets since n group (rp p)) refusal_since taken) (if t then Out else dropped_or_over (dropped_at n x))) (runs_alike table plans s h n session left x)
        ∙ ap (λ y. queue_by (out_queue (is_end_piece p) (is_full targets since n group (rp p)) refusal_since taken) (state_of n y)) (sym (number_of x p at))))

    queued_alike : queue_piece table targets s.courses m group taken (Some p) ≡ queue_piece table targets since n group taken (Some (rp p))
    queued_alike = ap (λ q. if is_in p.number group then over else q) states

  by_piece : (targets : Targets) (group : List ℕ) (taken : Taken) (x : ℕ) (o : Option Piece) → piece_of m.kept x ≡ o
      → queue_piece table targets s.courses m group taken o ≡ queue_piece table targets since n group taken (option_map rp o)
  by_piece targets group taken x None at = refl
  by_piece targets group taken x (Some p) at = queued_alike targets group taken x p at

  pub queues : (targets : Targets) (group : List ℕ) (x : ℕ) (taken : Taken) → queue_reply table targets s.courses m group x taken ≡ queue_reply table targets since n group x taken
  queues targets group x taken =
      by_piece targets group taken x (piece_of m.kept x) refl
      ∙ ap (queue_piece table targets since n group taken) (sym (ap (λ ks. piece_of ks x) left.kept ∙ piece_of-by (number_since h) m.kept x))

  -- A flush.

  ended_step : (x c d : ℕ) (rest : ℕ → List Ended) (rest_since : ℕ → List Ended) → c ≡ forgotten h + d → ((e f : ℕ) → e ≡ forgotten h + f → rest e ≡ map (later_end (forgotten h)) (rest_since f))
      → (a b : Bool) → a ≡ b → ended_then m c x rest a ≡ map (later_end (forgotten h)) (ended_then n d x rest_since b)
  ended_step x c d rest rest_since at same a true is =
      let next : c + 1 ≡ forgotten h + (d + 1) = omega arith in
      ap (ended_then m c x rest) is ∙ (ap (λ e. record { piece = x; ending = effected e } ∷ rest (c + 1)) next
      ∙ ap (λ es. record { piece = x; ending = effected (forgotten h + (d + 1)) } ∷ es) (same (c + 1) (d + 1) next))
  ended_step x c d rest rest_since at same a false is =
      ap (ended_then m c x rest) is
      ∙ (ap (λ o. record { piece = x; ending = dropped_at_event (unwrap_or o 0) } ∷ rest c) (dropped_alike table plans s h n session left x)
      ∙ ap (λ es. record { piece = x; ending = dropped_at_event (unwrap_or (dropped_at n x) 0) } ∷ es) (same c d at))

  flushes_from : (group : List ℕ) (c d : ℕ) → c ≡ forgotten h + d → flush_reply m c group ≡ map (later_end (forgotten h)) (flush_reply n d group)
  flushes_from [] c d at = refl
  flushes_from (x ∷ group) c d at =
      ended_step x c d (λ k. flush_reply m k group) (λ k. flush_reply n k group) at (λ e f is. flushes_from group e f is) (runs m x) (runs n x) (runs_alike table plans s h n session left x)

  pub flushes : (group : List ℕ) → flush_reply m (length m.events) group ≡ map (later_end (forgotten h)) (flush_reply n (length n.events) group)
  flushes group = flushes_from group (length m.events) (length n.events) (places table plans s h n session left)

pub forgetting_changes_no_queue : ForgettingChangesNoQueue
forgetting_changes_no_queue table plans s h n targets group x taken session left = queues table plans s h n session left targets group x taken

pub forgetting_changes_no_flush : ForgettingChangesNoFlush
forgetting_changes_no_flush table plans s h n group session left = flushes table plans s h n session left group
