-- An event leaves the progress of every process as it was, but that of the process whose piece it ends, and of those that begin
-- to complete.
use Rattle.std.proofs.Common.{◌≡◌, ℕ, ◌+◌, Bool, true, false, not, cond, eqb, ◌&&◌, List, [], ◌∷◌, ◌++◌, length, filter, find, map, Option, Some, None, sym, refl, ap, ◌∙◌, append-nil, arith}
use Rattle.std.proofs.lemmas.Bool.{and_parts, and_left, eqb-true, false≢true}
use Rattle.process_tree.specs.declared.entry.Entry.{Entry}
use Rattle.schedule_model.specs.declared.event.Event.{Event}
use Rattle.schedule_model.specs.declared.event.Event.TheVariants.{Start as Started, Act, End as Ended}
use Rattle.schedule_model.specs.Course.{Course, shape}
use Rattle.schedule_model.specs.Conflict.{ConflictRelation}
use Rattle.schedule_model.specs.Histories.{net_of, net_steps, done_steps, steps_of, doing, undoing}
use Rattle.schedule_model.proofs.Appends.{done_steps-append}
use Rattle.schedule_model.proofs.Snoc.{net_of-other, net_of-start, net_of-end, done_steps-undo}
use Rattle.machine_model.specs.declared.kept.Kept.{Kept}
use Rattle.machine_model.specs.declared.kept.Kept.TheVariants.{Start, Hand, Effect, Refuse, Abort, Victim, Restart}
use Rattle.machine_model.specs.declared.kept.Work.{Work}
use Rattle.machine_model.specs.declared.kept.Work.TheVariants.{Forward, Undo, End}
use Rattle.machine_model.specs.Progress.{Progress, above, is_only_try}
use Rattle.machine_model.specs.Moment.{Moment, Piece, noted, happened, has_begun}
use Rattle.machine_model.specs.Pieces.{hands, piece_of, refused_pieces}
use Rattle.machine_model.specs.State.{progress, refused_before, refused_steps}
use Rattle.machine_model.specs.Advance.{event_of, with_piece}
use Rattle.machine_model.specs.PieceLaws.{piece_ended}
use Rattle.machine_model.specs.Runs.{may_be_kept, is_no_end}
use Rattle.machine_model.proofs.Snoc.{hands-append}
use Rattle.machine_model.proofs.RunInduction.{entered}
use Rattle.machine_model.proofs.PieceCounts.{Counted, is_number}
use Rattle.machine_model.proofs.RefusedPieces.{refused-plain, refused-hand, refused-others, unhanded-unrefused}

-- what one process has done is the same in two histories
pub record SameFor (g h : List Event) (i : ℕ) : Type 0 where
  pub net : net_of g i ≡ net_of h i
  pub done : done_steps g i ≡ done_steps h i

pub same_history : (h : List Event) (i : ℕ) → SameFor h h i
same_history h i = record { net = refl; done = refl }

pub start-leaves : (h : List Event) (k i : ℕ) → SameFor (h ++ Started k ∷ []) h i
start-leaves h k i = record { net = net_of-start h k i; done = done_steps-append h (Started k ∷ []) i ∙ append-nil (done_steps h i) }

pub end-leaves : (h : List Event) (k i : ℕ) → SameFor (h ++ Ended k ∷ []) h i
end-leaves h k i = record { net = net_of-end h k i; done = done_steps-append h (Ended k ∷ []) i ∙ append-nil (done_steps h i) }

done-other : (h : List Event) (e : Entry) (i : ℕ) → e.undo ≡ false → eqb e.process i ≡ false → done_steps (h ++ Act e ∷ []) i ≡ done_steps h i
done-other h e i forward away =
    done_steps-append h (Act e ∷ []) i
    ∙ (ap (λ es. done_steps h i ++ steps_of (filter (λ (f : Entry). eqb f.process i) es)) (ap (λ t. cond (not t) (e ∷ []) []) forward)
    ∙ (ap (λ t. done_steps h i ++ steps_of (cond t (e ∷ []) [])) away ∙ append-nil (done_steps h i)))

-- the event of a piece leaves the other processes
pub event-leaves : (courses : List Course) (h : List Event) (p : Piece) (i : ℕ) → eqb p.process i ≡ false → SameFor (h ++ event_of courses p ∷ []) h i
event-leaves courses h p i away = by_work p.work
  where
    by_work : (w : Work) → SameFor (h ++ event_of courses (record { number = p.number; process = p.process; step = p.step; work = w }) ∷ []) h i
    by_work Forward = record { net = net_of-other h (doing courses p.process p.step) i away; done = done-other h (doing courses p.process p.step) i refl away }
    by_work Undo = record { net = net_of-other h (undoing (doing courses p.process p.step)) i away; done = done_steps-undo h (undoing (doing courses p.process p.step)) i refl }
    by_work End = end-leaves h p.process i

-- the same progress comes of the same steps, refusals and beginnings
pub same_progress : (courses : List Course) (m n : Moment) (i : ℕ) → SameFor n.events m.events i → refused_steps courses n i ≡ refused_steps courses m i → has_begun n i ≡ has_begun m i
    → progress courses n i ≡ progress courses m i
same_progress courses m n i same refused begun =
    ap (λ w. by_parts w (done_steps n.events i) (refused_steps courses n i) (has_begun n i)) (ap steps_of same.net)
    ∙ (ap (λ ds. by_parts (net_steps m.events i) ds (refused_steps courses n i) (has_begun n i)) same.done
    ∙ (ap (λ rs. by_parts (net_steps m.events i) (done_steps m.events i) rs (has_begun n i)) refused
    ∙ ap (by_parts (net_steps m.events i) (done_steps m.events i) (refused_steps courses m i)) begun))
  where
    by_parts : List ℕ → List ℕ → List ℕ → Bool → Progress
    by_parts w ds rs b = record { shape = shape courses i; net = w; onward = above (ds ++ rs); begun = b }

-- the piece of a number is the same after an event that hands none out
pub piece_of-plain : (ks : List Kept) (k : Kept) (n : ℕ) → hands (k ∷ []) ≡ [] → piece_of (ks ++ k ∷ []) n ≡ piece_of ks n
piece_of-plain ks k n none = ap (find (is_number n)) (hands-append ks (k ∷ []) ∙ (ap (λ ps. hands ks ++ ps) none ∙ append-nil (hands ks)))

-- the event ends no piece of process i
abbrev pub IsOfOthers : List Kept → Kept → ℕ → Type 0
IsOfOthers ks k i = (p : Piece) → piece_ended ks k ≡ Some p → eqb p.process i ≡ false

module _ (table : ConflictRelation) (courses : List Course) where
  by_kept : (ks : List Kept) (m : Moment) (i : ℕ) → refused_pieces ks ≡ refused_pieces m.kept
      → refused_before m i ++ map (λ (p : Piece). p.step) (filter (λ (p : Piece). eqb p.process i && is_only_try (shape courses i) p.step p.work) (refused_pieces ks)) ≡ refused_steps courses m i
  by_kept ks m i same = ap (λ ps. refused_before m i ++ map (λ (p : Piece). p.step) (filter (λ (p : Piece). eqb p.process i && is_only_try (shape courses i) p.step p.work) ps)) same

  perhaps : (m : Moment) (i : ℕ) (o : Option Piece) → ((p : Piece) → o ≡ Some p → eqb p.process i ≡ false) → SameFor (with_piece (λ p. happened m (event_of courses p)) m o).events m.events i
  perhaps m i None away = same_history m.events i
  perhaps m i (Some p) away = event-leaves courses m.events p i (away p refl)

  perhaps_kept : (m : Moment) (i : ℕ) (o : Option Piece) → refused_steps courses (with_piece (λ p. happened m (event_of courses p)) m o) i ≡ refused_steps courses m i
  perhaps_kept m i None = refl
  perhaps_kept m i (Some p) = refl

  perhaps_begun : (m : Moment) (i : ℕ) (o : Option Piece) → has_begun (with_piece (λ p. happened m (event_of courses p)) m o) i ≡ has_begun m i
  perhaps_begun m i None = refl
  perhaps_begun m i (Some p) = refl

  refused_by : (m : Moment) (n i : ℕ) (o : Option Piece) → Counted m → may_be_kept table courses m (Refuse n) ≡ true → piece_of m.kept n ≡ o → ((p : Piece) → o ≡ Some p → eqb p.process i ≡ false)
      → refused_steps courses (noted m (Refuse n)) i ≡ refused_steps courses m i
  refused_by m n i None c may found away = absurd (false≢true (sym (ap is_no_end found) ∙ (and_parts _ _ may).1))
  refused_by m n i (Some p) c may found away = ap (λ ps. refused_before m i ++ map (λ (q : Piece). q.step) ps)
      (refused-others m n i p (λ q. eqb q.process i && is_only_try (shape courses i) q.step q.work) c found (away p refl) (λ q other. and_left _ _ other))

  -- before anybody begins to complete, an event leaves the progress of the processes whose piece it doesn't end
  pub entered-leaves : (m : Moment) (k : Kept) (i : ℕ) → Counted m → may_be_kept table courses m k ≡ true → IsOfOthers m.kept k i → progress courses (entered courses m k) i ≡ progress courses m i
  entered-leaves m (Start j) i c may away = same_progress courses m (entered courses m (Start j)) i (start-leaves m.events j i) (by_kept (m.kept ++ Start j ∷ []) m i (refused-plain m.kept (Start j) refl (λ n. refl))) refl
  entered-leaves m (Hand piece process step work) i c may away =
      let next = eqb-true piece (length (hands m.kept) + 1) (and_parts _ _ (and_parts _ _ (and_parts _ _ may).0).0).0 in
      let new = c.fresh piece (omega arith) in
      same_progress courses m (noted m (Hand piece process step work)) i (same_history m.events i)
      (by_kept (m.kept ++ Hand piece process step work ∷ []) m i (refused-hand m.kept (record { number = piece; process = process; step = step; work = work }) (unhanded-unrefused m piece c new))) refl
  entered-leaves m (Effect n) i c may away =
      let o = piece_of (noted m (Effect n)).kept n in
      let at : (p : Piece) → o ≡ Some p → eqb p.process i ≡ false = λ (p : Piece) (is : o ≡ Some p). away p (sym (piece_of-plain m.kept (Effect n) n refl) ∙ is) in
      same_progress courses m (entered courses m (Effect n)) i (perhaps (noted m (Effect n)) i o at)
      (perhaps_kept (noted m (Effect n)) i o ∙ by_kept (m.kept ++ Effect n ∷ []) m i (refused-plain m.kept (Effect n) refl (λ x. refl))) (perhaps_begun (noted m (Effect n)) i o)
  entered-leaves m (Refuse n) i c may away = same_progress courses m (noted m (Refuse n)) i (same_history m.events i) (refused_by m n i (piece_of m.kept n) c may refl away) refl
  entered-leaves m (Abort j) i c may away = same_progress courses m (noted m (Abort j)) i (same_history m.events i) (by_kept (m.kept ++ Abort j ∷ []) m i (refused-plain m.kept (Abort j) refl (λ n. refl))) refl
  entered-leaves m (Victim j) i c may away = same_progress courses m (noted m (Victim j)) i (same_history m.events i) (by_kept (m.kept ++ Victim j ∷ []) m i (refused-plain m.kept (Victim j) refl (λ n. refl))) refl
  entered-leaves m Restart i c may away = same_progress courses m (noted m Restart) i (same_history m.events i) (by_kept (m.kept ++ Restart ∷ []) m i (refused-plain m.kept Restart refl (λ n. refl))) refl
