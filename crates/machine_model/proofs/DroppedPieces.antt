-- A piece of a group that was dropped changes no answer to the queueing of another.
use Rattle.std.specs.Prelude.{◌&&◌, ◌||◌, if◌then◌else◌}
use Rattle.std.specs.List.{list_any, filter_map, cons_option}
use Rattle.std.proofs.Common.{◌≡◌, ℕ, Bool, true, false, cond, eqb, List, [], ◌∷◌, filter, Option, Some, None, sym, refl, ap, ◌∙◌}
use Rattle.std.proofs.lemmas.Bool.{eqb-true}
use Rattle.schedule_model.specs.Histories.{is_in}
use Rattle.machine_model.specs.declared.kept.Kept.TheVariants.{Refuse}
use Rattle.machine_model.specs.Moment.{Moment, Piece}
use Rattle.machine_model.specs.Pieces.{hands, piece_of, runs, state_of}
use Rattle.machine_model.specs.Advance.{advance}
use Rattle.machine_model.specs.Replies.{refusal_reply}
use Rattle.machine_model.specs.Groups.{Taken, Queue, over, pieces_in, is_end_piece, share_key, can_be_barred, is_full, out_queue, queue_by, queue_piece}
use Rattle.machine_model.specs.CallLaws.{DroppedChangeNoAnswer}
use Rattle.machine_model.proofs.CallsKept.{find-passes}

-- a running one among the pieces of a group is among those that run
any_running : (f : Piece → Bool) (m : Moment) (group : List ℕ)
    → list_any (λ q. f q && runs m q.number) (pieces_in m (filter (runs m) group)) ≡ list_any (λ q. f q && runs m q.number) (pieces_in m group)
any_running f m [] = refl
any_running f m (g ∷ group) = by (runs m g) (piece_of m.kept g) refl refl (any_running f m group)
  where
    Test : Piece → Bool
    Test q = f q && runs m q.number

    not_it : (b x : Bool) → x ≡ ((b && false) || x)
    not_it true x = refl
    not_it false x = refl

    by : (t : Bool) (o : Option Piece) → runs m g ≡ t → piece_of m.kept g ≡ o → list_any Test (pieces_in m (filter (runs m) group)) ≡ list_any Test (pieces_in m group)
        → list_any Test (filter_map (piece_of m.kept) (cond t (g ∷ filter (runs m) group) (filter (runs m) group))) ≡ list_any Test (cons_option o (pieces_in m group))
    by true None t_is o_is same = ap (λ o. list_any Test (cons_option o (pieces_in m (filter (runs m) group)))) o_is ∙ same
    by true (Some q) t_is o_is same = ap (λ o. list_any Test (cons_option o (pieces_in m (filter (runs m) group)))) o_is ∙ ap (λ b. Test q || b) same
    by false None t_is o_is same = same
    by false (Some q) t_is o_is same =
        let number : q.number ≡ g = eqb-true q.number g (find-passes (λ p. eqb p.number g) (hands m.kept) q o_is) in
        let out : runs m q.number ≡ false = ap (runs m) number ∙ t_is in
        same ∙ not_it (f q) (list_any Test (pieces_in m group)) ∙ ap (λ t. (f q && t) || list_any Test (pieces_in m group)) (sym out)

-- what isn't in a group isn't among some of it
not_among : (p : ℕ → Bool) (n : ℕ) (group : List ℕ) → is_in n group ≡ false → is_in n (filter p group) ≡ false
not_among p n [] new = refl
not_among p n (g ∷ group) new = by (p g) (eqb n g) refl new (not_among p n group)
  where
    by : (t here : Bool) → eqb n g ≡ here → (here || is_in n group) ≡ false → (is_in n group ≡ false → is_in n (filter p group) ≡ false) → is_in n (cond t (g ∷ filter p group) (filter p group)) ≡ false
    by t true is new further = absurd cc
    by true false is new further = ap (λ b. b || is_in n (filter p group)) is ∙ further new
    by false false is new further = further new

pub dropped_change_no_answer : DroppedChangeNoAnswer
dropped_change_no_answer table targets courses m group n taken new = by_piece (piece_of m.kept n) refl
  where
    answered : Piece → Bool → Bool → Taken → Queue
    answered p queued' full' how =
        if queued' then over
        else queue_by (out_queue (is_end_piece p) full' (refusal_reply courses (advance table courses m (Refuse p.number)) p) how) (state_of m p.number)

    by_piece : (o : Option Piece) → piece_of m.kept n ≡ o
        → queue_piece table targets courses m (filter (runs m) group) taken o ≡ queue_piece table targets courses m group taken o
    by_piece None found = refl
    by_piece (Some p) found =
        let number : p.number ≡ n = eqb-true p.number n (find-passes (λ q. eqb q.number n) (hands m.kept) p found) in
        let fresh : is_in p.number group ≡ false = ap (λ k. is_in k group) number ∙ new in
        let same : is_full targets courses m (filter (runs m) group) p ≡ is_full targets courses m group p =
        ap (λ b. can_be_barred targets courses p && b) (any_running (share_key targets courses p) m group) in
        ap (λ b. answered p b (is_full targets courses m (filter (runs m) group) p) taken) (not_among (runs m) p.number group fresh ∙ sym fresh)
        ∙ ap (λ b. answered p (is_in p.number group) b taken) same
