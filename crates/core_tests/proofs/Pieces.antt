-- What a core handed out stays so, and the piece that a request is answered with was handed out.
use Rattle.std.proofs.Common.{◌≡◌, ℕ, List, [], ◌∷◌, ◌++◌, Some, sym, ap, subst, ◌∙◌, append_assoc}
use Rattle.process_tree.specs.Order.{Each}
use Rattle.process_tree.proofs.Every.{Each-weaker, Each-append}
use Rattle.machine_model.specs.declared.kept.Kept.{Kept}
use Rattle.machine_model.specs.Advance.{Machine, advance}
use Rattle.machine_model.specs.Calls.{Call, Reply, admit, admitted, admit_kept, next, next_is, next_kept}
use Rattle.machine_model.specs.Moment.{Moment, Piece}
use Rattle.machine_model.specs.Pieces.{piece_of}
use Rattle.machine_model.specs.Replies.{Admit, Handed, Next, all_victims, admit_reply, chosen, kept_hand, piece}
use Rattle.machine_model.specs.Runs.{now}
use Rattle.machine_model.proofs.Snoc.{now-kept, now-push}
use Rattle.machine_model.proofs.TidyMoments.{piece_of-more, run-tidy}
use Rattle.process_core.specs.Answers.{after_call, answer_in}
use Rattle.process_core.specs.Cores.{CoreState, IsCore, IsHandedBy, courses_in, machine_of, moment_of, relation}
use Rattle.core_tests.specs.Pieces.{AreHandedBy, StayHanded}

-- after a call too
pub stay_handed : (c d : CoreState) (call : Call) → d ≡ after_call c call → StayHanded c d
stay_handed c d call is p handed = subst (λ x. IsHandedBy x p) (sym is) (piece_of-more c.kept (answer_in c call).kept p.number p handed)

-- so do all of a list
pub all_stay : (c d : CoreState) (ps : List Handed) → StayHanded c d → AreHandedBy c ps → AreHandedBy d ps
all_stay c d ps stay are = Each-weaker (λ (h : Handed). IsHandedBy c h.piece) (λ (h : Handed). IsHandedBy d h.piece) (λ h handed. stay h.piece handed) ps are

pub still_handed : (c d : CoreState) (call : Call) (ps : List Handed) → d ≡ after_call c call → AreHandedBy c ps → AreHandedBy d ps
still_handed c d call ps is are = all_stay c d ps (stay_handed c d call is) are

-- the last of a list has what each has
of_last : (P : Piece → Type 0) (xs : List Piece) (x : Piece) → Each P (xs ++ x ∷ []) → P x
of_last P [] x each = each.0
of_last P (y ∷ ys) x each = of_last P ys x each.1

-- the piece of the last kept event was handed out
last_handed : (d : CoreState) (ks : List Kept) (h : Handed) → IsCore d → d.kept ≡ ks ++ kept_hand h ∷ [] → IsHandedBy d h.piece
last_handed d ks h core last =
    let s : Machine = record { opening = d.opening; courses = courses_in d; kept = ks; served = d.served } in
    let m = now (relation d) s in
    let here : moment_of d ≡ advance (relation d) (courses_in d) m (kept_hand h) =
    ap (λ xs. now (relation d) (record { opening = d.opening; courses = courses_in d; kept = xs; served = d.served })) last ∙ now-push (relation d) s (kept_hand h) in
    let out : (moment_of d).out ≡ m.out ++ h.piece ∷ [] = ap (λ (n : Moment). n.out) here in
    let linked = (run-tidy (relation d) (machine_of d) core.session.run).linked in
    let among = subst (Each (λ (p : Piece). piece_of (moment_of d).kept p.number ≡ Some p)) out linked in
    let mine = of_last (λ (p : Piece). piece_of (moment_of d).kept p.number ≡ Some p) m.out h.piece among in
    subst (λ xs. piece_of xs h.piece.number ≡ Some h.piece) (now-kept (relation d) (machine_of d)) mine

-- the answers to the requests for pieces, from their replies
abbrev reply_in : Reply → Admit → Admit
reply_in (admitted r) other = r
reply_in r other = other

abbrev next_in : Reply → Next → Next
next_in (next_is r) other = r
next_in r other = other

-- a piece that is admitted was handed out
admitted_now : (c d : CoreState) (i : ℕ) (h : Handed) → IsCore d → d ≡ after_call c (admit i) → admitted (piece h) ≡ (answer_in c (admit i)).reply → IsHandedBy d h.piece
admitted_now c d i h core is replied =
    let told : admit_reply (relation c) (courses_in c) (moment_of c) i ≡ piece h = sym (ap (λ r. reply_in r (piece h)) replied) in
    last_handed d c.kept h core (ap (λ (x : CoreState). x.kept) is ∙ ap (λ r. c.kept ++ admit_kept r) told)

-- and so was one that is chosen
chosen_now : (c d : CoreState) (h : Handed) → IsCore d → d ≡ after_call c next → next_is (chosen h) ≡ (answer_in c next).reply → IsHandedBy d h.piece
chosen_now c d h core is replied =
    let vs = all_victims (relation c) (courses_in c) (moment_of c) in
    let told = sym (ap (λ r. next_in r (chosen h)) replied) in
    last_handed d (c.kept ++ vs) h core
    (ap (λ (x : CoreState). x.kept) is ∙ (ap (λ r. c.kept ++ (vs ++ next_kept r)) told ∙ sym (append_assoc c.kept vs (kept_hand h ∷ []))))

-- the pieces with one more
with_piece : (c d : CoreState) (call : Call) (h : Handed) (ps : List Handed) → d ≡ after_call c call → AreHandedBy c ps → IsHandedBy d h.piece → AreHandedBy d (ps ++ h ∷ [])
with_piece c d call h ps is are new = Each-append (λ (x : Handed). IsHandedBy d x.piece) ps (h ∷ []) (still_handed c d call ps is are) (new, tt)

pub with_admitted : (c d : CoreState) (i : ℕ) (h : Handed) (ps : List Handed) → IsCore d → d ≡ after_call c (admit i) → admitted (piece h) ≡ (answer_in c (admit i)).reply → AreHandedBy c ps → AreHandedBy d (ps ++ h ∷ [])
with_admitted c d i h ps core is replied are = with_piece c d (admit i) h ps is are (admitted_now c d i h core is replied)

pub with_chosen : (c d : CoreState) (h : Handed) (ps : List Handed) → IsCore d → d ≡ after_call c next → next_is (chosen h) ≡ (answer_in c next).reply → AreHandedBy c ps → AreHandedBy d (ps ++ h ∷ [])
with_chosen c d h ps core is replied are = with_piece c d next h ps is are (chosen_now c d h core is replied)
