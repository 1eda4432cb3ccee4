-- Requests for pieces and to complete, as lines of a session.
use Rattle.std.proofs.Common.{◌≡◌, ◌∙◌, ℕ, zero, suc, List, [], ◌∷◌, ◌++◌, length, map, codes, Option, Some, None, refl, ap, sym, subst, append-nil}
use Rattle.std.proofs.lemmas.List.{map-append}
use Rattle.std.proofs.lemmas.List.Concat.{flat_map-append}
use Rattle.std.specs.List.{filter_map}
use Rattle.process_tree.proofs.Every.{Each-append, Each-weaker}
use Rattle.process_text.specs.Canonical.{line_of}
use Rattle.schedule_model.specs.Conflict.{ConflictRelation}
use Rattle.schedule_model.specs.Course.{Course}
use Rattle.schedule_model.specs.Histories.{active}
use Rattle.machine_model.specs.declared.kept.Kept.{Kept}
use Rattle.machine_model.specs.declared.kept.Kept.TheVariants.{Victim}
use Rattle.machine_model.specs.declared.replies.Aborted.{Aborted}
use Rattle.machine_model.specs.declared.replies.Aborted.TheVariants as aborts
use Rattle.machine_model.specs.Calls.{Reply, abort, abort_kept, aborted, admit, admit_kept, admitted, next, next_is, next_kept}
use Rattle.machine_model.specs.Advance.{advance}
use Rattle.machine_model.specs.Moment.{Moment, Piece}
use Rattle.machine_model.specs.Pieces.{hands}
use Rattle.machine_model.specs.Replies.{Admit, Handed, Next, abort_reply, admit_reply, all_victims, victim_then, victims}
use Rattle.machine_model.specs.State.{victim_of as victim_now}
use Rattle.machine_model.proofs.Snoc.{hands-append}
use Rattle.process_core.specs.Answers.{after_call, answer_in}
use Rattle.process_core.specs.Cores.{CoreState, IsHandedBy, courses_in, moment_of, relation}
use Rattle.process_core.specs.Handing.{admit_reply_of}
use Rattle.process_core.specs.Rotation.{next_reply_of}
use Rattle.process_core.specs.declared.replies.Admit.{Admit as CoreAdmit}
use Rattle.process_core.specs.declared.replies.Admit.TheVariants as admits
use Rattle.process_core.specs.declared.replies.Next.{Next as CoreNext}
use Rattle.process_core.specs.declared.replies.Next.TheVariants as nexts
use Rattle.process_report.specs.Lines.{Line as Words, text_of}
use Rattle.session_text.specs.Answers.{abort_words, admit_words, next_words, numbered}
use Rattle.engine_calls.specs.GateAnswers.{IsAdmitted, IsGiven}
use Rattle.engine_calls.proofs.HandedPieces.{stays_handed}
use Rattle.session_play.specs.Answering.{IsAnswered}
use Rattle.session_play.specs.Pieces.{AreHandedBy, admitted_pieces, chosen_pieces, number_of, session_of}
use Rattle.session_play.specs.Playing.{just_began, play_abort, play_admit, play_next, reply_to_next, victim_of}

-- What a core handed out it has handed out still once more is kept.
pub all_stay : (old new : CoreState) (added : List Kept) (hs : List Handed) → new.kept ≡ old.kept ++ added → AreHandedBy old hs → AreHandedBy new hs
all_stay old new added hs is are = Each-weaker (λ (h : Handed). IsHandedBy old h.piece) (λ (h : Handed). IsHandedBy new h.piece) (λ h handed. stays_handed old new added is h.piece handed) hs are

-- the reply of each kind of call
abbrev admit_in : Reply → Admit → Admit
admit_in (admitted r) other = r
admit_in r other = other

abbrev next_in : Reply → Next → Next
next_in (next_is r) other = r
next_in r other = other

abbrev abort_in : Reply → Aborted → Aborted
abort_in (aborted r) other = r
abort_in r other = other

abbrev numbers : List Kept → List ℕ
numbers ks = map (λ (p : Piece). p.number) (hands ks)

numbers_admitted : (r : CoreAdmit) → map number_of (admitted_pieces r) ≡ numbers (admit_kept (admit_reply_of r))
numbers_admitted (admits.Piece d) = refl
numbers_admitted (admits.Blocked b) = refl
numbers_admitted admits.Running = refl
numbers_admitted admits.Unknown = refl
numbers_admitted admits.Ended = refl
numbers_admitted (admits.Exhausted b) = refl

-- A request for a piece of a process is answered,
pub admit_answered : (old new : CoreState) (hs qs : List Handed) (i : ℕ) (r : CoreAdmit) (text : List ℕ) → new ≡ after_call old (admit i) → admitted (admit_reply_of r) ≡ (answer_in old (admit i)).reply
    → text ≡ line_of (admit_words new.plans i (admit_reply_of r)) → IsAnswered (play_admit (session_of old hs qs) i) new (hs ++ admitted_pieces r) qs text
admit_answered old new hs qs i r text is replied told =
    let reply : admit_reply_of r ≡ admit_reply (relation old) (courses_in old) (moment_of old) i = ap (λ x. admit_in x (admit_reply_of r)) replied in
    record {
      state = ap (λ c. session_of c (hs ++ admitted_pieces r) qs) is
          ∙ ap (λ ns. record { core = after_call old (admit i); unfinished = ns; group = map number_of qs })
          (map-append number_of hs (admitted_pieces r) ∙ ap (λ ns. map number_of hs ++ ns) (numbers_admitted r ∙ ap (λ x. numbers (admit_kept x)) reply));
      printed = told ∙ (ap (λ (c : CoreState). line_of (admit_words c.plans i (admit_reply_of r))) is ∙ ap (λ x. line_of (admit_words old.plans i x)) reply);
    }

-- and its piece is at hand.
pub admit_handed : (new : CoreState) (hs : List Handed) (r : CoreAdmit) → AreHandedBy new hs → IsAdmitted new r → AreHandedBy new (hs ++ admitted_pieces r)
admit_handed new hs (admits.Piece d) are is = Each-append (λ (h : Handed). IsHandedBy new h.piece) hs (d ∷ []) are (is.handed, tt)
admit_handed new hs (admits.Blocked b) are is = subst (AreHandedBy new) (sym (append-nil hs)) are
admit_handed new hs admits.Running are is = subst (AreHandedBy new) (sym (append-nil hs)) are
admit_handed new hs admits.Unknown are is = subst (AreHandedBy new) (sym (append-nil hs)) are
admit_handed new hs admits.Ended are is = subst (AreHandedBy new) (sym (append-nil hs)) are
admit_handed new hs (admits.Exhausted b) are is = subst (AreHandedBy new) (sym (append-nil hs)) are

-- victims hand out no piece
none_then : (rest : ℕ → List Kept) → ((i : ℕ) → hands (rest i) ≡ []) → (o : Option ℕ) → hands (victim_then rest o) ≡ []
none_then rest none None = refl
none_then rest none (Some i) = none i

no_hands : (n : ℕ) (table : ConflictRelation) (courses : List Course) (m : Moment) → hands (victims n table courses m) ≡ []
no_hands zero table courses m = refl
no_hands (suc n) table courses m =
    none_then (λ i. victims n table courses (advance table courses m (Victim i))) (λ i. no_hands n table courses (advance table courses m (Victim i))) (victim_now table courses m)

numbers_chosen : (r : CoreNext) → map number_of (chosen_pieces r) ≡ numbers (next_kept (next_reply_of r))
numbers_chosen (nexts.Piece d) = refl
numbers_chosen (nexts.Wait w) = refl
numbers_chosen nexts.AllEnded = refl
numbers_chosen (nexts.Stuck i) = refl

-- lines and one more are printed one after the other
text_of-snoc : (lines : List Words) (line : Words) → text_of (lines ++ line ∷ []) ≡ text_of lines ++ line_of line
text_of-snoc lines line = flat_map-append line_of lines (line ∷ []) ∙ ap (λ text. text_of lines ++ text) (append-nil (line_of line))

-- A request for any piece is answered,
pub next_answered : (old new : CoreState) (hs qs : List Handed) (r : CoreNext) (text : List ℕ) → new ≡ after_call old next → next_is (next_reply_of r) ≡ (answer_in old next).reply
    → text ≡ text_of (map (numbered (codes "victim")) (filter_map victim_of (answer_in old next).kept)) ++ line_of (next_words new.plans (next_reply_of r))
    → IsAnswered (play_next (session_of old hs qs)) new (hs ++ chosen_pieces r) qs text
next_answered old new hs qs r text is replied told =
    let reply : next_reply_of r ≡ reply_to_next old = ap (λ x. next_in x (next_reply_of r)) replied in
    let vs = all_victims (relation old) (courses_in old) (moment_of old) in
    let own : numbers (answer_in old next).kept ≡ numbers (next_kept (reply_to_next old)) =
    ap (map (λ (p : Piece). p.number)) (hands-append vs (next_kept (reply_to_next old))
    ∙ ap (λ ps. ps ++ hands (next_kept (reply_to_next old))) (no_hands (length (active (moment_of old).events)) (relation old) (courses_in old) (moment_of old))) in
    let said = map (numbered (codes "victim")) (filter_map victim_of (answer_in old next).kept) in
    record {
      state = ap (λ c. session_of c (hs ++ chosen_pieces r) qs) is
          ∙ ap (λ ns. record { core = after_call old next; unfinished = ns; group = map number_of qs })
          (map-append number_of hs (chosen_pieces r) ∙ ap (λ ns. map number_of hs ++ ns) (numbers_chosen r ∙ (ap (λ x. numbers (next_kept x)) reply ∙ sym own)));
      printed = told ∙ (ap (λ (c : CoreState). text_of said ++ line_of (next_words c.plans (next_reply_of r))) is
          ∙ (ap (λ x. text_of said ++ line_of (next_words old.plans x)) reply ∙ sym (text_of-snoc said (next_words old.plans (reply_to_next old)))));
    }

-- and its piece is at hand.
pub next_handed : (new : CoreState) (hs : List Handed) (r : CoreNext) → AreHandedBy new hs → IsGiven new r → AreHandedBy new (hs ++ chosen_pieces r)
next_handed new hs (nexts.Piece d) are is = Each-append (λ (h : Handed). IsHandedBy new h.piece) hs (d ∷ []) are (is.handed, tt)
next_handed new hs (nexts.Wait w) are is = subst (AreHandedBy new) (sym (append-nil hs)) are
next_handed new hs nexts.AllEnded are is = subst (AreHandedBy new) (sym (append-nil hs)) are
next_handed new hs (nexts.Stuck i) are is = subst (AreHandedBy new) (sym (append-nil hs)) are

numbers_aborted : (i : ℕ) (r : Aborted) → numbers (abort_kept i r) ≡ []
numbers_aborted i aborts.Ok = refl
numbers_aborted i aborts.Unknown = refl
numbers_aborted i aborts.Ended = refl
numbers_aborted i aborts.Exhausted = refl
numbers_aborted i aborts.Already = refl

-- A request to complete is answered.
pub abort_answered : (old new : CoreState) (hs qs : List Handed) (i : ℕ) (r : Aborted) (text : List ℕ) → new ≡ after_call old (abort i) → aborted r ≡ (answer_in old (abort i)).reply
    → text ≡ line_of (abort_words i (just_began new) r) → IsAnswered (play_abort (session_of old hs qs) i) new hs qs text
abort_answered old new hs qs i r text is replied told =
    let reply : r ≡ abort_reply (courses_in old) (moment_of old) i = ap (λ x. abort_in x r) replied in
    record {
      state = ap (λ c. session_of c hs qs) is
          ∙ ap (λ ns. record { core = after_call old (abort i); unfinished = ns; group = map number_of qs })
          (sym (ap (λ ns. map number_of hs ++ ns) (numbers_aborted i (abort_reply (courses_in old) (moment_of old) i)) ∙ append-nil (map number_of hs)));
      printed = told ∙ (ap (λ c. line_of (abort_words i (just_began c) r)) is ∙ ap (λ x. line_of (abort_words i (just_began (after_call old (abort i))) x)) reply);
    }
