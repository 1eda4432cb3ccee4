-- What an engine handed out stays so, and the piece of a reply was handed out as the reply tells it.
use Rattle.std.proofs.Common.{◌≡◌, ◌∙◌, ◌+◌, ℕ, Bool, true, false, eqb, List, [], ◌∷◌, ◌++◌, length, map, drop, find, slice_index_or, Option, Some, None, is_some, if◌then◌else◌, refl, ap, subst, sym, append_assoc, arith}
use Rattle.std.proofs.lemmas.Bool.{eq-eqb, ne_eqb}
use Rattle.process_tree.specs.Blocks.{numbers_from}
use Rattle.process_tree.specs.Order.{Each}
use Rattle.schedule_model.specs.Conflict.{ConflictRelation}
use Rattle.schedule_model.specs.Course.{Course}
use Rattle.schedule_model.specs.Histories.{active, is_active, is_in, starts}
use Rattle.machine_model.specs.declared.blocked.Blocked.{Blocked}
use Rattle.machine_model.specs.declared.kept.Kept.{Kept}
use Rattle.machine_model.specs.declared.kept.Kept.TheVariants.{Start, Hand, Effect, Refuse, Abort, Victim, Restart}
use Rattle.machine_model.specs.declared.kept.Work.{Work}
use Rattle.machine_model.specs.Advance.{advance_all}
use Rattle.machine_model.specs.Calls.{Reply, admit, admit_kept, admitted, next, next_is, next_kept}
use Rattle.machine_model.specs.Moment.{Moment, Piece}
use Rattle.machine_model.specs.Pieces.{hands, piece_of, refusals, running_of}
use Rattle.machine_model.specs.Replies.{Admit, Handed, Next, admit_by_active, admit_by_known, admit_by_running, admit_by_tries, admit_reply, all_victims, chosen, wait, all_ended, stuck, hand_to, kept_hand, next_reply, none_free_by_active, none_free_by_running, none_free_reply, piece, blocked, running, unknown, ended, exhausted, piece_of_free, piece_unless, refuse_by, rotation}
use Rattle.machine_model.specs.State.{block_of, is_exhausted, is_free}
use Rattle.machine_model.proofs.Snoc.{advance_all-kept, hands-append, now-kept}
use Rattle.machine_model.proofs.TidyMoments.{piece_of-more}
use Rattle.process_core.specs.Answers.{after_call, answer_in}
use Rattle.process_core.specs.Cores.{CoreState, IsCore, IsHandedBy, courses_in, machine_of, moment_of, relation}
use Rattle.process_core.specs.Handing.{AreNumbered, admit_reply_of}
use Rattle.process_core.specs.Rotation.{next_reply_of}
use Rattle.process_core.specs.declared.replies.Admit.{Admit as CoreAdmit}
use Rattle.process_core.specs.declared.replies.Admit.TheVariants as admits
use Rattle.process_core.specs.declared.replies.Next.{Next as CoreNext}
use Rattle.process_core.specs.declared.replies.Next.TheVariants as nexts
use Rattle.process_core.proofs.NumberedPieces.{hands_numbered, last_numbered}
use Rattle.engine_calls.specs.GateAnswers.{IsAdmitted, IsGiven, IsHandedAs, kept_before}

-- A piece that was handed out stays handed out as more is kept.
pub stays_handed : (old new : CoreState) (added : List Kept) → new.kept ≡ old.kept ++ added → (p : Piece) → IsHandedBy old p → IsHandedBy new p
stays_handed old new added is p handed = subst (λ ks. piece_of ks p.number ≡ Some p) (sym is) (piece_of-more old.kept added p.number p handed)

-- pieces of other numbers
abbrev AreOthers : ℕ → List Piece → Type 0
AreOthers n ps = Each (λ (p : Piece). eqb p.number n ≡ false) ps

-- where pieces are numbered, those before the last one have other numbers than it
before_last : (a : ℕ) (ps : List Piece) (p : Piece) → map (λ (q : Piece). q.number) (ps ++ p ∷ []) ≡ numbers_from a (length (ps ++ p ∷ [])) → AreOthers p.number ps
before_last a [] p are = tt
before_last a (q ∷ ps) p are =
    let first : q.number ≡ a = ap (λ xs. slice_index_or xs 0 0) are in
    let last = last_numbered a (q ∷ ps) p are in
    (ne_eqb q.number p.number (λ same. absurd (omega (arith, first, last, same))), before_last (a + 1) ps p (ap (drop 1) are))

-- what was kept before a piece was handed out
before_step : (n a i b : ℕ) (w : Work) (ks js : List Kept) → kept_before n (ks ++ js) ≡ ks → (t : Bool) → t ≡ false
    → (if t then [] else Hand a i b w ∷ kept_before n (ks ++ js)) ≡ Hand a i b w ∷ ks
before_step n a i b w ks js rest true other = absurd cc
before_step n a i b w ks js rest false other = ap (λ xs. Hand a i b w ∷ xs) rest

kept_before-hand : (n i b : ℕ) (w : Work) (ks : List Kept) → AreOthers n (hands ks) → kept_before n (ks ++ Hand n i b w ∷ []) ≡ ks
kept_before-hand n i b w [] others = ap (λ t. if t then [] else Hand n i b w ∷ []) (eq-eqb n n refl)
kept_before-hand n i b w (Hand a j d v ∷ ks) others =
    before_step n a j d v ks (Hand n i b w ∷ []) (kept_before-hand n i b w ks others.1) (eqb a n) others.0
kept_before-hand n i b w (Start j ∷ ks) others = ap (λ xs. Start j ∷ xs) (kept_before-hand n i b w ks others)
kept_before-hand n i b w (Effect p ∷ ks) others = ap (λ xs. Effect p ∷ xs) (kept_before-hand n i b w ks others)
kept_before-hand n i b w (Refuse p ∷ ks) others = ap (λ xs. Refuse p ∷ xs) (kept_before-hand n i b w ks others)
kept_before-hand n i b w (Abort j ∷ ks) others = ap (λ xs. Abort j ∷ xs) (kept_before-hand n i b w ks others)
kept_before-hand n i b w (Victim j ∷ ks) others = ap (λ xs. Victim j ∷ xs) (kept_before-hand n i b w ks others)
kept_before-hand n i b w (Restart ∷ ks) others = ap (λ xs. Restart ∷ xs) (kept_before-hand n i b w ks others)

-- the last of pieces that are numbered is found by its number
found_last : (p : Piece) (ps : List Piece) → AreOthers p.number ps → find (λ q. eqb q.number p.number) (ps ++ p ∷ []) ≡ Some p
found_last p [] others = ap (λ t. if t then Some p else None) (eq-eqb p.number p.number refl)
found_last p (q ∷ ps) others = ap (λ t. if t then Some q else find (λ r. eqb r.number p.number) (ps ++ p ∷ [])) others.0 ∙ found_last p ps others.1

-- The piece whose hand was kept last was handed out with what is told of it.
last_handed : (c : CoreState) (ks : List Kept) (d : Handed) → IsCore c → c.kept ≡ ks ++ kept_hand d ∷ []
    → d.tried ≡ refusals ks d.piece.process d.piece.step d.piece.work → d.refuse ≡ refuse_by (courses_in c) d.piece.process d.piece.step d.piece.work → IsHandedAs c d
last_handed c ks d core last tried refuse =
    let all : hands c.kept ≡ hands ks ++ d.piece ∷ [] = ap hands last ∙ hands-append ks (kept_hand d ∷ []) in
    let others = before_last 1 (hands ks) d.piece (subst AreNumbered all (hands_numbered c core)) in
    let before = ap (kept_before d.piece.number) last ∙ kept_before-hand d.piece.number d.piece.process d.piece.step d.piece.work ks others in
    record {
      handed = ap (find (λ q. eqb q.number d.piece.number)) all ∙ found_last d.piece (hands ks) others;
      told = ap (λ xs. record { piece = d.piece; tried = refusals xs d.piece.process d.piece.step d.piece.work; refuse = refuse_by (courses_in c) d.piece.process d.piece.step d.piece.work }) before
          ∙ (ap (λ n. record { piece = d.piece; tried = n; refuse = refuse_by (courses_in c) d.piece.process d.piece.step d.piece.work }) (sym tried)
          ∙ ap (λ n. record { piece = d.piece; tried = d.tried; refuse = n }) (sym refuse));
    }

-- what a reply hands out, and nothing where it hands out none
abbrev chosen_in : Handed → Next → Handed
chosen_in other (chosen d) = d
chosen_in other (wait w) = other
chosen_in other all_ended = other
chosen_in other (stuck i) = other

abbrev is_chosen : Next → Bool
is_chosen (chosen d) = true
is_chosen (wait w) = false
is_chosen all_ended = false
is_chosen (stuck i) = false

abbrev admitted_in : Handed → Admit → Handed
admitted_in other (piece d) = d
admitted_in other (blocked b) = other
admitted_in other running = other
admitted_in other unknown = other
admitted_in other ended = other
admitted_in other (exhausted b) = other

abbrev is_admitted : Admit → Bool
is_admitted (piece d) = true
is_admitted (blocked b) = false
is_admitted running = false
is_admitted unknown = false
is_admitted ended = false
is_admitted (exhausted b) = false

abbrev next_in : Reply → Next → Next
next_in (next_is r) other = r
next_in r other = other

abbrev admit_in : Reply → Admit → Admit
admit_in (admitted r) other = r
admit_in r other = other

-- a piece that is handed out is the next one of some process
pub record IsHandTo (courses : List Course) (m : Moment) (d : Handed) : Type 0 where
  pub process : ℕ
  pub is : d ≡ hand_to courses m process

module _ (table : ConflictRelation) (courses : List Course) (m : Moment) (d : Handed) where
  none_chosen : (served : ℕ) (a b : Bool) → eqb (length m.out) 0 ≡ b → is_chosen (none_free_by_active table courses m served a) ≡ false
  none_chosen served true b is = refl
  none_chosen served false true is = ap (λ t. is_chosen (none_free_by_running table courses m served t)) is
  none_chosen served false false is = ap (λ t. is_chosen (none_free_by_running table courses m served t)) is

  chosen_by : (served : ℕ) (o : Option ℕ) → piece_of_free courses m (none_free_reply table courses m served) o ≡ chosen d → IsHandTo courses m d
  chosen_by served (Some i) is = record { process = i; is = sym (ap (chosen_in d) is) }
  chosen_by served None is = absurd (not_true (sym (none_chosen served (eqb (length (active m.events)) 0) (eqb (length m.out) 0) refl) ∙ ap is_chosen is))
    where
      not_true : false ≡ true → ⊥
      not_true both = absurd cc

  pub chosen_is : (served : ℕ) → next_reply table courses m served ≡ chosen d → IsHandTo courses m d
  chosen_is served is = chosen_by served (find (is_free table courses m) (rotation m served)) is

  admitted_block : (i : ℕ) (o : Option Blocked) → piece_unless courses m i o ≡ piece d → IsHandTo courses m d
  admitted_block i None is = record { process = i; is = sym (ap (admitted_in d) is) }
  admitted_block i (Some b) is = absurd cc

  admitted_tries : (i : ℕ) (t : Bool) → admit_by_tries table courses m i t ≡ piece d → IsHandTo courses m d
  admitted_tries i true is = absurd cc
  admitted_tries i false is = admitted_block i (block_of table courses m i) is

  admitted_running : (i : ℕ) (t : Bool) → admit_by_running table courses m i t ≡ piece d → IsHandTo courses m d
  admitted_running i true is = absurd cc
  admitted_running i false is = admitted_tries i (is_exhausted courses m i) is

  admitted_active : (i : ℕ) (t : Bool) → admit_by_active table courses m i t ≡ piece d → IsHandTo courses m d
  admitted_active i true is = admitted_running i (is_some (running_of m i)) is
  admitted_active i false is = absurd cc

  admitted_known : (i : ℕ) (t : Bool) → admit_by_known table courses m i t ≡ piece d → IsHandTo courses m d
  admitted_known i true is = admitted_active i (is_active m.events i) is
  admitted_known i false is = absurd cc

  pub admitted_is : (i : ℕ) → admit_reply table courses m i ≡ piece d → IsHandTo courses m d
  admitted_is i is = admitted_known i (is_in i (starts m.events)) is

-- The next piece of a process, handed out at a moment to which the core has come with these events, is handed out as it is told.
handed_to : (c : CoreState) (m : Moment) (d : Handed) → IsCore c → c.kept ≡ m.kept ++ kept_hand d ∷ [] → (courses : List Course) → courses ≡ courses_in c → IsHandTo courses m d → IsHandedAs c d
handed_to c m d core last courses same to =
    last_handed c m.kept d core last
    (subst (λ (x : Handed). x.tried ≡ refusals m.kept x.piece.process x.piece.step x.piece.work) (sym to.is) refl)
    (subst (λ cs. d.refuse ≡ refuse_by cs d.piece.process d.piece.step d.piece.work) same
    (subst (λ (x : Handed). x.refuse ≡ refuse_by courses x.piece.process x.piece.step x.piece.work) (sym to.is) refl))

module _ (old new : CoreState) (core : IsCore new) where
  -- A piece that is chosen was handed out so,
  chosen_handed : (d : Handed) → new ≡ after_call old next → next_is (chosen d) ≡ (answer_in old next).reply → IsHandedAs new d
  chosen_handed d is replied =
      let m = moment_of old in
      let vs = all_victims (relation old) (courses_in old) m in
      let here = advance_all (relation old) (courses_in old) m vs in
      let told = sym (ap (λ r. next_in r (chosen d)) replied) in
      let kept : here.kept ≡ old.kept ++ vs = advance_all-kept (relation old) (courses_in old) m vs ∙ ap (λ ks. ks ++ vs) (now-kept (relation old) (machine_of old)) in
      handed_to new here d core
      (ap (λ (c : CoreState). c.kept) is
      ∙ (ap (λ r. old.kept ++ (vs ++ next_kept r)) told ∙ (sym (append_assoc old.kept vs (kept_hand d ∷ [])) ∙ ap (λ ks. ks ++ kept_hand d ∷ []) (sym kept))))
      (courses_in old) (sym (ap courses_in is)) (chosen_is (relation old) (courses_in old) here d old.served told)

  pub given : (r : CoreNext) → new ≡ after_call old next → next_is (next_reply_of r) ≡ (answer_in old next).reply → IsGiven new r
  given (nexts.Piece d) is replied = chosen_handed d is replied
  given (nexts.Wait w) is replied = tt
  given nexts.AllEnded is replied = tt
  given (nexts.Stuck i) is replied = tt

  -- and so was one that is admitted.
  admitted_handed : (i : ℕ) (d : Handed) → new ≡ after_call old (admit i) → admitted (piece d) ≡ (answer_in old (admit i)).reply → IsHandedAs new d
  admitted_handed i d is replied =
      let m = moment_of old in
      let told = sym (ap (λ r. admit_in r (piece d)) replied) in
      handed_to new m d core
      (ap (λ (c : CoreState). c.kept) is ∙ (ap (λ r. old.kept ++ admit_kept r) told ∙ ap (λ ks. ks ++ kept_hand d ∷ []) (sym (now-kept (relation old) (machine_of old)))))
      (courses_in old) (sym (ap courses_in is)) (admitted_is (relation old) (courses_in old) m d i told)

  pub admitted_so : (i : ℕ) (r : CoreAdmit) → new ≡ after_call old (admit i) → admitted (admit_reply_of r) ≡ (answer_in old (admit i)).reply → IsAdmitted new r
  admitted_so i (admits.Piece d) is replied = admitted_handed i d is replied
  admitted_so i (admits.Blocked b) is replied = tt
  admitted_so i admits.Running is replied = tt
  admitted_so i admits.Unknown is replied = tt
  admitted_so i admits.Ended is replied = tt
  admitted_so i (admits.Exhausted b) is replied = tt
