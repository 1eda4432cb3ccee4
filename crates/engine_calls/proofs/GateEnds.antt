-- The end of a piece on which a gate worked is by the gate.
use Rattle.std.proofs.Common.{◌≡◌, ◌≢◌, ◌⊎◌, ◌∙◌, ◌≤◌, ◌<◌, ◌+◌, ◌-◌, ◌^◌, ℕ, Bool, true, false, not, List, [], ◌∷◌, ◌++◌, Option, Some, None, if◌then◌else◌, inl, inr, ⊎_elim, refl, ap, subst, sym, append-nil, arith}
use Rattle.std.specs.Bool.{IsTrue}
use Rattle.std.specs.Prelude.{IfSome}
use Rattle.std.proofs.lemmas.Bool.{false≢true}
use Rattle.process_flow.specs.Causes.{Rose}
use Rattle.process_disk.specs.Disk.{Disk}
use Rattle.process_tree.specs.declared.play.Outcome.{Outcome}
use Rattle.process_tree.specs.declared.play.Outcome.TheVariants.{Done as Succeeds, Refused as Fails}
use Rattle.schedule_model.specs.Conflict.{ConflictRelation}
use Rattle.schedule_model.specs.Course.{Course}
use Rattle.commute_table.specs.declared.catalog.Catalog.{Catalog}
use Rattle.machine_model.specs.declared.kept.Kept.{Kept}
use Rattle.machine_model.specs.declared.kept.Kept.TheVariants.{Effect, Refuse}
use Rattle.machine_model.specs.declared.kept.Work.TheVariants.{End}
use Rattle.machine_model.specs.declared.replies.PieceState.{PieceState}
use Rattle.machine_model.specs.declared.replies.PieceState.TheVariants.{Out, Dropped as WasDropped, Over as IsOver}
use Rattle.machine_model.specs.declared.replies.Refusal.{Refusal}
use Rattle.machine_model.specs.declared.replies.Refusal.TheVariants.{Retry as TryAgain, Alternative, RollBack, Exhausted as UsedUp}
use Rattle.machine_model.specs.Moment.{Moment, Piece}
use Rattle.machine_model.specs.Pieces.{piece_of, state_of}
use Rattle.machine_model.specs.Progress.{same_work}
use Rattle.machine_model.specs.Replies.{Finish as Reply, Handed, effected, refused, over, dropped, no_piece, no_refusal, finish_by, finish_kept, finish_piece, finish_reply, out_finish, refused_unless_end}
use Rattle.process_core.specs.Cores.{CoreState, courses_in, moment_of, relation}
use Rattle.process_core.specs.Handing.{with_served}
use Rattle.engine_steps.specs.Engines.{EngineState}
use Rattle.process_engine.specs.Finishing.{Finishes, is_barred, outcome_of}
use Rattle.process_engine.specs.declared.finishing.Finish.{Finish}
use Rattle.process_engine.specs.declared.finishing.Finish.TheVariants.{Effected, Retry, Failed, Over, Dropped, Exhausted, DiskFault, NoMemory, Closed}
use Rattle.process_engine.specs.declared.gates.Answer.{Answer}
use Rattle.process_engine.specs.declared.gates.Answer.TheVariants.{Done, Refused}
use Rattle.process_engine.proofs.Refusals.{is_refused}
use Rattle.engine_calls.specs.GateAnswers.{AreAnswered, AskedGate, IsAnswered, IsByGate, IsHandedAs, as_handed, is_barred_in, is_unbarred, unbarred_refusals}
use Rattle.engine_calls.proofs.GateRuns.{by_gate_none, kept_is}

abbrev is_effected : Reply → Bool
is_effected (effected n) = true
is_effected (refused r) = false
is_effected over = false
is_effected (dropped k) = false
is_effected no_piece = false
is_effected no_refusal = false

-- a piece that succeeds is not refused, and one that fails takes no effect
module _ (table : ConflictRelation) (courses : List Course) (m : Moment) (n : ℕ) where
  succeeds_by : (p : Piece) (s : PieceState) → is_refused (finish_by (out_finish table courses m p Succeeds) s) ≡ false
  succeeds_by p Out = refl
  succeeds_by p (WasDropped k) = refl
  succeeds_by p IsOver = refl

  succeeds : (o : Option Piece) → is_refused (finish_piece table courses m Succeeds o) ≡ false
  succeeds None = refl
  succeeds (Some p) = succeeds_by p (state_of m p.number)

  fails_end : (p : Piece) (t : Bool) → is_effected (refused_unless_end table courses m p t) ≡ false
  fails_end p true = refl
  fails_end p false = refl

  fails_by : (p : Piece) (s : PieceState) → is_effected (finish_by (out_finish table courses m p Fails) s) ≡ false
  fails_by p Out = fails_end p (same_work p.work End)
  fails_by p (WasDropped k) = refl
  fails_by p IsOver = refl

  fails : (o : Option Piece) → is_effected (finish_piece table courses m Fails o) ≡ false
  fails None = refl
  fails (Some p) = fails_by p (state_of m p.number)

  effected_succeeds : (outcome : Outcome) (k : ℕ) → finish_reply table courses m n outcome ≡ effected k → outcome ≡ Succeeds
  effected_succeeds Succeeds k is = refl
  effected_succeeds Fails k is = absurd (false≢true (sym (fails (piece_of m.kept n)) ∙ ap is_effected is))

  refused_fails : (outcome : Outcome) (r : Refusal) → finish_reply table courses m n outcome ≡ refused r → outcome ≡ Fails
  refused_fails Fails r is = refl
  refused_fails Succeeds r is = absurd (false≢true (sym (succeeds (piece_of m.kept n)) ∙ ap is_refused is))

-- what is kept of a piece by what its end answers
abbrev pub kept_by : ℕ → Finish → List Kept
kept_by n (Effected k) = Effect n ∷ []
kept_by n (Retry k) = Refuse n ∷ []
kept_by n Failed = Refuse n ∷ []
kept_by n Exhausted = Refuse n ∷ []
kept_by n Over = []
kept_by n (Dropped k) = []
kept_by n DiskFault = []
kept_by n (NoMemory q) = []
kept_by n (Closed k) = []

module _ {R B : Type 0} (disk : R → Disk) (old new : EngineState R B) (p : Handed) where
  abbrev n : ℕ
  n = p.piece.number

  abbrev reply_of : Outcome → Reply
  reply_of outcome = finish_reply (relation old.core) (courses_in old.core) (moment_of old.core) n outcome

  pub by_effect : (outcome : Outcome) (k : ℕ) → reply_of outcome ≡ effected k → finish_kept n (reply_of Succeeds) ≡ Effect n ∷ []
  by_effect outcome k reply =
      ap (finish_kept n) (ap reply_of (sym (effected_succeeds (relation old.core) (courses_in old.core) (moment_of old.core) n outcome k reply)) ∙ reply)

  pub by_refusal : (outcome : Outcome) (r : Refusal) → reply_of outcome ≡ refused r → finish_kept n (reply_of Fails) ≡ Refuse n ∷ []
  by_refusal outcome r reply =
      ap (finish_kept n) (ap reply_of (sym (refused_fails (relation old.core) (courses_in old.core) (moment_of old.core) n outcome r reply)) ∙ reply)

  -- A piece that ended is kept so.
  pub kept_of : (outcome : Outcome) (a : Finish) → Finishes disk old new p outcome a → new.core.kept ≡ old.core.kept ++ kept_by n a
  kept_of outcome (Effected k) fin = ap (λ (c : CoreState). c.kept) fin.left.core ∙ ap (λ ks. old.core.kept ++ ks) (by_effect outcome k fin.reply)
  kept_of outcome (Retry k) fin = ap (λ (c : CoreState). c.kept) fin.left.0.core ∙ ap (λ ks. old.core.kept ++ ks) (by_refusal outcome (TryAgain k) fin.reply)
  kept_of outcome Failed fin =
      ap (λ (c : CoreState). c.kept) fin.left.0.core ∙ ap (λ ks. old.core.kept ++ ks) (⊎_elim (by_refusal outcome Alternative) (by_refusal outcome RollBack) fin.reply)
  kept_of outcome Exhausted fin = ap (λ (c : CoreState). c.kept) fin.left.0.core ∙ ap (λ ks. old.core.kept ++ ks) (by_refusal outcome UsedUp fin.reply)
  kept_of outcome Over fin = ap (λ (e : EngineState R B). e.core.kept) fin.left ∙ sym (append-nil old.core.kept)
  kept_of outcome (Dropped k) fin = ap (λ (e : EngineState R B). e.core.kept) fin.left ∙ sym (append-nil old.core.kept)
  kept_of outcome DiskFault fin = ap (λ (c : CoreState). c.kept) fin.left.core ∙ sym (append-nil old.core.kept)
  kept_of outcome (NoMemory q) fin = ap (λ (c : CoreState). c.kept) fin.left.0.core ∙ sym (append-nil old.core.kept)
  kept_of outcome (Closed k) fin = absurd fin.reply

-- a piece that succeeds was done, and is not barred
done_of : (a : Answer) (barred : Bool) → outcome_of a barred ≡ Succeeds → a ≡ Done
done_of Done barred is = refl
done_of Refused barred is = absurd cc

-- one that fails was refused, or is barred
fails_of : (a : Answer) (barred : Bool) → outcome_of a barred ≡ Fails → (a ≡ Refused) ⊎ (barred ≡ true)
fails_of Refused barred is = inl refl
fails_of Done true is = inr refl
fails_of Done false is = absurd cc

some_so : {X : Type 0} (P Q : X → Type 0) (o : Option X) → ((x : X) → P x → Q x) → IfSome o P → IfSome o Q
some_so P Q None so some = tt
some_so P Q (Some x) so some = so x some

some_always : {X : Type 0} (Q : X → Type 0) (o : Option X) → ((x : X) → Q x) → IfSome o Q
some_always Q None all = tt
some_always Q (Some x) all = all x

module _ (answers : Handed → Option Answer) (catalog : Catalog) (c : CoreState) (p : Handed) (is : IsHandedAs c p) (answer : Answer)
    (end : p.piece.work ≡ End → answer ≡ Done) (told : p.piece.work ≢ End → IfSome (answers p) (λ a. answer ≡ a)) where
  abbrev barred : Bool
  barred = is_barred_in catalog c p.piece

  effect_answered : outcome_of answer barred ≡ Succeeds → IsAnswered answers catalog c (Effect p.piece.number)
  effect_answered succeeds' =
      subst (λ o. IfSome o (λ q. q.work ≢ End → IfSome (answers (as_handed c q)) (λ a. a ≡ Done))) (sym is.handed)
      (λ no_end. subst (λ d. IfSome (answers d) (λ a. a ≡ Done)) (sym is.told)
      (some_so (λ a. answer ≡ a) (λ a. a ≡ Done) (answers p) (λ a same. sym same ∙ done_of answer barred succeeds') (told no_end)))

  refused_so : (answer ≡ Refused) ⊎ (barred ≡ true) → IfSome (answers p) (λ a. (a ≡ Refused) ⊎ IsTrue barred)
  refused_so (inr bars) = some_always (λ a. (a ≡ Refused) ⊎ IsTrue barred) (answers p) (λ a. inr bars)
  refused_so (inl refuses) = some_so (λ a. answer ≡ a) (λ a. (a ≡ Refused) ⊎ IsTrue barred) (answers p) (λ a same. inl (sym same ∙ refuses)) (told no_end)
    where
      no_end : p.piece.work ≢ End
      no_end at = not_done (sym refuses ∙ end at)
        where
          not_done : Refused ≡ Done → ⊥
          not_done both = absurd cc

  refusal_answered : outcome_of answer barred ≡ Fails → IsAnswered answers catalog c (Refuse p.piece.number)
  refusal_answered fails' =
      subst (λ o. IfSome o (λ q. IfSome (answers (as_handed c q)) (λ a. (a ≡ Refused) ⊎ IsTrue (is_barred_in catalog c q)))) (sym is.handed)
      (subst (λ d. IfSome (answers d) (λ a. (a ≡ Refused) ⊎ IsTrue barred)) (sym is.told) (refused_so (fails_of answer barred fails')))

  module _ (before after : ℕ) (later : before ≤ after) (rose : answer ≡ Refused → Rose before after) where
    counted_by : outcome_of answer barred ≡ Fails → after < 2 ^ 64 - 1 → (t : Bool) → barred ≡ t → before + ((if not t then 1 else 0) + 0) ≤ after
    counted_by fails' low true bars = omega (arith, later)
    counted_by fails' low false bars = ⊎_elim (λ refuses. let r = rose refuses in omega (arith, r, low)) (λ both. absurd (false≢true (sym bars ∙ both))) (fails_of answer barred fails')

    refusal_counted : outcome_of answer barred ≡ Fails → after < 2 ^ 64 - 1 → before + unbarred_refusals catalog c (Refuse p.piece.number ∷ []) ≤ after
    refusal_counted fails' low = subst (λ o. before + ((if is_unbarred catalog c o then 1 else 0) + 0) ≤ after) (sym is.handed) (counted_by fails' low barred refl)

-- The end of a piece that was handed out, and answered as its gate tells it, is by the gate.
module _ {R B : Type 0} (disk : R → Disk) (old new : EngineState R B) (p : Handed) (gate : AskedGate) (handed : IsHandedAs old.core p) (answer : Answer)
    (end : p.piece.work ≡ End → answer ≡ Done) (told : p.piece.work ≢ End → IfSome (gate.answers p) (λ a. answer ≡ a))
    (later : gate.before.refusals ≤ gate.after.refusals) (rose : answer ≡ Refused → Rose gate.before.refusals gate.after.refusals) where
  abbrev before : ℕ
  before = gate.before.refusals

  abbrev after : ℕ
  after = gate.after.refusals

  abbrev start : CoreState
  start = with_served old.core 0

  here : IsHandedAs start p
  here = record { handed = handed.handed; told = handed.told }

  abbrev outcome : Outcome
  outcome = outcome_of answer (is_barred old p.piece)

  effect_by : new.core.kept ≡ old.core.kept ++ Effect p.piece.number ∷ [] → outcome ≡ Succeeds → IsByGate gate old.catalog old.core new.core
  effect_by is good =
      let same = kept_is old.core new.core (Effect p.piece.number ∷ []) is in
      record {
        answered = subst (AreAnswered gate.answers old.catalog start) (sym same) (effect_answered gate.answers old.catalog start p here answer end told good, tt);
        counted = λ low. subst (λ ks. before + unbarred_refusals old.catalog start ks ≤ after) (sym same) (omega (arith, later));
        later = later;
      }

  refusal_by : new.core.kept ≡ old.core.kept ++ Refuse p.piece.number ∷ [] → outcome ≡ Fails → IsByGate gate old.catalog old.core new.core
  refusal_by is bad =
      let same = kept_is old.core new.core (Refuse p.piece.number ∷ []) is in
      record {
        answered = subst (AreAnswered gate.answers old.catalog start) (sym same) (refusal_answered gate.answers old.catalog start p here answer end told bad, tt);
        counted = λ low. subst (λ ks. before + unbarred_refusals old.catalog start ks ≤ after) (sym same) (refusal_counted gate.answers old.catalog start p here answer end told before after later rose bad low);
        later = later;
      }

  nothing_by : new.core.kept ≡ old.core.kept ++ [] → IsByGate gate old.catalog old.core new.core
  nothing_by is = by_gate_none gate old.catalog later old.core new.core [] is tt

  refused' : (r : Refusal) → finish_reply (relation old.core) (courses_in old.core) (moment_of old.core) p.piece.number outcome ≡ refused r → outcome ≡ Fails
  refused' r reply = refused_fails (relation old.core) (courses_in old.core) (moment_of old.core) p.piece.number outcome r reply

  by_answer : (a : Finish) → Finishes disk old new p outcome a → new.core.kept ≡ old.core.kept ++ kept_by p.piece.number a → IsByGate gate old.catalog old.core new.core
  by_answer (Effected k) fin is = effect_by is (effected_succeeds (relation old.core) (courses_in old.core) (moment_of old.core) p.piece.number outcome k fin.reply)
  by_answer (Retry k) fin is = refusal_by is (refused' (TryAgain k) fin.reply)
  by_answer Failed fin is = refusal_by is (⊎_elim (refused' Alternative) (refused' RollBack) fin.reply)
  by_answer Exhausted fin is = refusal_by is (refused' UsedUp fin.reply)
  by_answer Over fin is = nothing_by is
  by_answer (Dropped k) fin is = nothing_by is
  by_answer DiskFault fin is = nothing_by is
  by_answer (NoMemory q) fin is = nothing_by is
  by_answer (Closed k) fin is = nothing_by is

  pub end_by_gate : (a : Finish) → Finishes disk old new p outcome a → IsByGate gate old.catalog old.core new.core
  end_by_gate a fin = by_answer a fin (kept_of disk old new p outcome a fin)
