-- What is kept of one entry behind others.
use Rattle.std.proofs.Common.{◌≡◌, ◌∙◌, ◌⊎◌, inl, inr, ◌≤◌, ◌+◌, ◌-◌, ◌^◌, ℕ, zero, suc, Bool, true, false, cond, not, filter, map, List, [], ◌∷◌, ◌++◌, length, Option, Some, None, if◌then◌else◌, refl, ap, subst, sym, append-nil, append_assoc, length-append, arith}
use Rattle.std.specs.Bool.{IsTrue}
use Rattle.std.specs.Prelude.{◌≢◌, IfSome}
use Rattle.std.proofs.lemmas.Bool.{false≢true}
use Rattle.std.proofs.lemmas.List.Elements.{filter-append}
use Rattle.process_tree.specs.Order.{Each}
use Rattle.process_tree.specs.Conflicts.{Table}
use Rattle.process_tree.specs.declared.plan.Plan.{Plan}
use Rattle.process_tree.proofs.Every.{Each-append, Each-weaker}
use Rattle.schedule_model.specs.Conflict.{ConflictRelation}
use Rattle.schedule_model.specs.Course.{Course}
use Rattle.schedule_model.specs.Histories.{active}
use Rattle.schedule_model.specs.declared.event.Event.{Event}
use Rattle.commute_table.specs.declared.catalog.Catalog.{Catalog}
use Rattle.machine_model.specs.declared.kept.Kept.{Kept}
use Rattle.machine_model.specs.declared.kept.Kept.TheVariants.{Effect, Refuse, Victim}
use Rattle.machine_model.specs.declared.kept.Work.TheVariants.{End}
use Rattle.machine_model.specs.Advance.{advance}
use Rattle.machine_model.specs.Calls.{next_kept}
use Rattle.machine_model.specs.Moment.{Moment}
use Rattle.machine_model.specs.Progress.{same_work}
use Rattle.machine_model.specs.Replies.{Handed, all_victims, kept_hand, victim_then, victims}
use Rattle.machine_model.specs.State.{victim_of}
use Rattle.process_core.specs.Cores.{CoreState, courses_in, moment_of, relation}
use Rattle.process_core.specs.Handing.{with_all, with_kept, with_served}
use Rattle.process_core.specs.Rotation.{next_reply_of}
use Rattle.process_core.specs.declared.replies.Next.{Next as CoreNext}
use Rattle.process_core.specs.declared.replies.Next.TheVariants as core
use Rattle.process_engine.specs.declared.gates.Answer.{Answer}
use Rattle.process_engine.specs.declared.gates.Answer.TheVariants.{Done, Refused}
use Rattle.process_engine.specs.Pieces.{numbers_of}
use Rattle.process_engine.specs.Queues.{pieces_of}
use Rattle.engine_calls.specs.GateAnswers.{AreAnswered, GateCounts, IsAnswered, IsByGate, IsGiven, IsHandedAs, as_handed, is_barred_in, is_step_hand, is_unbarred, kept_since, steps_handed, unbarred_refusals}
use Rattle.engine_calls.proofs.GateRuns.{EndsNone, by_gate_none, by_gate_then, gate_from, keeping, kept_is}
use Rattle.history_lock.specs.Weights.{total}
use Rattle.history_lock.proofs.Sums.{total-append}
use Rattle.shared_engine.specs.declared.entries.NextSaid.TheVariants as asked
use Rattle.shared_engine.specs.declared.entries.FlushSaid.{FlushSaid}
use Rattle.shared_engine.specs.declared.entries.QueueSaid.{QueueSaid}
use Rattle.shared_engine.specs.declared.entries.TurnEntry.{TurnEntry}
use Rattle.shared_engine.specs.declared.entries.TurnEntry.TheVariants.{Next, Queue, Flush}
use Rattle.shared_engine.specs.Entries.{said_of}
use Rattle.shared_engine.specs.Tallies.{IsAnswerTo, IsByEntries, IsOfHanded, IsToldOf, gate_asked, gate_refused, is_worked_on}
use Rattle.shared_engine.proofs.HandedLater.{Grows, asked_grows, handed_grows, requested_grows}

module _ (P : Kept → Type 0) where
  then_each : (rest : ℕ → List Kept) → ((i : ℕ) → P (Victim i)) → ((i : ℕ) → Each P (rest i)) → (o : Option ℕ) → Each P (victim_then rest o)
  then_each rest each more None = tt
  then_each rest each more (Some i) = (each i, more i)

  victims_each : ((i : ℕ) → P (Victim i)) → (table : ConflictRelation) (courses : List Course) (n : ℕ) (m : Moment) → Each P (victims n table courses m)
  victims_each each table courses zero m = tt
  victims_each each table courses (suc n) m = then_each (λ i. victims n table courses (advance table courses m (Victim i))) each
      (λ i. victims_each each table courses n (advance table courses m (Victim i))) (victim_of table courses m)

no_steps : (ks : List Kept) → Each (λ k. is_step_hand k ≡ false) ks → steps_handed ks ≡ 0
no_steps [] none = refl
no_steps (k ∷ ks) none = rw (none.0) (no_steps ks none.1)

steps-append : (ks js : List Kept) → steps_handed (ks ++ js) ≡ steps_handed ks + steps_handed js
steps-append ks js = ap length (filter-append is_step_hand ks js) ∙ length-append (filter is_step_hand ks) (filter is_step_hand js)

-- refusals behind others
refusals-append : (catalog : Catalog) (c : CoreState) (ks js : List Kept) → unbarred_refusals catalog c (ks ++ js) ≡ unbarred_refusals catalog c ks + unbarred_refusals catalog (keeping c ks) js
refusals-append catalog c [] js = omega arith
refusals-append catalog c (k ∷ ks) js = let rest = refusals-append catalog (with_kept c k) ks js in omega (arith, rest)

keeping_is : (c : CoreState) (ks : List Kept) → keeping c ks ≡ with_all c ks
keeping_is c [] = ap (λ xs. record { conflicts = c.conflicts; plans = c.plans; opening = c.opening; kept = xs; served = c.served }) (sym (append-nil c.kept))
keeping_is c (k ∷ ks) = keeping_is (with_kept c k) ks ∙ ap (λ xs. record { conflicts = c.conflicts; plans = c.plans; opening = c.opening; kept = xs; served = c.served }) (append_assoc c.kept (k ∷ []) ks)

core_same : (old mid : CoreState) (added : List Kept) → mid.conflicts ≡ old.conflicts → mid.plans ≡ old.plans → mid.opening ≡ old.opening → mid.kept ≡ old.kept ++ added
    → with_served mid 0 ≡ with_all (with_served old 0) added
core_same old mid added conflicts plans opening kept =
    ap (λ (t : Table). record { conflicts = t; plans = mid.plans; opening = mid.opening; kept = mid.kept; served = 0 }) conflicts
    ∙ (ap (λ (ps : List Plan). record { conflicts = old.conflicts; plans = ps; opening = mid.opening; kept = mid.kept; served = 0 }) plans
    ∙ (ap (λ (es : List Event). record { conflicts = old.conflicts; plans = old.plans; opening = es; kept = mid.kept; served = 0 }) opening
    ∙ ap (λ (ks : List Kept). record { conflicts = old.conflicts; plans = old.plans; opening = old.opening; kept = ks; served = 0 }) kept))

-- counts of a gate that was never asked
abbrev none_yet : GateCounts
none_yet = record { asked = 0; refusals = 0 }

-- counts at their last value, which say nothing
abbrev full : GateCounts
full = record { asked = 0; refusals = 2 ^ 64 - 1 }

-- a gate of these answers that says nothing of its counts
by_full : (answers : Handed → Option Answer) (catalog : Catalog) (old new : CoreState) → AreAnswered answers catalog (with_served old 0) (kept_since old new)
    → IsByGate (gate_from answers full full) catalog old new
by_full answers catalog old new are = record { answered = are; counted = λ low. absurd (omega (arith, low)); later = omega arith }

-- each of these is done, as gates tell it
abbrev AllDone : (Handed → Option Answer) → List Handed → Type 0
AllDone answers ds = Each (λ d. IsAnswerTo answers d Done) ds

module _ (catalog : Catalog) (old mid new : CoreState) (was is_now : List Handed) (es : List TurnEntry) (e : TurnEntry) (one two : List Kept) (conflicts : mid.conflicts ≡ old.conflicts)
    (opening : mid.opening ≡ old.opening) (first : mid.kept ≡ old.kept ++ one) (plans : new.plans ≡ mid.plans) (second : new.kept ≡ mid.kept ++ two) (before : IsByEntries catalog old mid was es) where
  abbrev grows : Grows mid new
  grows = record { plans = plans; added = two; kept = second }

  total_same : (fs : List TurnEntry) → Each (IsOfHanded mid) fs → total (gate_asked new) fs ≡ total (gate_asked mid) fs
  total_same [] is = refl
  total_same (f ∷ fs) is = let a = asked_grows mid new grows f is.0 in let b = total_same fs is.1 in omega (arith, a, b)

  -- what is told of all pieces that are handed out now was told of those that were then
  told_before : (answers : Handed → Option Answer) (f : TurnEntry) → IsToldOf answers new f → IsToldOf answers mid f
  told_before answers (Next said) told = tt
  told_before answers (Queue n a reply) told = λ d is handed. told d is (handed_grows mid new d grows handed)
  told_before answers (Flush said) told = tt

  told_parts : (answers : Handed → Option Answer) (fs : List TurnEntry) → Each (IsToldOf answers new) (fs ++ e ∷ []) → Each (IsToldOf answers mid) fs × IsToldOf answers new e
  told_parts answers [] told = (tt, told.0)
  told_parts answers (f ∷ fs) told = let rest = told_parts answers fs told.1 in ((told_before answers f told.0, rest.0), rest.1)

  pub by_snoc : IsOfHanded new e → steps_handed two ≡ gate_asked new e
      → ((answers : Handed → Option Answer) → AllDone answers was → IsToldOf answers new e → AreAnswered answers catalog (with_served mid 0) two × AllDone answers is_now)
      → unbarred_refusals catalog (with_served mid 0) two ≤ gate_refused e → IsByEntries catalog old new is_now (es ++ e ∷ [])
  by_snoc here steps answered few =
      let c = with_served old 0 in
      let all = kept_is old new (one ++ two) (second ∙ (ap (λ ks. ks ++ two) first ∙ append_assoc old.kept one two)) in
      let ones = kept_is old mid one first in
      let twos = kept_is mid new two second in
      let at = core_same old mid one conflicts before.plans opening first ∙ sym (keeping_is c one) in
      let count = ap (unbarred_refusals catalog c) all ∙ refusals-append catalog c one two in
      let count_one = ap (unbarred_refusals catalog c) ones in
      let count_two = ap (λ d. unbarred_refusals catalog d two) at in
      let sum_all = ap steps_handed all ∙ steps-append one two in
      let sum_one = ap steps_handed ones in
      let asked_all = total-append (gate_asked new) es (e ∷ []) in
      let asked_before = total_same es before.requests in
      let refused_all = total-append gate_refused es (e ∷ []) in
      record {
        plans = plans ∙ before.plans;
        requests = Each-append (IsOfHanded new) es (e ∷ []) (Each-weaker (IsOfHanded mid) (IsOfHanded new) (requested_grows mid new grows) es before.requests) (here, tt);
        handed = omega (arith, sum_all, sum_one, steps, before.handed, asked_all, asked_before);
        answered = λ answers told.
            let parts = told_parts answers es told in
            let a = by_full answers catalog old mid (before.answered answers parts.0) in
            let b = by_full answers catalog mid new (subst (AreAnswered answers catalog (with_served mid 0)) (sym twos) (answered answers (before.done answers parts.0) parts.1).0) in
            (by_gate_then answers catalog full full full old mid new one two conflicts before.plans opening first second a b).answered;
        done = λ answers told. let parts = told_parts answers es told in (answered answers (before.done answers parts.0) parts.1).1;
        refused = omega (arith, count, count_one, count_two, before.refused, few, refused_all);
      }

-- what a request kept is victims and the hand of a piece
abbrev pub kept_by_next : CoreState → CoreNext → List Kept
kept_by_next c r = all_victims (relation c) (courses_in c) (moment_of c) ++ next_kept (next_reply_of r)

hand_steps : (d : Handed) (t : Bool) → same_work d.piece.work End ≡ t → steps_handed (kept_hand d ∷ []) ≡ (if not t then 1 else 0)
hand_steps d true is = ap (λ t. length (if not t then kept_hand d ∷ [] else [])) is
hand_steps d false is = ap (λ t. length (if not t then kept_hand d ∷ [] else [])) is

pub given_handed : (c : CoreState) (r : CoreNext) → IsGiven c r → IsOfHanded c (Next (said_of r))
given_handed c (core.Piece d) given = (d.piece, given.handed)
given_handed c (core.Wait w) given = tt
given_handed c core.AllEnded given = tt
given_handed c (core.Stuck i) given = tt

-- a gate is asked for a piece that a core handed out unless that ends a process
pub asked_given : (c : CoreState) (d : Handed) → IsHandedAs c d → gate_asked c (Next (asked.Piece d.piece.number)) ≡ (if is_worked_on (Some d.piece) then 1 else 0)
asked_given c d given = ap (λ o. if is_worked_on o then 1 else 0) given.handed

steps_given : (c : CoreState) (r : CoreNext) → IsGiven c r → steps_handed (next_kept (next_reply_of r)) ≡ gate_asked c (Next (said_of r))
steps_given c (core.Piece d) given = hand_steps d (same_work d.piece.work End) refl ∙ sym (asked_given c d given)
steps_given c (core.Wait w) given = refl
steps_given c core.AllEnded given = refl
steps_given c (core.Stuck i) given = refl

next_ends_none : (r : CoreNext) → Each EndsNone (next_kept (next_reply_of r))
next_ends_none (core.Piece d) = (tt, tt)
next_ends_none (core.Wait w) = tt
next_ends_none core.AllEnded = tt
next_ends_none (core.Stuck i) = tt

-- What is kept of a request is by its entry,
pub by_next : (catalog : Catalog) (old mid new : CoreState) (queued : List Handed) (es : List TurnEntry) (one : List Kept) (r : CoreNext) → mid.conflicts ≡ old.conflicts → mid.opening ≡ old.opening → mid.kept ≡ old.kept ++ one
    → new.plans ≡ mid.plans → new.kept ≡ mid.kept ++ kept_by_next mid r → IsGiven new r → IsByEntries catalog old mid queued es → IsByEntries catalog old new queued (es ++ Next (said_of r) ∷ [])
by_next catalog old mid new queued es one r conflicts opening first plans second given before =
    let vs = all_victims (relation mid) (courses_in mid) (moment_of mid) in
    let two = kept_by_next mid r in
    let ends_none = Each-append EndsNone vs (next_kept (next_reply_of r)) (victims_each EndsNone (λ i. tt) (relation mid) (courses_in mid) (length (active (moment_of mid).events)) (moment_of mid)) (next_ends_none r) in
    let by : (answers : Handed → Option Answer) → IsByGate (gate_from answers none_yet none_yet) catalog mid new = λ answers. by_gate_none (gate_from answers none_yet none_yet) catalog (omega arith) mid new two second ends_none in
    let twos = kept_is mid new two second in
    let no_victims = no_steps vs (victims_each (λ k. is_step_hand k ≡ false) (λ i. refl) (relation mid) (courses_in mid) (length (active (moment_of mid).events)) (moment_of mid)) in
    let sum = steps-append vs (next_kept (next_reply_of r)) in
    let given_steps = steps_given new r given in
    let few = (by (λ d. None)).counted (omega arith) in
    by_snoc catalog old mid new queued queued es (Next (said_of r)) one two conflicts opening first plans second before (given_handed new r given) (omega (arith, no_victims, sum, given_steps))
    (λ answers done told. (subst (AreAnswered answers catalog (with_served mid 0)) twos (by answers).answered, done))
    (subst (λ ks. unbarred_refusals catalog (with_served mid 0) ks ≤ 0) twos (omega (arith, few)))

-- a piece that is answered done or barred, or refused
some_so : {X : Type 0} (P Q : X → Type 0) (o : Option X) → ((x : X) → P x → Q x) → IfSome o P → IfSome o Q
some_so P Q None so some = tt
some_so P Q (Some x) so some = so x some

some_always : {X : Type 0} (Q : X → Type 0) (o : Option X) → ((x : X) → Q x) → IfSome o Q
some_always Q None all = tt
some_always Q (Some x) all = all x

refused_isnt_done : Refused ≡ Done → ⊥
refused_isnt_done is = absurd cc

module _ (answers : Handed → Option Answer) (catalog : Catalog) (c : CoreState) (d : Handed) (is : IsHandedAs c d) where
  abbrev barred : Bool
  barred = is_barred_in catalog c d.piece

  refused_so : (a : Answer) → IsAnswerTo answers d a → (a ≡ Refused) ⊎ (barred ≡ true) → IfSome (answers d) (λ b. (b ≡ Refused) ⊎ IsTrue barred)
  refused_so a told (inl refuses) =
      some_so (λ b. a ≡ b) (λ b. (b ≡ Refused) ⊎ IsTrue barred) (answers d) (λ b same. inl (sym same ∙ refuses))
      (told.1 (λ at. refused_isnt_done (sym refuses ∙ told.0 at)))
  refused_so a told (inr bars) = some_always (λ b. (b ≡ Refused) ⊎ IsTrue barred) (answers d) (λ b. inr bars)

  -- a refusal is by the answer, or by the values,
  pub refusal_answered : (a : Answer) → IsAnswerTo answers d a → (a ≡ Refused) ⊎ (barred ≡ true) → IsAnswered answers catalog c (Refuse d.piece.number)
  refusal_answered a told cause =
      subst (λ o. IfSome o (λ q. IfSome (answers (as_handed c q)) (λ b. (b ≡ Refused) ⊎ IsTrue (is_barred_in catalog c q)))) (sym is.handed)
      (subst (λ h. IfSome (answers h) (λ b. (b ≡ Refused) ⊎ IsTrue barred)) (sym is.told) (refused_so a told cause))

  -- and an effect of a piece that is done
  pub effect_answered : IsAnswerTo answers d Done → IsAnswered answers catalog c (Effect d.piece.number)
  effect_answered told =
      subst (λ o. IfSome o (λ q. q.work ≢ End → IfSome (answers (as_handed c q)) (λ b. b ≡ Done))) (sym is.handed)
      (λ no_end. subst (λ h. IfSome (answers h) (λ b. b ≡ Done)) (sym is.told) (some_so (λ b. Done ≡ b) (λ b. b ≡ Done) (answers d) (λ b same. sym same) (told.1 no_end)))

counted_by : (n : ℕ) (a : Answer) (said : QueueSaid) (t : Bool) → (a ≡ Refused) ⊎ (t ≡ true) → ((if not t then 1 else 0) + 0) ≤ gate_refused (Queue n a said)
counted_by n Refused said true cause = omega arith
counted_by n Refused said false cause = omega arith
counted_by n Done said true cause = omega arith
counted_by n Done said false (inl is) = absurd cc
counted_by n Done said false (inr is) = absurd (false≢true is)

handed_served : (c : CoreState) (d : Handed) → IsHandedAs c d → IsHandedAs (with_served c 0) d
handed_served c d is = record { handed = is.handed; told = is.told }

kept_more : (c : CoreState) (k : Kept) (d : Handed) → IsHandedAs c d → IsHandedAs (with_kept c k) d
kept_more c k d is = handed_grows c (with_kept c k) d (record { plans = refl; added = k ∷ []; kept = refl }) is

module _ (answers : Handed → Option Answer) (catalog : Catalog) where
  effects_step : (c : CoreState) (n : ℕ) (ns : List ℕ) (b : Bool) → IsAnswered answers catalog c (Effect n) → AreAnswered answers catalog (with_kept c (Effect n)) (map Effect ns) → AreAnswered answers catalog c (map Effect ns)
      → AreAnswered answers catalog c (map Effect (cond b (n ∷ ns) ns))
  effects_step c n ns true here after otherwise = (here, after)
  effects_step c n ns false here after otherwise = otherwise

  -- the effects of those among queued pieces that run
  pub effects_answered : (t : ℕ → Bool) (c : CoreState) (ds : List Handed) → Each (IsHandedAs c) ds → AllDone answers ds → AreAnswered answers catalog c (map Effect (filter t (numbers_of (pieces_of ds))))
  effects_answered t c [] handed done = tt
  effects_answered t c (d ∷ ds) handed done =
      let n = d.piece.number in
      effects_step c n (filter t (numbers_of (pieces_of ds))) (t n) (effect_answered answers catalog c d handed.0 done.0)
      (effects_answered t (with_kept c (Effect n)) ds (Each-weaker (IsHandedAs c) (IsHandedAs (with_kept c (Effect n))) (λ q is. kept_more c (Effect n) q is) ds handed.1) done.1)
      (effects_answered t c ds handed.1 done.1)

no_refusals : (catalog : Catalog) (c : CoreState) (ns : List ℕ) → unbarred_refusals catalog c (map Effect ns) ≡ 0
no_refusals catalog c [] = refl
no_refusals catalog c (n ∷ ns) = let rest = no_refusals catalog (with_kept c (Effect n)) ns in omega (arith, rest)

no_hands : (ns : List ℕ) → Each (λ k. is_step_hand k ≡ false) (map Effect ns)
no_hands [] = tt
no_hands (n ∷ ns) = (refl, no_hands ns)

-- What is kept of a piece whose queueing is refused is by its entry,
pub by_refusal : (catalog : Catalog) (old mid new : CoreState) (queued : List Handed) (es : List TurnEntry) (one : List Kept) (d : Handed) (a : Answer) (said : QueueSaid) → mid.conflicts ≡ old.conflicts → mid.opening ≡ old.opening
    → mid.kept ≡ old.kept ++ one → new.plans ≡ mid.plans → new.kept ≡ mid.kept ++ Refuse d.piece.number ∷ [] → IsHandedAs mid d → (a ≡ Refused) ⊎ (is_barred_in catalog mid d.piece ≡ true)
    → IsByEntries catalog old mid queued es → IsByEntries catalog old new queued (es ++ Queue d.piece.number a said ∷ [])
by_refusal catalog old mid new queued es one d a said conflicts opening first plans second handed cause before =
    let n = d.piece.number in
    let two = Refuse n ∷ [] in
    let grows : Grows mid new = record { plans = plans; added = two; kept = second } in
    let here = handed_served mid d handed in
    by_snoc catalog old mid new queued queued es (Queue n a said) one two conflicts opening first plans second before tt refl
    (λ answers done told. ((refusal_answered answers catalog (with_served mid 0) d here a (told d refl (handed_grows mid new d grows handed)) cause, tt), done))
    (subst (λ o. ((if is_unbarred catalog (with_served mid 0) o then 1 else 0) + 0) ≤ gate_refused (Queue n a said)) (sym handed.handed) (counted_by n a said (is_barred_in catalog mid d.piece) cause))

-- that of a flush is by the entries that queued its pieces,
pub by_flush : (catalog : Catalog) (old mid new : CoreState) (queued : List Handed) (es : List TurnEntry) (one : List Kept) (t : ℕ → Bool) (said : FlushSaid) → mid.conflicts ≡ old.conflicts → mid.opening ≡ old.opening
    → mid.kept ≡ old.kept ++ one → new.plans ≡ mid.plans → new.kept ≡ mid.kept ++ map Effect (filter t (numbers_of (pieces_of queued))) → Each (IsHandedAs mid) queued
    → IsByEntries catalog old mid queued es → IsByEntries catalog old new [] (es ++ Flush said ∷ [])
by_flush catalog old mid new queued es one t said conflicts opening first plans second handed before =
    let ns = filter t (numbers_of (pieces_of queued)) in
    let few = no_refusals catalog (with_served mid 0) ns in
    by_snoc catalog old mid new queued [] es (Flush said) one (map Effect ns) conflicts opening first plans second before tt (no_steps (map Effect ns) (no_hands ns))
    (λ answers done told. (effects_answered answers catalog t (with_served mid 0) queued (Each-weaker (IsHandedAs mid) (IsHandedAs (with_served mid 0)) (handed_served mid) queued handed) done, tt))
    (omega (arith, few))

-- and so is nothing, where an entry keeps none.
pub by_still : (catalog : Catalog) (old mid : CoreState) (was is_now : List Handed) (es : List TurnEntry) (e : TurnEntry) (one : List Kept) → mid.conflicts ≡ old.conflicts → mid.opening ≡ old.opening → mid.kept ≡ old.kept ++ one
    → gate_asked mid e ≡ 0 → IsOfHanded mid e → ((answers : Handed → Option Answer) → AllDone answers was → IsToldOf answers mid e → AllDone answers is_now) → IsByEntries catalog old mid was es
    → IsByEntries catalog old mid is_now (es ++ e ∷ [])
by_still catalog old mid was is_now es e one conflicts opening first none here done before =
    by_snoc catalog old mid mid was is_now es e one [] conflicts opening first refl (sym (append-nil mid.kept)) before here (sym none) (λ answers all told. (tt, done answers all told)) (omega arith)
