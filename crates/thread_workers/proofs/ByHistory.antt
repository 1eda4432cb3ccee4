-- What workers did is a run by their gates.
use Rattle.std.proofs.Common.{◌≡◌, inl, inr, ◌∙◌, ◌<◌, ◌≤◌, ℕ, zero, suc, ◌+◌, Bool, true, false, eqb, if◌then◌else◌, List, [], ◌∷◌, filter, length, unwrap_or, Option as Maybe, refl, sym, ap, subst, arith}
use Rattle.std.proofs.lemmas.Bool.{eq-eqb, eqb-true}
use mathlib.Core.Option.{some, some-injective, some-ne-none}
use lib.ListN.{get_elem?}
use Rattle.process_disk.specs.declared.rack.Rack.{Ghosts as Racks}
use Rattle.process_tree.specs.Order.{Each}
use Rattle.process_tree.specs.declared.play.Outcome.TheVariants as outcome
use Rattle.process_tree.proofs.Every.{Each-append}
use Rattle.resource_box.specs.declared.resource.Resource.{Ghosts as Resources}
use Rattle.machine_model.specs.Calls.{finish, next}
use Rattle.machine_model.specs.Pieces.{piece_of, runs}
use Rattle.machine_model.specs.Replies.{Handed}
use Rattle.process_core.specs.Answers.{after_call}
use Rattle.process_core.specs.Cores.{CoreState, moment_of}
use Rattle.process_engine.specs.declared.gates.Answer.{Answer}
use Rattle.engine_steps.specs.Engines.{EngineState}
use Rattle.engine_calls.specs.GateAnswers.{GateCounts, as_handed}
use Rattle.engine_calls.specs.Runs.{GoesOnAlone}
use Rattle.worker_gate.specs.ManyGates.{AreAskedInAll, AreCalls, AskedGates, IsCall, IsLow, RanByGates, all_refusals}
use Rattle.worker_gate.proofs.ManyCalls.{calls_running}
use Rattle.history_lock.specs.Weights.{total, weigh, weigh_from, AllStand, StandsAt}
use Rattle.history_lock.proofs.Sums.{weigh-append}
use Rattle.engine_steps.specs.Targets.{targets_of}
use Rattle.shared_engine.specs.declared.entries.NextSaid.TheVariants as asked
use Rattle.shared_engine.specs.declared.entries.FlushSaid.TheVariants as flushed
use Rattle.shared_engine.specs.declared.entries.QueueSaid.TheVariants as put
use Rattle.shared_engine.specs.declared.entries.TurnEntry.{TurnEntry}
use Rattle.shared_engine.specs.declared.entries.TurnEntry.TheVariants.{Next, Queue, Flush}
use Rattle.process_engine.specs.Pieces.{after_effects}
use Rattle.shared_engine.specs.Progress.{Progress, after, after_all, opened, progress}
use Rattle.shared_engine.specs.Tallies.{IsAnswerTo, IsByEntries, IsToldOf, gate_asked, gate_refused}
use Rattle.shared_engine.proofs.HandedLater.{led_to}
use Rattle.thread_workers.specs.History.{AreOfWorker, AreTallied, IsOneHistory, flat}
use Rattle.thread_workers.specs.Workers.{AreWorked, IsWorked}

-- calls led from one core to another
record CallsTo (old new : CoreState) : Type 0 where
  pub cores : List CoreState
  pub calls : AreCalls cores old new

no_calls : (c : CoreState) → CallsTo c c
no_calls c = record { cores = []; calls = refl }

one_call : (c d : CoreState) → IsCall c d → CallsTo c d
one_call c d call = record { cores = d ∷ []; calls = (call, refl) }

behind : (c d x : CoreState) (cores more : List CoreState) → AreCalls cores c d → AreCalls more d x → CallsTo c x
behind c d x [] more are rest = record { cores = more; calls = subst (λ z. AreCalls more z x) are rest }
behind c d x (m ∷ cores) more are rest = let all = behind m d x cores more are.1 rest in record { cores = m ∷ all.cores; calls = (are.0, all.calls) }

calls_behind : (c d x : CoreState) → CallsTo c d → CallsTo d x → CallsTo c x
calls_behind c d x one two = behind c d x one.cores two.cores one.calls two.calls

-- Each effect of a flush is the end of a piece.
effects_calls : (c : CoreState) (ns : List ℕ) → CallsTo c (after_effects c ns)
effects_calls c [] = no_calls c
effects_calls c (n ∷ ns) =
    let next : CoreState = after_call c (finish n outcome.Done) in
    calls_behind c next (after_effects next ns) (one_call c next (inr (n, outcome.Done, refl))) (effects_calls next ns)

refusal_call : (c : CoreState) (n : ℕ) → CallsTo c (after_call c (finish n outcome.Refused))
refusal_call c n = one_call c (after_call c (finish n outcome.Refused)) (inr (n, outcome.Refused, refl))

-- an entry is calls of the machine: one, or those of a flush, or none
entry_calls : (p : Progress) (e : TurnEntry) → CallsTo p.core (after p e).core
entry_calls p (Next (asked.Piece n)) = one_call p.core (after_call p.core next) (inl refl)
entry_calls p (Next (asked.Wait w)) = one_call p.core (after_call p.core next) (inl refl)
entry_calls p (Next asked.AllEnded) = one_call p.core (after_call p.core next) (inl refl)
entry_calls p (Next (asked.Stuck i)) = one_call p.core (after_call p.core next) (inl refl)
entry_calls p (Next (asked.Closed k)) = no_calls p.core
entry_calls p (Queue n a put.Queued) = no_calls p.core
entry_calls p (Queue n a (put.Full k)) = no_calls p.core
entry_calls p (Queue n a (put.Retry k)) = refusal_call p.core n
entry_calls p (Queue n a put.Failed) = refusal_call p.core n
entry_calls p (Queue n a put.Exhausted) = refusal_call p.core n
entry_calls p (Queue n a put.Over) = no_calls p.core
entry_calls p (Queue n a (put.Dropped k)) = no_calls p.core
entry_calls p (Queue n a (put.NoMemory k)) = no_calls p.core
entry_calls p (Queue n a (put.Closed k)) = no_calls p.core
entry_calls p (Flush (flushed.Flushed n)) = effects_calls p.core (filter (runs (moment_of p.core)) p.group)
entry_calls p (Flush flushed.DiskFault) = no_calls p.core
entry_calls p (Flush (flushed.Closed k)) = no_calls p.core

entries_calls : (p : Progress) (es : List TurnEntry) → CallsTo p.core (after_all p es).core
entries_calls p [] = no_calls p.core
entries_calls p (e ∷ es) = calls_behind p.core (after p e).core (after_all (after p e) es).core (entry_calls p e) (entries_calls (after p e) es)

-- a place that has a property, and to which h gives a weight
abbrev Found : {X : Type 0} → (ℕ × X → Type 0) → (ℕ → X → ℕ) → Type 0
Found {X} P h = (p : ℕ × X) × (1 ≤ h p.0 p.1) × P p

found_by : {X : Type 0} (P : ℕ × X → Type 0) (h : ℕ → X → ℕ) (p : ℕ × X) (ps : List (ℕ × X)) → P p → 1 ≤ weigh h (p ∷ ps) → (1 ≤ weigh h ps → Found P h) → (k : ℕ) → h p.0 p.1 ≡ k → Found P h
found_by P h p ps here heavy rest zero is = rest (omega (arith, heavy, is))
found_by P h p ps here heavy rest (suc k) is = (p, omega (arith, is), here)

-- what weighs something is among places each of which has a property
found : {X : Type 0} (P : ℕ × X → Type 0) (h : ℕ → X → ℕ) (ps : List (ℕ × X)) → Each P ps → 1 ≤ weigh h ps → Found P h
found P h [] each heavy = absurd (omega (arith, heavy))
found P h (p ∷ ps) each heavy = found_by P h p ps each.0 heavy (λ more. found P h ps each.1 more) (h p.0 p.1) refl

-- 1 at one place
abbrev at_place : {X : Type 0} → ℕ → ℕ → X → ℕ
at_place k m x = if eqb m k then 1 else 0

there : {X : Type 0} (xs : List X) (n i k : ℕ) → k ≡ n + i + 1 → i < length xs → 1 ≤ weigh_from (at_place k) n xs
there [] n i k is less = absurd (omega (arith, less))
there (x ∷ xs) n zero k is less = let first = ap {B = ℕ} (λ t. if t then 1 else 0) (eq-eqb (n + 1) k (omega (arith, is))) in omega (arith, first)
there (x ∷ xs) n (suc i) k is less = let rest = there xs (n + 1) i k (omega (arith, is)) (omega (arith, less)) in omega (arith, rest)

at_is : {X : Type 0} (k m : ℕ) (x : X) → 1 ≤ at_place k m x → m ≡ k
at_is k m x some' = by (eqb m k) refl some'
  where
    by : (t : Bool) → eqb m k ≡ t → 1 ≤ (if t then 1 else 0) → m ≡ k
    by true is less = eqb-true m k is
    by false is less = absurd (omega (arith, less))

elem_less : {X : Type 0} (xs : List X) (i : ℕ) (x : X) → get_elem? xs i ≡ some x → i < length xs
elem_less [] i x at = absurd (some-ne-none x (sym at))
elem_less (y ∷ ys) zero x at = omega arith
elem_less (y ∷ ys) (suc i) x at = let rest = elem_less ys i x at in omega (arith, rest)

each_elem : {X : Type 0} (Q : X → Type 0) (xs : List X) → ((i : ℕ) (x : X) → get_elem? xs i ≡ some x → Q x) → Each Q xs
each_elem Q [] all = tt
each_elem Q (x ∷ xs) all = (all 0 x refl, each_elem Q xs (λ i y at. all (suc i) y at))

weighs_total : {X : Type 0} (f : X → ℕ) (n : ℕ) (xs : List X) → weigh_from (λ m x. f x) n xs ≡ total f xs
weighs_total f n [] = refl
weighs_total f n (x ∷ xs) = let rest = weighs_total f (n + 1) xs in omega (arith, rest)

module _ (answers : Handed → Maybe Answer) (c : CoreState) (history : List TurnEntry) where
  -- a call that a worker made at its place
  abbrev IsCallOfWorker : ℕ × TurnEntry → Type 0
  IsCallOfWorker p = StandsAt history p × IsWorked answers c p.1

  both : (ps : List (ℕ × TurnEntry)) → AllStand history ps → AreWorked answers c ps → Each IsCallOfWorker ps
  both [] stand worked = tt
  both (p ∷ ps) stand worked = ((stand.0, worked.0), both ps stand.1 worked.1)

  all_calls_are : (calls : List (List (ℕ × TurnEntry))) → Each (AreOfWorker answers c history) calls → Each IsCallOfWorker (flat calls)
  all_calls_are [] each = tt
  all_calls_are (own ∷ calls) each = Each-append IsCallOfWorker own (flat calls) (both own each.0.0 each.0.2) (all_calls_are calls each.1)

  -- the answers of a worker are told of whichever piece has that number
  worked_told : (e : TurnEntry) → IsWorked answers c e → IsToldOf answers c e
  worked_told (Next said) is = tt
  worked_told (Flush said) is = tt
  worked_told (Queue n a reply) is = λ d number handed.
      let numbers : is.0.piece.number ≡ d.piece.number = is.1 ∙ sym number in
      let pieces : is.0.piece ≡ d.piece = ap (λ o. unwrap_or o d.piece) (sym is.2.handed ∙ (ap (piece_of c.kept) numbers ∙ handed.handed)) in
      let same : is.0 ≡ d = sym is.2.told ∙ (ap (as_handed c) pieces ∙ handed.told) in
      subst (λ (x : Handed). IsAnswerTo answers x a) same is.3

  module _ (calls : List (List (ℕ × TurnEntry))) (each : Each (AreOfWorker answers c history) calls) (once : (h : ℕ → TurnEntry → ℕ) → weigh h (flat calls) ≡ weigh_from h 0 history) where
    told_at : (i : ℕ) (e : TurnEntry) → get_elem? history i ≡ some e → IsToldOf answers c e
    told_at i e at =
        let h = at_place {X = TurnEntry} (i + 1) in
        let some' = there history 0 i (i + 1) (omega arith) (elem_less history i e at) in
        let call = found IsCallOfWorker h (flat calls) (all_calls_are calls each) (subst (λ k. 1 ≤ k) (sym (once h)) some') in
        let place = at_is (i + 1) call.0.0 call.0.1 call.1 in
        let stands = call.2.0 in
        let here : stands.0 ≡ i = omega (arith, place, stands.1) in
        let same : call.0.1 ≡ e = some-injective call.0.1 e (sym stands.2 ∙ (ap (λ k. get_elem? history k) here ∙ at)) in
        subst (IsToldOf answers c) same (worked_told call.0.1 call.2.1)

    -- each piece is queued as gates tell it
    each_told : Each (IsToldOf answers c) history
    each_told = each_elem (IsToldOf answers c) history told_at

-- All gates together counted each refusal,
refused_all : (c : CoreState) (calls : List (List (ℕ × TurnEntry))) (before after' : List GateCounts) → AreTallied c calls before after' → Each IsLow after'
    → all_refusals before + weigh (λ n e. gate_refused e) (flat calls) ≤ all_refusals after'
refused_all c [] [] [] are low = omega arith
refused_all c (own ∷ calls) (b ∷ bs) (a ∷ gs) are low =
    let first = are.0.counted low.0 in
    let rest = refused_all c calls bs gs are.1 low.1 in
    let sum = weigh-append (λ n e. gate_refused e) own (flat calls) in
    omega (arith, first, rest, sum)
refused_all c [] [] (z ∷ zs) are low = absurd are
refused_all c [] (y ∷ ys) [] are low = absurd are
refused_all c [] (y ∷ ys) (z ∷ zs) are low = absurd are
refused_all c (x ∷ xs) [] [] are low = absurd are
refused_all c (x ∷ xs) [] (z ∷ zs) are low = absurd are
refused_all c (x ∷ xs) (y ∷ ys) [] are low = absurd are

-- and were asked once for each step and undo that the workers got.
asked_all : (c : CoreState) (calls : List (List (ℕ × TurnEntry))) (before after' : List GateCounts) → AreTallied c calls before after' → AreAskedInAll (weigh (λ n e. gate_asked c e) (flat calls)) before after'
asked_all c [] [] [] are = refl
asked_all c (own ∷ calls) (b ∷ bs) (a ∷ gs) are =
    let sum = weigh-append (λ n e. gate_asked c e) own (flat calls) in
    let got = are.0.got in
    (are.0.times, weigh (λ n e. gate_asked c e) (flat calls), omega (arith, sum, got), are.0.asked, are.0.later, asked_all c calls bs gs are.1)
asked_all c [] [] (z ∷ zs) are = absurd are
asked_all c [] (y ∷ ys) [] are = absurd are
asked_all c [] (y ∷ ys) (z ∷ zs) are = absurd are
asked_all c (x ∷ xs) [] [] are = absurd are
asked_all c (x ∷ xs) [] (z ∷ zs) are = absurd are
asked_all c (x ∷ xs) (y ∷ ys) [] are = absurd are

-- One history of workers is a run of the engine by their gates.
pub ran_by_history : {R B : Type 0} (racks : Racks R) (box : Resources B) (gates : AskedGates) (o x : EngineState R B)
    → IsOneHistory racks box gates o x → RanByGates racks gates o x
ran_by_history {R = R} {B = B} racks box gates o x one =
    let c = x.core in
    let led = one.led in
    let by = subst (λ (e : EngineState R B). IsByEntries o.catalog o.core e.core one.last.queued one.history) one.engine led.by_entries in
    let calls = entries_calls (opened o) one.history in
    let core = sym (ap (λ (e : EngineState R B). e.core) one.engine) ∙ ap (λ (p : Progress). p.core) (led_to (targets_of o.catalog.ops) (opened o) one.history (progress one.last) led.told) in
    let all = subst (AreCalls calls.cores o.core) (sym core) calls.calls in
    let refused = one.once (λ n e. gate_refused e) ∙ weighs_total gate_refused 0 one.history in
    let asks = one.once (λ n e. gate_asked c e) ∙ (weighs_total (gate_asked c) 0 one.history ∙ sym by.handed) in
    record {
      goes = subst (GoesOnAlone racks o) one.engine led.goes;
      plans = by.plans;
      running = calls_running calls.cores o.core c all;
      by_gates = record {
        answered = by.answered gates.answers (each_told gates.answers c one.history one.calls one.each one.once);
        counted = λ low. let counted = refused_all c one.calls gates.before gates.after one.tallies low in omega (arith, counted, refused, by.refused);
        asked = subst (λ n. AreAskedInAll n gates.before gates.after) asks (asked_all c one.calls gates.before gates.after one.tallies);
      };
      cores = calls.cores;
      calls = all;
    }
