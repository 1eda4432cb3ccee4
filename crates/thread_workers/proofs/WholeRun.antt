-- What the whole run leaves.
use Rattle.std.proofs.Common.{◌≡◌, ◌∙◌, ℕ, suc, false, List, [], ◌∷◌, ◌++◌, length, map, append_assoc, append-nil, sym, refl, ap, subst, subst₂, Option as Maybe, Some, None, unwrap_or, IfSome}
use Rattle.atomic_table.specs.Seated.{TableId}
use Rattle.process_disk.specs.declared.rack.Rack.{Ghosts as Racks}
use Rattle.process_disk.specs.Disk.{Disk, Told}
use Rattle.process_disk.specs.Images.{EachImage}
use Rattle.process_tree.specs.Order.{Each}
use Rattle.resource_box.specs.declared.resource.Resource.{Ghosts as Resources}
use Rattle.machine_model.specs.Replies.{Handed}
use Rattle.engine_steps.specs.Targets.{targets_of}
use Rattle.history_files.specs.Sound.{IsSound}
use Rattle.engine_steps.specs.Engines.{EngineState, full_history}
use Rattle.process_core.specs.Cores.{CoreState, IsCore}
use Rattle.process_engine.specs.declared.gates.Answer.{Answer}
use Rattle.process_engine.specs.declared.gates.Gate.{Ghosts as Gates}
use Rattle.engine_calls.specs.GateAnswers.{GateCounts, counts_of}
use Rattle.engine_calls.specs.Runs.{IsReady}
use Rattle.worker_gate.specs.declared.alone.RunOutcome.{RunOutcome}
use Rattle.worker_gate.specs.ManyGates.{asked_gates}
use Rattle.worker_gate.specs.Running.{IsOutcome}
use Rattle.history_lock.specs.Rule.{IsWhole}
use Rattle.history_lock.specs.Weights.{weigh, AllStand}
use Rattle.history_lock.specs.declared.held.Held.{Ghosts as Helds}
use Rattle.shared_engine.specs.declared.entries.TurnEntry.{TurnEntry}
use Rattle.shared_engine.specs.declared.shared.SharedEngine.{SharedEngine}
use Rattle.shared_engine.specs.Progress.{opened, progress}
use Rattle.shared_engine.specs.Seats.{core_at}
use Rattle.shared_engine.specs.Shared.{AreOf, IsOpening, StandsFor, opens}
use Rattle.shared_engine.proofs.MadeTurns.{core_is}
use Rattle.thread_workers.specs.declared.crew.Job.{Job}
use Rattle.thread_workers.specs.History.{AreOfWorker, AreTallied, ComesInOrder, IsOneHistory, flat}
use Rattle.thread_workers.specs.Jobs.{HaveRun, IsDone, IsDoneSince, all_calls, all_gates, all_places, job_opening, job_places, job_seen, or_else}
use Rattle.thread_workers.specs.Workers.{AreWorked, GoesUp, HasStopped, IsBeginning, IsTally}
use Rattle.thread_workers.proofs.Knowledge.{tally_later, tally_none, worked_later}
use Rattle.thread_workers.proofs.Lists.{each-snoc, has_entry, stand_both}
use Rattle.thread_workers.proofs.StillTrue.{outcome_is, running_core, stays_over}

in_order : {X : Type 0} (low high : ℕ) (ps : List (ℕ × X)) → GoesUp low ps high → ComesInOrder low ps
in_order low high [] up = tt
in_order low high (p ∷ ps) up = (up.0, in_order p.0 high ps up.1)

map-snoc : {A C : Type 0} (f : A → C) (xs : List A) (x : A) → map f (xs ++ x ∷ []) ≡ map f xs ++ f x ∷ []
map-snoc f [] x = refl
map-snoc f (y ∷ ys) x = ap (λ l. f y ∷ l) (map-snoc f ys x)

flat-snoc : {A : Type 0} (xss : List (List A)) (xs : List A) → flat (xss ++ xs ∷ []) ≡ flat xss ++ xs
flat-snoc [] xs = append-nil xs
flat-snoc (ys ∷ yss) xs = ap (λ l. ys ++ l) (flat-snoc yss xs) ∙ sym (append_assoc ys (flat yss) xs)

-- the tallies of workers, one behind others
tallied-snoc : (c : CoreState) (own : List (ℕ × TurnEntry)) (b a : GateCounts) (calls : List (List (ℕ × TurnEntry))) (before after : List GateCounts) → AreTallied c calls before after → IsTally 0 c own b a
    → AreTallied c (calls ++ own ∷ []) (before ++ b ∷ []) (after ++ a ∷ [])
tallied-snoc c own b a [] [] [] are is = (is, tt)
tallied-snoc c own b a (x ∷ xs) (y ∷ ys) (z ∷ zs) are is = (are.0, tallied-snoc c own b a xs ys zs are.1 is)
tallied-snoc c own b a [] [] (z ∷ zs) are is = absurd are
tallied-snoc c own b a [] (y ∷ ys) [] are is = absurd are
tallied-snoc c own b a [] (y ∷ ys) (z ∷ zs) are is = absurd are
tallied-snoc c own b a (x ∷ xs) [] [] are is = absurd are
tallied-snoc c own b a (x ∷ xs) [] (z ∷ zs) are is = absurd are
tallied-snoc c own b a (x ∷ xs) (y ∷ ys) [] are is = absurd are

as_many : (c : CoreState) (calls : List (List (ℕ × TurnEntry))) (before after : List GateCounts) → AreTallied c calls before after → length calls ≡ length before
as_many c [] [] [] are = refl
as_many c (x ∷ xs) (y ∷ ys) (z ∷ zs) are = ap suc (as_many c xs ys zs are.1)
as_many c [] [] (z ∷ zs) are = absurd are
as_many c [] (y ∷ ys) [] are = absurd are
as_many c [] (y ∷ ys) (z ∷ zs) are = absurd are
as_many c (x ∷ xs) [] [] are = absurd are
as_many c (x ∷ xs) [] (z ∷ zs) are = absurd are
as_many c (x ∷ xs) (y ∷ ys) [] are = absurd are

-- no calls, for each of these gates
abbrev nothing_done : {X G : Type 0} → List G → List (List X)
nothing_done [] = []
nothing_done (gate ∷ gates) = [] ∷ nothing_done gates

-- an engine with what is queued at it, where no flush is due
abbrev pub shared_at : {R B : Type 0} → EngineState R B → List Handed → SharedEngine R B
shared_at e queued = record { engine = e; queued = queued; due = false; starved = false }

-- a settled engine at which nothing is queued is an opening
abbrev pub sound_at : {R B : Type 0} (disk : R → Disk) (box : Resources B) (e : EngineState R B) (queued : List Handed) → queued ≡ [] → IsReady box e → IsCore e.core
    → (Told (disk e.files.rack) → EachImage (disk e.files.rack) (disk e.files.rack).moment (IsSound e.catalog (full_history e.core))) → IsOpening disk box (shared_at e queued)
sound_at disk box e queued none ready core each = record { ready = ready; core = core; each = each; none = none; clear = refl }

module _ {R B G : Type 0} (racks : Racks R) (box : Resources B) (ghosts : Gates G) where
  nothing_each : (o : EngineState R B) (gates : List G) → Each (AreOfWorker ghosts.answers o.core []) (nothing_done gates)
  nothing_each o [] = tt
  nothing_each o (gate ∷ gates) = ((tt, tt, tt), nothing_each o gates)

  nothing_weighs : (gates : List G) (h : ℕ → TurnEntry → ℕ) → weigh h (flat (nothing_done gates)) ≡ 0
  nothing_weighs [] h = refl
  nothing_weighs (gate ∷ gates) h = nothing_weighs gates h

  nothing_tallied : (c : CoreState) (gates : List G) → AreTallied c (nothing_done gates) (map (counts_of ghosts) gates) (map (counts_of ghosts) gates)
  nothing_tallied c [] = tt
  nothing_tallied c (gate ∷ gates) = (tally_none c (counts_of ghosts gate), nothing_tallied c gates)

  -- With no call the engine is as it was, and so are the gates.
  pub no_call : (gates : List G) (o x : EngineState R B) → x ≡ o → IsOpening racks.disk box (shared_at o []) → IsOneHistory racks box (asked_gates ghosts gates gates) o x
  no_call gates o x is sound =
      let counts = map (counts_of ghosts) gates in
      subst (IsOneHistory racks box (asked_gates ghosts gates gates) o) (sym is) (record {
        history = [];
        last = shared_at o [];
        engine = refl;
        led = opens racks box (shared_at o []) sound;
        calls = nothing_done gates;
        workers = as_many o.core (nothing_done gates) counts counts (nothing_tallied o.core gates);
        each = nothing_each o gates;
        tallies = nothing_tallied o.core gates;
        once = nothing_weighs gates;
      })

module _ {R B G : Type 0} {h : Helds (SharedEngine R B) TurnEntry} (racks : Racks R) (box : Resources B) (answers : Handed → Maybe Answer) (counts : G → GateCounts) (desk : TableId) where
  flat_calls : (jobs : List (Job (SharedEngine R B) G TurnEntry h)) → flat (all_calls jobs) ≡ all_places jobs
  flat_calls [] = refl
  flat_calls (job ∷ jobs) = flat-snoc (all_calls jobs) (job_places job) ∙ ap (λ l. l ++ job_places job) (flat_calls jobs)

  module _ (o x : SharedEngine R B) (seen more : List TurnEntry) (led : AreOf racks box o.engine (seen ++ more) x) where
    -- what a worker did and what its gate counted, as all of the history shows it
    module _ (begun : GateCounts) (job : Job (SharedEngine R B) G TurnEntry h) (done : IsDoneSince racks.disk box answers counts desk begun job) (opening : job_opening job ≡ Some o) (begins : IsBeginning (job_seen job) seen) where
      abbrev own : List (ℕ × TurnEntry)
      own = done.0.place.me.0.places

      here : job_places job ≡ own
      here = ap (or_else (λ s. s.place.me.0.places) []) done.2

      saw : job_seen job ≡ done.0.place.me.0.seen
      saw = ap (or_else (λ s. s.place.me.0.seen) []) done.2

      same : done.5.opened.opening ≡ o
      same = ap (λ m. unwrap_or m o) (sym done.5.opened.known ∙ (sym (ap (or_else (λ s. s.place.me.0.opening) None) done.2) ∙ opening))

      worked_at : AreWorked answers (core_at o.engine (job_seen job)) own
      worked_at = subst (λ es. AreWorked answers (core_at o.engine es) own) (sym saw) (subst (λ (z : SharedEngine R B). AreWorked answers (core_at z.engine done.0.place.me.0.seen) own) same done.5.worked)

      worked_seen : AreWorked answers (core_at o.engine seen) own
      worked_seen = subst (λ es. AreWorked answers (core_at o.engine es) own) begins.1 (worked_later answers o.engine (job_seen job) begins.0 own worked_at)

      core : x.engine.core ≡ core_at o.engine (seen ++ more)
      core = core_is racks box o.engine x (seen ++ more) led

      worker_did : AllStand (seen ++ more) (job_places job) → AreOfWorker answers x.engine.core (seen ++ more) (job_places job)
      worker_did stand = (
        stand,
        subst (λ (ps : List (ℕ × TurnEntry)). ComesInOrder 0 ps) (sym here) (in_order 0 (length done.0.place.me.0.seen) own done.5.order),
        subst (AreWorked answers x.engine.core) (sym here) (subst (λ c. AreWorked answers c own) (sym core) (worked_later answers o.engine seen more own worked_seen)),
      )

      worker_tally : IsTally 0 x.engine.core (job_places job) begun (counts job.gate)
      worker_tally =
          let count = counts job.gate in
          let at = subst (λ es. IsTally 0 (core_at o.engine es) own begun count) (sym saw) (subst (λ (z : SharedEngine R B). IsTally 0 (core_at z.engine done.0.place.me.0.seen) own begun count) same done.5.tally) in
          let at_seen = subst (λ es. IsTally 0 (core_at o.engine es) own begun count) begins.1 (tally_later answers o.engine (job_seen job) begins.0 0 own begun count worked_at at) in
          let at_end = tally_later answers o.engine seen more 0 own begun count worked_seen at_seen in
          subst (λ ps. IsTally 0 x.engine.core ps begun count) (sym here) (subst (λ c. IsTally 0 c own begun count) (sym core) at_end)

    each_did : (jobs : List (Job (SharedEngine R B) G TurnEntry h)) → Each (IsDone racks.disk box answers counts desk) jobs → Each (λ j. job_opening j ≡ Some o) jobs → Each (λ j. IsBeginning (job_seen j) seen) jobs
        → AllStand (seen ++ more) (all_places jobs) → Each (AreOfWorker answers x.engine.core (seen ++ more)) (all_calls jobs)
    each_did [] done opening begins stand = tt
    each_did (job ∷ jobs) done opening begins stand =
        let both = stand_both (seen ++ more) (all_places jobs) (job_places job) stand in
        each-snoc (AreOfWorker answers x.engine.core (seen ++ more)) (all_calls jobs) (job_places job) (each_did jobs done.1 opening.1 begins.1 both.0) (worker_did done.0.0 job done.0.1 opening.0 begins.0 both.1)

    tallied : (befores jobs : List (Job (SharedEngine R B) G TurnEntry h)) → HaveRun racks.disk box answers counts desk befores jobs → Each (λ j. job_opening j ≡ Some o) jobs
        → Each (λ j. IsBeginning (job_seen j) seen) jobs → AreTallied x.engine.core (all_calls jobs) (map counts (all_gates befores)) (map counts (all_gates jobs))
    tallied [] [] ran opening begins = tt
    tallied [] (job ∷ jobs) ran opening begins = absurd ran
    tallied (b ∷ bs) [] ran opening begins = absurd ran
    tallied (b ∷ bs) (job ∷ jobs) ran opening begins =
        let rest = tallied bs jobs ran.1 opening.1 begins.1 in
        let own = worker_tally (counts b.gate) job ran.0.0 opening.0 begins.0 in
        let all = tallied-snoc x.engine.core (job_places job) (counts b.gate) (counts job.gate) (all_calls jobs) (map counts (all_gates bs)) (map counts (all_gates jobs)) rest own in
        subst₂ (AreTallied x.engine.core (all_calls jobs ++ job_places job ∷ [])) (sym (map-snoc counts (all_gates bs) b.gate)) (sym (map-snoc counts (all_gates jobs) job.gate)) all

-- What all workers did is one history.
pub one_history : {R B G : Type 0} {h : Helds (SharedEngine R B) TurnEntry} (racks : Racks R) (box : Resources B) (ghosts : Gates G) (desk : TableId)
    (befores jobs : List (Job (SharedEngine R B) G TurnEntry h)) (gates gates_after : List G) (o x : SharedEngine R B) (first : Maybe (SharedEngine R B)) (seen : List TurnEntry) (places : List (ℕ × TurnEntry))
    → IsWhole (λ (w : SharedEngine R B) (es : List TurnEntry) (z : SharedEngine R B). StandsFor racks box w es z) first seen places x → first ≡ Some o → IsOpening racks.disk box o
    → places ≡ all_places jobs → Each (IsDone racks.disk box ghosts.answers (counts_of ghosts) desk) jobs → Each (λ j. job_opening j ≡ Some o) jobs → Each (λ j. IsBeginning (job_seen j) seen) jobs
    → HaveRun racks.disk box ghosts.answers (counts_of ghosts) desk befores jobs → all_gates befores ≡ gates → gates_after ≡ all_gates jobs
    → IsOneHistory racks box (asked_gates ghosts gates gates_after) o.engine x.engine
one_history {R} {B} racks box ghosts desk befores jobs gates gates_after o x first seen places whole known sound all done opening begins ran given back =
    let answers = ghosts.answers in
    let counts = counts_of ghosts in
    let led = subst (λ (m : Maybe (SharedEngine R B)). IfSome m (λ z. StandsFor racks box z (seen ++ whole.0) x)) known whole.1 sound in
    let tallies = subst₂ (λ b a. AreTallied x.engine.core (all_calls jobs) (map counts b) (map counts a)) given (sym back) (tallied racks box answers counts desk o x seen whole.0 led befores jobs ran opening begins) in
    record {
      history = seen ++ whole.0;
      last = x;
      engine = refl;
      led = led;
      calls = all_calls jobs;
      workers = as_many x.engine.core (all_calls jobs) (map counts gates) (map counts gates_after) tallies;
      each = each_did racks box answers counts desk o x seen whole.0 led jobs done opening begins (subst (AllStand (seen ++ whole.0)) all whole.2);
      tallies = tallies;
      once = λ f. ap (weigh f) (flat_calls racks box answers counts desk jobs ∙ sym all) ∙ whole.3 f;
    }

-- How a worker stopped is so of the engine that comes back.
pub outcome_at_end : {R B : Type 0} (racks : Racks R) (box : Resources B) (outcome : RunOutcome) (o x : SharedEngine R B) (first : Maybe (SharedEngine R B)) (seen : List TurnEntry)
    (places : List (ℕ × TurnEntry)) → IsWhole (λ (w : SharedEngine R B) (es : List TurnEntry) (z : SharedEngine R B). StandsFor racks box w es z) first seen places x → first ≡ Some o
    → IsOpening racks.disk box o → HasStopped outcome places → IsOutcome x.engine outcome
outcome_at_end {R} {B} racks box outcome o x first seen places whole known sound stopped =
    let history = seen ++ whole.0 in
    let led = subst (λ (m : Maybe (SharedEngine R B)). IfSome m (λ z. StandsFor racks box z history x)) known whole.1 sound in
    outcome_is outcome x (stays_over (targets_of o.engine.catalog.ops) outcome (opened o.engine) (progress x) history stopped.0.1 (has_entry history places stopped.0 whole.2 stopped.1) stopped.2
    (running_core o.engine.core sound.core) led.told)

-- The entries that led from the opening engine to the one that comes back.
pub led_at_end : {R B : Type 0} (racks : Racks R) (box : Resources B) (o x : SharedEngine R B) (first : Maybe (SharedEngine R B)) (seen : List TurnEntry) (places : List (ℕ × TurnEntry))
    → IsWhole (λ (w : SharedEngine R B) (es : List TurnEntry) (z : SharedEngine R B). StandsFor racks box w es z) first seen places x → first ≡ Some o → IsOpening racks.disk box o
    → (es : List TurnEntry) × AreOf racks box o.engine es x
led_at_end {R} {B} racks box o x first seen places whole known sound =
    (seen ++ whole.0, subst (λ (m : Maybe (SharedEngine R B)). IfSome m (λ z. StandsFor racks box z (seen ++ whole.0) x)) known whole.1 sound)
