-- What is kept in turn, one run after another.
use Rattle.std.proofs.Common.{◌≡◌, ◌∙◌, List, [], ◌∷◌, ◌++◌, ap, sym, append-nil, append_assoc}
use Rattle.process_tree.specs.declared.plan.Plan.{Plan}
use Rattle.schedule_model.specs.Course.{courses_of}
use Rattle.machine_model.specs.declared.kept.Kept.{Kept}
use Rattle.machine_model.specs.declared.kept.Kept.TheVariants.{Start, Hand, Effect, Refuse, Abort, Victim, Restart}
use Rattle.machine_model.specs.Laws.{next_in_restart}
use Rattle.process_core.specs.Cores.{CoreState, courses_in, moment_of}
use Rattle.process_core.specs.Handing.{with_kept}
use Rattle.worker_gate.proofs.IdleMoments.{moment_with}
use Rattle.process_restart.specs.Completing.{AreInTurn, IsInTurn}

-- A core has the same table, plans and opening as another, and has kept these events more.
pub record KeepsMore (c d : CoreState) (ks : List Kept) : Type 0 where
  pub conflicts : d.conflicts ≡ c.conflicts
  pub plans : d.plans ≡ c.plans
  pub opening : d.opening ≡ c.opening
  pub kept : d.kept ≡ c.kept ++ ks

module _ (c d : CoreState) (same : KeepsMore c d []) where
  next_alike : next_in_restart (courses_in d) (moment_of d) ≡ next_in_restart (courses_in c) (moment_of c)
  next_alike = ap (λ m. next_in_restart (courses_in d) m) (moment_with c d [] same.conflicts same.plans same.opening same.kept) ∙ ap (λ (x : List Plan). next_in_restart (courses_of x) (moment_of c)) same.plans

  turn_alike : (k : Kept) → IsInTurn d k → IsInTurn c k
  turn_alike (Hand piece process step work) turn = sym next_alike ∙ turn
  turn_alike (Start i) turn = tt
  turn_alike (Effect n) turn = tt
  turn_alike (Refuse n) turn = tt
  turn_alike (Abort i) turn = tt
  turn_alike (Victim i) turn = tt
  turn_alike Restart turn = tt

-- whoever is served makes no difference
alike : (c d : CoreState) → KeepsMore c d [] → (ks : List Kept) → AreInTurn d ks → AreInTurn c ks
alike c d same [] turns = tt
alike c d same (k ∷ ks) turns = (
  turn_alike c d same k turns.0,
  alike (with_kept c k) (with_kept d k) (record {
    conflicts = same.conflicts;
    plans = same.plans;
    opening = same.opening;
    kept = ap (λ js. js ++ k ∷ []) (same.kept ∙ append-nil c.kept) ∙ sym (append-nil (c.kept ++ k ∷ []));
  }) ks turns.1,
)

-- What was kept in turn up to a core, and then in turn from there on, was kept in turn.
pub in_turn-append : (c d : CoreState) (ks js : List Kept) → KeepsMore c d ks → AreInTurn c ks → AreInTurn d js → AreInTurn c (ks ++ js)
in_turn-append c d [] js more first second = alike c d more js second
in_turn-append c d (k ∷ ks) js more first second = (
  first.0,
  in_turn-append (with_kept c k) d ks js (record { conflicts = more.conflicts; plans = more.plans; opening = more.opening; kept = more.kept ∙ sym (append_assoc c.kept (k ∷ []) ks) }) first.1 second,
)
