-- Jobs before and after their workers ran.
use Rattle.std.proofs.Common.{◌≡◌, ◌∙◌, ℕ, suc, Option, length, get_or, ◌+◌, ◌-◌, ◌*◌, ◌/◌, ◌^◌, ◌<◌, ◌≤◌, List, [], ◌∷◌, ◌++◌, sym, refl, ap, arith, append_assoc, append-nil}
use Rattle.std.proofs.lemmas.Nat.{pow_pos}
use Rattle.std.proofs.Math.Nat.{pow-succ'}
use Rattle.atomic_table.specs.Seated.{TableId}
use Rattle.process_disk.specs.Disk.{Disk}
use Rattle.resource_box.specs.declared.resource.Resource.{Ghosts as Resources}
use Rattle.machine_model.specs.Replies.{Handed}
use Rattle.process_engine.specs.declared.gates.Answer.{Answer}
use Rattle.engine_calls.specs.GateAnswers.{GateCounts}
use Rattle.history_lock.specs.declared.held.Held.{Ghosts as Helds}
use Rattle.shared_engine.specs.declared.entries.TurnEntry.{TurnEntry}
use Rattle.shared_engine.specs.declared.shared.SharedEngine.{SharedEngine}
use Rattle.thread_workers.specs.declared.crew.Job.{Job}
use Rattle.thread_workers.specs.Jobs.{HasRun, HaveRun, all_gates, all_places, job_places}

module _ {R B G : Type 0} {h : Helds (SharedEngine R B) TurnEntry} where
  pub all_places-snoc : (jobs : List (Job (SharedEngine R B) G TurnEntry h)) (job : Job (SharedEngine R B) G TurnEntry h) → all_places (jobs ++ job ∷ []) ≡ job_places job ++ all_places jobs
  all_places-snoc [] job = sym (append-nil (job_places job))
  all_places-snoc (j ∷ js) job = ap (λ l. l ++ job_places j) (all_places-snoc js job) ∙ append_assoc (job_places job) (all_places js) (job_places j)

  pub all_gates-snoc : (jobs : List (Job (SharedEngine R B) G TurnEntry h)) (job : Job (SharedEngine R B) G TurnEntry h) → all_gates (jobs ++ job ∷ []) ≡ job.gate ∷ all_gates jobs
  all_gates-snoc [] job = refl
  all_gates-snoc (j ∷ js) job = ap (λ l. l ++ j.gate ∷ []) (all_gates-snoc js job)

module _ {R B G : Type 0} {h : Helds (SharedEngine R B) TurnEntry} (disk : R → Disk) (box : Resources B) (answers : Handed → Option Answer) (counts : G → GateCounts) (desk : TableId) where
  -- jobs of which each ran, by their places, all ran
  pub ran_from : (xs ys : List (Job (SharedEngine R B) G TurnEntry h)) → length xs ≡ length ys
      → ((i : ℕ) (d : Job (SharedEngine R B) G TurnEntry h) → i < length xs → HasRun disk box answers counts desk (get_or xs i d) (get_or ys i d)) → HaveRun disk box answers counts desk xs ys
  ran_from [] [] e all = tt
  ran_from [] (y ∷ ys) e all = absurd (omega (arith, e))
  ran_from (x ∷ xs) [] e all = absurd (omega (arith, e))
  ran_from (x ∷ xs) (y ∷ ys) e all = (all 0 x (omega arith), ran_from xs ys (omega (arith, e)) (λ i d h. all (suc i) d (omega (arith, h))))

-- what is left of a share that can be halved so often
pub halves : (n s : ℕ) → 2 ^ (n + 1) ≤ s → (2 ≤ s) × (2 ^ n ≤ s - s / 2)
halves n s le = let next : n + 1 ≡ suc n = omega arith in
    let double : 2 ^ (n + 1) ≡ 2 * 2 ^ n = ap (λ (k : ℕ). 2 ^ k) next ∙ pow-succ' 2 n in
    let one : 0 < 2 ^ n = pow_pos n in (omega (arith, le, double, one), omega (arith, le, double))
