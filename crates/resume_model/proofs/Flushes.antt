-- What a flush keeps makes a longer session.
use Rattle.std.proofs.Common.{◌≡◌, ℕ, ◌≤◌, Bool, true, false, cond, eqb, List, [], ◌∷◌, length, map, filter, sym, refl, ap, subst, ◌∙◌, arith}
use Rattle.std.proofs.lemmas.Bool.{and_from, eq-eqb}
use Rattle.schedule_model.specs.Histories.{is_in, starts}
use Rattle.machine_model.specs.declared.kept.Kept.TheVariants.{Effect}
use Rattle.machine_model.specs.Moment.{Moment}
use Rattle.machine_model.specs.Pieces.{runs}
use Rattle.machine_model.specs.Groups.{flush_kept}
use Rattle.machine_model.proofs.Counting.{count, count-some}
use Rattle.machine_model.proofs.OneOut.{count-filter}
use Rattle.machine_model.proofs.QueuedPieces.{flushes_keep_what_runs}
use Rattle.machine_model.proofs.SessionCalls.{NobodyStarts, starts-still}
use Rattle.machine_model.proofs.Snoc.{advance_all-append, goes_on-append}
use Rattle.machine_model.proofs.TurnRuns.{AreDistinct, flush-goes}
use Rattle.resume_model.specs.MomentLaws.{FlushesKeepSessions}
use Rattle.resume_model.specs.Openings.{opened}
use Rattle.resume_model.specs.Resumed.{is_run_of, now_of}

-- numbers of which each stands once are distinct
distinct : (ns : List ℕ) → ((n : ℕ) → count (λ k. eqb n k) ns ≤ 1) → AreDistinct ns
distinct [] once = tt
distinct (n ∷ ns) once = (apart (is_in n ns) refl, distinct ns (λ k. let c = once k in omega arith))
  where
    apart : (t : Bool) → is_in n ns ≡ t → is_in n ns ≡ false
    apart false is = is
    apart true is =
        let some = count-some (λ k. eqb n k) ns is in
        let all = once n in
        let one : cond {A = ℕ} (eqb n n) 1 0 ≡ 1 = ap (λ t. cond t 1 0) (eq-eqb n n refl) in
        absurd (omega arith)

effects_start : (ns : List ℕ) → NobodyStarts (map Effect ns)
effects_start [] = tt
effects_start (n ∷ ns) = (refl, effects_start ns)

pub flushes_keep_sessions : FlushesKeepSessions
flushes_keep_sessions table plans s session group once =
    let m = now_of table s in
    let ks = flush_kept m group in
    let apart = distinct group (λ n. let c = count-filter (λ k. eqb n k) group in let o = once n in omega arith) in
    let nobody = subst NobodyStarts (sym (flushes_keep_what_runs m group)) (effects_start (filter (runs m) group)) in
    record {
      symmetric = session.symmetric;
      good = session.good;
      courses = session.courses;
      one_each = session.one_each ∙ sym (ap length (ap (λ (n : Moment). starts n.events) (advance_all-append table s.courses (opened s.opening) s.kept ks) ∙ starts-still table s.courses m ks nobody));
      sound = session.sound;
      run = goes_on-append table s.courses (opened s.opening) s.kept ks
          ∙ and_from (is_run_of table s) _ session.run (flush-goes table s.courses m m (length m.events) group apart (λ k listed. refl));
    }
