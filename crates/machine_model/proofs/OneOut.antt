-- At most one piece of a process is out.
use Rattle.std.proofs.Common.{◌≡◌, ◌⊎◌, inl, inr, ℕ, ◌+◌, ◌≤◌, Bool, true, false, cond, eqb, List, [], ◌∷◌, ◌++◌, length, filter, is_none, is_some, Option, Some, None, sym, refl, ap, ◌∙◌, arith}
use Rattle.std.specs.Bool.{IsTrue}
use Rattle.std.proofs.lemmas.Bool.{and_parts, eq-eqb, ne_eqb, cases_eq, false≢true}
use Rattle.schedule_model.specs.Course.{Course}
use Rattle.schedule_model.specs.Conflict.{ConflictRelation}
use Rattle.machine_model.specs.declared.kept.Kept.{Kept}
use Rattle.machine_model.specs.declared.kept.Kept.TheVariants.{Start, Hand, Effect, Refuse, Abort, Victim, Restart}
use Rattle.machine_model.specs.Moment.{Moment, Piece, noted, happened, without}
use Rattle.machine_model.specs.Pieces.{piece_of, running_of}
use Rattle.machine_model.specs.Advance.{Machine, advance, with_piece, event_of}
use Rattle.machine_model.specs.Runs.{is_run, now, may_be_kept}
use Rattle.machine_model.specs.PieceLaws.{OneRuns}
use Rattle.machine_model.proofs.Counting.{count, count-push, count-split, count-none, found-any}
use Rattle.machine_model.proofs.RunInduction.{IsKeptByBeginnings, entered, advance-keeps, run-keeps}

-- the piece is of process i
abbrev pub is_of : ℕ → Piece → Bool
is_of i p = eqb p.process i

-- at most one piece of each process is out
pub record OneOut (m : Moment) : Type 0 where
  pub one : (i : ℕ) → count (is_of i) m.out ≤ 1

pub beginnings-one : IsKeptByBeginnings OneOut
beginnings-one cause m k is c = record { one = λ i. let s = count-split (is_of i) (is_of k) m.out in let old = c.one i in omega arith }

idle_none : (o : Option Piece) → is_none o ≡ true → is_some o ≡ false
idle_none None is = refl
idle_none (Some p) is = absurd (false≢true is)

module _ (table : ConflictRelation) (courses : List Course) where
  handing : (m : Moment) (p : Piece) → is_none (running_of m p.process) ≡ true → OneOut m → OneOut (noted m (Hand p.number p.process p.step p.work))
  handing m p idle c = record { one = one }
    where
      none : count (is_of p.process) m.out ≡ 0
      none = count-none (is_of p.process) m.out (sym (found-any (is_of p.process) m.out) ∙ idle_none (running_of m p.process) idle)

      one : (i : ℕ) → count (is_of i) (m.out ++ p ∷ []) ≤ 1
      one i = by_process (cases_eq p.process i)
        where
          by_process : (p.process ≡ i) ⊎ (p.process ≡ i → ⊥) → count (is_of i) (m.out ++ p ∷ []) ≤ 1
          by_process (inl same) =
              let g = count-push (is_of i) m.out p in
              let z : cond {A = ℕ} (eqb p.process i) 1 0 ≡ 1 = ap (λ t. cond t 1 0) (eq-eqb p.process i same) in
              let n : count (is_of i) m.out ≡ 0 = ap (λ j. count (is_of j) m.out) (sym same) ∙ none in
              omega arith
          by_process (inr other) =
              let g = count-push (is_of i) m.out p in
              let z : cond {A = ℕ} (eqb p.process i) 1 0 ≡ 0 = ap (λ t. cond t 1 0) (ne_eqb p.process i other) in
              let old = c.one i in
              omega arith

  ending : (m : Moment) (n : ℕ) (i : ℕ) → OneOut m → count (is_of i) (without n m.out) ≤ 1
  ending m n i c = let s = count-split (is_of i) (λ p. eqb p.number n) m.out in let old = c.one i in omega arith

  perhaps : (m : Moment) (o : Option Piece) → OneOut m → OneOut (with_piece (λ p. happened m (event_of courses p)) m o)
  perhaps m None c = c
  perhaps m (Some p) c = record { one = c.one }

  pub entered-one : (m : Moment) (k : Kept) → OneOut m → may_be_kept table courses m k ≡ true → OneOut (entered courses m k)
  entered-one m (Start i) c may = record { one = c.one }
  entered-one m (Hand piece process step work) c may =
      handing m (record { number = piece; process = process; step = step; work = work })
      (and_parts _ _ (and_parts _ _ (and_parts _ _ (and_parts _ _ (and_parts _ _ (and_parts _ _ may).0).0).1).0).0).1 c
  entered-one m (Effect n) c may = perhaps (noted m (Effect n)) (piece_of (noted m (Effect n)).kept n) (record { one = λ i. ending m n i c })
  entered-one m (Refuse n) c may = record { one = λ i. ending m n i c }
  entered-one m (Abort i) c may = record { one = c.one }
  entered-one m (Victim i) c may = record { one = c.one }
  entered-one m Restart c may = record { one = c.one }

  pub advance-one : (m : Moment) (k : Kept) → OneOut m → may_be_kept table courses m k ≡ true → OneOut (advance table courses m k)
  advance-one m k c may = advance-keeps OneOut beginnings-one table courses m k (entered-one m k c may)

-- so it is all along a run
pub run-one : (table : ConflictRelation) (s : Machine) → IsTrue (is_run table s) → OneOut (now table s)
run-one table s run = run-keeps table s OneOut (advance-one table s.courses) run (record { one = λ i. omega arith })

length_step : {X : Type 0} (p : X → Bool) (x : X) (ys xs : List X) (t : Bool) → length ys ≡ count p xs → length (cond t (x ∷ ys) ys) ≡ cond t 1 0 + count p xs
length_step p x ys xs true is = omega arith
length_step p x ys xs false is = omega arith

-- as many are filtered as pass
pub count-filter : {X : Type 0} (p : X → Bool) (xs : List X) → length (filter p xs) ≡ count p xs
count-filter p [] = refl
count-filter p (x ∷ xs) = length_step p x (filter p xs) xs (p x) (count-filter p xs)

pub one_runs : OneRuns
one_runs table s i run = let c = count-filter (is_of i) (now table s).out in let one = (run-one table s run).one i in omega arith
