-- The running piece of a process is its next piece.
use Rattle.std.proofs.Common.{◌≡◌, ℕ, ◌+◌, Bool, true, false, not, cond, eqb, ◌&&◌, ◌||◌, List, [], ◌∷◌, ◌++◌, length, filter, Option, Some, None, sym, refl, ap, subst, ◌∙◌, arith}
use Rattle.std.proofs.Math.Bool.{or-false}
use Rattle.std.specs.Bool.{IsTrue}
use Rattle.std.specs.List.{list_any}
use Rattle.std.proofs.lemmas.Option.{none-some, same_Some}
use Rattle.std.proofs.lemmas.Bool.{and_parts, and_from, or_parts, or_left, not-true, eqb-true, eqb-false, eq-eqb, ne_eqb, false≢true}
use Rattle.process_tree.specs.Order.{Each}
use Rattle.process_tree.proofs.Every.{Each-weaker, Each-append, Each-both}
use Rattle.schedule_model.specs.Course.{Course}
use Rattle.schedule_model.specs.Conflict.{ConflictRelation}
use Rattle.machine_model.specs.declared.kept.Kept.{Kept}
use Rattle.machine_model.specs.declared.kept.Kept.TheVariants.{Start, Hand, Effect, Refuse, Abort, Victim, Restart}
use Rattle.machine_model.specs.Progress.{Task, same_task, same_work, next_task}
use Rattle.machine_model.specs.Moment.{Moment, Piece, noted, happened, without, has_begun, begins_now}
use Rattle.machine_model.specs.Pieces.{hands, piece_of, runs}
use Rattle.machine_model.specs.State.{next_of, is_free, progress}
use Rattle.machine_model.specs.Advance.{Machine, advance, with_piece, event_of}
use Rattle.machine_model.specs.Runs.{is_run, now, may_be_kept, may_hand}
use Rattle.machine_model.specs.PieceLaws.{RunningIsNext, piece_ended}
use Rattle.machine_model.proofs.Counting.{count, count-split, count-some, none-count}
use Rattle.machine_model.proofs.RunInduction.{IsKeptByBeginnings, entered, advance-keeps, run-keeps}
use Rattle.machine_model.proofs.Begun.{begins_now-has}
use Rattle.machine_model.proofs.PieceCounts.{is_number}
use Rattle.machine_model.proofs.CallsKept.{find-passes}
use Rattle.machine_model.proofs.OneOut.{is_of}
use Rattle.machine_model.proofs.TidyMoments.{Tidy, IsPieceOfItsNumber, Each-filter, Each-find, advance-tidy, opening-tidy}
use Rattle.machine_model.proofs.Frames.{IsOfOthers, entered-leaves, same_history, same_progress}

-- what a piece does
abbrev pub task_of : Piece → Task
task_of p = record { work = p.work; step = p.step }

-- the piece is the next one of its process
abbrev pub IsNextPiece : List Course → Moment → Piece → Type 0
IsNextPiece courses m p = same_task (task_of p) (next_of courses m p.process) ≡ true

filter_step : {X : Type 0} (P Q : X → Type 0) (q : X → Bool) (x : X) (ys : List X) (t : Bool) → q x ≡ t → ((y : X) → P y → q y ≡ true → Q y) → P x → Each Q ys → Each Q (cond t (x ∷ ys) ys)
filter_step P Q q x ys true is gives has each = (gives x has is, each)
filter_step P Q q x ys false is gives has each = each

-- those that pass have what follows from passing
pub Each-passing : {X : Type 0} (P Q : X → Type 0) (q : X → Bool) (xs : List X) → ((y : X) → P y → q y ≡ true → Q y) → Each P xs → Each Q (filter q xs)
Each-passing P Q q [] gives each = tt
Each-passing P Q q (x ∷ xs) gives each = filter_step P Q q x (filter q xs) (q x) refl gives each.0 (Each-passing P Q q xs gives each.1)

any_step : {X : Type 0} (q r : X → Bool) (x : X) (xs ys : List X) (t : Bool) → q x ≡ t → (q x ≡ true → r x ≡ true) → (list_any q xs ≡ true → list_any r ys ≡ true) → (t || list_any q xs) ≡ true → list_any r (cond t (x ∷ ys) ys) ≡ true
any_step q r x xs ys true is both rest any = or_left (r x) (list_any r ys) (both is)
any_step q r x xs ys false is both rest any = rest any

any_passing : {X : Type 0} (q r : X → Bool) (xs : List X) → Each (λ x. q x ≡ true → r x ≡ true) xs → list_any q xs ≡ true → list_any r (filter q xs) ≡ true
any_passing q r [] each any = absurd (false≢true any)
any_passing q r (x ∷ xs) each any = any_step q r x xs (filter q xs) (q x) refl each.0 (any_passing q r xs each.1) any

none_each : {X : Type 0} (p : X → Bool) (xs : List X) → list_any p xs ≡ false → Each (λ x. p x ≡ false) xs
none_each p [] none = tt
none_each p (x ∷ xs) none = let parts = or_parts (p x) (list_any p xs) none in (parts.0, none_each p xs parts.1)

-- once a piece has ended, nothing of its process is out
pub others-out : (m : Moment) (n : ℕ) (q : Piece) → Tidy m → runs m n ≡ true → piece_of m.kept n ≡ Some q → Each (λ p. eqb p.process q.process ≡ false) (without n m.out)
others-out m n q tidy runs' found = none_each (is_of q.process) (without n m.out) (none-count (is_of q.process) (without n m.out) none)
  where
    its : Each (λ (p : Piece). is_number n p ≡ true → is_of q.process p ≡ true) m.out
    its = Each-weaker (IsPieceOfItsNumber m.kept) (λ p. is_number n p ≡ true → is_of q.process p ≡ true)
        (λ p linked is. eq-eqb p.process q.process (ap (λ (x : Piece). x.process) (same_Some p q (sym linked ∙ (ap (piece_of m.kept) (eqb-true p.number n is) ∙ found))))) m.out tidy.linked

    none : count (is_of q.process) (without n m.out) ≡ 0
    none =
        let split = count-split (is_of q.process) (is_number n) m.out in
        let some = count-some (is_of q.process) (filter (is_number n) m.out) (any_passing (is_number n) (is_of q.process) m.out its runs') in
        let one = tidy.one.one q.process in
        omega arith

pub flipped : (a b : ℕ) → eqb a b ≡ false → eqb b a ≡ false
flipped a b other = ne_eqb b a (λ same. eqb-false a b other (sym same))

-- what a hand asks for
pub record MayBeHanded (table : ConflictRelation) (courses : List Course) (m : Moment) (p : Piece) : Type 0 where
  pub number : p.number ≡ length (hands m.kept) + 1
  pub free : is_free table courses m p.process ≡ true
  pub task : IsNextPiece courses m p

pub hand_parts : (table : ConflictRelation) (courses : List Course) (m : Moment) (p : Piece) → may_hand table courses m p ≡ true → MayBeHanded table courses m p
hand_parts table courses m p may = by_parts (eqb p.number (length (hands m.kept) + 1)) (is_free table courses m p.process) (same_work p.work (next_of courses m p.process).work) (eqb p.step (next_of courses m p.process).step) refl refl refl refl may
  where
    by_parts : (a b c d : Bool) → eqb p.number (length (hands m.kept) + 1) ≡ a → is_free table courses m p.process ≡ b → same_work p.work (next_of courses m p.process).work ≡ c
        → eqb p.step (next_of courses m p.process).step ≡ d → (((a && b) && c) && d) ≡ true → MayBeHanded table courses m p
    by_parts a b c d ea eb ec ed all =
        let x = and_parts ((a && b) && c) d all in
        let y = and_parts (a && b) c x.0 in
        let z = and_parts a b y.0 in
        record { number = eqb-true p.number (length (hands m.kept) + 1) (ea ∙ z.0); free = eb ∙ z.1; task = and_from (same_work p.work (next_of courses m p.process).work) (eqb p.step (next_of courses m p.process).step) (ec ∙ y.1) (ed ∙ x.1) }

module _ (table : ConflictRelation) (courses : List Course) where
  abbrev AllNext : Moment → Type 0
  AllNext m = Each (IsNextPiece courses m) m.out

  -- a piece stays the next one where the progress of its process stays
  still_next : (m n : Moment) (p : Piece) → progress courses n p.process ≡ progress courses m p.process → IsNextPiece courses m p → IsNextPiece courses n p
  still_next m n p same is = ap (λ s. same_task (task_of p) (next_task s)) same ∙ is

  next-beginnings : IsKeptByBeginnings AllNext
  next-beginnings cause m k is each = Each-passing (IsNextPiece courses m) (IsNextPiece courses (begins_now cause m k)) (λ p. not (eqb p.process k)) m.out
      (λ p next other. still_next m (begins_now cause m k) p (same_progress courses m (begins_now cause m k) p.process (same_history m.events p.process) refl
      (begins_now-has cause m k p.process ∙ same_begun p k (not-true (eqb p.process k) other))) next) each
    where
      same_begun : (p : Piece) (j : ℕ) → eqb p.process j ≡ false → (has_begun m p.process || eqb j p.process) ≡ has_begun m p.process
      same_begun p j other = ap (λ t. has_begun m p.process || t) (flipped p.process j other) ∙ or-false (has_begun m p.process)

  leaves_all : (m : Moment) (k : Kept) (ps : List Piece) → Tidy m → may_be_kept table courses m k ≡ true → Each (λ p. IsOfOthers m.kept k p.process) ps → Each (IsNextPiece courses m) ps
      → Each (IsNextPiece courses (entered courses m k)) ps
  leaves_all m k ps tidy may others each = Each-weaker (λ p. IsOfOthers m.kept k p.process × IsNextPiece courses m p) (IsNextPiece courses (entered courses m k))
      (λ p both. still_next m (entered courses m k) p (entered-leaves table courses m k p.process tidy.counted may both.0) both.1) ps (Each-both (λ p. IsOfOthers m.kept k p.process) (IsNextPiece courses m) ps others each)

  nobodys : (m : Moment) (k : Kept) (ps : List Piece) → piece_ended m.kept k ≡ None → Each (λ p. IsOfOthers m.kept k p.process) ps
  nobodys m k [] none = tt
  nobodys m k (p ∷ ps) none = ((λ q is. absurd (none-some q (sym none ∙ is))), nobodys m k ps none)

  -- while an event ends piece n, no other piece of its process is out
  not_its : (m : Moment) (k : Kept) (n : ℕ) → Tidy m → runs m n ≡ true → piece_ended m.kept k ≡ piece_of m.kept n → (o : Option Piece) → piece_of m.kept n ≡ o
      → Each (λ p. IsOfOthers m.kept k p.process) (without n m.out)
  not_its m k n tidy runs' ends None found = nobodys m k (without n m.out) (ends ∙ found)
  not_its m k n tidy runs' ends (Some q) found = Each-weaker (λ p. eqb p.process q.process ≡ false) (λ p. IsOfOthers m.kept k p.process)
      (λ p other x is. ap (λ (y : Piece). eqb y.process p.process) (same_Some x q (sym is ∙ (ends ∙ found))) ∙ flipped p.process q.process other) (without n m.out) (others-out m n q tidy runs' found)

  out_of_effect : (m : Moment) (o : Option Piece) (ps : List Piece) → m.out ≡ ps → (with_piece (λ p. happened m (event_of courses p)) m o).out ≡ ps
  out_of_effect m None ps is = is
  out_of_effect m (Some p) ps is = is

  by_event : (m : Moment) (k : Kept) → Tidy m → AllNext m → may_be_kept table courses m k ≡ true → AllNext (entered courses m k)
  by_event m (Start i) tidy each may = leaves_all m (Start i) m.out tidy may (nobodys m (Start i) m.out refl) each
  by_event m (Hand piece process step work) tidy each may =
      let p : Piece = record { number = piece; process = process; step = step; work = work } in
      let k : Kept = Hand piece process step work in
      let next : IsNextPiece courses m p = (hand_parts table courses m p may).task in
      leaves_all m k (m.out ++ p ∷ []) tidy may (nobodys m k (m.out ++ p ∷ []) refl) (Each-append (IsNextPiece courses m) m.out (p ∷ []) each (next, tt))
  by_event m (Effect n) tidy each may =
      subst (Each (IsNextPiece courses (entered courses m (Effect n)))) (sym (out_of_effect (noted m (Effect n)) (piece_of (noted m (Effect n)).kept n) (without n m.out) refl))
      (leaves_all m (Effect n) (without n m.out) tidy may (not_its m (Effect n) n tidy may refl (piece_of m.kept n) refl) (Each-filter (IsNextPiece courses m) (λ p. not (eqb p.number n)) m.out each))
  by_event m (Refuse n) tidy each may =
      leaves_all m (Refuse n) (without n m.out) tidy may (not_its m (Refuse n) n tidy (and_parts _ _ may).0 refl (piece_of m.kept n) refl) (Each-filter (IsNextPiece courses m) (λ p. not (eqb p.number n)) m.out each)
  by_event m (Abort i) tidy each may = leaves_all m (Abort i) m.out tidy may (nobodys m (Abort i) m.out refl) each
  by_event m (Victim i) tidy each may = leaves_all m (Victim i) m.out tidy may (nobodys m (Victim i) m.out refl) each
  by_event m Restart tidy each may = leaves_all m Restart m.out tidy may (nobodys m Restart m.out refl) each

  -- it is tidy, and each piece that is out is the next one of its process
  pub record InOrder (m : Moment) : Type 0 where
    pub tidy : Tidy m
    pub next : Each (IsNextPiece courses m) m.out

  pub advance-in_order : (m : Moment) (k : Kept) → InOrder m → may_be_kept table courses m k ≡ true → InOrder (advance table courses m k)
  advance-in_order m k is may = record {
    tidy = advance-tidy table courses m k is.tidy may;
    next = advance-keeps AllNext next-beginnings table courses m k (by_event m k is.tidy is.next may);
  }

-- so it is all along a run
pub run-in_order : (table : ConflictRelation) (s : Machine) → IsTrue (is_run table s) → InOrder table s.courses (now table s)
run-in_order table s run = run-keeps table s (InOrder table s.courses) (advance-in_order table s.courses) run (record { tidy = opening-tidy s.opening; next = tt })

pub running_is_next : RunningIsNext
running_is_next table s i p run found =
    let m = now table s in
    let at = find-passes (λ (q : Piece). eqb q.process i) m.out p found in
    ap (λ j. same_task (task_of p) (next_of s.courses m j)) (sym (eqb-true p.process i at)) ∙ Each-find (IsNextPiece s.courses m) (λ q. eqb q.process i) m.out p (run-in_order table s run).next found
