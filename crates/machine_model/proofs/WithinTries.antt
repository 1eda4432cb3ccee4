-- No piece is refused more often than it may be tried: what is out may be tried once more.
use Rattle.std.proofs.Common.{◌≡◌, ℕ, ◌+◌, ◌≤◌, Bool, true, false, not, eqb, ◌&&◌, List, [], ◌∷◌, ◌++◌, length, filter, find, Option, Some, None, is_some, sym, refl, ap, ◌∙◌, arith}
use Rattle.std.proofs.lemmas.Option.{none-some, same_Some}
use Rattle.std.proofs.lemmas.Bool.{and_parts, and_left, eqb-true, leb-false, false≢true, not-true}
use Rattle.process_tree.specs.Order.{Each}
use Rattle.process_tree.proofs.Every.{Each-append, Each-both, Each-weaker}
use Rattle.schedule_model.specs.Course.{Course}
use Rattle.schedule_model.specs.Conflict.{ConflictRelation}
use Rattle.machine_model.specs.declared.kept.Kept.{Kept}
use Rattle.machine_model.specs.declared.kept.Kept.TheVariants.{Start, Hand, Effect, Refuse, Abort, Victim, Restart}
use Rattle.machine_model.specs.declared.kept.Work.{Work}
use Rattle.machine_model.specs.Progress.{same_work}
use Rattle.machine_model.specs.ProcessState.{are_used_up}
use Rattle.machine_model.specs.Moment.{Moment, Piece, happened, noted, without}
use Rattle.machine_model.specs.Pieces.{is_try_of, piece_of, refusals, refused_pieces, runs}
use Rattle.machine_model.specs.State.{is_exhausted, next_of, tries_by}
use Rattle.machine_model.specs.Advance.{advance, event_of, with_piece}
use Rattle.machine_model.specs.Runs.{is_no_end, may_be_kept}
use Rattle.machine_model.specs.DropLaws.{RefusalsAreWithinTries}
use Rattle.machine_model.proofs.CallsKept.{find-passes}
use Rattle.machine_model.proofs.Counting.{found-any}
use Rattle.machine_model.proofs.OneCounter.{piece_refused_by, refused_after, try_parts}
use Rattle.machine_model.proofs.PieceCounts.{is_number}
use Rattle.machine_model.proofs.RefusedPieces.{refused-hand, refused-others, refused-plain, unhanded-unrefused}
use Rattle.machine_model.proofs.RunInduction.{IsKeptByBeginnings, advance-keeps, entered, run-keeps}
use Rattle.machine_model.proofs.RunningNext.{flipped, hand_parts, others-out}
use Rattle.machine_model.proofs.Snoc.{advances, now-kept}
use Rattle.machine_model.proofs.StateSteps.{refused_once_more, same_is}
use Rattle.machine_model.proofs.TidyMoments.{Each-filter, Each-find, Tidy, advance-tidy, opening-tidy}

module _ (table : ConflictRelation) (courses : List Course) where
  -- this piece may be tried once more
  abbrev pub IsLeft : List Kept → Piece → Type 0
  IsLeft ks p = are_used_up (tries_by courses p.process p.step p.work) (refusals ks p.process p.step p.work) ≡ false

  abbrev pub AllLeft : Moment → Type 0
  AllLeft m = Each (IsLeft m.kept) m.out

  beginnings-left : IsKeptByBeginnings AllLeft
  beginnings-left cause m i never each = Each-filter (IsLeft m.kept) (λ p. not (eqb p.process i)) m.out each

  same_left : (ks js : List Kept) (ps : List Piece) → refused_pieces js ≡ refused_pieces ks → Each (IsLeft ks) ps → Each (IsLeft js) ps
  same_left ks js ps same each = Each-weaker (IsLeft ks) (IsLeft js)
      (λ p left. ap (λ (rs : List Piece). are_used_up (tries_by courses p.process p.step p.work) (length (filter (is_try_of p.process p.step p.work) rs))) same ∙ left) ps each

  effect_left : (m : Moment) (o : Option Piece) → AllLeft m → AllLeft (with_piece (λ p. happened m (event_of courses p)) m o)
  effect_left m None each = each
  effect_left m (Some p) each = each

  -- what is handed out isn't exhausted
  handed_left : (m : Moment) (p : Piece) → may_be_kept table courses m (Hand p.number p.process p.step p.work) ≡ true → IsLeft m.kept p
  handed_left m p may =
      let parts = hand_parts table courses m p may in
      let t = next_of courses m p.process in
      let its = same_is (record { work = p.work; step = p.step }) t parts.task in
      let free = and_parts _ _ (and_parts _ _ parts.free).0 in
      let left : is_exhausted courses m p.process ≡ false = not-true (is_exhausted courses m p.process) free.1 in
      ap (λ w. are_used_up (tries_by courses p.process p.step w) (refusals m.kept p.process p.step w)) its.0
      ∙ (ap (λ b. are_used_up (tries_by courses p.process b t.work) (refusals m.kept p.process b t.work)) its.1 ∙ left)

  refuse_left : (m : Moment) (n : ℕ) → Tidy m → runs m n ≡ true → is_no_end (piece_of m.kept n) ≡ true → AllLeft m → (o : Option Piece) → piece_of m.kept n ≡ o → AllLeft (noted m (Refuse n))
  refuse_left m n tidy out no_end each None found = absurd (false≢true (sym (ap is_no_end found) ∙ no_end))
  refuse_left m n tidy out no_end each (Some q) found =
      Each-weaker (λ p. IsLeft m.kept p × (eqb p.process q.process ≡ false)) (IsLeft (m.kept ++ Refuse n ∷ []))
      (λ p is. ap (λ (rs : List Piece). are_used_up (tries_by courses p.process p.step p.work) (length rs))
      (refused-others m n p.process q (is_try_of p.process p.step p.work) tidy.counted found (flipped p.process q.process is.1)
      (λ x away. and_left (eqb x.process p.process && eqb x.step p.step) (same_work x.work p.work) (and_left (eqb x.process p.process) (eqb x.step p.step) away))) ∙ is.0)
      (without n m.out)
      (Each-both (IsLeft m.kept) (λ p. eqb p.process q.process ≡ false) (without n m.out) (Each-filter (IsLeft m.kept) (λ p. not (eqb p.number n)) m.out each) (others-out m n q tidy out found))

  entered-left : (m : Moment) (k : Kept) → Tidy m → AllLeft m → may_be_kept table courses m k ≡ true → AllLeft (entered courses m k)
  entered-left m (Start i) tidy each may = same_left m.kept (m.kept ++ Start i ∷ []) m.out (refused-plain m.kept (Start i) refl (λ x. refl)) each
  entered-left m (Hand a b c d) tidy each may =
      let p : Piece = record { number = a; process = b; step = c; work = d } in
      let next = (hand_parts table courses m p may).number in
      same_left m.kept (m.kept ++ Hand a b c d ∷ []) (m.out ++ p ∷ []) (refused-hand m.kept p (unhanded-unrefused m a tidy.counted (tidy.counted.fresh a (omega arith))))
      (Each-append (IsLeft m.kept) m.out (p ∷ []) each (handed_left m p may, tt))
  entered-left m (Effect n) tidy each may =
      effect_left (noted m (Effect n)) (piece_of (noted m (Effect n)).kept n)
      (same_left m.kept (m.kept ++ Effect n ∷ []) (without n m.out) (refused-plain m.kept (Effect n) refl (λ x. refl)) (Each-filter (IsLeft m.kept) (λ p. not (eqb p.number n)) m.out each))
  entered-left m (Refuse n) tidy each may = let parts = and_parts (runs m n) (is_no_end (piece_of m.kept n)) may in refuse_left m n tidy parts.0 parts.1 each (piece_of m.kept n) refl
  entered-left m (Abort i) tidy each may = same_left m.kept (m.kept ++ Abort i ∷ []) m.out (refused-plain m.kept (Abort i) refl (λ x. refl)) each
  entered-left m (Victim i) tidy each may = same_left m.kept (m.kept ++ Victim i ∷ []) m.out (refused-plain m.kept (Victim i) refl (λ x. refl)) each
  entered-left m Restart tidy each may = same_left m.kept (m.kept ++ Restart ∷ []) m.out (refused-plain m.kept Restart refl (λ x. refl)) each

  -- what is out may be tried once more, and nothing was refused too often
  pub record AllWithin (m : Moment) : Type 0 where
    pub tidy : Tidy m
    pub left : AllLeft m
    pub within : (i b : ℕ) (w : Work) (t : ℕ) → tries_by courses i b w ≡ Some t → refusals m.kept i b w ≤ t

  pub one_more : (o : Option ℕ) (t n : ℕ) → o ≡ Some t → are_used_up o n ≡ false → n + 1 ≤ t
  one_more o t n is left = let more = leb-false t n (ap (λ x. are_used_up x n) (sym is) ∙ left) in omega arith

  module _ (m : Moment) (k : Kept) (all : AllWithin m) (may : may_be_kept table courses m k ≡ true) (i b : ℕ) (w : Work) (t : ℕ) (tries : tries_by courses i b w ≡ Some t) where
    unrefused : ((p : Piece) → piece_refused_by m.kept k ≡ Some p → is_try_of i b w p ≡ false) → refusals (advance table courses m k).kept i b w ≤ t
    unrefused none = let same = ap length (refused_after table courses m k (is_try_of i b w) all.tidy.counted may none) in let old = all.within i b w t tries in omega arith

  -- the piece that is refused
  refused_within : (m : Moment) (n : ℕ) (all : AllWithin m) → may_be_kept table courses m (Refuse n) ≡ true → (i b : ℕ) (w : Work) (t : ℕ) → tries_by courses i b w ≡ Some t
      → (p : Piece) → find (is_number n) m.out ≡ Some p → (u : Bool) → is_try_of i b w p ≡ u → refusals (advance table courses m (Refuse n)).kept i b w ≤ t
  refused_within m n all may i b w t tries p out false is =
      unrefused m (Refuse n) all may i b w t tries (λ q at. ap (is_try_of i b w) (same_Some q p (sym at ∙ found)) ∙ is)
    where
      found : piece_of m.kept n ≡ Some p
      found = ap (piece_of m.kept) (sym (eqb-true p.number n (find-passes (is_number n) m.out p out))) ∙ Each-find (λ (q : Piece). piece_of m.kept q.number ≡ Some q) (is_number n) m.out p all.tidy.linked out
  refused_within m n all may i b w t tries p out true is =
      let parts = try_parts i b w p is in
      let found : piece_of m.kept n ≡ Some p = ap (piece_of m.kept) (sym (eqb-true p.number n (find-passes (is_number n) m.out p out))) ∙ Each-find (λ (q : Piece). piece_of m.kept q.number ≡ Some q) (is_number n) m.out p all.tidy.linked out in
      let left = Each-find (IsLeft m.kept) (is_number n) m.out p all.left out in
      let its : are_used_up (tries_by courses i b w) (refusals m.kept i b w) ≡ false =
      ap (λ x. are_used_up (tries_by courses x b w) (refusals m.kept x b w)) (sym parts.0)
      ∙ (ap (λ x. are_used_up (tries_by courses p.process x w) (refusals m.kept p.process x w)) (sym parts.1)
      ∙ (ap (λ x. are_used_up (tries_by courses p.process p.step x) (refusals m.kept p.process p.step x)) (sym parts.2) ∙ left)) in
      let more = one_more (tries_by courses i b w) t (refusals m.kept i b w) tries its in
      let counted = refused_once_more m n p (is_try_of i b w) all.tidy.counted (and_parts (runs m n) (is_no_end (piece_of m.kept n)) may).0 found is in
      let kept = ap (λ ks. refusals ks i b w) (advances table courses m (Refuse n)).kept in
      omega arith

  refused_found : (m : Moment) (n : ℕ) (all : AllWithin m) → may_be_kept table courses m (Refuse n) ≡ true → (i b : ℕ) (w : Work) (t : ℕ) → tries_by courses i b w ≡ Some t
      → (o : Option Piece) → find (is_number n) m.out ≡ o → refusals (advance table courses m (Refuse n)).kept i b w ≤ t
  refused_found m n all may i b w t tries None out =
      absurd (false≢true (sym (ap is_some out) ∙ (found-any (is_number n) m.out ∙ (and_parts (runs m n) (is_no_end (piece_of m.kept n)) may).0)))
  refused_found m n all may i b w t tries (Some p) out = refused_within m n all may i b w t tries p out (is_try_of i b w p) refl

  within_after : (m : Moment) (k : Kept) (all : AllWithin m) → may_be_kept table courses m k ≡ true → (i b : ℕ) (w : Work) (t : ℕ) → tries_by courses i b w ≡ Some t → refusals (advance table courses m k).kept i b w ≤ t
  within_after m (Start j) all may i b w t tries = unrefused m (Start j) all may i b w t tries (λ p is. absurd (none-some p is))
  within_after m (Hand a c d e) all may i b w t tries = unrefused m (Hand a c d e) all may i b w t tries (λ p is. absurd (none-some p is))
  within_after m (Effect n) all may i b w t tries = unrefused m (Effect n) all may i b w t tries (λ p is. absurd (none-some p is))
  within_after m (Refuse n) all may i b w t tries = refused_found m n all may i b w t tries (find (is_number n) m.out) refl
  within_after m (Abort j) all may i b w t tries = unrefused m (Abort j) all may i b w t tries (λ p is. absurd (none-some p is))
  within_after m (Victim j) all may i b w t tries = unrefused m (Victim j) all may i b w t tries (λ p is. absurd (none-some p is))
  within_after m Restart all may i b w t tries = unrefused m Restart all may i b w t tries (λ p is. absurd (none-some p is))

  pub advance-within : (m : Moment) (k : Kept) → AllWithin m → may_be_kept table courses m k ≡ true → AllWithin (advance table courses m k)
  advance-within m k all may = record {
    tidy = advance-tidy table courses m k all.tidy may;
    left = advance-keeps AllLeft beginnings-left table courses m k (entered-left m k all.tidy all.left may);
    within = within_after m k all may;
  }

pub refusals_are_within_tries : RefusalsAreWithinTries
refusals_are_within_tries table s i b w t run tries =
    let all = run-keeps table s (AllWithin table s.courses) (advance-within table s.courses) run (record { tidy = opening-tidy s.opening; left = tt; within = λ i b w t is. omega arith }) in
    let few = all.within i b w t tries in
    let kept = ap (λ ks. refusals ks i b w) (now-kept table s) in
    omega arith
