-- At most one piece of each process is dropped, and each piece that was handed out is out, dropped or finished.
use Rattle.std.proofs.Common.{◌≡◌, ◌⊎◌, inl, inr, ℕ, ◌+◌, ◌≤◌, Bool, true, false, cond, eqb, ◌&&◌, List, [], ◌∷◌, ◌++◌, length, filter, find, Option, Some, None, is_some, sym, refl, ap, subst, ◌∙◌, arith}
use Rattle.std.specs.List.{list_any}
use Rattle.std.proofs.lemmas.Bool.{eqb-true, eq-eqb, ne_eqb, cases_eq, or_parts, false≢true}
use Rattle.process_tree.specs.Order.{Each}
use Rattle.process_tree.proofs.Every.{Each-weaker}
use Rattle.schedule_model.specs.Course.{Course}
use Rattle.schedule_model.specs.Conflict.{ConflictRelation}
use Rattle.machine_model.specs.declared.kept.Kept.{Kept}
use Rattle.machine_model.specs.declared.kept.Kept.TheVariants.{Start, Hand, Effect, Refuse, Abort, Victim, Restart}
use Rattle.machine_model.specs.Moment.{Moment, Piece, Lost, begins_now, happened, has_begun, losses, noted}
use Rattle.machine_model.specs.Pieces.{dropped_at, event_of_lost, hands, is_finished, piece_of, runs}
use Rattle.machine_model.specs.Advance.{advance, event_of, with_piece}
use Rattle.machine_model.specs.Runs.{may_be_kept, now}
use Rattle.machine_model.specs.DropLaws.{HandsAreParted, OneIsDropped}
use Rattle.machine_model.proofs.Begun.{begins_now-has}
use Rattle.machine_model.proofs.Counting.{count, count-append, count-map, count-none, count-some, count-split, found-any}
use Rattle.machine_model.proofs.Dropped.{each_any}
use Rattle.machine_model.proofs.OneOut.{OneOut, beginnings-one, count-filter, entered-one}
use Rattle.machine_model.proofs.PieceCounts.{Counted, ends_piece, is_lost_number, is_number, run-counted}
use Rattle.machine_model.proofs.RunInduction.{IsKeptByBeginnings, advance-keeps, entered, run-keeps}
use Rattle.machine_model.proofs.Snoc.{now-kept}

-- a piece of process i
abbrev is_of : ℕ → Piece → Bool
is_of i p = eqb p.process i

-- a lost piece of process i
abbrev pub lost_of : ℕ → Lost → Bool
lost_of i l = eqb l.piece.process i

-- at most one piece of a process is lost, and none before it has begun to complete
pub record OneLost (m : Moment) : Type 0 where
  pub out : OneOut m
  pub one : (i : ℕ) → count (lost_of i) m.lost ≤ 1
  pub none : (i : ℕ) → has_begun m i ≡ false → count (lost_of i) m.lost ≡ 0

nobody_step : (i k : ℕ) (p : Piece) (ps : List Piece) (t : Bool) → (i ≡ k → ⊥) → eqb p.process k ≡ t → count (is_of i) ps ≡ 0 → count (is_of i) (cond t (p ∷ ps) ps) ≡ 0
nobody_step i k p ps false other is none = none
nobody_step i k p ps true other is none =
    let z : cond {A = ℕ} (eqb p.process i) 1 0 ≡ 0 = ap (λ t. cond t 1 0) (ne_eqb p.process i (λ same. other (sym same ∙ eqb-true p.process k is))) in
    let h = none in omega arith

-- among the pieces of one process none is of another
nobody : (i k : ℕ) → (i ≡ k → ⊥) → (ps : List Piece) → count (is_of i) (filter (λ p. eqb p.process k) ps) ≡ 0
nobody i k other [] = refl
nobody i k other (p ∷ ps) = nobody_step i k p (filter (λ q. eqb q.process k) ps) (eqb p.process k) other refl (nobody i k other ps)

-- what process k loses is of process i as often as its pieces are
losses-count : (i k event : ℕ) (ps : List Piece) → count (lost_of i) (losses k event ps) ≡ count (is_of i) (filter (λ p. eqb p.process k) ps)
losses-count i k event ps = count-map (lost_of i) (λ (p : Piece). record { piece = p; event = event }) (filter (λ p. eqb p.process k) ps)

beginnings-lost : IsKeptByBeginnings OneLost
beginnings-lost cause m k never c = record { out = beginnings-one cause m k never c.out; one = one; none = none }
  where
    one : (i : ℕ) → count (lost_of i) (m.lost ++ losses k (length m.kept) m.out) ≤ 1
    one i = by_process (cases_eq i k)
      where
        by_process : (i ≡ k) ⊎ (i ≡ k → ⊥) → count (lost_of i) (m.lost ++ losses k (length m.kept) m.out) ≤ 1
        by_process (inl same) =
            let a = count-append (lost_of i) m.lost (losses k (length m.kept) m.out) in
            let b = losses-count i k (length m.kept) m.out in
            let s = count-split (is_of i) (λ p. eqb p.process k) m.out in
            let o = c.out.one i in
            let n = c.none i (ap (has_begun m) same ∙ never) in
            omega arith
        by_process (inr other) =
            let a = count-append (lost_of i) m.lost (losses k (length m.kept) m.out) in
            let b = losses-count i k (length m.kept) m.out in
            let z = nobody i k other m.out in
            let o = c.one i in
            omega arith

    none : (i : ℕ) → has_begun (begins_now cause m k) i ≡ false → count (lost_of i) (m.lost ++ losses k (length m.kept) m.out) ≡ 0
    none i fresh =
        let parts = or_parts (has_begun m i) (eqb k i) (sym (begins_now-has cause m k i) ∙ fresh) in
        let a = count-append (lost_of i) m.lost (losses k (length m.kept) m.out) in
        let b = losses-count i k (length m.kept) m.out in
        let z = nobody i k (λ same. false≢true (sym parts.1 ∙ eq-eqb k i (sym same))) m.out in
        let n = c.none i parts.0 in
        omega arith

module _ (table : ConflictRelation) (courses : List Course) where
  -- an event that is entered loses nothing
  effect-lost : (m : Moment) (o : Option Piece) → OneOut (with_piece (λ p. happened m (event_of courses p)) m o) → ((i : ℕ) → count (lost_of i) m.lost ≤ 1) → ((i : ℕ) → has_begun m i ≡ false → count (lost_of i) m.lost ≡ 0)
      → OneLost (with_piece (λ p. happened m (event_of courses p)) m o)
  effect-lost m None out one none = record { out = out; one = one; none = none }
  effect-lost m (Some p) out one none = record { out = out; one = one; none = none }

  entered-lost : (m : Moment) (k : Kept) → OneLost m → OneOut (entered courses m k) → OneLost (entered courses m k)
  entered-lost m (Start i) c out = record { out = out; one = c.one; none = c.none }
  entered-lost m (Hand piece process step work) c out = record { out = out; one = c.one; none = c.none }
  entered-lost m (Effect n) c out = effect-lost (noted m (Effect n)) (piece_of (noted m (Effect n)).kept n) out c.one c.none
  entered-lost m (Refuse n) c out = record { out = out; one = c.one; none = c.none }
  entered-lost m (Abort i) c out = record { out = out; one = c.one; none = c.none }
  entered-lost m (Victim i) c out = record { out = out; one = c.one; none = c.none }
  entered-lost m Restart c out = record { out = out; one = c.one; none = c.none }

  pub advance-lost : (m : Moment) (k : Kept) → OneLost m → may_be_kept table courses m k ≡ true → OneLost (advance table courses m k)
  advance-lost m k c may = advance-keeps OneLost beginnings-lost table courses m k (entered-lost m k c (entered-one table courses m k c.out may))

pub one_is_dropped : OneIsDropped
one_is_dropped table s i run =
    let all = run-keeps table s OneLost (advance-lost table s.courses) run (record { out = record { one = λ i. omega arith }; one = λ i. omega arith; none = λ i fresh. refl }) in
    let c = count-filter (lost_of i) (now table s).lost in
    let one = all.one i in
    omega arith

-- exactly one of three
abbrev IsOneOf : Bool → Bool → Bool → Type 0
IsOneOf a b c = cond {A = ℕ} a 1 0 + cond {A = ℕ} b 1 0 + cond {A = ℕ} c 1 0 ≡ 1

part_step : (t a b c : Bool) → IsOneOf a b c → cond {A = ℕ} t 1 0 ≡ cond {A = ℕ} (t && a) 1 0 + cond {A = ℕ} (t && b) 1 0 + cond {A = ℕ} (t && c) 1 0
part_step true a b c one = sym one
part_step false a b c one = refl

-- so those that pass are counted in three parts
parted-count : {X : Type 0} (q a b c : X → Bool) (xs : List X) → Each (λ x. IsOneOf (a x) (b x) (c x)) xs → count q xs ≡ count (λ x. q x && a x) xs + count (λ x. q x && b x) xs + count (λ x. q x && c x) xs
parted-count q a b c [] each = refl
parted-count q a b c (x ∷ xs) each = let s = part_step (q x) (a x) (b x) (c x) each.0 in let h = parted-count q a b c xs each.1 in omega arith

-- where at most one passes, whether one does is the count
any-count : {X : Type 0} (p : X → Bool) (xs : List X) → count p xs ≤ 1 → cond {A = ℕ} (list_any p xs) 1 0 ≡ count p xs
any-count p xs few = by_any (list_any p xs) refl
  where
    by_any : (t : Bool) → list_any p xs ≡ t → cond {A = ℕ} t 1 0 ≡ count p xs
    by_any true is = let some = count-some p xs is in omega arith
    by_any false is = sym (count-none p xs is)

dropped-any : (m : Moment) (n : ℕ) → is_some (dropped_at m n) ≡ list_any (is_lost_number n) m.lost
dropped-any m n = by_found (find (is_lost_number n) m.lost) ∙ found-any (is_lost_number n) m.lost
  where
    by_found : (o : Option Lost) → is_some (event_of_lost o) ≡ is_some o
    by_found None = refl
    by_found (Some l) = refl

-- a piece that was handed out is one of out, dropped and finished
one_state : (m : Moment) → Counted m → (p : Piece) → list_any (λ q. eqb q.number p.number) (hands m.kept) ≡ true → IsOneOf (runs m p.number) (is_some (dropped_at m p.number)) (is_finished m.kept p.number)
one_state m c p handed =
    let n = p.number in
    let some = count-some (is_number n) (hands m.kept) handed in
    let once = c.once n in
    let parted = c.parted n in
    let a = any-count (is_number n) m.out (omega arith) in
    let b = any-count (is_lost_number n) m.lost (omega arith) in
    let d = any-count (ends_piece n) m.kept (omega arith) in
    let e : cond {A = ℕ} (is_some (dropped_at m n)) 1 0 ≡ cond {A = ℕ} (list_any (is_lost_number n) m.lost) 1 0 = ap (λ t. cond t 1 0) (dropped-any m n) in
    omega arith

parted-length : {X : Type 0} (q a b c : X → Bool) (xs : List X) → Each (λ x. IsOneOf (a x) (b x) (c x)) xs
    → length (filter q xs) ≡ length (filter (λ x. q x && a x) xs) + length (filter (λ x. q x && b x) xs) + length (filter (λ x. q x && c x) xs)
parted-length q a b c xs each =
    let all = parted-count q a b c xs each in
    let w = count-filter q xs in
    let x = count-filter (λ x. q x && a x) xs in
    let y = count-filter (λ x. q x && b x) xs in
    let z = count-filter (λ x. q x && c x) xs in
    omega arith

pub hands_are_parted : HandsAreParted
hands_are_parted table s asked run =
    let m = now table s in
    let each = Each-weaker (λ (p : Piece). list_any (λ q. eqb q.number p.number) (hands m.kept) ≡ true) (λ p. IsOneOf (runs m p.number) (is_some (dropped_at m p.number)) (is_finished m.kept p.number))
    (one_state m (run-counted table s run)) (hands m.kept) (each_any (λ (p q : Piece). eqb q.number p.number) (λ p. eq-eqb p.number p.number refl) (hands m.kept)) in
    subst (λ ks. length (filter asked (hands ks)) ≡ length (filter (λ p. asked p && runs m p.number) (hands ks)) + length (filter (λ p. asked p && is_some (dropped_at m p.number)) (hands ks)) + length (filter (λ p. asked p && is_finished ks p.number) (hands ks)))
    (now-kept table s) (parted-length asked (λ p. runs m p.number) (λ p. is_some (dropped_at m p.number)) (λ p. is_finished m.kept p.number) (hands m.kept) each)
