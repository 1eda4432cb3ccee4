-- A serial list is neither barred nor cyclic: it has no undo, and whoever has to come first begins first.
use Rattle.std.proofs.Common.{◌≡◌, ◌⊎◌, inl, inr, ⊎_elim, ℕ, suc, ◌+◌, ◌<◌, Bool, true, false, not, cond, eqb, ◌||◌, ◌&&◌, List, [], ◌∷◌, Option, Some, None, sym, refl, ap, ◌∙◌, arith}
use Rattle.std.specs.List.{list_any}
use Rattle.std.specs.Bool.{IsTrue}
use Rattle.std.specs.Prelude.{is_none}
use Rattle.std.proofs.lemmas.Bool.{and_parts, and_from, or_left, or_right, or_parts, or_cases, eqb-true, eq-eqb, false≢true}
use Rattle.process_tree.specs.declared.entry.Entry.{Entry}
use Rattle.schedule_model.specs.Conflict.{ConflictRelation, conflict}
use Rattle.schedule_model.specs.Graph.{Walk, one_arrow, and_then}
use Rattle.schedule_model.specs.Reduction.{is_out_of_place, not_serial_from, is_serial}
use Rattle.schedule_model.proofs.Conflicts.{conflict-differ}
use Rattle.schedule_model.proofs.Members.{Among, among-any, any-among, not_any}
use Rattle.dependence_model.specs.Dependence.{entries_of, left_of}
use Rattle.dependence_model.specs.Laws.{AreOnce, SerialIsNeither}
use Rattle.dependence_model.proofs.Once.{pair-undo}
use Rattle.dependence_model.proofs.Takings.{takes-pair, takes-undo}
use Rattle.dependence_model.proofs.Unique.{NoneGoes, takes_none, leaves-unique}
use Rattle.dependence_model.proofs.Rounds.{walk-from_round, processes_in, clashes_with, precedes, is_barred_in, is_cyclic_in, barred-entries, cyclic-entries}
use Rattle.dependence_model.proofs.Verdicts.{leaves-left}

-- these go on serially behind those before, of which the last stands first
abbrev GoesOn : ℕ → List Entry → List Entry → Type 0
GoesOn n before es = not_serial_from n before es ≡ None

-- one entry, and then the rest
goes-on : (n : ℕ) (before : List Entry) (e : Entry) (es : List Entry) → GoesOn n before (e ∷ es) → (is_out_of_place before e ≡ false) × GoesOn (n + 1) (e ∷ before) es
goes-on n before e es is = by_place (is_out_of_place before e) refl is
  where
    by_place : (t : Bool) → is_out_of_place before e ≡ t → cond t (Some n) (not_serial_from (n + 1) (e ∷ before) es) ≡ None
        → (is_out_of_place before e ≡ false) × GoesOn (n + 1) (e ∷ before) es
    by_place true out is = absurd (cc)
    by_place false in' is = (in', is)

place-undo : (before : List Entry) (e : Entry) → is_out_of_place before e ≡ false → e.undo ≡ false
place-undo [] e in' = in'
place-undo (x ∷ xs) e in' = (or_parts e.undo (not (eqb x.process e.process) && list_any (λ y. eqb y.process e.process) xs) in').0

-- no entry is an undo
steps-only : (n : ℕ) (before es : List Entry) → GoesOn n before es → (e : Entry) → Among e es → e.undo ≡ false
steps-only n before [] serial e is = absurd is
steps-only n before (x ∷ es) serial e (inl here) = ap (λ (y : Entry). y.undo) (sym here) ∙ place-undo before x (goes-on n before x es serial).0
steps-only n before (x ∷ es) serial e (inr is) = steps-only (n + 1) (x ∷ before) es (goes-on n before x es serial).1 e is

-- an entry of process j is among these
abbrev has_process : ℕ → List Entry → Bool
has_process j es = list_any (λ e. eqb e.process j) es

-- a process doesn't come again once another has followed it
gone : (n j : ℕ) (x : Entry) (xs es : List Entry) → GoesOn n (x ∷ xs) es → eqb x.process j ≡ false → has_process j xs ≡ true → has_process j es ≡ false
gone n j x xs [] serial other has = refl
gone n j x xs (e ∷ es) serial other has = by_process (eqb e.process j) refl (λ others. gone (n + 1) j e (x ∷ xs) es (goes-on n (x ∷ xs) e es serial).1 others (or_right (eqb x.process j) (has_process j xs) has))
  where
    by_process : (t : Bool) → eqb e.process j ≡ t → (eqb e.process j ≡ false → has_process j es ≡ false) → (eqb e.process j || has_process j es) ≡ false
    by_process true own later =
        let same = eqb-true e.process j own in
        let out : (not (eqb x.process e.process) && has_process e.process xs) ≡ true =
        and_from (not (eqb x.process e.process)) (has_process e.process xs) (ap not (ap (eqb x.process) same ∙ other)) (ap (λ k. has_process k xs) same ∙ has) in
        absurd (false≢true (sym (or_parts e.undo (not (eqb x.process e.process) && has_process e.process xs) (goes-on n (x ∷ xs) e es serial).0).1 ∙ out))
    by_process false other' later = ap (λ t. t || has_process j es) other' ∙ later other'

module _ (table : ConflictRelation) where
  -- What has to come before process j stands before an entry of it.

  clash-has : (j : ℕ) (x : Entry) (es : List Entry) → clashes_with table j x es ≡ true → (y : Entry) × Among y es × (y.process ≡ j) × (conflict table x y ≡ true)
  clash-has j x es clash =
      let found = among-any (λ y. eqb y.process j && conflict table x y) es clash in
      let parts = and_parts (eqb found.0.process j) (conflict table x found.0) found.2 in
      (found.0, found.1, eqb-true found.0.process j parts.0, parts.1)

  clash-later : (j : ℕ) (x : Entry) (es : List Entry) → clashes_with table j x es ≡ true → has_process j es ≡ true
  clash-later j x es clash =
      let found = clash-has j x es clash in any-among (λ e. eqb e.process j) found.0 es found.1 (eq-eqb found.0.process j found.2)

  -- it is of another process
  clash-other : (j : ℕ) (x : Entry) (es : List Entry) → clashes_with table j x es ≡ true → eqb x.process j ≡ false
  clash-other j x es clash =
      let found = clash-has j x es clash in ap (eqb x.process) (sym found.2) ∙ conflict-differ table x found.0 found.3

  -- one way or the other
  precedes-parts : (x : Entry) (es : List Entry) (i j : ℕ) → precedes table (x ∷ es) i j ≡ true
      → ((x.process ≡ i) × (clashes_with table j x es ≡ true)) ⊎ (precedes table es i j ≡ true)
  precedes-parts x es i j is =
      ⊎_elim (λ here. let parts = and_parts (eqb x.process i) (clashes_with table j x es) here in inl (eqb-true x.process i parts.0, parts.1)) (λ later. inr later)
      (or_cases (eqb x.process i && clashes_with table j x es) (precedes table es i j) is)

  precedes-later : (es : List Entry) (i j : ℕ) → precedes table es i j ≡ true → has_process j es ≡ true
  precedes-later [] i j is = absurd (false≢true is)
  precedes-later (x ∷ es) i j is =
      or_right (eqb x.process j) (has_process j es) (⊎_elim (λ here. clash-later j x es here.1) (λ later. precedes-later es i j later) (precedes-parts x es i j is))

  precedes-apart : (es : List Entry) (i j : ℕ) → precedes table es i j ≡ true → eqb i j ≡ false
  precedes-apart [] i j is = absurd (false≢true is)
  precedes-apart (x ∷ es) i j is =
      ⊎_elim (λ here. ap (λ k. eqb k j) (sym here.0) ∙ clash-other j x es here.1) (λ later. precedes-apart es i j later) (precedes-parts x es i j is)

  -- nothing of another process stands between the entries of a process
  not-back : (n i : ℕ) (x : Entry) (xs es : List Entry) → GoesOn n (x ∷ xs) es → precedes table es i x.process ≡ true → ⊥
  not-back n i x xs [] serial is = false≢true is
  not-back n i x xs (y ∷ es) serial is = by_process (eqb y.process x.process) refl (λ same. not-back (n + 1) i y (x ∷ xs) es (goes-on n (x ∷ xs) y es serial).1)
    where
      by_process : (t : Bool) → eqb y.process x.process ≡ t → (y.process ≡ x.process → precedes table es i y.process ≡ true → ⊥) → ⊥
      by_process true own later =
          let same = eqb-true y.process x.process own in
          ⊎_elim (λ here. false≢true (sym (clash-other x.process y es here.1) ∙ own))
          (λ rest. later same (ap (precedes table es i) same ∙ rest)) (precedes-parts y es i x.process is)
      by_process false other later =
          let none = gone (n + 1) x.process y (x ∷ xs) es (goes-on n (x ∷ xs) y es serial).1 other (or_left (eqb x.process x.process) (has_process x.process xs) (eq-eqb x.process x.process refl)) in
          false≢true (sym none ∙ ⊎_elim (λ here. clash-later x.process y es here.1) (λ rest. precedes-later es i x.process rest) (precedes-parts y es i x.process is))

  -- how many entries stand before the first of process i
  abbrev first_of : ℕ → List Entry → ℕ
  first_of i [] = 0
  first_of i (e ∷ es) = cond (eqb e.process i) 0 (suc (first_of i es))

  -- whoever has to come first begins first
  begins-first : (n : ℕ) (before es : List Entry) (i j : ℕ) → GoesOn n before es → precedes table es i j ≡ true → first_of i es < first_of j es
  begins-first n before [] i j serial is = absurd (false≢true is)
  begins-first n before (x ∷ es) i j serial is =
      ⊎_elim (λ here. first_here here.0 (clash-other j x es here.1))
      (λ later. by_process (eqb x.process i) (eqb x.process j) refl refl later (begins-first (n + 1) (x ∷ before) es i j (goes-on n before x es serial).1 later))
      (precedes-parts x es i j is)
    where
      first_here : x.process ≡ i → eqb x.process j ≡ false → cond (eqb x.process i) 0 (suc (first_of i es)) < cond (eqb x.process j) 0 (suc (first_of j es))
      first_here own other = rw (eq-eqb x.process i own) (rw other (omega arith))

      by_process : (a b : Bool) → eqb x.process i ≡ a → eqb x.process j ≡ b → precedes table es i j ≡ true → first_of i es < first_of j es
          → cond (eqb x.process i) 0 (suc (first_of i es)) < cond (eqb x.process j) 0 (suc (first_of j es))
      by_process a true is_i is_j later less =
          absurd (not-back (n + 1) i x before es (goes-on n before x es serial).1 (ap (precedes table es i) (eqb-true x.process j is_j) ∙ later))
      by_process true false is_i is_j later less = rw is_i (rw is_j (omega arith))
      by_process false false is_i is_j later less = rw is_i (rw is_j (omega arith))

  walks-up : (es : List Entry) → GoesOn 1 [] es → {i k : ℕ} → Walk (precedes table es) (processes_in es) i k → first_of i es < first_of k es
  walks-up es serial (one_arrow {i = i} {k = k} among a) = begins-first 1 [] es i k serial a
  walks-up es serial (and_then {i = i} {j = j} {k = k} w among a) =
      let one = walks-up es serial w in let two = begins-first 1 [] es j k serial a in omega arith

  no-round : (es : List Entry) → GoesOn 1 [] es → is_cyclic_in table es ≡ false
  no-round es serial = by_round (is_cyclic_in table es) refl
    where
      by_round : (t : Bool) → is_cyclic_in table es ≡ t → is_cyclic_in table es ≡ false
      by_round false is = is
      by_round true is =
          let round = walk-from_round (precedes table es) (processes_in es) is in
          let less = walks-up es serial round.1 in absurd (omega arith)

  none-goes : (es : List Entry) → ((e : Entry) → Among e es → e.undo ≡ false) → NoneGoes table es
  none-goes es steps f u t = false≢true (sym (steps u (takes-undo table f u es t)) ∙ pair-undo f u (takes-pair table f u es t))

  serial-verdict : (es : List Entry) → AreOnce es → GoesOn 1 [] es → (is_barred_in (entries_of (left_of table es)) ≡ false) × (is_cyclic_in table (entries_of (left_of table es)) ≡ false)
  serial-verdict es once serial =
      let steps = steps-only 1 [] es serial in
      let same = leaves-unique table es (entries_of (left_of table es)) es once (leaves-left table es once) (record { takes = takes_none; none = none-goes es steps }) in
      (ap is_barred_in same ∙ not_any (λ e. e.undo) es steps, ap (is_cyclic_in table) same ∙ no-round es serial)

pub serial-goes_on : (es : List Entry) → IsTrue (is_serial es) → not_serial_from 1 [] es ≡ None
serial-goes_on es serial = by_first (not_serial_from 1 [] es) serial
  where
    by_first : (o : Option ℕ) → is_none o ≡ true → o ≡ None
    by_first None is = refl
    by_first (Some n) is = absurd (false≢true is)

pub serial-is_neither : SerialIsNeither
serial-is_neither table es once serial =
    let verdict = serial-verdict table es once (serial-goes_on es serial) in
    (barred-entries table es ∙ verdict.0, cyclic-entries table es ∙ verdict.1)
