-- What a step finds among entries is what the ledger notes of it.
use Rattle.std.proofs.Common.{◌≡◌, inl, inr, Bool, true, false, not, cond, eqb, ◌&&◌, ◌||◌, List, [], ◌∷◌, ◌++◌, refl, sym, ap, ◌∙◌, subst}
use Rattle.std.specs.List.{list_any}
use Rattle.std.proofs.lemmas.Bool.{and_from, eq-eqb, false≢true, or_parts}
use Rattle.std.proofs.lemmas.List.Folds.{list_any-append}
use Rattle.process_tree.specs.declared.entry.Entry.{Entry}
use Rattle.schedule_model.specs.Histories.{same_step}
use Rattle.schedule_model.proofs.Behind.{same_step-symmetric}
use Rattle.schedule_model.proofs.Members.{Among}
use Rattle.value_rules.specs.Ledgers.{Deeds, Ledger, after, after_all, met, noted, with_at}
use Rattle.value_rules.specs.Laws.{AreOnce, clash_later}
use Rattle.value_rules.specs.HistoryValues.{in_front_of}
use Rattle.value_rules.proofs.Chains.{after_all-append}
use Rattle.value_rules.proofs.Steps.{noted-other, with-here}

-- a list, split at an entry of it
pub record Split (e : Entry) (es : List Entry) : Type 0 where
  pub front : List Entry
  pub rest : List Entry
  pub is : es ≡ front ++ e ∷ rest

pub split : (e : Entry) (es : List Entry) → Among e es → Split e es
split e [] is = absurd is
split e (x ∷ es) (inl here) = record { front = []; rest = es; is = ap (λ y. y ∷ es) here }
split e (x ∷ es) (inr later) = let s = split e es later in record { front = x ∷ s.front; rest = s.rest; is = ap (λ ys. x ∷ ys) s.is }

-- of a step that comes once: none of it stands before, and it doesn't take effect behind
pub none-before : (front : List Entry) (e : Entry) (rest : List Entry) → AreOnce (front ++ e ∷ rest) → e.undo ≡ false → (x : Entry) → Among x front → same_step e x ≡ false
none-before [] e rest once is_step x is = absurd is
none-before (y ∷ front) e rest once is_step x (inr later) = none-before front e rest once.1 is_step x later
none-before (y ∷ front) e rest once is_step x (inl here) =
    subst (λ (z : Entry). same_step e z ≡ false) here (same_step-symmetric e y ∙ apart (same_step y e) y.undo (ap (λ u. same_step y e && (y.undo || not u)) (sym is_step) ∙ clear))
  where
    clear : clash_later y e ≡ false
    clear = (or_parts (clash_later y e) (list_any (clash_later y) rest) (or_parts (list_any (clash_later y) front) (clash_later y e || list_any (clash_later y) rest)
        (sym (list_any-append (clash_later y) front (e ∷ rest)) ∙ once.0)).1).0

    apart : (s u : Bool) → (s && (u || true)) ≡ false → s ≡ false
    apart false u is = refl
    apart true true is = absurd (false≢true (sym is))
    apart true false is = absurd (false≢true (sym is))

pub behind-once : (front : List Entry) (e : Entry) (rest : List Entry) → AreOnce (front ++ e ∷ rest) → list_any (clash_later e) rest ≡ false
behind-once [] e rest once = once.0
behind-once (y ∷ front) e rest once = behind-once front e rest once.1

-- so what stands in front of it is that
pub front-is : (front : List Entry) (e : Entry) (rest : List Entry) → ((x : Entry) → Among x front → same_step e x ≡ false) → in_front_of e (front ++ e ∷ rest) ≡ front
front-is [] e rest none = ap (λ t. cond t [] (e ∷ in_front_of e rest)) (and_from (eqb e.process e.process) (eqb e.step e.step) (eq-eqb e.process e.process refl) (eq-eqb e.step e.step refl))
front-is (x ∷ front) e rest none =
    ap (λ t. cond t [] (x ∷ in_front_of e (front ++ e ∷ rest))) (none x (inl refl)) ∙ ap (λ ys. x ∷ ys) (front-is front e rest (λ y is. none y (inr is)))

module _ (deeds : Deeds) where
  -- entries behind that take no effect of this step leave what it found
  stays : (l : Ledger) (e : Entry) (rest : List Entry) → e.undo ≡ false → list_any (clash_later e) rest ≡ false
      → (after_all deeds l rest).found e.process e.step ≡ l.found e.process e.step
  stays l e [] is_step none = refl
  stays l e (f ∷ rest) is_step none =
      let parts = or_parts (clash_later e f) (list_any (clash_later e) rest) none in
      stays (after deeds l f) e rest is_step parts.1 ∙ by f.undo refl (sym (ap (λ u. same_step e f && (u || not f.undo)) is_step) ∙ parts.0)
    where
      by : (u : Bool) → f.undo ≡ u → (same_step e f && (false || not f.undo)) ≡ false → noted deeds l f e.process e.step ≡ l.found e.process e.step
      by true undo clear = ap (λ u. (cond u l.found (with_at l.found f.process f.step (met deeds l f))) e.process e.step) undo
      by false forward clear = noted-other deeds l f e.process e.step (other (same_step e f) (ap (λ u. same_step e f && not u) (sym forward) ∙ clear))
        where
          other : (s : Bool) → (s && true) ≡ false → s ≡ false
          other true is = absurd (false≢true (sym is))
          other false is = refl

  -- what the ledger of all notes of a step is what that step met
  pub found-is : (l : Ledger) (front : List Entry) (e : Entry) (rest : List Entry) → e.undo ≡ false → list_any (clash_later e) rest ≡ false
      → (after_all deeds l (front ++ e ∷ rest)).found e.process e.step ≡ met deeds (after_all deeds l front) e
  found-is l front e rest is_step none =
      ap (λ (m : Ledger). m.found e.process e.step) (after_all-append deeds l front (e ∷ rest))
      ∙ (stays (after deeds (after_all deeds l front) e) e rest is_step none
      ∙ (ap (λ u. (cond u (after_all deeds l front).found (with_at (after_all deeds l front).found e.process e.step (met deeds (after_all deeds l front) e))) e.process e.step) is_step
      ∙ with-here (after_all deeds l front).found e.process e.step (met deeds (after_all deeds l front) e) e.process e.step refl refl))
