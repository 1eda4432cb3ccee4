-- What exchanges and cancels keep: values, and what steps found.
use Rattle.std.proofs.Common.{◌≡◌, inl, inr, ⊎_elim, ℕ, Bool, true, false, not, eqb, ◌&&◌, ◌||◌, List, [], ◌∷◌, ◌++◌, refl, sym, ap, ◌∙◌, subst}
use Rattle.std.proofs.lemmas.Bool.{and_parts, or_parts, or_cases, or_left, or_right, eqb-true, eq-eqb, false≢true, not-true}
use Rattle.std.proofs.lemmas.List.Folds.{list_any-append}
use Rattle.process_tree.specs.declared.entry.Entry.{Entry}
use Rattle.schedule_model.specs.Conflict.{ConflictRelation, conflict}
use Rattle.schedule_model.specs.Histories.{same_step, takes_back}
use Rattle.schedule_model.proofs.Members.{Among, among_there, among-right, among-more, contains-from_among}
use Rattle.schedule_model.specs.Reduction.{AreReduced, no_step, step_first, IsReduced, can_change, is_pair}
use Rattle.value_rules.specs.Ledgers.{Deeds, Ledger, after, after_all, unused, is_sum}
use Rattle.value_rules.specs.Laws.{AreSound, AreOnce, has, AgreeOn, ReductionKeepsValues}
use Rattle.value_rules.proofs.Once.{any-swap, any-less, among-swap, once-swap, once-less, gone}
use Rattle.value_rules.proofs.Steps.{Alike, alike-after, exchanged-alike}
use Rattle.value_rules.proofs.Pairs.{Ranged, after-ranged, pair-leaves, pair-notes, zero_fits}

-- some entries, and then others
pub after_all-append : (deeds : Deeds) (l : Ledger) (xs ys : List Entry) → after_all deeds l (xs ++ ys) ≡ after_all deeds (after_all deeds l xs) ys
after_all-append deeds l [] ys = refl
after_all-append deeds l (x ∷ xs) ys = after_all-append deeds (after deeds l x) xs ys

module _ (table : ConflictRelation) (deeds : Deeds) (sums : ℕ → ℕ → Bool) (known : Entry → Bool) (sound : AreSound table deeds sums known) where
  pub ranged-all : (l : Ledger) (es : List Entry) → Ranged deeds sound.fits l → Ranged deeds sound.fits (after_all deeds l es)
  ranged-all l [] r = r
  ranged-all l (e ∷ es) r = ranged-all (after deeds l e) es (after-ranged deeds sound.fits l e r)

  -- what is let go covers only sums of these entries
  abbrev pub Covers : (ℕ → ℕ → Bool) → List Entry → Type 0
  Covers skip es = (before rest : List Entry) (e : Entry) → es ≡ before ++ e ∷ rest → skip e.process e.step ≡ true → is_sum (deeds e).call.verb ≡ true

  alike-all : (skip : ℕ → ℕ → Bool) (l m : Ledger) (es : List Entry) → Covers skip es → Alike skip l m → Alike skip (after_all deeds l es) (after_all deeds m es)
  alike-all skip l m [] covers same = same
  alike-all skip l m (e ∷ es) covers same =
      alike-all skip (after deeds l e) (after deeds m e) es (λ before rest f is. covers (e ∷ before) rest f (ap (λ fs. e ∷ fs) is))
      (alike-after deeds skip l m e (covers [] es e refl) same)

  pub covers-sums : (es : List Entry) → Covers sums es
  covers-sums es before rest e is skipped = sym (sound.sum e) ∙ skipped

  -- An exchange.
  module _ (before after' : List Entry) (a b : Entry) (can : can_change table a b ≡ true) (a_known : known a ≡ true) (b_known : known b ≡ true) where
    exchange : (l : Ledger) → Ranged deeds sound.fits l → Alike sums (after_all deeds l (before ++ a ∷ b ∷ after')) (after_all deeds l (before ++ b ∷ a ∷ after'))
    exchange l r =
        let here = after_all deeds l before in
        let at = ranged-all l before r in
        let swapped = exchanged-alike table deeds sums known sound here at.value a b a_known b_known can in
        let behind = alike-all sums (after deeds (after deeds here a) b) (after deeds (after deeds here b) a) after' (covers-sums after') swapped in
        subst (λ m. Alike sums m (after_all deeds l (before ++ b ∷ a ∷ after'))) (sym (after_all-append deeds l before (a ∷ b ∷ after')))
        (subst (λ m. Alike sums (after_all deeds here (a ∷ b ∷ after')) m) (sym (after_all-append deeds l before (b ∷ a ∷ after'))) behind)

  abbrev pub AllKnown : List Entry → Type 0
  AllKnown es = (e : Entry) → Among e es → known e ≡ true

  -- What each step of a reduction keeps.
  pub record Kept (l : Ledger) (xs ys : List Entry) : Type 0 where
    pub agree : AgreeOn sums ys (after_all deeds l xs) (after_all deeds l ys)
    pub once : AreOnce ys
    pub had : (i s : ℕ) → has i s ys ≡ true → has i s xs ≡ true
    pub within : (e : Entry) → Among e ys → Among e xs

  exchange-keeps : (l : Ledger) → Ranged deeds sound.fits l → (before rest : List Entry) (a b : Entry) → can_change table a b ≡ true
      → AllKnown (before ++ a ∷ b ∷ rest) → AreOnce (before ++ a ∷ b ∷ rest) → Kept l (before ++ a ∷ b ∷ rest) (before ++ b ∷ a ∷ rest)
  exchange-keeps l r before rest a b can all once =
      let alike = exchange before rest a b can (all a (among_there before a (b ∷ rest))) (all b (among-right b before (a ∷ b ∷ rest) (inr (inl refl)))) l r in
      let apart = not-true (eqb a.process b.process) (and_parts (not (eqb a.process b.process)) (not (conflict table a b)) can).0 in
      record {
        agree = (alike.value, λ i s is out. alike.found i s out);
        once = once-swap before a b rest (other a b apart) once;
        had = λ i s is. any-swap (λ e. eqb e.process i && eqb e.step s) before a b rest ∙ is;
        within = λ e is. among-swap e before b a rest is;
      }
    where
      other : (a b : Entry) → eqb a.process b.process ≡ false → same_step b a ≡ false
      other a b apart = by_test (eqb b.process a.process) refl
        where
          by_test : (t : Bool) → eqb b.process a.process ≡ t → same_step b a ≡ false
          by_test true is = absurd (false≢true (sym apart ∙ eq-eqb a.process b.process (sym (eqb-true b.process a.process is))))
          by_test false is = ap (λ t. t && eqb b.step a.step) is

  -- A step and its undo directly behind it: without them all is the same, but for what they found.
  module _ (l : Ledger) (r : Ranged deeds sound.fits l) (before rest : List Entry) (a b : Entry) (pair : is_pair a b ≡ true)
      (once : AreOnce (before ++ a ∷ b ∷ rest)) where
    done : a.undo ≡ false
    done = not-true a.undo (and_parts (not a.undo) (takes_back b a) pair).0

    undone : b.undo ≡ true
    undone = (and_parts b.undo (same_step a b) (and_parts (not a.undo) (takes_back b a) pair).1).0

    step : same_step a b ≡ true
    step = (and_parts b.undo (same_step a b) (and_parts (not a.undo) (takes_back b a) pair).1).1

    parts : (eqb a.process b.process ≡ true) × (eqb a.step b.step ≡ true)
    parts = and_parts (eqb a.process b.process) (eqb a.step b.step) step

    abbrev pub skip : ℕ → ℕ → Bool
    skip i s = sums i s || (eqb i a.process && eqb s a.step)

    none : has a.process a.step (before ++ rest) ≡ false
    none = gone before a b rest done undone step once

    none_rest : has a.process a.step rest ≡ false
    none_rest = (or_parts (has a.process a.step before) (has a.process a.step rest) (sym (list_any-append (λ e. eqb e.process a.process && eqb e.step a.step) before rest) ∙ none)).1

    pub covers : Covers skip rest
    covers front later e is skipped =
        ⊎_elim (λ add. sym (sound.sum e) ∙ add)
        (λ own. absurd (false≢true (sym none_rest ∙ (ap (has a.process a.step) is ∙ (list_any-append (λ f. eqb f.process a.process && eqb f.step a.step) front (e ∷ later)
        ∙ or_right (has a.process a.step front) (has a.process a.step (e ∷ later)) (or_left (eqb e.process a.process && eqb e.step a.step) (has a.process a.step later) own))))))
        (or_cases (sums e.process e.step) (eqb e.process a.process && eqb e.step a.step) skipped)

    pub leaves : Alike skip (after deeds (after deeds (after_all deeds l before) a) b) (after_all deeds l before)
    leaves = record {
      value = pair-leaves deeds sound.fits (after_all deeds l before) a b (ranged-all l before r) (sym (sound.undo a b step)) (sym (eqb-true a.process b.process parts.0)) (sym (eqb-true a.step b.step parts.1)) done undone;
      found = λ i s out. pair-notes deeds sound.fits (after_all deeds l before) a b (ranged-all l before r) (sym (sound.undo a b step)) (sym (eqb-true a.process b.process parts.0)) (sym (eqb-true a.step b.step parts.1)) done undone i s
          (or_parts (sums i s) (eqb i a.process && eqb s a.step) out).1;
    }

    same : Alike skip (after_all deeds l (before ++ a ∷ b ∷ rest)) (after_all deeds l (before ++ rest))
    same =
        subst (λ m. Alike skip m (after_all deeds l (before ++ rest))) (sym (after_all-append deeds l before (a ∷ b ∷ rest)))
        (subst (λ m. Alike skip (after_all deeds (after_all deeds l before) (a ∷ b ∷ rest)) m) (sym (after_all-append deeds l before rest))
        (alike-all skip (after deeds (after deeds (after_all deeds l before) a) b) (after_all deeds l before) rest covers leaves))

    kept : (i s : ℕ) → has i s (before ++ rest) ≡ true → sums i s ≡ false → skip i s ≡ false
    kept i s is out = ap (λ t. t || (eqb i a.process && eqb s a.step)) out ∙ by_test (eqb i a.process && eqb s a.step) refl
      where
        by_test : (t : Bool) → (eqb i a.process && eqb s a.step) ≡ t → (eqb i a.process && eqb s a.step) ≡ false
        by_test false other = other
        by_test true own =
            let p = and_parts (eqb i a.process) (eqb s a.step) own in
            absurd (false≢true (sym none ∙ (ap (λ x. has x a.step (before ++ rest)) (sym (eqb-true i a.process p.0)) ∙ (ap (λ y. has i y (before ++ rest)) (sym (eqb-true s a.step p.1)) ∙ is))))

    cancel-keeps : Kept l (before ++ a ∷ b ∷ rest) (before ++ rest)
    cancel-keeps = record {
      agree = (same.value, λ i s is out. same.found i s (kept i s is out));
      once = once-less before a b rest once;
      had = λ i s is. any-less (λ e. eqb e.process i && eqb e.step s) before a b rest is;
      within = λ e is. among-more e before a (b ∷ rest) (among-more e before b rest is);
    }

  pub one_keeps : (l : Ledger) → Ranged deeds sound.fits l → (xs ys : List Entry) → AllKnown xs → AreOnce xs → IsReduced table xs ys → Kept l xs ys
  one_keeps l r xs ys all once (inl e) =
      subst (λ zs. Kept l zs ys) (sym e.4) (subst (Kept l (e.0 ++ e.2 ∷ e.3 ∷ e.1)) (sym e.5) (exchange-keeps l r e.0 e.1 e.2 e.3 e.6 (subst AllKnown e.4 all) (subst AreOnce e.4 once)))
  one_keeps l r xs ys all once (inr e) =
      subst (λ zs. Kept l zs ys) (sym e.4) (subst (Kept l (e.0 ++ e.2 ∷ e.3 ∷ e.1)) (sym e.5) (cancel-keeps l r e.0 e.1 e.2 e.3 e.6 (subst AreOnce e.4 once)))

  had_one : {us vs : List Entry} → IsReduced table us vs → (i s : ℕ) → has i s vs ≡ true → has i s us ≡ true
  had_one (inl e) i s is = ap (has i s) e.4 ∙ (any-swap (λ f. eqb f.process i && eqb f.step s) e.0 e.2 e.3 e.1 ∙ (sym (ap (has i s) e.5) ∙ is))
  had_one (inr e) i s is = ap (has i s) e.4 ∙ any-less (λ f. eqb f.process i && eqb f.step s) e.0 e.2 e.3 e.1 (sym (ap (has i s) e.5) ∙ is)

  had_all : {us vs : List Entry} → AreReduced table us vs → (i s : ℕ) → has i s vs ≡ true → has i s us ≡ true
  had_all no_step i s is = is
  had_all (step_first first more) i s is = had_one first i s (had_all more i s is)

  pub law : (l : Ledger) → Ranged deeds sound.fits l → (xs ys : List Entry) → AllKnown xs → AreOnce xs → AreReduced table xs ys → AgreeOn sums ys (after_all deeds l xs) (after_all deeds l ys)
  law l r xs _ all once no_step = (λ q k. refl, λ i s is out. refl)
  law l r _ _ all once (step_first {xs} {ys} {zs} first more) =
      let k = one_keeps l r xs ys all once first in
      let later = law l r ys zs (λ e is. all e (k.within e is)) k.once more in
      (λ q k'. k.agree.0 q k' ∙ later.0 q k', λ i s is out. k.agree.1 i s (had_all more i s is) out ∙ later.1 i s is out)

pub reduction-keeps_values : ReductionKeepsValues
reduction-keeps_values table deeds sums known xs ys sound all once reduced =
    law table deeds sums known sound unused (record { value = λ q k. zero_fits; found = λ i b. zero_fits }) xs ys
    (λ e is. all e (contains-from_among e xs is)) once reduced
