-- Each reduction step keeps what is left but for an exchange, and so whether it is barred and whether it goes round.
use Rattle.std.proofs.Common.{◌≡◌, inl, inr, ℕ, Bool, true, false, not, ◌||◌, ◌&&◌, eqb, List, [], ◌∷◌, ◌++◌, sym, refl, ap, ◌∙◌, subst}
use Rattle.std.specs.List.{list_any}
use Rattle.std.proofs.Math.Bool.{and-false}
use Rattle.std.proofs.lemmas.Bool.{and_parts, and_left, or_parts, or_from, not-true}
use Rattle.process_tree.specs.declared.entry.Entry.{Entry}
use Rattle.schedule_model.specs.Conflict.{ConflictRelation, IsSymmetric, conflict}
use Rattle.schedule_model.specs.Histories.{is_in, same_step}
use Rattle.schedule_model.specs.Reduction.{IsExchange, IsCancel}
use Rattle.dependence_model.specs.Dependence.{depends, placed, entries_of, left_of, is_barred, is_cyclic}
use Rattle.dependence_model.specs.Laws.{AreOnce, comes_again, KeepsVerdict, StepsKeepVerdict}
use Rattle.dependence_model.proofs.Once.{once-sub}
use Rattle.dependence_model.proofs.Takings.{taken, taken-sub}
use Rattle.dependence_model.proofs.Unique.{TakesAll, takes_first, Leaves, leaves-unique}
use Rattle.dependence_model.proofs.PlacedTakings.{entries-placed, left-entries, takes-at}
use Rattle.dependence_model.proofs.Computed.{left-computed}
use Rattle.dependence_model.proofs.Exchanges.{AreFree, Swaps, swapped, Alike, swaps-behind, leaves-alike}
use Rattle.dependence_model.proofs.Bubbles.{depends-turned}
use Rattle.dependence_model.proofs.Rounds.{round-same, processes_in, clashes_with, precedes, is_barred_in, is_cyclic_in, barred-entries, cyclic-entries}

or-turned : (a b c : Bool) → (a || (b || c)) ≡ (b || (a || c))
or-turned true true c = refl
or-turned true false c = refl
or-turned false b c = refl

or-none : (a b c : Bool) → b ≡ false → ((a && b) || c) ≡ c
or-none a b c none = ap (λ t. (a && t) || c) none ∙ ap (λ t. t || c) (and-false a)

module _ (table : ConflictRelation) where
  -- What is told of two lists alike.

  any-swapped : (p : Entry → Bool) (xs : List Entry) (s : Swaps table xs) → list_any p xs ≡ list_any p (swapped table xs s)
  any-swapped p [] s = refl
  any-swapped p (a ∷ []) s = refl
  any-swapped p (a ∷ c ∷ es) (inl free) = or-turned (p a) (p c) (list_any p es)
  any-swapped p (a ∷ c ∷ es) (inr later) = ap (λ t. p a || t) (any-swapped p (c ∷ es) later)

  any-alike : (p : Entry → Bool) (xs ys : List Entry) → Alike table xs ys → list_any p xs ≡ list_any p ys
  any-alike p xs ys (inl same) = ap (list_any p) same
  any-alike p xs ys (inr swap) = any-swapped p xs swap.0 ∙ ap (list_any p) swap.1

  free-conflict : (a c : Entry) → depends table a c ≡ false → conflict table a c ≡ false
  free-conflict a c free = (or_parts (eqb a.process c.process) (conflict table a c) free).1

  precedes-swapped : (xs : List Entry) (s : Swaps table xs) (i j : ℕ) → precedes table xs i j ≡ precedes table (swapped table xs s) i j
  precedes-swapped [] s i j = refl
  precedes-swapped (a ∷ []) s i j = refl
  precedes-swapped (a ∷ c ∷ es) (inl free) i j =
      ap (λ t. (eqb a.process i && t) || ((eqb c.process i && clashes_with table j c es) || precedes table es i j))
      (or-none (eqb c.process j) (conflict table a c) (clashes_with table j a es) (free-conflict a c free.0))
      ∙ (or-turned (eqb a.process i && clashes_with table j a es) (eqb c.process i && clashes_with table j c es) (precedes table es i j)
      ∙ ap (λ t. (eqb c.process i && t) || ((eqb a.process i && clashes_with table j a es) || precedes table es i j))
      (sym (or-none (eqb a.process j) (conflict table c a) (clashes_with table j c es) (free-conflict c a free.1))))
  precedes-swapped (a ∷ c ∷ es) (inr later) i j =
      ap (λ t. (eqb a.process i && t) || precedes table (c ∷ es) i j) (any-swapped (λ y. eqb y.process j && conflict table a y) (c ∷ es) later)
      ∙ ap (λ t. (eqb a.process i && clashes_with table j a (swapped table (c ∷ es) later)) || t) (precedes-swapped (c ∷ es) later i j)

  precedes-alike : (xs ys : List Entry) → Alike table xs ys → (i j : ℕ) → precedes table xs i j ≡ precedes table ys i j
  precedes-alike xs ys (inl same) i j = ap (λ zs. precedes table zs i j) same
  precedes-alike xs ys (inr swap) i j = precedes-swapped xs swap.0 i j ∙ ap (λ zs. precedes table zs i j) swap.1

  is_in-processes : (k : ℕ) (xs : List Entry) → is_in k (processes_in xs) ≡ list_any (λ e. eqb k e.process) xs
  is_in-processes k [] = refl
  is_in-processes k (x ∷ xs) = ap (λ t. eqb k x.process || t) (is_in-processes k xs)

  cyclic-alike : (xs ys : List Entry) → Alike table xs ys → is_cyclic_in table xs ≡ is_cyclic_in table ys
  cyclic-alike xs ys alike =
      round-same (precedes table xs) (precedes table ys) (processes_in xs) (processes_in ys) (precedes-alike xs ys alike)
      (λ k. is_in-processes k xs ∙ (any-alike (λ e. eqb k e.process) xs ys alike ∙ sym (is_in-processes k ys)))

  once-swapped : (xs : List Entry) (s : Swaps table xs) → AreOnce xs → AreOnce (swapped table xs s)
  once-swapped [] s once = once
  once-swapped (a ∷ []) s once = once
  once-swapped (a ∷ c ∷ es) (inl free) once = (
    or_from (comes_again c a) (list_any (comes_again c) es) other once.1.0,
    ((or_parts (comes_again a c) (list_any (comes_again a) es) once.0).1, once.1.1),
  )
    where
      other : comes_again c a ≡ false
      other = and_left (same_step c a) (c.undo || not a.undo)
          (and_left (eqb c.process a.process) (eqb c.step a.step) (or_parts (eqb c.process a.process) (conflict table c a) free.1).0)
  once-swapped (a ∷ c ∷ es) (inr later) once = (sym (any-swapped (comes_again a) (c ∷ es) later) ∙ once.0, once-swapped (c ∷ es) later once.1)

  once-alike : (xs ys : List Entry) → Alike table xs ys → AreOnce xs → AreOnce ys
  once-alike xs ys (inl same) once = subst AreOnce same once
  once-alike xs ys (inr swap) once = subst AreOnce swap.1 (once-swapped xs swap.0 once)

  -- What is left of a list, without places.

  pub leaves-left : (es : List Entry) → AreOnce es → Leaves table es (entries_of (left_of table es))
  leaves-left es once =
      subst (λ fs. Leaves table fs (entries_of (left_of table es))) (entries-placed 1 es) (left-entries table (placed es) (left_of table es) (left-computed table es once))

  -- the verdict on a list whose rest is told
  verdict : (before after rest : List Entry) → AreOnce after → Leaves table after rest → is_barred_in rest ≡ is_barred table before → is_cyclic_in table rest ≡ is_cyclic table before
      → KeepsVerdict table before after
  verdict before after rest once leaves barred cyclic =
      let same = leaves-unique table after (entries_of (left_of table after)) rest once (leaves-left after once) leaves in
      record {
        once = once;
        barred = barred-entries table after ∙ (ap is_barred_in same ∙ barred);
        cyclic = cyclic-entries table after ∙ (ap (is_cyclic_in table) same ∙ cyclic);
      }

  alike-keeps : (before after : List Entry) → AreOnce before → Alike table before after → KeepsVerdict table before after
  alike-keeps before after once alike =
      let left = entries_of (left_of table before) in
      let other = leaves-alike table before left after (leaves-left before once) alike in
      verdict before after other.0 (once-alike before after alike once) other.1
      (sym (any-alike (λ e. e.undo) left other.0 other.2) ∙ sym (barred-entries table before))
      (sym (cyclic-alike left other.0 other.2) ∙ sym (cyclic-entries table before))

  -- An exchange.

  swaps-at : (front : List Entry) (a b : Entry) (rest : List Entry) → AreFree table a b
      → (s : Swaps table (front ++ a ∷ b ∷ rest)) × (swapped table (front ++ a ∷ b ∷ rest) s ≡ front ++ b ∷ a ∷ rest)
  swaps-at [] a b rest free = (inl free, refl)
  swaps-at (x ∷ front) a b rest free =
      let later = swaps-at front a b rest free in
      let more = swaps-behind table x (front ++ a ∷ b ∷ rest) later.0 in
      (more.0, more.1 ∙ ap (λ zs. x ∷ zs) later.1)

  exchange-keeps : IsSymmetric table → (before after : List Entry) → AreOnce before → IsExchange table before after → KeepsVerdict table before after
  exchange-keeps symmetric before after once (front, rest, a, b, before_is, after_is, can) =
      let parts = and_parts (not (eqb a.process b.process)) (not (conflict table a b)) can in
      let free : depends table a b ≡ false = or_from (eqb a.process b.process) (conflict table a b) (not-true (eqb a.process b.process) parts.0) (not-true (conflict table a b) parts.1) in
      let at = swaps-at front a b rest (free, depends-turned table symmetric b a ∙ free) in
      alike-keeps before after once
      (subst (λ xs. Alike table xs after) (sym before_is) (inr (at.0, at.1 ∙ sym after_is)))

  -- A cancel.

  cancel-keeps : (before after : List Entry) → AreOnce before → IsCancel before after → KeepsVerdict table before after
  cancel-keeps before after once (front, rest, f, u, before_is, after_is, pair) =
      let at = takes-at table f u front [] rest pair refl in
      let whole = front ++ f ∷ u ∷ rest in
      let now : AreOnce after = subst AreOnce (at.1 ∙ sym after_is) (once-sub (taken table f u whole at.0) whole (taken-sub table f u whole at.0) (subst AreOnce before_is once)) in
      let left = entries_of (left_of table after) in
      let leaves = leaves-left after now in
      let from : Leaves table whole left =
      record { takes = takes_first f u at.0 (subst (λ es. TakesAll table es left) (after_is ∙ sym at.1) leaves.takes); none = leaves.none } in
      let same = leaves-unique table before (entries_of (left_of table before)) left once (leaves-left before once) (subst (λ es. Leaves table es left) (sym before_is) from) in
      verdict before after left now leaves
      (ap is_barred_in (sym same) ∙ sym (barred-entries table before))
      (ap (is_cyclic_in table) (sym same) ∙ sym (cyclic-entries table before))

pub steps-keep_verdict : StepsKeepVerdict
steps-keep_verdict table before after symmetric once (inl exchange) = exchange-keeps table symmetric before after once exchange
steps-keep_verdict table before after symmetric once (inr cancel) = cancel-keeps table before after once cancel
