-- One entry, two neighbours that change places, and two that go.
use Rattle.std.proofs.Common.{◌≡◌, ◌⊎◌, inl, inr, ⊎_elim, ℕ, Bool, true, false, not, cond, eqb, ◌&&◌, refl, sym, ap, ◌∙◌}
use Rattle.std.proofs.Math.IntN.{ℤ}
use Rattle.std.proofs.lemmas.Bool.{and_parts, and_from, eqb-true, eq-eqb, false≢true, not-true}
use Rattle.process_tree.specs.declared.entry.Entry.{Entry}
use Rattle.commute_table.specs.declared.op.Verb.{Verb}
use Rattle.commute_table.specs.declared.op.Verb.TheVariants.{Add, Take, Look, Put, Hold, Free}
use Rattle.resource_box.specs.declared.call.Call.{Call}
use Rattle.resource_box.specs.declared.call.Kind.{Kind}
use Rattle.resource_box.specs.Table.{applied, applied_at, reverted, reverted_at, takes, kind_of}
use Rattle.schedule_model.specs.Conflict.{ConflictRelation, conflict}
use Rattle.schedule_model.specs.Reduction.{can_change}
use Rattle.value_conflict.specs.ValueConflict.{commute}
use Rattle.value_rules.specs.Ledgers.{Deeds, Ledger, with_at, met, made_of, left_by, noted, after, is_sum, same_place}
use Rattle.value_rules.specs.Laws.{AreSound}
use Rattle.value_rules.proofs.Wraps.{Fits, moved, moves-commute}

-- an undo of an add doesn't ask what the step found
reverted_at-alike : (verb : Verb) (amount v w w' : ℤ) → (is_sum verb ≡ false → w ≡ w') → reverted_at verb amount v w ≡ reverted_at verb amount v w'
reverted_at-alike Add amount v w w' same = refl
reverted_at-alike Take amount v w w' same = refl
reverted_at-alike Look amount v w w' same = refl
reverted_at-alike Put amount v w w' same = same refl
reverted_at-alike Hold amount v w w' same = same refl
reverted_at-alike Free amount v w w' same = same refl

pub made-alike : (kind : Kind) (c : Call) (undo : Bool) (v v' w w' : ℤ) → v ≡ v' → (is_sum c.verb ≡ false → w ≡ w') → made_of kind c undo v w ≡ made_of kind c undo v' w'
made-alike kind c false v v' w w' values found = ap (applied kind c) values
made-alike kind c true v v' w w' values found =
    ap (λ x. reverted kind c x w) values ∙ ap (λ x. cond (takes kind c.verb) x v') (reverted_at-alike c.verb c.amount v' w w' found)

-- a value at a place, and elsewhere
with-alike : (f g : ℕ → ℕ → ℤ) (a b : ℕ) (v w : ℤ) (x y : ℕ) → f x y ≡ g x y → v ≡ w → with_at f a b v x y ≡ with_at g a b w x y
with-alike f g a b v w x y same values = ap (λ z. cond (eqb x a && eqb y b) v z) same ∙ ap (λ z. cond (eqb x a && eqb y b) z (g x y)) values

pub with-else : (f : ℕ → ℕ → ℤ) (a b : ℕ) (v : ℤ) (x y : ℕ) → (eqb x a && eqb y b) ≡ false → with_at f a b v x y ≡ f x y
with-else f a b v x y other = ap (λ t. cond t v (f x y)) other

pub with-here : (f : ℕ → ℕ → ℤ) (a b : ℕ) (v : ℤ) (x y : ℕ) → x ≡ a → y ≡ b → with_at f a b v x y ≡ v
with-here f a b v x y one two = ap (λ t. cond t v (f x y)) (and_from (eqb x a) (eqb y b) (eq-eqb x a one) (eq-eqb y b two))

-- at two different places in either order
with-apart : (f : ℕ → ℕ → ℤ) (a b c d : ℕ) (v w : ℤ) (x y : ℕ) → (eqb a c && eqb b d) ≡ false
    → with_at (with_at f a b v) c d w x y ≡ with_at (with_at f c d w) a b v x y
with-apart f a b c d v w x y apart = by_tests (eqb x a && eqb y b) (eqb x c && eqb y d) refl refl
  where
    both : (eqb x a && eqb y b) ≡ true → (eqb x c && eqb y d) ≡ true → ⊥
    both one two =
        let p = and_parts (eqb x a) (eqb y b) one in
        let q = and_parts (eqb x c) (eqb y d) two in
        false≢true (sym apart ∙ and_from (eqb a c) (eqb b d) (eq-eqb a c (sym (eqb-true x a p.0) ∙ eqb-true x c q.0)) (eq-eqb b d (sym (eqb-true y b p.1) ∙ eqb-true y d q.1)))

    by_tests : (s t : Bool) → (eqb x a && eqb y b) ≡ s → (eqb x c && eqb y d) ≡ t
        → cond (eqb x c && eqb y d) w (cond (eqb x a && eqb y b) v (f x y)) ≡ cond (eqb x a && eqb y b) v (cond (eqb x c && eqb y d) w (f x y))
    by_tests true true one two = absurd (both one two)
    by_tests true false one two = ap (λ t. cond t w (cond (eqb x a && eqb y b) v (f x y))) two ∙ ap (λ z. cond (eqb x a && eqb y b) v z) (sym (ap (λ t. cond t w (f x y)) two))
    by_tests false t one two = ap (λ z. cond (eqb x c && eqb y d) w z) (ap (λ s. cond s v (f x y)) one) ∙ sym (ap (λ s. cond s v (cond (eqb x c && eqb y d) w (f x y))) one)

-- at one place twice: the later counts
pub with-twice : (f : ℕ → ℕ → ℤ) (a b c d : ℕ) (v w : ℤ) (x y : ℕ) → a ≡ c → b ≡ d → with_at (with_at f a b v) c d w x y ≡ with_at f a b w x y
with-twice f a b c d v w x y one two =
    ap (λ t. cond t w (cond (eqb x a && eqb y b) v (f x y))) (ap (λ n. eqb x n && eqb y d) (sym one) ∙ ap (λ n. eqb x a && eqb y n) (sym two))
    ∙ by_test (eqb x a && eqb y b)
  where
    by_test : (t : Bool) → cond t w (cond t v (f x y)) ≡ cond t w (f x y)
    by_test true = refl
    by_test false = refl

-- Two ledgers with the same values, in which what was found agrees but where it is let go.
pub record Alike (skip : ℕ → ℕ → Bool) (l m : Ledger) : Type 0 where
  pub value : (q k : ℕ) → l.value q k ≡ m.value q k
  pub found : (i b : ℕ) → skip i b ≡ false → l.found i b ≡ m.found i b

-- all values fit 64 bits
abbrev pub InRange : Ledger → Type 0
InRange l = (q k : ℕ) → Fits (l.value q k)

-- calls that look leave the value
looks-made : (kind : Kind) (c : Call) (undo : Bool) (v w : ℤ) → c.verb ≡ Look → made_of kind c undo v w ≡ v
looks-made kind c undo v w looks = by_undo undo
  where
    either : (t : Bool) → cond t v v ≡ v
    either true = refl
    either false = refl

    by_undo : (u : Bool) → made_of kind c u v w ≡ v
    by_undo true = ap (λ verb. cond (takes kind verb) (reverted_at verb c.amount v w) v) looks ∙ either (takes kind Look)
    by_undo false = ap (λ verb. cond (takes kind verb) (applied_at verb c.amount v) v) looks ∙ either (takes kind Look)

-- calls that make a sum or a difference
abbrev added : Bool → Bool → ℤ → ℤ → ℤ
added taken undo v a = cond taken (moved undo v a) v

-- a take goes down, and its undo up
abbrev turned : Verb → Bool → Bool
turned Take undo = not undo
turned Add undo = undo
turned Look undo = undo
turned Put undo = undo
turned Hold undo = undo
turned Free undo = undo

sum-at : (verb : Verb) (undo : Bool) (amount v w : ℤ) → is_sum verb ≡ true → cond undo (reverted_at verb amount v w) (applied_at verb amount v) ≡ moved (turned verb undo) v amount
sum-at Add true amount v w is = refl
sum-at Add false amount v w is = refl
sum-at Take true amount v w is = refl
sum-at Take false amount v w is = refl
sum-at Look undo amount v w is = absurd (false≢true is)
sum-at Put undo amount v w is = absurd (false≢true is)
sum-at Hold undo amount v w is = absurd (false≢true is)
sum-at Free undo amount v w is = absurd (false≢true is)

sums-made : (kind : Kind) (c : Call) (undo : Bool) (v w : ℤ) → is_sum c.verb ≡ true → made_of kind c undo v w ≡ added (takes kind c.verb) (turned c.verb undo) v c.amount
sums-made kind c true v w is = ap (λ x. cond (takes kind c.verb) x v) (sum-at c.verb true c.amount v w is)
sums-made kind c false v w is = ap (λ x. cond (takes kind c.verb) x v) (sum-at c.verb false c.amount v w is)

verb-made : (kind : Kind) (c : Call) (undo : Bool) (v w : ℤ) (verb : Verb) → c.verb ≡ verb → is_sum verb ≡ true → made_of kind c undo v w ≡ added (takes kind verb) (turned verb undo) v c.amount
verb-made kind c undo v w verb is sum =
    sums-made kind c undo v w (ap is_sum is ∙ sum) ∙ ap (λ x. added (takes kind x) (turned x undo) v c.amount) is

sums-commute : (taken s t : Bool) (v a b : ℤ) → Fits v → Fits a → Fits b → added taken t (added taken s v a) b ≡ added taken s (added taken t v b) a
sums-commute true s t v a b f g h = moves-commute s t v a b f g h
sums-commute false s t v a b f g h = refl

-- both are of one verb
abbrev pub Both : Verb → Verb → Verb → Type 0
Both verb a b = (a ≡ verb) × (b ≡ verb)

-- both of one verb that makes a sum
abbrev pub BothSum : Verb → Verb → Type 0
BothSum a b = (verb : Verb) × (is_sum verb ≡ true) × Both verb a b

pub commute-is : (a b : Verb) → commute a b ≡ true → Both Look a b ⊎ BothSum a b
commute-is Add Add is = inr (Add, refl, (refl, refl))
commute-is Add Take is = absurd (false≢true is)
commute-is Add Look is = absurd (false≢true is)
commute-is Add Put is = absurd (false≢true is)
commute-is Add Hold is = absurd (false≢true is)
commute-is Add Free is = absurd (false≢true is)
commute-is Take Take is = inr (Take, refl, (refl, refl))
commute-is Take Add is = absurd (false≢true is)
commute-is Take Look is = absurd (false≢true is)
commute-is Take Put is = absurd (false≢true is)
commute-is Take Hold is = absurd (false≢true is)
commute-is Take Free is = absurd (false≢true is)
commute-is Look Look is = inl (refl, refl)
commute-is Look Add is = absurd (false≢true is)
commute-is Look Take is = absurd (false≢true is)
commute-is Look Put is = absurd (false≢true is)
commute-is Look Hold is = absurd (false≢true is)
commute-is Look Free is = absurd (false≢true is)
commute-is Put b is = absurd (false≢true is)
commute-is Hold b is = absurd (false≢true is)
commute-is Free b is = absurd (false≢true is)

flip : (a b : ℕ) (t : Bool) → eqb a b ≡ t → eqb b a ≡ t
flip a b true is = eq-eqb b a (sym (eqb-true a b is))
flip a b false is = by_test (eqb b a) refl
  where
    by_test : (t : Bool) → eqb b a ≡ t → eqb b a ≡ false
    by_test true same = absurd (false≢true (sym is ∙ eq-eqb a b (sym (eqb-true b a same))))
    by_test false other = other

pub flip_both : (a b c d : ℕ) → (eqb a b && eqb c d) ≡ false → (eqb b a && eqb d c) ≡ false
flip_both a b c d is = ap (λ t. t && eqb d c) (flip a b (eqb a b) refl) ∙ (ap (λ t. eqb a b && t) (flip c d (eqb c d) refl) ∙ is)

both-left : (s t : Bool) → s ≡ false → (s && t) ≡ false
both-left s t is = ap (λ u. u && t) is

module _ (deeds : Deeds) where
  -- Alike stays alike.

  noted-alike : (l m : Ledger) (e : Entry) (i b : ℕ) → l.found i b ≡ m.found i b → met deeds l e ≡ met deeds m e → noted deeds l e i b ≡ noted deeds m e i b
  noted-alike l m e i b same values = by_undo e.undo
    where
      by_undo : (u : Bool) → (cond u l.found (with_at l.found e.process e.step (met deeds l e))) i b ≡ (cond u m.found (with_at m.found e.process e.step (met deeds m e))) i b
      by_undo true = same
      by_undo false = with-alike l.found m.found e.process e.step (met deeds l e) (met deeds m e) i b same values

  pub alike-after : (skip : ℕ → ℕ → Bool) (l m : Ledger) (e : Entry) → (skip e.process e.step ≡ true → is_sum (deeds e).call.verb ≡ true)
      → Alike skip l m → Alike skip (after deeds l e) (after deeds m e)
  alike-after skip l m e covered same = record {
    value = λ q k. with-alike l.value m.value (deeds e).subsystem (deeds e).call.key (left_by deeds l e) (left_by deeds m e) q k (same.value q k)
        (made-alike (kind_of (deeds e).subsystem) (deeds e).call e.undo (met deeds l e) (met deeds m e) (l.found e.process e.step) (m.found e.process e.step)
        values (λ no_sum. same.found e.process e.step (seen (skip e.process e.step) refl no_sum)));
    found = λ i b out. noted-alike l m e i b (same.found i b out) values;
  }
    where
      values : met deeds l e ≡ met deeds m e
      values = same.value (deeds e).subsystem (deeds e).call.key

      seen : (t : Bool) → skip e.process e.step ≡ t → is_sum (deeds e).call.verb ≡ false → skip e.process e.step ≡ false
      seen true is no_sum = absurd (false≢true (sym no_sum ∙ covered is))
      seen false is no_sum = is

  -- An entry of another process notes nothing there.
  pub noted-other : (l : Ledger) (e : Entry) (i b : ℕ) → (eqb i e.process && eqb b e.step) ≡ false → noted deeds l e i b ≡ l.found i b
  noted-other l e i b other = by_undo e.undo
    where
      by_undo : (u : Bool) → (cond u l.found (with_at l.found e.process e.step (met deeds l e))) i b ≡ l.found i b
      by_undo true = refl
      by_undo false = with-else l.found e.process e.step (met deeds l e) i b other

  -- What two entries of different processes note, in either order, where each meets the same in both.
  noted-both : (l m n : Ledger) (a b : Entry) (i s : ℕ) → eqb a.process b.process ≡ false
      → m.found ≡ noted deeds l a → n.found ≡ noted deeds l b → met deeds m b ≡ met deeds l b → met deeds n a ≡ met deeds l a
      → noted deeds m b i s ≡ noted deeds n a i s
  noted-both l m n a b i s apart after_a after_b meets_b meets_a =
      ap (λ f. (cond b.undo f (with_at f b.process b.step (met deeds m b))) i s) after_a
      ∙ (by_undos a.undo b.undo
      ∙ sym (ap (λ f. (cond a.undo f (with_at f a.process a.step (met deeds n a))) i s) after_b))
    where
      at_a : ℤ → (ℕ → ℕ → ℤ) → ℕ → ℕ → ℤ
      at_a v f = with_at f a.process a.step v

      at_b : ℤ → (ℕ → ℕ → ℤ) → ℕ → ℕ → ℤ
      at_b v f = with_at f b.process b.step v

      by_undos : (u t : Bool) → (cond t (cond u l.found (at_a (met deeds l a) l.found)) (at_b (met deeds m b) (cond u l.found (at_a (met deeds l a) l.found)))) i s
          ≡ (cond u (cond t l.found (at_b (met deeds l b) l.found)) (at_a (met deeds n a) (cond t l.found (at_b (met deeds l b) l.found)))) i s
      by_undos true true = refl
      by_undos true false = ap (λ v. at_b v l.found i s) meets_b
      by_undos false true = ap (λ v. at_a v l.found i s) (sym meets_a)
      by_undos false false =
          with-apart l.found a.process a.step b.process b.step (met deeds l a) (met deeds m b) i s (both-left (eqb a.process b.process) (eqb a.step b.step) apart)
          ∙ (ap (λ v. at_a (met deeds l a) (at_b v l.found) i s) meets_b ∙ ap (λ v. at_a v (at_b (met deeds l b) l.found) i s) (sym meets_a))

  module _ (sums : ℕ → ℕ → Bool) (l : Ledger) (a b : Entry) (apart : eqb a.process b.process ≡ false) where
    abbrev one : Ledger
    one = after deeds (after deeds l a) b

    abbrev two : Ledger
    two = after deeds (after deeds l b) a

    abbrev qa : ℕ
    qa = (deeds a).subsystem

    abbrev qb : ℕ
    qb = (deeds b).subsystem

    abbrev ka : ℕ
    ka = (deeds a).call.key

    abbrev kb : ℕ
    kb = (deeds b).call.key

    abbrev taken : Verb → Bool
    taken verb = takes (kind_of qa) verb

    -- at different places
    at_places : same_place deeds a b ≡ false → Alike sums one two
    at_places places = record {
      value = λ q k. ap (λ v. with_at (after deeds l a).value (deeds b).subsystem (deeds b).call.key v q k) leaves_b
          ∙ (with-apart l.value (deeds a).subsystem (deeds a).call.key (deeds b).subsystem (deeds b).call.key (left_by deeds l a) (left_by deeds l b) q k places
          ∙ sym (ap (λ v. with_at (after deeds l b).value (deeds a).subsystem (deeds a).call.key v q k) leaves_a));
      found = λ i s out. noted-both l (after deeds l a) (after deeds l b) a b i s apart refl refl meets_b meets_a;
    }
      where
        meets_b : met deeds (after deeds l a) b ≡ met deeds l b
        meets_b = with-else l.value (deeds a).subsystem (deeds a).call.key (left_by deeds l a) (deeds b).subsystem (deeds b).call.key
            (flip_both (deeds a).subsystem (deeds b).subsystem (deeds a).call.key (deeds b).call.key places)

        meets_a : met deeds (after deeds l b) a ≡ met deeds l a
        meets_a = with-else l.value (deeds b).subsystem (deeds b).call.key (left_by deeds l b) (deeds a).subsystem (deeds a).call.key places

        leaves_b : left_by deeds (after deeds l a) b ≡ left_by deeds l b
        leaves_b = made-alike (kind_of (deeds b).subsystem) (deeds b).call b.undo (met deeds (after deeds l a) b) (met deeds l b) (noted deeds l a b.process b.step) (l.found b.process b.step)
            meets_b (λ no_sum. noted-other l a b.process b.step (both-left (eqb b.process a.process) (eqb b.step a.step) (flip a.process b.process false apart)))

        leaves_a : left_by deeds (after deeds l b) a ≡ left_by deeds l a
        leaves_a = made-alike (kind_of (deeds a).subsystem) (deeds a).call a.undo (met deeds (after deeds l b) a) (met deeds l a) (noted deeds l b a.process a.step) (l.found a.process a.step)
            meets_a (λ no_sum. noted-other l b a.process a.step (both-left (eqb a.process b.process) (eqb a.step b.step) apart))

    -- a look leaves all values
    look-leaves : (m : Ledger) (e : Entry) → (deeds e).call.verb ≡ Look → (q k : ℕ) → (after deeds m e).value q k ≡ m.value q k
    look-leaves m e looks q k =
        ap (λ v. with_at m.value (deeds e).subsystem (deeds e).call.key v q k)
        (looks-made (kind_of (deeds e).subsystem) (deeds e).call e.undo (met deeds m e) (m.found e.process e.step) looks)
        ∙ by_test (eqb q (deeds e).subsystem && eqb k (deeds e).call.key) refl
      where
        by_test : (t : Bool) → (eqb q (deeds e).subsystem && eqb k (deeds e).call.key) ≡ t → with_at m.value (deeds e).subsystem (deeds e).call.key (met deeds m e) q k ≡ m.value q k
        by_test false other = with-else m.value (deeds e).subsystem (deeds e).call.key (met deeds m e) q k other
        by_test true here =
            let p = and_parts (eqb q (deeds e).subsystem) (eqb k (deeds e).call.key) here in
            with-here m.value (deeds e).subsystem (deeds e).call.key (met deeds m e) q k (eqb-true q (deeds e).subsystem p.0) (eqb-true k (deeds e).call.key p.1)
            ∙ (ap (λ x. m.value x (deeds e).call.key) (sym (eqb-true q (deeds e).subsystem p.0)) ∙ ap (m.value q) (sym (eqb-true k (deeds e).call.key p.1)))

    both_look : Both Look (deeds a).call.verb (deeds b).call.verb → Alike sums one two
    both_look looks = record {
      value = λ q k. look-leaves (after deeds l a) b looks.1 q k
          ∙ (look-leaves l a looks.0 q k ∙ sym (look-leaves (after deeds l b) a looks.0 q k ∙ look-leaves l b looks.1 q k));
      found = λ i s out. noted-both l (after deeds l a) (after deeds l b) a b i s apart refl refl
          (look-leaves l a looks.0 (deeds b).subsystem (deeds b).call.key) (look-leaves l b looks.1 (deeds a).subsystem (deeds a).call.key);
    }

    -- sums at one place
    both_sum : ((e : Entry) → sums e.process e.step ≡ is_sum (deeds e).call.verb) → ((e : Entry) → Fits (deeds e).call.amount) → InRange l
        → (verb : Verb) → is_sum verb ≡ true → Both verb (deeds a).call.verb (deeds b).call.verb → same_place deeds a b ≡ true → Alike sums one two
    both_sum known fits range verb sum is places = record {
      value = λ q k. with-twice l.value qa ka qb kb (left_by deeds l a) (left_by deeds (after deeds l a) b) q k same_q same_k
          ∙ (ap (λ v. with_at l.value qa ka v q k) values
          ∙ (ap (λ x. with_at l.value x ka (left_by deeds (after deeds l b) a) q k) same_q ∙ (ap (λ y. with_at l.value qb y (left_by deeds (after deeds l b) a) q k) same_k
          ∙ sym (with-twice l.value qb kb qa ka (left_by deeds l b) (left_by deeds (after deeds l b) a) q k (sym same_q) (sym same_k)))));
      found = λ i s out. (noted-other (after deeds l a) b i s (elsewhere b (ap is_sum is.1 ∙ sum) i s out) ∙ noted-other l a i s (elsewhere a (ap is_sum is.0 ∙ sum) i s out))
          ∙ sym (noted-other (after deeds l b) a i s (elsewhere a (ap is_sum is.0 ∙ sum) i s out) ∙ noted-other l b i s (elsewhere b (ap is_sum is.1 ∙ sum) i s out));
    }
      where
        same_q : qa ≡ qb
        same_q = eqb-true qa qb (and_parts (eqb qa qb) (eqb ka kb) places).0

        same_k : ka ≡ kb
        same_k = eqb-true ka kb (and_parts (eqb qa qb) (eqb ka kb) places).1

        same_v : met deeds l b ≡ met deeds l a
        same_v = ap (λ x. l.value x kb) (sym same_q) ∙ ap (l.value qa) (sym same_k)

        first_a : left_by deeds l a ≡ added (taken verb) (turned verb a.undo) (met deeds l a) (deeds a).call.amount
        first_a = verb-made (kind_of qa) (deeds a).call a.undo (met deeds l a) (l.found a.process a.step) verb is.0 sum

        first_b : left_by deeds l b ≡ added (taken verb) (turned verb b.undo) (met deeds l a) (deeds b).call.amount
        first_b =
            verb-made (kind_of qb) (deeds b).call b.undo (met deeds l b) (l.found b.process b.step) verb is.1 sum
            ∙ (ap (λ x. added (takes (kind_of x) verb) (turned verb b.undo) (met deeds l b) (deeds b).call.amount) (sym same_q)
            ∙ ap (λ x. added (taken verb) (turned verb b.undo) x (deeds b).call.amount) same_v)

        then_b : left_by deeds (after deeds l a) b ≡ added (taken verb) (turned verb b.undo) (added (taken verb) (turned verb a.undo) (met deeds l a) (deeds a).call.amount) (deeds b).call.amount
        then_b =
            verb-made (kind_of qb) (deeds b).call b.undo (met deeds (after deeds l a) b) (noted deeds l a b.process b.step) verb is.1 sum
            ∙ (ap (λ x. added (takes (kind_of x) verb) (turned verb b.undo) (met deeds (after deeds l a) b) (deeds b).call.amount) (sym same_q)
            ∙ ap (λ x. added (taken verb) (turned verb b.undo) x (deeds b).call.amount) (with-here l.value qa ka (left_by deeds l a) qb kb (sym same_q) (sym same_k) ∙ first_a))

        then_a : left_by deeds (after deeds l b) a ≡ added (taken verb) (turned verb a.undo) (added (taken verb) (turned verb b.undo) (met deeds l a) (deeds b).call.amount) (deeds a).call.amount
        then_a =
            verb-made (kind_of qa) (deeds a).call a.undo (met deeds (after deeds l b) a) (noted deeds l b a.process a.step) verb is.0 sum
            ∙ ap (λ x. added (taken verb) (turned verb a.undo) x (deeds a).call.amount) (with-here l.value qb kb (left_by deeds l b) qa ka same_q same_k ∙ first_b)

        values : left_by deeds (after deeds l a) b ≡ left_by deeds (after deeds l b) a
        values = then_b ∙ (sums-commute (taken verb) (turned verb a.undo) (turned verb b.undo) (met deeds l a) (deeds a).call.amount (deeds b).call.amount (range qa ka) (fits a) (fits b) ∙ sym then_a)

        -- a step that isn't an add is neither of the two
        elsewhere : (e : Entry) → is_sum (deeds e).call.verb ≡ true → (i s : ℕ) → sums i s ≡ false → (eqb i e.process && eqb s e.step) ≡ false
        elsewhere e add i s out = by_test (eqb i e.process && eqb s e.step) refl
          where
            by_test : (t : Bool) → (eqb i e.process && eqb s e.step) ≡ t → (eqb i e.process && eqb s e.step) ≡ false
            by_test false other = other
            by_test true here =
                let p = and_parts (eqb i e.process) (eqb s e.step) here in
                absurd (false≢true (sym out ∙ (ap (λ x. sums x s) (eqb-true i e.process p.0) ∙ (ap (sums e.process) (eqb-true s e.step p.1) ∙ (known e ∙ add)))))

-- Two entries that may change places leave the same either way.
pub exchanged-alike : (table : ConflictRelation) (deeds : Deeds) (sums : ℕ → ℕ → Bool) (known : Entry → Bool) → AreSound table deeds sums known → (l : Ledger) → InRange l → (a b : Entry)
    → known a ≡ true → known b ≡ true → can_change table a b ≡ true → Alike sums (after deeds (after deeds l a) b) (after deeds (after deeds l b) a)
exchanged-alike table deeds sums known sound l range a b a_known b_known can =
    by_place (same_place deeds a b) refl (sound.apart a b a_known b_known can)
  where
    apart : eqb a.process b.process ≡ false
    apart = not-true (eqb a.process b.process) (and_parts (not (eqb a.process b.process)) (not (conflict table a b)) can).0

    by_place : (t : Bool) → same_place deeds a b ≡ t → (same_place deeds a b ≡ false) ⊎ (commute (deeds a).call.verb (deeds b).call.verb ≡ true)
        → Alike sums (after deeds (after deeds l a) b) (after deeds (after deeds l b) a)
    by_place t is (inl places) = at_places deeds sums l a b apart places
    by_place false is (inr both) = at_places deeds sums l a b apart is
    by_place true is (inr both) =
        ⊎_elim (λ looks. both_look deeds sums l a b apart looks) (λ adding. both_sum deeds sums l a b apart sound.sum sound.fits range adding.0 adding.1 adding.2 is)
        (commute-is (deeds a).call.verb (deeds b).call.verb both)
