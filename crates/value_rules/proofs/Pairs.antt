-- Values stay in range; a step and its undo directly behind it leave them.
use Rattle.std.proofs.Common.{◌≡◌, ℕ, Bool, true, false, cond, eqb, ◌&&◌, refl, sym, ap, ◌∙◌, w64, arith}
use Rattle.std.proofs.Math.IntN.{ℤ, pos}
use Rattle.std.proofs.lemmas.Int.{fits_signed_from_abs}
use Rattle.std.proofs.lemmas.Bool.{and_parts, eqb-true}
use Rattle.process_tree.specs.declared.entry.Entry.{Entry}
use Rattle.commute_table.specs.declared.op.Verb.{Verb}
use Rattle.commute_table.specs.declared.op.Verb.TheVariants.{Add, Take, Look, Put, Hold, Free}
use Rattle.resource_box.specs.declared.call.Call.{Call}
use Rattle.resource_box.specs.declared.call.Kind.{Kind}
use Rattle.resource_box.specs.Table.{applied_at, reverted_at, takes, kind_of}
use Rattle.value_rules.specs.Ledgers.{Deeds, Ledger, with_at, met, made_of, left_by, after}
use Rattle.value_rules.proofs.Wraps.{Fits, moved-fits, added_back, taken_back}
use Rattle.value_rules.proofs.Steps.{InRange, with-else, with-here, with-twice, noted-other}

pub zero_fits : Fits (pos 0)
zero_fits = fits_signed_from_abs w64 (pos 0) (omega arith)

either : (t : Bool) (x y : ℤ) → Fits x → Fits y → Fits (cond t x y)
either true x y f g = f
either false x y f g = g

module _ (deeds : Deeds) (fits : (e : Entry) → Fits (deeds e).call.amount) where
  -- Values stay in range, where what was found is.
  pub record Ranged (l : Ledger) : Type 0 where
    pub value : InRange l
    pub found : (i b : ℕ) → Fits (l.found i b)

  at_fits : (verb : Verb) (amount v w : ℤ) → Fits amount → Fits v → Fits w → Fits (applied_at verb amount v) × Fits (reverted_at verb amount v w)
  at_fits Add amount v w f g h = (moved-fits false v amount g f, moved-fits true v amount g f)
  at_fits Take amount v w f g h = (moved-fits true v amount g f, moved-fits false v amount g f)
  at_fits Look amount v w f g h = (g, g)
  at_fits Put amount v w f g h = (f, h)
  at_fits Hold amount v w f g h = (f, h)
  at_fits Free amount v w f g h = (zero_fits, h)

  made-fits : (kind : Kind) (c : Call) (undo : Bool) (v w : ℤ) → Fits c.amount → Fits v → Fits w → Fits (made_of kind c undo v w)
  made-fits kind c true v w f g h = either (takes kind c.verb) (reverted_at c.verb c.amount v w) v (at_fits c.verb c.amount v w f g h).1 g
  made-fits kind c false v w f g h = either (takes kind c.verb) (applied_at c.verb c.amount v) v (at_fits c.verb c.amount v w f g h).0 g

  with-fits : (f : ℕ → ℕ → ℤ) (a b : ℕ) (v : ℤ) → ((x y : ℕ) → Fits (f x y)) → Fits v → (x y : ℕ) → Fits (with_at f a b v x y)
  with-fits f a b v all new x y = either (eqb x a && eqb y b) v (f x y) new (all x y)

  pub after-ranged : (l : Ledger) (e : Entry) → Ranged l → Ranged (after deeds l e)
  after-ranged l e r = record {
    value = with-fits l.value (deeds e).subsystem (deeds e).call.key (left_by deeds l e) r.value
        (made-fits (kind_of (deeds e).subsystem) (deeds e).call e.undo (met deeds l e) (l.found e.process e.step) (fits e) (r.value (deeds e).subsystem (deeds e).call.key) (r.found e.process e.step));
    found = by_undo e.undo;
  }
    where
      by_undo : (u : Bool) (i b : ℕ) → Fits ((cond u l.found (with_at l.found e.process e.step (met deeds l e))) i b)
      by_undo true i b = r.found i b
      by_undo false i b = with-fits l.found e.process e.step (met deeds l e) r.found (r.value (deeds e).subsystem (deeds e).call.key) i b

  -- A step and its undo behind it leave the values.
  back : (kind : Kind) (c : Call) (v : ℤ) → Fits c.amount → Fits v → made_of kind c true (made_of kind c false v v) v ≡ v
  back kind c v f g = by_takes (takes kind c.verb)
    where
      at : (verb : Verb) (amount : ℤ) → Fits amount → reverted_at verb amount (applied_at verb amount v) v ≡ v
      at Add amount fa = added_back v amount g fa
      at Take amount fa = taken_back v amount g fa
      at Look amount fa = refl
      at Put amount fa = refl
      at Hold amount fa = refl
      at Free amount fa = refl

      by_takes : (t : Bool) → cond t (reverted_at c.verb c.amount (cond t (applied_at c.verb c.amount v) v) v) (cond t (applied_at c.verb c.amount v) v) ≡ v
      by_takes true = at c.verb c.amount f
      by_takes false = refl

  module _ (l : Ledger) (a b : Entry) (r : Ranged l) (same : deeds b ≡ deeds a) (own : b.process ≡ a.process) (step : b.step ≡ a.step) (done : a.undo ≡ false) (undone : b.undo ≡ true) where
    abbrev q_of : ℕ
    q_of = (deeds a).subsystem

    abbrev k_of : ℕ
    k_of = (deeds a).call.key

    made_a : left_by deeds l a ≡ made_of (kind_of q_of) (deeds a).call false (met deeds l a) (met deeds l a)
    made_a = ap (λ u. made_of (kind_of q_of) (deeds a).call u (met deeds l a) (l.found a.process a.step)) done

    found_b : (after deeds l a).found b.process b.step ≡ met deeds l a
    found_b =
        ap (λ u. (cond u l.found (with_at l.found a.process a.step (met deeds l a))) b.process b.step) done
        ∙ with-here l.found a.process a.step (met deeds l a) b.process b.step own step

    made_b : left_by deeds (after deeds l a) b ≡ met deeds l a
    made_b =
        ap (λ d. made_of (kind_of d.subsystem) d.call b.undo ((after deeds l a).value d.subsystem d.call.key) ((after deeds l a).found b.process b.step)) same
        ∙ (ap (λ u. made_of (kind_of q_of) (deeds a).call u ((after deeds l a).value q_of k_of) ((after deeds l a).found b.process b.step)) undone
        ∙ (ap (λ w. made_of (kind_of q_of) (deeds a).call true ((after deeds l a).value q_of k_of) w) found_b
        ∙ (ap (λ v. made_of (kind_of q_of) (deeds a).call true v (met deeds l a)) (with-here l.value q_of k_of (left_by deeds l a) q_of k_of refl refl ∙ made_a)
        ∙ back (kind_of q_of) (deeds a).call (met deeds l a) (fits a) (r.value q_of k_of))))

    pub pair-leaves : (q k : ℕ) → (after deeds (after deeds l a) b).value q k ≡ l.value q k
    pair-leaves q k =
        ap (λ d. with_at (after deeds l a).value d.subsystem d.call.key (left_by deeds (after deeds l a) b) q k) same
        ∙ (ap (λ v. with_at (after deeds l a).value q_of k_of v q k) made_b
        ∙ (with-twice l.value q_of k_of q_of k_of (left_by deeds l a) (met deeds l a) q k refl refl ∙ by_test (eqb q q_of && eqb k k_of) refl))
      where
        by_test : (t : Bool) → (eqb q q_of && eqb k k_of) ≡ t → with_at l.value q_of k_of (met deeds l a) q k ≡ l.value q k
        by_test false other = with-else l.value q_of k_of (met deeds l a) q k other
        by_test true here =
            let p = and_parts (eqb q q_of) (eqb k k_of) here in
            with-here l.value q_of k_of (met deeds l a) q k (eqb-true q q_of p.0) (eqb-true k k_of p.1)
            ∙ (ap (λ x. l.value x k_of) (sym (eqb-true q q_of p.0)) ∙ ap (l.value q) (sym (eqb-true k k_of p.1)))

    pub pair-notes : (i s : ℕ) → (eqb i a.process && eqb s a.step) ≡ false → (after deeds (after deeds l a) b).found i s ≡ l.found i s
    pair-notes i s other =
        ap (λ u. (cond u (after deeds l a).found (with_at (after deeds l a).found b.process b.step (met deeds (after deeds l a) b))) i s) undone
        ∙ noted-other deeds l a i s other
