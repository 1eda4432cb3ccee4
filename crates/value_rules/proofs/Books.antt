-- The values of a book are those of a ledger, after each beginning of a legal history, and of a list of steps.
use Rattle.std.proofs.Common.{◌≡◌, ◌≢◌, ◌⊎◌, inl, inr, ⊎_elim, ℕ, Bool, true, false, cond, eqb, ◌&&◌, List, [], ◌∷◌, Option, Some, None, refl, sym, ap, ◌∙◌, subst, if◌then◌else◌}
use Rattle.std.proofs.Math.IntN.{ℤ}
use Rattle.std.proofs.lemmas.Bool.{and_parts, eqb-true}
use Rattle.std.proofs.lemmas.Bool.Decides.{eqb_tells}
use Rattle.process_tree.specs.declared.entry.Entry.{Entry}
use Rattle.process_tree.specs.declared.plan.Plan.{Plan}
use Rattle.schedule_model.proofs.Members.{Among, among-append}
use Rattle.commute_table.specs.declared.op.Op.{Op}
use Rattle.resource_box.specs.declared.call.Call.{Call}
use Rattle.resource_box.specs.Meaning.{value_at, with_value}
use Rattle.resource_box.specs.Table.{applied, kind_of, reverted}
use Rattle.resource_box.proofs.Maps.{keeps_other_keys, reads_what_was_set}
use Rattle.subsystem_store.specs.declared.effect.Effect.{Effect}
use Rattle.subsystem_store.specs.declared.effect.Undoable.{Undoable}
use Rattle.subsystem_store.specs.Values.{Settled, done, is_of, same_call, settle, take_last, take_later, undone}
use Rattle.history_files.specs.Effects.{call_of, effect_of, subsystem_of}
use Rattle.value_rules.specs.Ledgers.{Deed, Deeds, Ledger, after, left_by, made_of, met, with_at}
use Rattle.value_rules.proofs.Steps.{with-else, with-here}

-- what is taken: where it was found, it is of the same process and step
record Taken (undo : Effect) (us : List Undoable) (found : ℤ × List Undoable) : Type 0 where
  one : Undoable
  there : Among one us
  own : (one.effect.process ≡ undo.process) × (one.effect.step ≡ undo.step)
  before : found.0 ≡ one.before
  left : (u : Undoable) → Among u found.1 → Among u us

same_some : (one two : ℤ × List Undoable) → Some one ≡ Some two → one ≡ two
same_some one two is = cc

own_of : (undo forward : Effect) → is_of undo forward ≡ true → (forward.process ≡ undo.process) × (forward.step ≡ undo.step)
own_of undo forward is =
    let both = (and_parts (eqb undo.process forward.process && eqb undo.step forward.step) (same_call undo.call forward.call) is).0 in
    let parts = and_parts (eqb undo.process forward.process) (eqb undo.step forward.step) both in
    (sym (eqb-true undo.process forward.process parts.0), sym (eqb-true undo.step forward.step parts.1))

taken : (undo : Effect) (us : List Undoable) (found : ℤ × List Undoable) → take_last undo us ≡ Some found → Taken undo us found
taken undo [] found is = absurd (cc)
taken undo (first ∷ us) found is = by (take_last undo us) (is_of undo first.effect) refl refl is (λ f later. taken undo us f later)
  where
    by : (o : Option (ℤ × List Undoable)) (b : Bool) → take_last undo us ≡ o → is_of undo first.effect ≡ b → take_later undo first us o ≡ Some found
        → ((f : ℤ × List Undoable) → take_last undo us ≡ Some f → Taken undo us f) → Taken undo (first ∷ us) found
    by (Some f) b o_is b_is told further =
        let t = further f o_is in
        let same : (f.0, first ∷ f.1) ≡ found = same_some (f.0, first ∷ f.1) found told in
        subst (Taken undo (first ∷ us)) same (record { one = t.one; there = inr t.there; own = t.own; before = t.before; left = λ u is'. ⊎_elim (λ here. inl here) (λ later. inr (t.left u later)) is' })
    by None true o_is b_is told further =
        let now : Some (first.before, us) ≡ Some found = subst (λ b. (if b then Some (first.before, us) else None) ≡ Some found) b_is told in
        let same : (first.before, us) ≡ found = same_some (first.before, us) found now in
        subst (Taken undo (first ∷ us)) same (record { one = first; there = inl refl; own = own_of undo first.effect b_is; before = refl; left = λ u is'. inr is' })
    by None false o_is b_is told further = absurd (let no : None ≡ Some found = subst (λ b. (if b then Some (first.before, us) else None) ≡ Some found) b_is told in cc)

-- what is left was there
pub left_among : (undo : Effect) (us : List Undoable) (found : ℤ × List Undoable) → take_last undo us ≡ Some found → (u : Undoable) → Among u found.1 → Among u us
left_among undo us found is u there = (taken undo us found is).left u there

module _ (ops : List Op) (plans : List Plan) (deeds : Deeds) where
  -- the deed of an entry is what its operation and its plan say
  abbrev pub IsDeed : Entry → Type 0
  IsDeed e = deeds e ≡ record { subsystem = subsystem_of ops e.op; call = call_of ops plans e }

  -- the values of subsystem q in a ledger
  abbrev pub Values : ℕ → Ledger → Settled → Type 0
  Values q l s = (k : ℕ) → value_at s.pairs k ≡ l.value q k

  -- what steps found that can be undone
  abbrev pub Founds : Ledger → Settled → Type 0
  Founds l s = (u : Undoable) → Among u s.undoable → u.before ≡ l.found u.effect.process u.effect.step

  -- set at one key in both
  set_both : (q key : ℕ) (l : Ledger) (pairs : List (ℕ × ℤ)) (v w : ℤ) → ((k : ℕ) → value_at pairs k ≡ l.value q k) → v ≡ w → (k : ℕ)
      → value_at (with_value pairs key v) k ≡ with_at l.value q key w q k
  set_both q key l pairs v w same is k = by (eqb_tells k key)
    where
      by : ((eqb k key ≡ true) × (k ≡ key)) ⊎ ((eqb k key ≡ false) × (k ≢ key)) → value_at (with_value pairs key v) k ≡ with_at l.value q key w q k
      by (inl here) =
          ap (value_at (with_value pairs key v)) here.1 ∙ (reads_what_was_set pairs key v ∙ (is ∙ sym (with-here l.value q key w q k refl here.1)))
      by (inr there) =
          keeps_other_keys pairs key v k there.1
          ∙ (same k ∙ sym (with-else l.value q key w q k (ap (λ t. eqb q q && t) there.0 ∙ and_none (eqb q q))))
        where
          and_none : (t : Bool) → (t && false) ≡ false
          and_none true = refl
          and_none false = refl

  module _ (q : ℕ) (n : ℕ) (l : Ledger) (s : Settled) (e : Entry) (deed : IsDeed e) where
    abbrev x : Effect
    x = effect_of ops plans n e

    sub_is : (deeds e).subsystem ≡ subsystem_of ops e.op
    sub_is = ap (λ (d : Deed). d.subsystem) deed

    call_is : (deeds e).call ≡ call_of ops plans e
    call_is = ap (λ (d : Deed). d.call) deed

    -- an entry of another subsystem leaves these values
    pub values-off : subsystem_of ops e.op ≢ q → Values q l s → Values q (after deeds l e) s
    values-off off same k =
        same k ∙ sym (with-else l.value (deeds e).subsystem (deeds e).call.key (left_by deeds l e) q k (by (eqb_tells q (deeds e).subsystem)))
      where
        by : ((eqb q (deeds e).subsystem ≡ true) × (q ≡ (deeds e).subsystem)) ⊎ ((eqb q (deeds e).subsystem ≡ false) × (q ≢ (deeds e).subsystem))
            → (eqb q (deeds e).subsystem && eqb k (deeds e).call.key) ≡ false
        by (inl here) = absurd (off (sym sub_is ∙ sym here.1))
        by (inr there) = ap (λ t. t && eqb k (deeds e).call.key) there.0

    module _ (on : subsystem_of ops e.op ≡ q) (same : Values q l s) where
      -- what is met and left, in the words of the book
      met_is : met deeds l e ≡ value_at s.pairs x.call.key
      met_is =
          ap (λ p. l.value p (deeds e).call.key) (sub_is ∙ on)
          ∙ (ap (λ (c : Call). l.value q c.key) call_is ∙ sym (same x.call.key))

      left_is : (w : ℤ) → made_of (kind_of (deeds e).subsystem) (deeds e).call e.undo (met deeds l e) w ≡ made_of (kind_of q) x.call e.undo (value_at s.pairs x.call.key) w
      left_is w =
          ap (λ p. made_of (kind_of p) (deeds e).call e.undo (met deeds l e) w) (sub_is ∙ on)
          ∙ (ap (λ c. made_of (kind_of q) c e.undo (met deeds l e) w) call_is
          ∙ ap (λ v. made_of (kind_of q) x.call e.undo v w) met_is)

      set_on : (v : ℤ) → v ≡ left_by deeds l e → (k : ℕ) → value_at (with_value s.pairs x.call.key v) k ≡ (after deeds l e).value q k
      set_on v is k =
          set_both q x.call.key l s.pairs v (left_by deeds l e) same is k
          ∙ (ap (λ p. with_at l.value p x.call.key (left_by deeds l e) q k) (sym (sub_is ∙ on))
          ∙ ap (λ (c : Call). with_at l.value (deeds e).subsystem c.key (left_by deeds l e) q k) (sym call_is))

      -- a step
      pub values-do : e.undo ≡ false → Values q (after deeds l e) (settle (kind_of q) s x)
      values-do is_step k =
          ap (λ u. value_at (if u then undone (kind_of q) s x (take_last x s.undoable) else done (kind_of q) s x).pairs k) is_step
          ∙ set_on (applied (kind_of q) x.call (value_at s.pairs x.call.key))
          (sym (left_is (l.found e.process e.step) ∙ ap (λ u. made_of (kind_of q) x.call u (value_at s.pairs x.call.key) (l.found e.process e.step)) is_step)) k

      -- an undo of what can be undone
      module _ (undo : e.undo ≡ true) (founds : Founds l s) (found : ℤ × List Undoable) (is : take_last x s.undoable ≡ Some found) where
        t : Taken x s.undoable found
        t = taken x s.undoable found is

        before_is : found.0 ≡ l.found e.process e.step
        before_is = t.before ∙ (founds t.one t.there ∙ (ap (λ i. l.found i t.one.effect.step) t.own.0 ∙ ap (l.found e.process) t.own.1))

        settled_is : settle (kind_of q) s x ≡ undone (kind_of q) s x (Some found)
        settled_is =
            ap (λ u. if u then undone (kind_of q) s x (take_last x s.undoable) else done (kind_of q) s x) undo
            ∙ ap (undone (kind_of q) s x) is

        pub values-undo : Values q (after deeds l e) (settle (kind_of q) s x)
        values-undo k =
            ap (λ (r : Settled). value_at r.pairs k) settled_is
            ∙ set_on (reverted (kind_of q) x.call (value_at s.pairs x.call.key) found.0)
            (ap (λ w. reverted (kind_of q) x.call (value_at s.pairs x.call.key) w) before_is
            ∙ sym (left_is (l.found e.process e.step) ∙ ap (λ u. made_of (kind_of q) x.call u (value_at s.pairs x.call.key) (l.found e.process e.step)) undo)) k

        pub founds-undo : Founds (after deeds l e) (settle (kind_of q) s x)
        founds-undo u there =
            founds u (t.left u (subst (λ (r : Settled). Among u r.undoable) settled_is there))
            ∙ ap (λ b. (cond b l.found (with_at l.found e.process e.step (met deeds l e))) u.effect.process u.effect.step) (sym undo)

      -- what a step found is noted
      pub founds-do : e.undo ≡ false → Founds l s → ((u : Undoable) → Among u s.undoable → (eqb u.effect.process e.process && eqb u.effect.step e.step) ≡ false)
          → Founds (after deeds l e) (settle (kind_of q) s x)
      founds-do is_step founds fresh u there =
          by (among-append u s.undoable (last ∷ []) (subst (λ (r : Settled). Among u r.undoable)
          (ap (λ b. if b then undone (kind_of q) s x (take_last x s.undoable) else done (kind_of q) s x) is_step) there))
          ∙ ap (λ b. (cond b l.found (with_at l.found e.process e.step (met deeds l e))) u.effect.process u.effect.step) (sym is_step)
        where
          last : Undoable
          last = record { effect = x; before = value_at s.pairs x.call.key }

          by : Among u s.undoable ⊎ Among u (last ∷ []) → u.before ≡ with_at l.found e.process e.step (met deeds l e) u.effect.process u.effect.step
          by (inl old) = founds u old ∙ sym (with-else l.found e.process e.step (met deeds l e) u.effect.process u.effect.step (fresh u old))
          by (inr (inl new)) =
              subst (λ (v : Undoable). v.before ≡ with_at l.found e.process e.step (met deeds l e) v.effect.process v.effect.step) new
              (sym (with-here l.found e.process e.step (met deeds l e) e.process e.step refl refl ∙ met_is))
          by (inr (inr none)) = absurd none

    -- an entry of another subsystem leaves what steps of this one found
    pub founds-off : Founds l s → (e.undo ≡ false → (u : Undoable) → Among u s.undoable → (eqb u.effect.process e.process && eqb u.effect.step e.step) ≡ false)
        → Founds (after deeds l e) s
    founds-off founds fresh u there = founds u there ∙ by e.undo refl
      where
        by : (b : Bool) → e.undo ≡ b → l.found u.effect.process u.effect.step ≡ (cond e.undo l.found (with_at l.found e.process e.step (met deeds l e))) u.effect.process u.effect.step
        by true undo = ap (λ b. (cond b l.found (with_at l.found e.process e.step (met deeds l e))) u.effect.process u.effect.step) (sym undo)
        by false is_step =
            sym (with-else l.found e.process e.step (met deeds l e) u.effect.process u.effect.step (fresh is_step u there))
            ∙ ap (λ b. (cond b l.found (with_at l.found e.process e.step (met deeds l e))) u.effect.process u.effect.step) (sym is_step)
