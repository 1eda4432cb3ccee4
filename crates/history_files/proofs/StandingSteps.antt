-- Each step that stands on a subsystem is one that the book of its effects can undo, after any history.
use Rattle.std.proofs.Common.{◌≡◌, ◌≢◌, ◌⊎◌, inl, inr, ◌+◌, eqb, ℕ, Bool, true, false, not, ◌||◌, List, [], ◌∷◌, ◌++◌, length, refl, sym, ◌∙◌, ap, subst, append-nil, if◌then◌else◌}
use Rattle.std.proofs.lemmas.Bool.{and_from, and_parts, eq-eqb, eqb-true, false≢true, or_left, or_right}
use Rattle.std.specs.Bool.{IsTrue}
use Rattle.std.proofs.lemmas.List.Elements.{All-contains}
use Rattle.std.proofs.lemmas.Bool.Decides.{eqb_tells}
use Rattle.std.proofs.lemmas.List.Folds.{list_any-append}
use Rattle.std.proofs.lemmas.List.Sums.{fold-append}
use Rattle.process_tree.specs.Entries.{access_of}
use Rattle.process_tree.specs.Conflicts.{Access}
use Rattle.process_tree.specs.declared.entry.Entry.{Entry}
use Rattle.process_tree.specs.declared.plan.Plan.{Plan}
use Rattle.schedule_model.specs.declared.event.Event.{Event}
use Rattle.schedule_model.specs.declared.event.Event.TheVariants.{Start, Act, End}
use Rattle.schedule_model.specs.Conflict.{ConflictRelation}
use Rattle.schedule_model.specs.Course.{Course, access_at}
use Rattle.schedule_model.specs.Histories.{acts, net, net_of, same_step}
use Rattle.schedule_model.specs.Legal.{is_clear, is_legal, may_come}
use Rattle.schedule_model.specs.OwnOrder.{keeps_order}
use Rattle.schedule_model.proofs.Acting.{act_in_order}
use Rattle.schedule_model.proofs.Appends.{acts-append}
use Rattle.schedule_model.proofs.Entries.{HasPlansAccess, All-net_acts, acts-of_plans}
use Rattle.schedule_model.proofs.Induction.{by_legal}
use Rattle.schedule_model.proofs.Members.{Among, among-append, among-filter, among_there, contains-from_among}
use Rattle.schedule_model.proofs.Snoc.{net-do, net-end, net-start, net-undo}
use Rattle.schedule_model.proofs.Started.{among_net_of}
use Rattle.schedule_model.proofs.Undoing.{Undoes, undoes}
use Rattle.commute_table.specs.declared.op.Op.{Op}
use Rattle.resource_box.specs.declared.call.Kind.{Kind}
use Rattle.resource_box.specs.Meaning.{value_at}
use Rattle.subsystem_store.specs.declared.effect.Effect.{Effect}
use Rattle.subsystem_store.specs.declared.effect.Undoable.{Undoable}
use Rattle.subsystem_store.specs.Values.{Settled, can_undo, done, is_of, settle, settled, take_last, undone, unused}
use Rattle.history_files.specs.Effects.{effect_of, effects_from, subsystem_of}
use Rattle.history_files.proofs.NextEffects.{effects_from-append, no_effect, one_effect}
use Rattle.history_files.proofs.Undoables.{can_be_of, found_where_is, of_itself, of_one_step, others_stay, undone_leaves}

module _ (ops : List Op) (plans : List Plan) (q : ℕ) (kind : Kind) where
  -- what the book of these entries can undo
  abbrev pub undoables : List Entry → List Undoable
  undoables es = (settled kind (effects_from ops plans q 0 es)).undoable

  -- the effect of an entry, whatever stands before it
  abbrev pub effect_for : Entry → Effect
  effect_for f = effect_of ops plans 0 f

  -- with an entry on the subsystem, and with one that isn't
  undoables_on : (es : List Entry) (e : Entry) → subsystem_of ops e.op ≡ q
      → undoables (es ++ e ∷ []) ≡ (settle kind (settled kind (effects_from ops plans q 0 es)) (effect_of ops plans (0 + length es) e)).undoable
  undoables_on es e on =
      ap (λ b. (settled kind b).undoable) (effects_from-append ops plans q 0 es (e ∷ []) ∙ ap (λ x. effects_from ops plans q 0 es ++ x) (one_effect ops plans q (0 + length es) e on))
      ∙ ap (λ (s : Settled). s.undoable) (fold-append (settle kind) unused (effects_from ops plans q 0 es) (effect_of ops plans (0 + length es) e ∷ []))

  undoables_off : (es : List Entry) (e : Entry) → subsystem_of ops e.op ≢ q → undoables (es ++ e ∷ []) ≡ undoables es
  undoables_off es e off =
      ap (λ b. (settled kind b).undoable)
      (effects_from-append ops plans q 0 es (e ∷ []) ∙ ap (λ x. effects_from ops plans q 0 es ++ x) (no_effect ops plans q (0 + length es) e off) ∙ append-nil (effects_from ops plans q 0 es))

  -- with an undo, what isn't of it stays
  undoables_undo : (es : List Entry) (e f : Entry) → subsystem_of ops e.op ≡ q → e.undo ≡ true → same_step f e ≡ false
      → can_be_of (effect_for f) (undoables (es ++ e ∷ [])) ≡ can_be_of (effect_for f) (undoables es)
  undoables_undo es e f on undo other =
      ap (can_be_of (effect_for f))
      (undoables_on es e on ∙ ap (λ u. (if u then undone kind s x (take_last x s.undoable) else done kind s x).undoable) undo ∙ undone_leaves kind s x (take_last x s.undoable))
      ∙ others_stay x (effect_for f) s.undoable (λ y one. apart y one (is_of (effect_for f) y.effect) refl)
    where
      x : Effect
      x = effect_of ops plans (0 + length es) e

      s : Settled
      s = settled kind (effects_from ops plans q 0 es)

      apart : (y : Undoable) → is_of x y.effect ≡ true → (b : Bool) → is_of (effect_for f) y.effect ≡ b → is_of (effect_for f) y.effect ≡ false
      apart y one false two = two
      apart y one true two =
          let same = of_one_step x (effect_for f) y.effect one two in
          absurd (false≢true (sym other ∙ and_from (eqb f.process e.process) (eqb f.step e.step) (eq-eqb f.process e.process same.0) (eq-eqb f.step e.step same.1)))

  -- with a step, it is the last
  undoables_do : (es : List Entry) (e : Entry) → subsystem_of ops e.op ≡ q → e.undo ≡ false → (f : Entry)
      → (can_be_of (effect_for f) (undoables es) ≡ true) ⊎ (f ≡ e) → can_be_of (effect_for f) (undoables (es ++ e ∷ [])) ≡ true
  undoables_do es e on forward f which =
      ap (can_be_of (effect_for f)) (undoables_on es e on ∙ ap (λ u. (if u then undone kind s x (take_last x s.undoable) else done kind s x).undoable) forward)
      ∙ list_any-append (λ (y : Undoable). is_of (effect_for f) y.effect) s.undoable (last ∷ []) ∙ by which
    where
      x : Effect
      x = effect_of ops plans (0 + length es) e

      s : Settled
      s = settled kind (effects_from ops plans q 0 es)

      last : Undoable
      last = record { effect = x; before = value_at s.pairs x.call.key }

      by : (can_be_of (effect_for f) s.undoable ≡ true) ⊎ (f ≡ e) → (can_be_of (effect_for f) s.undoable || can_be_of (effect_for f) (last ∷ [])) ≡ true
      by (inl before) = or_left (can_be_of (effect_for f) s.undoable) (can_be_of (effect_for f) (last ∷ [])) before
      by (inr now) =
          or_right (can_be_of (effect_for f) s.undoable) (can_be_of (effect_for f) (last ∷ []))
          (ap (λ b. b || false) (subst (λ (g : Entry). is_of (effect_for g) x ≡ true) (sym now) (of_itself (effect_for e) x refl refl refl)))

  -- each step that stands can be undone
  abbrev pub CanBeUndone : List Event → Type 0
  CanBeUndone h = (f : Entry) → Among f (net h) → subsystem_of ops f.op ≡ q → can_be_of (effect_for f) (undoables (acts h)) ≡ true

  still_can : (h : List Event) (e : Event) → CanBeUndone h → CanBeUndone (h ++ e ∷ [])
  still_can h (Start i) can f is on =
      subst (λ es. can_be_of (effect_for f) (undoables es) ≡ true) (sym (acts-append h (Start i ∷ []) ∙ append-nil (acts h))) (can f (subst (Among f) (net-start h i) is) on)
  still_can h (End i) can f is on =
      subst (λ es. can_be_of (effect_for f) (undoables es) ≡ true) (sym (acts-append h (End i ∷ []) ∙ append-nil (acts h))) (can f (subst (Among f) (net-end h i) is) on)
  still_can h (Act e) can f is on =
      subst (λ es. can_be_of (effect_for f) (undoables es) ≡ true) (sym (acts-append h (Act e ∷ []))) (by e.undo refl (eqb_tells (subsystem_of ops e.op) q))
    where
      untrue : (b : Bool) → not b ≡ true → b ≡ false
      untrue true is = absurd (false≢true is)
      untrue false is = refl

      stood : e.undo ≡ true → Among f (net h) × (not (same_step f e) ≡ true)
      stood undo = among-filter (λ (g : Entry). not (same_step g e)) f (net h) (subst (Among f) (net-undo h e undo) is)

      was : e.undo ≡ false → (can_be_of (effect_for f) (undoables (acts h)) ≡ true) ⊎ (f ≡ e)
      was forward = by_place (among-append f (net h) (e ∷ []) (subst (Among f) (net-do h e forward) is))
        where
          by_place : Among f (net h) ⊎ Among f (e ∷ []) → (can_be_of (effect_for f) (undoables (acts h)) ≡ true) ⊎ (f ≡ e)
          by_place (inl before) = inl (can f before on)
          by_place (inr (inl now)) = inr (sym now)
          by_place (inr (inr none)) = absurd none

      by : (u : Bool) → e.undo ≡ u → ((eqb (subsystem_of ops e.op) q ≡ true) × (subsystem_of ops e.op ≡ q)) ⊎ ((eqb (subsystem_of ops e.op) q ≡ false) × (subsystem_of ops e.op ≢ q))
          → can_be_of (effect_for f) (undoables (acts h ++ e ∷ [])) ≡ true
      by true undo (inl here) = undoables_undo (acts h) e f here.1 undo (untrue (same_step f e) (stood undo).1) ∙ can f (stood undo).0 on
      by true undo (inr there) = ap (can_be_of (effect_for f)) (undoables_off (acts h) e there.1) ∙ can f (stood undo).0 on
      by false forward (inl here) = undoables_do (acts h) e here.1 forward f (was forward)
      by false forward (inr there) = by_was (was forward)
        where
          by_was : (can_be_of (effect_for f) (undoables (acts h)) ≡ true) ⊎ (f ≡ e) → can_be_of (effect_for f) (undoables (acts h ++ e ∷ [])) ≡ true
          by_was (inl before) = ap (can_be_of (effect_for f)) (undoables_off (acts h) e there.1) ∙ before
          by_was (inr now) = absurd (there.1 (subst (λ (g : Entry). subsystem_of ops g.op ≡ q) now on))

  -- so it is in each legal history
  pub can_be_undone : (table : ConflictRelation) (courses : List Course) (h : List Event) → IsTrue (is_legal table courses h) → CanBeUndone h
  can_be_undone table courses h legal = by_legal table courses CanBeUndone (λ g e before may can. still_can g e can) (λ f is. absurd is) h legal

  -- and an undo that may come is of one that can be undone
  pub undo_has_forward : (table : ConflictRelation) (courses : List Course) (h : List Event) (e : Entry) (n : ℕ) → IsTrue (is_legal table courses h) → IsTrue (may_come table courses h (Act e))
      → e.undo ≡ true → subsystem_of ops e.op ≡ q → can_undo kind (effects_from ops plans q 0 (acts h)) (effect_of ops plans n e) ≡ true
  undo_has_forward table courses h e n legal may undo on =
      found_where_is (effect_of ops plans n e) (undoables (acts h))
      (sym (ap (λ p. at p does.last.step does.last.op) stands.1 ∙ ap (λ s. at e.process s does.last.op) same ∙ ap (at e.process e.step) op)
      ∙ can_be_undone table courses h legal does.last stands.0 (ap (subsystem_of ops) op ∙ on))
    where
      -- whether an entry of this step can be undone
      at : ℕ → ℕ → ℕ → Bool
      at p s o = can_be_of (effect_for (record { process = p; step = s; op = o; key = 0; undo = true })) (undoables (acts h))

      does : Undoes courses e h (h ++ Act e ∷ [])
      does = undoes table courses h e legal undo may

      stands : Among does.last (net h) × (does.last.process ≡ e.process)
      stands = among_net_of h e.process does.last (subst (Among does.last) (sym does.net) (among_there (net_of (h ++ Act e ∷ []) e.process) does.last []))

      same : does.last.step ≡ e.step
      same = eqb-true does.last.step e.step (and_parts (eqb does.last.process e.process) (eqb does.last.step e.step) does.same).1

      keeps : IsTrue (keeps_order courses h (Act e))
      keeps = (and_parts (keeps_order courses h (Act e)) (is_clear table courses h (Act e)) may).0

      access : access_of does.last ≡ access_of e
      access =
          All-contains (HasPlansAccess courses) (net h) does.last (All-net_acts (HasPlansAccess courses) (acts h) (acts-of_plans table courses h legal)) (contains-from_among does.last (net h) stands.0)
          ∙ ap (λ p. access_at courses p does.last.step) stands.1 ∙ ap (access_at courses e.process) same ∙ sym (act_in_order courses h e keeps).1

      op : does.last.op ≡ e.op
      op = ap (λ (a : Access). a.op) access
