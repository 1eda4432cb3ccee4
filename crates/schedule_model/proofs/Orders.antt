-- What stands behind an entry of the net, before an event and after it.
use Rattle.std.proofs.Common.{◌≡◌, ◌⊎◌, inl, inr, Bool, true, false, not, cond, eqb, ◌&&◌, List, [], ◌∷◌, ◌++◌, sym, refl, ap, ◌∙◌, subst}
use Rattle.std.specs.Bool.{IsTrue}
use Rattle.std.proofs.lemmas.Bool.{not-true, eqb-true, and_parts}
use Rattle.process_tree.specs.declared.entry.Entry.{Entry}
use Rattle.schedule_model.specs.declared.event.Event.{Event}
use Rattle.schedule_model.specs.declared.event.Event.TheVariants.{Act}
use Rattle.schedule_model.specs.Histories.{net, same_step, is_active}
use Rattle.schedule_model.specs.Holdings.{at_rest, behind, active_net, holders}
use Rattle.schedule_model.specs.Course.{Course}
use Rattle.schedule_model.proofs.Members.{Among, among-append, among-filter, in_filter, any-among}
use Rattle.schedule_model.proofs.Behind.{has_step, behind-first, behind-second, behind-filter, same_step-itself, same_step-process}
use Rattle.schedule_model.proofs.Snoc.{net-do, net-undo}
use Rattle.schedule_model.proofs.Clear.{is_holder}
use Rattle.schedule_model.specs.Histories.{is_in}

-- one that stands is of its own step
pub has_step-among : (x : Entry) (es : List Entry) → Among x es → has_step x es ≡ true
has_step-among x es is = any-among (same_step x) x es is (same_step-itself x)

pub same_step-through : (a b c : Entry) → same_step a b ≡ true → same_step a c ≡ same_step b c
same_step-through a b c is =
    let parts = and_parts (eqb a.process b.process) (eqb a.step b.step) is in
    ap (λ p. eqb p c.process && eqb a.step c.step) (eqb-true a.process b.process parts.0)
    ∙ ap (λ s. eqb b.process c.process && eqb s c.step) (eqb-true a.step b.step parts.1)

-- what stands behind entries of one step is the same
pub behind-same_step : (es : List Entry) (a b : Entry) → same_step a b ≡ true → behind a es ≡ behind b es
behind-same_step [] a b same = refl
behind-same_step (e ∷ es) a b same =
    ap (λ t. cond t es (behind a es)) (same_step-through a b e same) ∙ ap (λ ys. cond (same_step b e) es ys) (behind-same_step es a b same)

-- Behind an entry after an undo stands what stood behind it.
pub behind-undo : (h : List Event) (u x e : Entry) → u.undo ≡ true → Among x (net (h ++ Act u ∷ [])) → Among e (behind x (net (h ++ Act u ∷ [])))
    → Among x (net h) × Among e (behind x (net h)) × (same_step e u ≡ false)
behind-undo h u x e undo there back =
    let kept = among-filter (λ (f : Entry). not (same_step f u)) x (net h) (subst (Among x) (net-undo h u undo) there) in
    let other = not-true (same_step x u) kept.1 in
    let keeps : (f : Entry) → same_step x f ≡ true → not (same_step f u) ≡ true =
    (λ f same. ap not (sym (same_step-through x f u same) ∙ other)) in
    let found = among-filter (λ (f : Entry). not (same_step f u)) e (behind x (net h))
    (subst (Among e) (ap (behind x) (net-undo h u undo) ∙ behind-filter (λ (f : Entry). not (same_step f u)) x (net h) keeps) back) in
    (kept.0, found.0, not-true (same_step e u) found.1)

-- After a step: what stood behind, or the step itself.
pub behind-do : (h : List Event) (s x e : Entry) → s.undo ≡ false → has_step s (net h) ≡ false → Among x (net (h ++ Act s ∷ [])) → Among e (behind x (net (h ++ Act s ∷ [])))
    → Among x (net h) × (Among e (behind x (net h)) ⊎ (s ≡ e))
behind-do h s x e is_step new there back = by_place (among-append x (net h) (s ∷ []) (subst (Among x) (net-do h s is_step) there))
  where
    by_behind : Among e (behind x (net h)) ⊎ Among e (s ∷ []) → Among e (behind x (net h)) ⊎ (s ≡ e)
    by_behind (inl before) = inl before
    by_behind (inr (inl now)) = inr now
    by_behind (inr (inr none)) = absurd none

    by_place : Among x (net h) ⊎ Among x (s ∷ []) → Among x (net h) × (Among e (behind x (net h)) ⊎ (s ≡ e))
    by_place (inl before) = (
      before,
      by_behind (among-append e (behind x (net h)) (s ∷ [])
          (subst (Among e) (ap (behind x) (net-do h s is_step) ∙ behind-first x (net h) (s ∷ []) (has_step-among x (net h) before)) back)),
    )
    by_place (inr (inl now)) =
        let nothing : behind x (net (h ++ Act s ∷ [])) ≡ [] =
        ap (λ y. behind y (net (h ++ Act s ∷ []))) (sym now) ∙ (ap (behind s) (net-do h s is_step) ∙ (behind-second s (net h) (s ∷ []) new ∙ ap (λ t. cond t [] []) (same_step-itself s))) in
        absurd (subst (Among e) nothing back)
    by_place (inr (inr none)) = absurd none

-- Among the active: what stands behind in the net stands behind there.
pub behind-active : (courses : List Course) (h : List Event) (x e : Entry) → IsTrue (is_active h x.process) → IsTrue (is_active h e.process) → Among e (behind x (net h))
    → Among e (behind x (active_net (at_rest courses h)))
behind-active courses h x e goes there back =
    let p : Entry → Bool = λ (f : Entry). is_in f.process (holders (at_rest courses h)) in
    subst (Among e) (sym (behind-filter p x (net h) (λ f same. is_holder courses h f.process ∙ (ap (is_active h) (sym (same_step-process x f same)) ∙ goes))))
    (in_filter p e (behind x (net h)) back (is_holder courses h e.process ∙ there))
