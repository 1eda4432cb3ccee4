-- In a legal history each step takes effect once, and is undone once, behind that.
use Rattle.std.proofs.Common.{◌≡◌, ◌⊎◌, inl, inr, ⊎_elim, ℕ, Bool, true, false, not, cond, eqb, ltb, ◌&&◌, ◌||◌, List, [], ◌∷◌, ◌++◌, filter, refl, sym, ap, ◌∙◌, subst, arith, append-nil}
use Rattle.std.specs.Bool.{IsTrue}
use Rattle.std.specs.List.{list_any, list_all}
use Rattle.std.proofs.lemmas.Bool.{and_parts, and_from, eqb-true, eq-eqb, false≢true, ltb-true}
use Rattle.std.proofs.lemmas.List.Folds.{list_any-append}
use Rattle.process_tree.specs.declared.entry.Entry.{Entry}
use Rattle.process_tree.specs.Shape.{goes_on_to}
use Rattle.schedule_model.specs.declared.event.Event.{Event}
use Rattle.schedule_model.specs.declared.event.Event.TheVariants.{Start, Act, End}
use Rattle.schedule_model.specs.Conflict.{ConflictRelation}
use Rattle.schedule_model.specs.Course.{Course, shape}
use Rattle.schedule_model.specs.Histories.{acts, done_steps, net, net_acts, net_of, net_steps, of_process, same_step, takes_back}
use Rattle.schedule_model.specs.Legal.{is_legal, may_come}
use Rattle.schedule_model.proofs.Appends.{acts-append, done_steps-append}
use Rattle.schedule_model.proofs.Behind.{same_step-symmetric}
use Rattle.schedule_model.proofs.Induction.{by_legal}
use Rattle.schedule_model.proofs.Members.{Among, all-among, among-append, among-filter, among-left, among_there, in_filter, in_map}
use Rattle.schedule_model.proofs.Rising.{step_goes_on}
use Rattle.schedule_model.proofs.Snoc.{net-do, net-end, net-start, net-undo}
use Rattle.schedule_model.proofs.Started.{among_net_of}
use Rattle.schedule_model.proofs.Undoing.{Undoes, undoes}
use Rattle.value_rules.specs.Laws.{AreOnce, clash_later}

-- one more that clashes with none
once-push : (xs : List Entry) (e : Entry) → AreOnce xs → ((x : Entry) → Among x xs → clash_later x e ≡ false) → AreOnce (xs ++ e ∷ [])
once-push [] e once new = (refl, tt)
once-push (x ∷ xs) e once new = (
  list_any-append (clash_later x) xs (e ∷ []) ∙ (ap (λ t. t || (clash_later x e || false)) once.0 ∙ ap (λ t. t || false) (new x (inl refl))),
  once-push xs e once.1 (λ y is. new y (inr is)),
)

-- what stands is some of what took effect
pub net-within : (x : Entry) (es : List Entry) → Among x (net_acts es) → Among x es
net-within x [] is = absurd is
net-within x (e ∷ es) is = by_test (e.undo || list_any (λ f. takes_back f e) es) is (net-within x es)
  where
    by_test : (t : Bool) → Among x (cond t (net_acts es) (e ∷ net_acts es)) → (Among x (net_acts es) → Among x es) → Among x (e ∷ es)
    by_test true later rest = inr (rest later)
    by_test false (inl here) rest = inl here
    by_test false (inr later) rest = inr (rest later)

-- a step number isn't below itself
not_below : (b : ℕ) → ltb b b ≡ true → ⊥
not_below b is = let less = ltb-true b b is in omega arith

module _ (table : ConflictRelation) (courses : List Course) where
  -- What is kept: each step that has an entry took effect, and nothing that was undone stands.
  record Kept (h : List Event) : Type 0 where
    once : AreOnce (acts h)
    done : (x : Entry) → Among x (acts h) → Among x.step (done_steps h x.process)
    gone : (x f : Entry) → Among x (acts h) → x.undo ≡ true → Among f (net h) → same_step x f ≡ false

  -- a step that takes effect is of no step of before
  module _ (h : List Event) (e : Entry) (is_step : e.undo ≡ false) (may : IsTrue (may_come table courses h (Act e))) (kept : Kept h) where
    above : list_all (λ d. ltb d e.step) (done_steps h e.process) ≡ true
    above =
        (and_parts (goes_on_to (shape courses e.process) (net_steps h e.process) e.step) (list_all (λ d. ltb d e.step) (done_steps h e.process))
        (step_goes_on table courses h e is_step may)).1

    new : (x : Entry) → Among x (acts h) → same_step x e ≡ false
    new x is = by_test (same_step x e) refl
      where
        by_test : (t : Bool) → same_step x e ≡ t → same_step x e ≡ false
        by_test false other = other
        by_test true same =
            let parts = and_parts (eqb x.process e.process) (eqb x.step e.step) same in
            let there : Among x.step (done_steps h e.process) = subst (λ i. Among x.step (done_steps h i)) (eqb-true x.process e.process parts.0) (kept.done x is) in
            absurd (not_below e.step (subst (λ b. ltb b e.step ≡ true) (eqb-true x.step e.step parts.1) (all-among (λ d. ltb d e.step) (done_steps h e.process) above x.step there)))

    here : Among e.step (done_steps (h ++ Act e ∷ []) e.process)
    here =
        in_map (λ (f : Entry). f.step) e (of_process e.process (filter (λ f. not f.undo) (acts (h ++ Act e ∷ []))))
        (in_filter (λ (f : Entry). eqb f.process e.process) e (filter (λ f. not f.undo) (acts (h ++ Act e ∷ [])))
        (in_filter (λ (f : Entry). not f.undo) e (acts (h ++ Act e ∷ []))
        (subst (Among e) (sym (acts-append h (Act e ∷ []))) (among_there (acts h) e [])) (ap not is_step))
        (eq-eqb e.process e.process refl))

    done_new : (x : Entry) → (e ≡ x) → Among x.step (done_steps (h ++ Act e ∷ []) x.process)
    done_new x same = subst (λ (f : Entry). Among f.step (done_steps (h ++ Act e ∷ []) f.process)) same here

  still_done : (h : List Event) (e : Event) (i b : ℕ) → Among b (done_steps h i) → Among b (done_steps (h ++ e ∷ []) i)
  still_done h e i b is = subst (Among b) (sym (done_steps-append h (e ∷ []) i)) (among-left b (done_steps h i) (done_steps (e ∷ []) i) is)

  -- who stands with an undo isn't of its step
  stands_apart : (h : List Event) (e f : Entry) → e.undo ≡ true → Among f (net (h ++ Act e ∷ [])) → Among f (net h) × (same_step f e ≡ false)
  stands_apart h e f undo is =
      let found = among-filter (λ (g : Entry). not (same_step g e)) f (net h) (subst (Among f) (net-undo h e undo) is) in
      (found.0, by (same_step f e) found.1)
    where
      by : (t : Bool) → not t ≡ true → t ≡ false
      by true is' = absurd (false≢true is')
      by false is' = refl

  split_last : (h : List Event) (e x : Entry) → Among x (acts (h ++ Act e ∷ [])) → Among x (acts h) ⊎ (e ≡ x)
  split_last h e x is = by (among-append x (acts h) (e ∷ []) (subst (Among x) (acts-append h (Act e ∷ [])) is))
    where
      by : Among x (acts h) ⊎ Among x (e ∷ []) → Among x (acts h) ⊎ (e ≡ x)
      by (inl before) = inl before
      by (inr (inl now)) = inr now
      by (inr (inr none)) = absurd none

  -- with a step
  kept_do : (h : List Event) (e : Entry) → e.undo ≡ false → IsTrue (may_come table courses h (Act e)) → Kept h → Kept (h ++ Act e ∷ [])
  kept_do h e is_step may kept = record {
    once = subst AreOnce (sym (acts-append h (Act e ∷ [])))
        (once-push (acts h) e kept.once (λ x is. ap (λ t. t && (x.undo || not e.undo)) (new h e is_step may kept x is)));
    done = λ x is. ⊎_elim (λ before. still_done h (Act e) x.process x.step (kept.done x before)) (λ now. done_new h e is_step may kept x now) (split_last h e x is);
    gone = λ x f is undo stands. by_places x f undo (split_last h e x is) (among-append f (net h) (e ∷ []) (subst (Among f) (net-do h e is_step) stands));
  }
    where
      by_places : (x f : Entry) → x.undo ≡ true → Among x (acts h) ⊎ (e ≡ x) → Among f (net h) ⊎ Among f (e ∷ []) → same_step x f ≡ false
      by_places x f undo (inr now) stands = absurd (false≢true (sym is_step ∙ (ap (λ (g : Entry). g.undo) now ∙ undo)))
      by_places x f undo (inl before) (inl stood) = kept.gone x f before undo stood
      by_places x f undo (inl before) (inr (inl last)) = subst (λ (g : Entry). same_step x g ≡ false) last (new h e is_step may kept x before)
      by_places x f undo (inl before) (inr (inr none)) = absurd none

  -- with an undo: the step that it takes back stood, so no undo of it came
  kept_undo : (h : List Event) (e : Entry) → e.undo ≡ true → IsTrue (is_legal table courses h) → IsTrue (may_come table courses h (Act e)) → Kept h → Kept (h ++ Act e ∷ [])
  kept_undo h e undo legal may kept = record {
    once = subst AreOnce (sym (acts-append h (Act e ∷ []))) (once-push (acts h) e kept.once clashes);
    done = λ x is. ⊎_elim (λ before. still_done h (Act e) x.process x.step (kept.done x before))
        (λ now. still_done h (Act e) x.process x.step (subst (λ (f : Entry). Among f.step (done_steps h f.process)) now done_already)) (split_last h e x is);
    gone = λ x f is x_undo stands.
        let apart = stands_apart h e f undo stands in
        ⊎_elim (λ before. kept.gone x f before x_undo apart.0) (λ now. subst (λ (g : Entry). same_step g f ≡ false) now (same_step-symmetric e f ∙ apart.1)) (split_last h e x is);
  }
    where
      does : Undoes courses e h (h ++ Act e ∷ [])
      does = undoes table courses h e legal undo may

      stood : Among does.last (net h)
      stood = (among_net_of h e.process does.last (subst (Among does.last) (sym does.net) (among_there (net_of (h ++ Act e ∷ []) e.process) does.last []))).0

      same : (eqb does.last.process e.process ≡ true) × (eqb does.last.step e.step ≡ true)
      same = and_parts (eqb does.last.process e.process) (eqb does.last.step e.step) does.same

      done_already : Among e.step (done_steps h e.process)
      done_already =
          subst (λ b. Among b (done_steps h e.process)) (eqb-true does.last.step e.step same.1)
          (subst (λ i. Among does.last.step (done_steps h i)) (eqb-true does.last.process e.process same.0) (kept.done does.last (net-within does.last (acts h) stood)))

      -- an undo of this step came before
      through : (x : Entry) → same_step x e ≡ true → same_step x does.last ≡ true
      through x is =
          let parts = and_parts (eqb x.process e.process) (eqb x.step e.step) is in
          and_from (eqb x.process does.last.process) (eqb x.step does.last.step)
          (eq-eqb x.process does.last.process (eqb-true x.process e.process parts.0 ∙ sym (eqb-true does.last.process e.process same.0)))
          (eq-eqb x.step does.last.step (eqb-true x.step e.step parts.1 ∙ sym (eqb-true does.last.step e.step same.1)))

      clashes : (x : Entry) → Among x (acts h) → clash_later x e ≡ false
      clashes x is = ap (λ u. same_step x e && (x.undo || not u)) undo ∙ by (same_step x e) x.undo refl refl
        where
          by : (s u : Bool) → same_step x e ≡ s → x.undo ≡ u → (same_step x e && (x.undo || false)) ≡ false
          by false u one two = ap (λ t. t && (x.undo || false)) one
          by true false one two = ap (λ t. t && (x.undo || false)) one ∙ ap (λ t. t || false) two
          by true true one two = absurd (false≢true (sym (kept.gone x does.last is two stood) ∙ through x one))

  kept_more : (h : List Event) (e : Event) → IsTrue (is_legal table courses h) → IsTrue (may_come table courses h e) → Kept h → Kept (h ++ e ∷ [])
  kept_more h (Start i) legal may kept = record {
    once = subst AreOnce (sym (acts-append h (Start i ∷ []) ∙ append-nil (acts h))) kept.once;
    done = λ x is. still_done h (Start i) x.process x.step (kept.done x (subst (Among x) (acts-append h (Start i ∷ []) ∙ append-nil (acts h)) is));
    gone = λ x f is undo stands. kept.gone x f (subst (Among x) (acts-append h (Start i ∷ []) ∙ append-nil (acts h)) is) undo (subst (Among f) (net-start h i) stands);
  }
  kept_more h (End i) legal may kept = record {
    once = subst AreOnce (sym (acts-append h (End i ∷ []) ∙ append-nil (acts h))) kept.once;
    done = λ x is. still_done h (End i) x.process x.step (kept.done x (subst (Among x) (acts-append h (End i ∷ []) ∙ append-nil (acts h)) is));
    gone = λ x f is undo stands. kept.gone x f (subst (Among x) (acts-append h (End i ∷ []) ∙ append-nil (acts h)) is) undo (subst (Among f) (net-end h i) stands);
  }
  kept_more h (Act e) legal may kept = by_undo e.undo refl
    where
      by_undo : (u : Bool) → e.undo ≡ u → Kept (h ++ Act e ∷ [])
      by_undo true undo = kept_undo h e undo legal may kept
      by_undo false is_step = kept_do h e is_step may kept

  none_kept : Kept []
  none_kept = record { once = tt; done = λ x is. absurd is; gone = λ x f is undo stands. absurd is }

  pub acts-once : (h : List Event) → IsTrue (is_legal table courses h) → AreOnce (acts h)
  acts-once h legal = (by_legal table courses Kept (λ g e before may kept. kept_more g e before may kept) none_kept h legal).once
