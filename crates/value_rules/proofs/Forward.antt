-- Chains in which only steps change places: they leave nothing barred that wasn't; and the printed trace is one.
use Rattle.std.proofs.Common.{◌≡◌, inl, inr, ℕ, Bool, true, false, not, List, [], ◌∷◌, ◌++◌, refl, sym, ap, ◌∙◌, subst, append_assoc, append-nil}
use Rattle.std.proofs.Math.IntN.{pos}
use Rattle.std.specs.Bool.{IsTrue}
use Rattle.std.specs.Prelude.{int_lt}
use Rattle.std.proofs.lemmas.Bool.{and_parts, and_from, false≢true}
use Rattle.process_tree.specs.declared.entry.Entry.{Entry}
use Rattle.schedule_model.specs.declared.event.Event.{Event}
use Rattle.schedule_model.specs.declared.event.Event.TheVariants.{Start, Act, End}
use Rattle.schedule_model.specs.Conflict.{ConflictRelation}
use Rattle.schedule_model.specs.Course.{Course}
use Rattle.schedule_model.specs.EachEvent.{each_passes}
use Rattle.schedule_model.specs.Histories.{acts, net, takes_back}
use Rattle.schedule_model.specs.Legal.{is_reducible, keeps_and_ends_clear}
use Rattle.schedule_model.specs.Reduction.{AreReduced, IsReduced, can_change, is_pair, no_step, step_first}
use Rattle.schedule_model.proofs.CancelPhase.{net-steps_only, taken_back}
use Rattle.schedule_model.proofs.Induction.{passes-push}
use Rattle.schedule_model.proofs.Members.{Among, among-more, among-right, among_there}
use Rattle.schedule_model.proofs.Snoc.{net-do, net-end, net-start}
use Rattle.commute_table.specs.declared.op.Verb.TheVariants.{Take}
use Rattle.value_rules.specs.Ledgers.{Deeds, Ledger, after, after_all}
use Rattle.value_rules.specs.Laws.{AreOnce, AreSound}
use Rattle.value_rules.proofs.Once.{among-swap}
use Rattle.value_rules.proofs.Pairs.{Ranged}
use Rattle.value_rules.proofs.Chains.{covers, covers-sums, leaves, one_keeps, ranged-all, skip}
use Rattle.value_rules.proofs.Steps.{exchanged-alike}
use Rattle.value_rules.proofs.Barred.{NoneBarred, none-alike, none-append, none-parts, swap-free}

module _ (table : ConflictRelation) where
  -- the entries that change places are steps
  abbrev pub IsForward : {xs ys : List Entry} → IsReduced table xs ys → Type 0
  IsForward (inl e) = (e.2.undo ≡ false) × (e.3.undo ≡ false)
  IsForward (inr e) = Unit {0}

  pub data AreForward : List Entry → List Entry → Type 0 where
    no_more : {xs : List Entry} → AreForward xs xs
    one_first : {xs ys zs : List Entry} → (one : IsReduced table xs ys) → IsForward one → AreForward ys zs → AreForward xs zs

  pub forward-append : {xs ys zs : List Entry} → AreForward xs ys → AreForward ys zs → AreForward xs zs
  forward-append no_more more = more
  forward-append (one_first one is rest) more = one_first one is (forward-append rest more)

  -- what exchanges make of steps are steps, and nothing cancels
  pub steps-forward : {xs ys : List Entry} → AreReduced table xs ys → ((e : Entry) → Among e xs → e.undo ≡ false) → AreForward xs ys
  steps-forward no_step all = no_more
  steps-forward (step_first (inl e) more) all =
      one_first (inl e) (all e.2 (subst (Among e.2) (sym e.4) (among_there e.0 e.2 (e.3 ∷ e.1))), all e.3 (subst (Among e.3) (sym e.4) (among-right e.3 e.0 (e.2 ∷ e.3 ∷ e.1) (inr (inl refl)))))
      (steps-forward more (λ f is. all f (subst (Among f) (sym e.4) (among-swap f e.0 e.3 e.2 e.1 (subst (Among f) e.5 is)))))
  steps-forward (step_first (inr e) more) all =
      let undo = (and_parts e.3.undo _ (and_parts (not e.2.undo) (takes_back e.3 e.2) e.6).1).0 in
      absurd (false≢true (sym (all e.3 (subst (Among e.3) (sym e.4) (among-right e.3 e.0 (e.2 ∷ e.3 ∷ e.1) (inr (inl refl))))) ∙ undo))

  -- what is left was there
  one-within : {xs ys : List Entry} → IsReduced table xs ys → (e : Entry) → Among e ys → Among e xs
  one-within (inl r) e is = subst (Among e) (sym r.4) (among-swap e r.0 r.3 r.2 r.1 (subst (Among e) r.5 is))
  one-within (inr r) e is = subst (Among e) (sym r.4) (among-more e r.0 r.2 (r.3 ∷ r.1) (among-more e r.0 r.3 r.1 (subst (Among e) r.5 is)))

  pub forward-within : {xs ys : List Entry} → AreForward xs ys → (e : Entry) → Among e ys → Among e xs
  forward-within no_more e is = is
  forward-within (one_first one forward more) e is = one-within one e (forward-within more e is)

  -- A step is carried over steps.
  carried : (front : List Entry) (x : Entry) (bs tail : List Entry) → x.undo ≡ false → ((b : Entry) → Among b bs → (b.undo ≡ false) × (can_change table x b ≡ true))
      → AreForward (front ++ x ∷ (bs ++ tail)) (front ++ (bs ++ x ∷ tail))
  carried front x [] tail is_step all = no_more
  carried front x (b ∷ bs) tail is_step all =
      one_first (inl (front, bs ++ tail, x, b, refl, refl, (all b (inl refl)).1)) (is_step, (all b (inl refl)).0)
      (subst (λ zs. AreForward zs (front ++ (b ∷ bs ++ x ∷ tail))) (append_assoc front (b ∷ []) (x ∷ (bs ++ tail)))
      (subst (AreForward ((front ++ b ∷ []) ++ x ∷ (bs ++ tail))) (append_assoc front (b ∷ []) (bs ++ x ∷ tail))
      (carried (front ++ b ∷ []) x bs tail is_step (λ f is. all f (inr is)))))

  module _ (courses : List Course) where
    -- from what stands after a beginning, and the acts still to come, to what stands at the end
    to_net : (g k : List Event) → IsTrue (is_reducible table courses g) → IsTrue (each_passes (keeps_and_ends_clear table courses) g k)
        → AreForward (net g ++ acts k) (net (g ++ k))
    to_net g [] reducible all = subst (AreForward (net g ++ [])) (append-nil (net g) ∙ ap net (sym (append-nil g))) no_more
    to_net g (Start i ∷ k) reducible all =
        let parts = and_parts (keeps_and_ends_clear table courses g (Start i)) (each_passes (keeps_and_ends_clear table courses) (g ++ Start i ∷ []) k) all in
        let rest = to_net (g ++ Start i ∷ []) k (passes-push (keeps_and_ends_clear table courses) g (Start i) reducible parts.0) parts.1 in
        subst (λ h. AreForward (net g ++ acts k) (net h)) (append_assoc g (Start i ∷ []) k)
        (subst (λ es. AreForward (es ++ acts k) (net ((g ++ Start i ∷ []) ++ k))) (net-start g i) rest)
    to_net g (End i ∷ k) reducible all =
        let parts = and_parts (keeps_and_ends_clear table courses g (End i)) (each_passes (keeps_and_ends_clear table courses) (g ++ End i ∷ []) k) all in
        let rest = to_net (g ++ End i ∷ []) k (passes-push (keeps_and_ends_clear table courses) g (End i) reducible parts.0) parts.1 in
        subst (λ h. AreForward (net g ++ acts k) (net h)) (append_assoc g (End i ∷ []) k)
        (subst (λ es. AreForward (es ++ acts k) (net ((g ++ End i ∷ []) ++ k))) (net-end g i) rest)
    to_net g (Act e ∷ k) reducible all =
        let parts = and_parts (keeps_and_ends_clear table courses g (Act e)) (each_passes (keeps_and_ends_clear table courses) (g ++ Act e ∷ []) k) all in
        let rest = to_net (g ++ Act e ∷ []) k (passes-push (keeps_and_ends_clear table courses) g (Act e) reducible parts.0) parts.1 in
        subst (λ h. AreForward (net g ++ e ∷ acts k) (net h)) (append_assoc g (Act e ∷ []) k) (by_undo g e k reducible parts.0 rest e.undo refl)
      where
        by_undo : (g : List Event) (e : Entry) (k : List Event) → IsTrue (is_reducible table courses g) → IsTrue (keeps_and_ends_clear table courses g (Act e))
            → AreForward (net (g ++ Act e ∷ []) ++ acts k) (net ((g ++ Act e ∷ []) ++ k)) → (u : Bool) → e.undo ≡ u → AreForward (net g ++ e ∷ acts k) (net ((g ++ Act e ∷ []) ++ k))
        by_undo g e k reducible comes rest false is_step =
            subst (λ es. AreForward es (net ((g ++ Act e ∷ []) ++ k))) (ap (λ es. es ++ acts k) (net-do g e is_step) ∙ append_assoc (net g) (e ∷ []) (acts k)) rest
        by_undo g e k reducible comes rest true undo =
            let back = taken_back table courses g e reducible comes undo in
            let stands : (f : Entry) → Among f (back.front ++ back.step ∷ back.bs) → f.undo ≡ false = λ f is. net-steps_only table courses g f (subst (Among f) (sym back.is) is) in
            let is_step = stands back.step (among_there back.front back.step back.bs) in
            let moved = carried back.front back.step back.bs (e ∷ acts k) is_step (λ b is. (stands b (among-right b back.front (back.step ∷ back.bs) (inr is)), back.can b is)) in
            let goes = one_first {ys = (back.front ++ back.bs) ++ acts k} (inr (
              back.front ++ back.bs,
              acts k,
              back.step,
              e,
              sym (append_assoc back.front back.bs (back.step ∷ e ∷ acts k)),
              refl,
              and_from (not back.step.undo) (takes_back e back.step) (ap not is_step) back.taken,
            )) tt
            (subst (λ es. AreForward (es ++ acts k) (net ((g ++ Act e ∷ []) ++ k))) back.after rest) in
            subst (λ es. AreForward (es ++ e ∷ acts k) (net ((g ++ Act e ∷ []) ++ k))) (sym back.is)
            (subst (λ es. AreForward es (net ((g ++ Act e ∷ []) ++ k))) (sym (append_assoc back.front (back.step ∷ back.bs) (e ∷ acts k)))
            (forward-append moved goes))

    pub acts-to_net : (h : List Event) → IsTrue (is_reducible table courses h) → AreForward (acts h) (net h)
    acts-to_net h reducible = to_net [] h refl reducible

-- Such chains leave nothing barred that wasn't.
module _ (table : ConflictRelation) (deeds : Deeds) (sums : ℕ → ℕ → Bool) (known : Entry → Bool) (sound : AreSound table deeds sums known) (l : Ledger) (r : Ranged deeds sound.fits l) where
  -- no take has a negative amount
  abbrev pub AreLow : List Entry → Type 0
  AreLow es = (e : Entry) → Among e es → (deeds e).call.verb ≡ Take → int_lt (deeds e).call.amount (pos 0) ≡ false

  abbrev AllKnown : List Entry → Type 0
  AllKnown es = (e : Entry) → Among e es → known e ≡ true

  exchange-free : (before rest : List Entry) (a b : Entry) → can_change table a b ≡ true → (a.undo ≡ false) × (b.undo ≡ false)
      → AllKnown (before ++ a ∷ b ∷ rest) → AreLow (before ++ a ∷ b ∷ rest) → NoneBarred deeds l (before ++ a ∷ b ∷ rest) → NoneBarred deeds l (before ++ b ∷ a ∷ rest)
  exchange-free before rest a b can steps all low none =
      let here = after_all deeds l before in
      let at = ranged-all table deeds sums known sound l before r in
      let parts = none-parts deeds l before (a ∷ b ∷ rest) none in
      let a_in = among_there before a (b ∷ rest) in
      let b_in = among-right b before (a ∷ b ∷ rest) (inr (inl refl)) in
      let free = swap-free table deeds sums known sound here at.value a b steps.0 steps.1 (low a a_in) (low b b_in) parts.1.0 parts.1.1.0 (all a a_in) (all b b_in) can in
      none-append deeds l before (b ∷ a ∷ rest) parts.0 (
        free.0,
        (
          free.1,
          none-alike table deeds sums known sound sums (after deeds (after deeds here a) b) (after deeds (after deeds here b) a) rest
              (covers-sums table deeds sums known sound rest) (exchanged-alike table deeds sums known sound here at.value a b (all a a_in) (all b b_in) can) parts.1.1.1,
        ),
      )

  cancel-free : (before rest : List Entry) (a b : Entry) → is_pair a b ≡ true → AreOnce (before ++ a ∷ b ∷ rest)
      → NoneBarred deeds l (before ++ a ∷ b ∷ rest) → NoneBarred deeds l (before ++ rest)
  cancel-free before rest a b pair once none =
      let here = after_all deeds l before in
      let parts = none-parts deeds l before (a ∷ b ∷ rest) none in
      none-append deeds l before rest parts.0
      (none-alike table deeds sums known sound (skip table deeds sums known sound l r before rest a b pair once) (after deeds (after deeds here a) b) here rest
      (covers table deeds sums known sound l r before rest a b pair once) (leaves table deeds sums known sound l r before rest a b pair once) parts.1.1.1)

  one-free : {xs ys : List Entry} (one : IsReduced table xs ys) → IsForward table one → AllKnown xs → AreOnce xs → AreLow xs → NoneBarred deeds l xs → NoneBarred deeds l ys
  one-free (inl e) steps all once low none =
      subst (NoneBarred deeds l) (sym e.5)
      (exchange-free e.0 e.1 e.2 e.3 e.6 steps (subst AllKnown e.4 all) (subst AreLow e.4 low) (subst (NoneBarred deeds l) e.4 none))
  one-free (inr e) steps all once low none =
      subst (NoneBarred deeds l) (sym e.5) (cancel-free e.0 e.1 e.2 e.3 e.6 (subst AreOnce e.4 once) (subst (NoneBarred deeds l) e.4 none))

  pub forward-free : {xs ys : List Entry} → AreForward table xs ys → AllKnown xs → AreOnce xs → AreLow xs → NoneBarred deeds l xs → NoneBarred deeds l ys
  forward-free no_more all once low none = none
  forward-free (one_first {xs} {ys} {zs} one is more) all once low none =
      let k = one_keeps table deeds sums known sound l r xs ys all once one in
      forward-free more (λ e in_ys. all e (k.within e in_ys)) k.once (λ e in_ys. low e (k.within e in_ys)) (one-free one is all once low none)

  pub forward-once : {xs ys : List Entry} → AreForward table xs ys → AllKnown xs → AreOnce xs → AreOnce ys
  forward-once no_more all once = once
  forward-once (one_first {xs} {ys} {zs} one is more) all once =
      let k = one_keeps table deeds sums known sound l r xs ys all once one in
      forward-once more (λ e in_ys. all e (k.within e in_ys)) k.once
