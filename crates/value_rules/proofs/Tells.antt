-- After each beginning of a legal history, and of a list of steps, the books have the values of the ledger.
use Rattle.std.proofs.Common.{◌≡◌, ◌≢◌, ◌⊎◌, inl, inr, ℕ, ◌+◌, Bool, true, false, not, eqb, ◌&&◌, ◌||◌, List, [], ◌∷◌, ◌++◌, length, Option, Some, None, refl, sym, ap, ◌∙◌, subst, append-nil, if◌then◌else◌}
use Rattle.std.proofs.Math.IntN.{ℤ}
use Rattle.std.specs.Bool.{IsTrue}
use Rattle.std.specs.Prelude.{is_some}
use Rattle.std.specs.List.{fold, list_any}
use Rattle.std.proofs.lemmas.Bool.{and_parts, and_from, eqb-true, eq-eqb, false≢true, or_left, or_parts}
use Rattle.std.proofs.lemmas.Bool.Decides.{eqb_tells}
use Rattle.std.proofs.lemmas.List.Elements.{All-contains}
use Rattle.std.proofs.lemmas.List.Folds.{list_any-append}
use Rattle.std.proofs.lemmas.List.Sums.{fold_push}
use Rattle.process_tree.specs.Entries.{access_of}
use Rattle.process_tree.specs.declared.entry.Entry.{Entry}
use Rattle.process_tree.specs.declared.plan.Plan.{Plan}
use Rattle.process_tree.proofs.Entries.{access-same}
use Rattle.schedule_model.specs.declared.event.Event.{Event}
use Rattle.schedule_model.specs.declared.event.Event.TheVariants.{Start, Act, End}
use Rattle.schedule_model.specs.Conflict.{ConflictRelation}
use Rattle.schedule_model.specs.Course.{access_at, courses_of}
use Rattle.schedule_model.specs.Histories.{acts, same_step}
use Rattle.schedule_model.specs.Legal.{is_legal, may_come}
use Rattle.schedule_model.proofs.Appends.{acts-append}
use Rattle.schedule_model.proofs.Entries.{HasPlansAccess, acts-of_plans}
use Rattle.schedule_model.proofs.Induction.{by_legal, passes-push}
use Rattle.schedule_model.proofs.Legal.{is_legal-prefix}
use Rattle.schedule_model.proofs.Members.{Among, among-append, among_there, any-among, contains-from_among}
use Rattle.commute_table.specs.declared.catalog.Catalog.{Catalog}
use Rattle.resource_box.specs.Meaning.{value_at}
use Rattle.resource_box.specs.Table.{kind_of}
use Rattle.subsystem_store.specs.declared.effect.Effect.{Effect}
use Rattle.subsystem_store.specs.declared.effect.Undoable.{Undoable}
use Rattle.subsystem_store.specs.Values.{Settled, done, settle, settled, take_last, undone, unused as no_effect_yet}
use Rattle.history_files.specs.Effects.{amount_of, effect_of, effects_from, key_of, subsystem_of, verb_of}
use Rattle.history_files.proofs.NextEffects.{effects_from-append, no_effect, one_effect}
use Rattle.history_files.proofs.StandingSteps.{undo_has_forward}
use Rattle.value_rules.specs.Ledgers.{Ledger, after, after_all, unused}
use Rattle.value_rules.specs.Laws.{AreOnce, clash_later, has}
use Rattle.value_rules.specs.HistoryValues.{value_after}
use Rattle.value_rules.proofs.Chains.{after_all-append}
use Rattle.value_rules.proofs.PlanDeeds.{asked, is_known, known-op}
use Rattle.value_rules.proofs.HistoryOnce.{acts-once}
use Rattle.value_rules.proofs.Books.{Founds, IsDeed, Values, founds-do, founds-off, founds-undo, left_among, values-do, values-off, values-undo}

-- of once: an entry at the end clashes with none before it
once-last : (xs : List Entry) (e x : Entry) → AreOnce (xs ++ e ∷ []) → Among x xs → clash_later x e ≡ false
once-last [] e x once is = absurd is
once-last (y ∷ xs) e x once (inl here) =
    subst (λ (z : Entry). clash_later z e ≡ false) here
    (or_parts (clash_later y e) false (or_parts (list_any (clash_later y) xs) (clash_later y e || false) (sym (list_any-append (clash_later y) xs (e ∷ [])) ∙ once.0)).1).0
once-last (y ∷ xs) e x once (inr later) = once-last xs e x once.1 later

module _ (c : Catalog) (plans : List Plan) where
  -- a known entry's deed is what its operation and its plan say
  pub deed-is : (e : Entry) → is_known c plans e ≡ true → IsDeed c.ops plans (asked c plans) e
  deed-is e known =
      ap (λ o. record {
        subsystem = subsystem_of c.ops o;
        call = record { verb = verb_of c.ops o; key = key_of plans e.process e.step; amount = amount_of plans e.process e.step };
      }) (known-op c plans e known)

  -- the ledger and the book after some entries
  abbrev pub ledger : List Entry → Ledger
  ledger es = after_all (asked c plans) unused es

  abbrev pub book : ℕ → List Entry → Settled
  book q es = settled (kind_of q) (effects_from c.ops plans q 0 es)

  -- the book of subsystem q has the values of the ledger, with what was found by steps that can be undone
  record Told (q : ℕ) (es : List Entry) : Type 0 where
    values : Values c.ops plans (asked c plans) q (ledger es) (book q es)
    founds : Founds c.ops plans (asked c plans) (ledger es) (book q es)
    old : (u : Undoable) → Among u (book q es).undoable → has u.effect.process u.effect.step es ≡ true

  module _ (q : ℕ) (es : List Entry) (e : Entry) where
    abbrev x : Effect
    x = effect_of c.ops plans (0 + length es) e

    book-on : subsystem_of c.ops e.op ≡ q → book q (es ++ e ∷ []) ≡ settle (kind_of q) (book q es) x
    book-on on =
        ap (settled (kind_of q)) (effects_from-append c.ops plans q 0 es (e ∷ []) ∙ ap (λ y. effects_from c.ops plans q 0 es ++ y) (one_effect c.ops plans q (0 + length es) e on))
        ∙ fold_push (settle (kind_of q)) no_effect_yet (effects_from c.ops plans q 0 es) x

    book-off : subsystem_of c.ops e.op ≢ q → book q (es ++ e ∷ []) ≡ book q es
    book-off off =
        ap (settled (kind_of q))
        (effects_from-append c.ops plans q 0 es (e ∷ []) ∙ ap (λ y. effects_from c.ops plans q 0 es ++ y) (no_effect c.ops plans q (0 + length es) e off) ∙ append-nil (effects_from c.ops plans q 0 es))

    still_has : (i b : ℕ) → has i b es ≡ true → has i b (es ++ e ∷ []) ≡ true
    still_has i b is = list_any-append (λ f. eqb f.process i && eqb f.step b) es (e ∷ []) ∙ or_left (has i b es) (has i b (e ∷ [])) is

    has_itself : has e.process e.step (es ++ e ∷ []) ≡ true
    has_itself =
        any-among (λ (f : Entry). eqb f.process e.process && eqb f.step e.step) e (es ++ e ∷ []) (among_there es e [])
        (and_from (eqb e.process e.process) (eqb e.step e.step) (eq-eqb e.process e.process refl) (eq-eqb e.step e.step refl))

    -- after one entry more
    told-more : is_known c plans e ≡ true → (e.undo ≡ false → has e.process e.step es ≡ false)
        → (e.undo ≡ true → subsystem_of c.ops e.op ≡ q → is_some (take_last x (book q es).undoable) ≡ true) → Told q es → Told q (es ++ e ∷ [])
    told-more known new can told = by_place (eqb_tells (subsystem_of c.ops e.op) q)
      where
        deed : IsDeed c.ops plans (asked c plans) e
        deed = deed-is e known

        next : ledger (es ++ e ∷ []) ≡ after (asked c plans) (ledger es) e
        next = after_all-append (asked c plans) unused es (e ∷ [])

        fresh : e.undo ≡ false → (u : Undoable) → Among u (book q es).undoable → (eqb u.effect.process e.process && eqb u.effect.step e.step) ≡ false
        fresh is_step u there = by (eqb u.effect.process e.process && eqb u.effect.step e.step) refl
          where
            by : (t : Bool) → (eqb u.effect.process e.process && eqb u.effect.step e.step) ≡ t → (eqb u.effect.process e.process && eqb u.effect.step e.step) ≡ false
            by false other = other
            by true same =
                let parts = and_parts (eqb u.effect.process e.process) (eqb u.effect.step e.step) same in
                absurd (false≢true (sym (new is_step) ∙ (ap (λ i. has i e.step es) (sym (eqb-true u.effect.process e.process parts.0))
                ∙ (ap (λ b. has u.effect.process b es) (sym (eqb-true u.effect.step e.step parts.1)) ∙ told.old u there))))

        made : (s : Settled) → book q (es ++ e ∷ []) ≡ s → Values c.ops plans (asked c plans) q (after (asked c plans) (ledger es) e) s → Founds c.ops plans (asked c plans) (after (asked c plans) (ledger es) e) s
            → ((u : Undoable) → Among u s.undoable → has u.effect.process u.effect.step (es ++ e ∷ []) ≡ true) → Told q (es ++ e ∷ [])
        made s is values founds old = record {
          values = subst (λ (r : Settled). Values c.ops plans (asked c plans) q (ledger (es ++ e ∷ [])) r) (sym is) (subst (λ (l : Ledger). Values c.ops plans (asked c plans) q l s) (sym next) values);
          founds = subst (λ (r : Settled). Founds c.ops plans (asked c plans) (ledger (es ++ e ∷ [])) r) (sym is) (subst (λ (l : Ledger). Founds c.ops plans (asked c plans) l s) (sym next) founds);
          old = λ u there. old u (subst (λ (r : Settled). Among u r.undoable) is there);
        }

        by_undo : subsystem_of c.ops e.op ≡ q → (b : Bool) → e.undo ≡ b → Told q (es ++ e ∷ [])
        by_undo on false is_step =
            made (settle (kind_of q) (book q es) x) (book-on on)
            (values-do c.ops plans (asked c plans) q (0 + length es) (ledger es) (book q es) e deed on told.values is_step)
            (founds-do c.ops plans (asked c plans) q (0 + length es) (ledger es) (book q es) e deed on told.values is_step told.founds (fresh is_step))
            (λ u there. by (among-append u (book q es).undoable (last ∷ []) (subst (λ (r : Settled). Among u r.undoable)
            (ap (λ b. if b then undone (kind_of q) (book q es) x (take_last x (book q es).undoable) else done (kind_of q) (book q es) x) is_step) there)))
          where
            last : Undoable
            last = record { effect = x; before = value_at (book q es).pairs x.call.key }

            by : {u : Undoable} → Among u (book q es).undoable ⊎ Among u (last ∷ []) → has u.effect.process u.effect.step (es ++ e ∷ []) ≡ true
            by {u} (inl before) = still_has u.effect.process u.effect.step (told.old u before)
            by {u} (inr (inl now)) = subst (λ (v : Undoable). has v.effect.process v.effect.step (es ++ e ∷ []) ≡ true) now has_itself
            by {u} (inr (inr none)) = absurd none
        by_undo on true undo = by_found (take_last x (book q es).undoable) refl (can undo on)
          where
            by_found : (o : Option (ℤ × List Undoable)) → take_last x (book q es).undoable ≡ o → is_some o ≡ true → Told q (es ++ e ∷ [])
            by_found None is some = absurd (false≢true some)
            by_found (Some found) is some =
                made (settle (kind_of q) (book q es) x) (book-on on)
                (values-undo c.ops plans (asked c plans) q (0 + length es) (ledger es) (book q es) e deed on told.values undo told.founds found is)
                (founds-undo c.ops plans (asked c plans) q (0 + length es) (ledger es) (book q es) e deed on told.values undo told.founds found is)
                (λ u there. still_has u.effect.process u.effect.step
                (told.old u (left_among x (book q es).undoable found is u (subst (λ (r : Settled). Among u r.undoable)
                (ap (λ b. if b then undone (kind_of q) (book q es) x (take_last x (book q es).undoable) else done (kind_of q) (book q es) x) undo ∙ ap (undone (kind_of q) (book q es) x) is) there))))

        by_place : ((eqb (subsystem_of c.ops e.op) q ≡ true) × (subsystem_of c.ops e.op ≡ q)) ⊎ ((eqb (subsystem_of c.ops e.op) q ≡ false) × (subsystem_of c.ops e.op ≢ q)) → Told q (es ++ e ∷ [])
        by_place (inl here) = by_undo here.1 e.undo refl
        by_place (inr there) =
            made (book q es) (book-off there.1)
            (values-off c.ops plans (asked c plans) q (0 + length es) (ledger es) (book q es) e deed there.1 told.values)
            (founds-off c.ops plans (asked c plans) q (0 + length es) (ledger es) (book q es) e deed told.founds fresh)
            (λ u there'. still_has u.effect.process u.effect.step (told.old u there'))

  told-none : (q : ℕ) → Told q []
  told-none q = record { values = λ k. refl; founds = λ u is. absurd is; old = λ u is. absurd is }

  module _ (table : ConflictRelation) where
    -- the entries of a legal history are known
    pub acts-known : (h : List Event) → IsTrue (is_legal table (courses_of plans) h) → (e : Entry) → Among e (acts h) → is_known c plans e ≡ true
    acts-known h legal e is =
        access-same (access_of e) (access_at (courses_of plans) e.process e.step)
        (All-contains (HasPlansAccess (courses_of plans)) (acts h) e (acts-of_plans table (courses_of plans) h legal) (contains-from_among e (acts h) is))

    told-after : (q : ℕ) (h : List Event) (e : Event) → IsTrue (is_legal table (courses_of plans) h) → IsTrue (may_come table (courses_of plans) h e) → Told q (acts h) → Told q (acts (h ++ e ∷ []))
    told-after q h (Start i) legal may told = subst (Told q) (sym (acts-append h (Start i ∷ []) ∙ append-nil (acts h))) told
    told-after q h (End i) legal may told = subst (Told q) (sym (acts-append h (End i ∷ []) ∙ append-nil (acts h))) told
    told-after q h (Act e) legal may told =
        subst (Told q) (sym (acts-append h (Act e ∷ [])))
        (told-more q (acts h) e (acts-known (h ++ Act e ∷ []) longer e (subst (Among e) (sym (acts-append h (Act e ∷ []))) (among_there (acts h) e [])))
        new (λ undo on. undo_has_forward c.ops plans q (kind_of q) table (courses_of plans) h e (0 + length (acts h)) legal may undo on) told)
      where
        longer : IsTrue (is_legal table (courses_of plans) (h ++ Act e ∷ []))
        longer = passes-push (may_come table (courses_of plans)) h (Act e) legal may

        once : AreOnce (acts h ++ e ∷ [])
        once = subst AreOnce (acts-append h (Act e ∷ [])) (acts-once table (courses_of plans) (h ++ Act e ∷ []) longer)

        new : e.undo ≡ false → has e.process e.step (acts h) ≡ false
        new is_step = none (acts h) (λ x is. once-last (acts h) e x once is)
          where
            same_none : (s u : Bool) → (s && (u || true)) ≡ false → s ≡ false
            same_none false u is = refl
            same_none true true is = absurd (false≢true (sym is))
            same_none true false is = absurd (false≢true (sym is))

            none : (xs : List Entry) → ((x : Entry) → Among x xs → clash_later x e ≡ false) → has e.process e.step xs ≡ false
            none [] clear = refl
            none (x ∷ xs) clear =
                ap (λ t. t || has e.process e.step xs) (same_none (same_step x e) x.undo (ap (λ u. same_step x e && (x.undo || not u)) (sym is_step) ∙ clear x (inl refl)))
                ∙ none xs (λ y is. clear y (inr is))

    told-history : (q : ℕ) (h : List Event) → IsTrue (is_legal table (courses_of plans) h) → Told q (acts h)
    told-history q h legal = by_legal table (courses_of plans) (λ g. Told q (acts g)) (λ g e before may told. told-after q g e before may told) (told-none q) h legal

    -- a beginning of the entries is those of a beginning of the history
    beginning : (h : List Event) (front rest : List Entry) → acts h ≡ front ++ rest → (g : List Event) × (k : List Event) × (h ≡ g ++ k) × (acts g ≡ front)
    beginning h [] rest is = ([], h, refl, refl)
    beginning [] (e ∷ front) rest is = absurd (cc)
    beginning (Start i ∷ h) (e ∷ front) rest is = let more = beginning h (e ∷ front) rest is in (Start i ∷ more.0, more.1, ap (λ g. Start i ∷ g) more.2, more.3)
    beginning (End i ∷ h) (e ∷ front) rest is = let more = beginning h (e ∷ front) rest is in (End i ∷ more.0, more.1, ap (λ g. End i ∷ g) more.2, more.3)
    beginning (Act f ∷ h) (e ∷ front) rest is =
        let first : f ≡ e = cc in
        let later : acts h ≡ front ++ rest = cc in
        let more = beginning h front rest later in
        (Act f ∷ more.0, more.1, ap (λ g. Act f ∷ g) more.2, ap (λ x. x ∷ acts more.0) first ∙ ap (λ es. e ∷ es) more.3)

    -- so each beginning of a legal history leaves what the ledger has
    pub history-tells : (h : List Event) → IsTrue (is_legal table (courses_of plans) h) → (front rest : List Entry) → acts h ≡ front ++ rest → (q k : ℕ)
        → value_after c.ops plans front q k ≡ (ledger front).value q k
    history-tells h legal front rest is q k =
        let g = beginning h front rest is in
        subst (λ es. value_after c.ops plans es q k ≡ (ledger es).value q k) g.3
        ((told-history q g.0 (is_legal-prefix table (courses_of plans) g.0 g.1 (subst (λ f. IsTrue (is_legal table (courses_of plans) f)) g.2 legal))).values k)

  -- The same of a list of steps, whatever it is.
  steps-from : (q n : ℕ) (l : Ledger) (s : Settled) (es : List Entry) → ((e : Entry) → Among e es → (is_known c plans e ≡ true) × (e.undo ≡ false))
      → Values c.ops plans (asked c plans) q l s → Values c.ops plans (asked c plans) q (after_all (asked c plans) l es) (fold (settle (kind_of q)) s (effects_from c.ops plans q n es))
  steps-from q n l s [] all same = same
  steps-from q n l s (e ∷ es) all same =
      by (eqb_tells (subsystem_of c.ops e.op) q) (λ l' s' same'. steps-from q (n + 1) l' s' es (λ f is. all f (inr is)) same')
    where
      Later : List Effect → Settled → Type 0
      Later effects s' = Values c.ops plans (asked c plans) q (after_all (asked c plans) (after (asked c plans) l e) es) (fold (settle (kind_of q)) s' effects)

      deed : IsDeed c.ops plans (asked c plans) e
      deed = deed-is e (all e (inl refl)).0

      by : ((eqb (subsystem_of c.ops e.op) q ≡ true) × (subsystem_of c.ops e.op ≡ q)) ⊎ ((eqb (subsystem_of c.ops e.op) q ≡ false) × (subsystem_of c.ops e.op ≢ q))
          → ((l' : Ledger) (s' : Settled) → Values c.ops plans (asked c plans) q l' s' → Values c.ops plans (asked c plans) q (after_all (asked c plans) l' es) (fold (settle (kind_of q)) s' (effects_from c.ops plans q (n + 1) es)))
          → Later (if eqb (subsystem_of c.ops e.op) q then effect_of c.ops plans n e ∷ effects_from c.ops plans q (n + 1) es else effects_from c.ops plans q (n + 1) es) s
      by (inl here) rest =
          subst (λ b. Later (if b then effect_of c.ops plans n e ∷ effects_from c.ops plans q (n + 1) es else effects_from c.ops plans q (n + 1) es) s) (sym here.0)
          (rest (after (asked c plans) l e) (settle (kind_of q) s (effect_of c.ops plans n e))
          (values-do c.ops plans (asked c plans) q n l s e deed here.1 same (all e (inl refl)).1))
      by (inr there) rest =
          subst (λ b. Later (if b then effect_of c.ops plans n e ∷ effects_from c.ops plans q (n + 1) es else effects_from c.ops plans q (n + 1) es) s) (sym there.0)
          (rest (after (asked c plans) l e) s (values-off c.ops plans (asked c plans) q n l s e deed there.1 same))

  pub steps-tell : (es : List Entry) → ((e : Entry) → Among e es → (is_known c plans e ≡ true) × (e.undo ≡ false)) → (q k : ℕ)
      → value_after c.ops plans es q k ≡ (ledger es).value q k
  steps-tell es all q k = steps-from q 0 unused no_effect_yet es all (λ j. refl) k
