-- The next effects of a history, those of several events, may be prepared together.
use Rattle.std.proofs.Common.{◌≡◌, ◌≢◌, ◌⊎◌, inl, inr, ◌≤◌, ◌+◌, ◌==◌, eqb, ℕ, Bool, true, false, List, [], ◌∷◌, ◌++◌, length, length-append, append-nil, sym, ◌∙◌, ap, subst, arith, if◌then◌else◌}
use Rattle.std.specs.Prelude.{slice_index_or}
use Rattle.std.specs.List.{All, list_any}
use Rattle.std.specs.Bool.{IsTrue}
use Rattle.std.specs.List.{sum_by}
use Rattle.std.proofs.lemmas.Bool.{and_parts, leb-true, or_parts}
use Rattle.std.proofs.lemmas.Bool.Decides.{eqb_tells}
use Rattle.std.proofs.lemmas.List.Elements.{All-cons, All-nil}
use Rattle.std.proofs.lemmas.List.Folds.{list_any-append}
use Rattle.process_tree.specs.Conflicts.{do_conflict}
use Rattle.process_tree.specs.Order.{Each}
use Rattle.process_tree.specs.declared.entry.Entry.{Entry}
use Rattle.schedule_model.specs.Conflict.{ConflictRelation}
use Rattle.schedule_model.specs.Course.{Course, courses_of}
use Rattle.schedule_model.specs.declared.event.Event.{Event}
use Rattle.schedule_model.specs.declared.event.Event.TheVariants.{Start, Act, End}
use Rattle.schedule_model.specs.declared.history.History.{History}
use Rattle.schedule_model.specs.Histories.{active, acts, ends}
use Rattle.schedule_model.specs.Legal.{is_legal}
use Rattle.schedule_model.specs.Limits.{entries, is_within_limits, limits, stands_within, still_needed}
use Rattle.schedule_model.proofs.Appends.{acts-append}
use Rattle.schedule_model.proofs.NoConflict.{own_order-legal}
use Rattle.schedule_model.proofs.WithinLimits.{limits-hold}
use Rattle.commute_table.specs.declared.catalog.Catalog.{Catalog}
use Rattle.resource_box.specs.declared.call.Kind.{Kind}
use Rattle.subsystem_store.specs.declared.effect.Effect.{Effect}
use Rattle.subsystem_store.specs.Bodies.{is_amount}
use Rattle.subsystem_store.specs.Order.{may_follow}
use Rattle.process_journal.specs.Bodies.{with_event}
use Rattle.process_journal.specs.Journals.{IsHistoryUnder}
use Rattle.process_journal.proofs.GoodPlans.{plans_are_good}
use Rattle.history_files.specs.Effects.{effect_of, effects, effects_from, subsystem_of}
use Rattle.history_files.specs.Laws.{next_effect}
use Rattle.history_files.specs.NextGroups.{ArePreparable, GoesOnBy, GroupsMayBePrepared, IsNoStart, next_effects, with_events}
use Rattle.history_files.specs.Sound.{is_among, kind_of, same_effect}
use Rattle.history_files.proofs.Clearing.{goes_over}
use Rattle.history_files.proofs.FewEffects.{few_effects}
use Rattle.history_files.proofs.MayBePrepared.{next_effects_may_be_prepared}
use Rattle.history_files.proofs.NextEffects.{acts_add_their_effect, ends_add_none}

-- one act more, and an end, which is none
acts_more : (h : History) (e : Entry) → length (acts (with_event h (Act e)).events) ≡ length (acts h.events) + 1
acts_more h e = ap length (acts-append h.events (Act e ∷ [])) ∙ length-append (acts h.events) (e ∷ [])

acts_same : (h : History) (i : ℕ) → length (acts (with_event h (End i)).events) ≡ length (acts h.events)
acts_same h i = ap length (acts-append h.events (End i ∷ []) ∙ append-nil (acts h.events))

-- a history that a journal may have has few acts
module _ (c : Catalog) (h : History) (under : IsHistoryUnder c h) where
  abbrev table : ConflictRelation
  table = do_conflict c.conflicts

  abbrev courses : List Course
  courses = courses_of h.plans

  allowed : IsTrue (is_legal table courses h.events) × IsTrue (is_within_limits courses h.events)
  allowed = and_parts (is_legal table courses h.events) (is_within_limits courses h.events) under.allowed

  stands : IsTrue (stands_within limits courses h.events)
  stands = limits-hold limits h.plans h.events (plans_are_good c h.plans under.catalog under.plans).good (own_order-legal courses table h.events allowed.0) allowed.1

  most : length (acts h.events) + length (ends h.events) + sum_by (still_needed courses h.events) (active h.events) ≤ 16384
  most = leb-true (entries courses h.events) limits.entries (and_parts _ _ stands).1

  few_on : (q : ℕ) → length (effects c.ops h q) ≤ 16384
  few_on q = let few = few_effects c.ops h.plans q 0 (acts h.events) in omega (arith, few, most)

-- the first of several is preparable behind some, and the others behind it
first_of : (kind : Kind) (before : List Effect) (x : Effect) (next after : List Effect) → may_follow kind before x ≡ true → is_amount x.call.amount ≡ true → is_among x before ≡ false
    → ArePreparable kind (before ++ x ∷ []) next after → ArePreparable kind before (x ∷ next) after
first_of kind before x next after may amount new rest = record {
  adds = rest.adds ∙ goes_over before next x;
  few = let few = rest.few in omega (arith, few, length-append before (x ∷ []));
  follow = (may, rest.follow);
  amounts = All-cons (λ (e : Effect). is_amount e.call.amount ≡ true) x next amount rest.amounts;
  lacks = All-cons (λ (e : Effect). is_among e before ≡ false) x next new (λ k d within. lacked (slice_index_or next k d) (rest.lacks k d within));
}
  where
    lacked : (e : Effect) → is_among e (before ++ x ∷ []) ≡ false → is_among e before ≡ false
    lacked e none = (or_parts (list_any (same_effect e) before) (list_any (same_effect e) (x ∷ [])) (sym (list_any-append (same_effect e) before (x ∷ [])) ∙ none)).0

module _ (c : Catalog) (q : ℕ) where
  -- what is said of some events behind a history
  abbrev Says : History → List Event → Type 0
  Says h events = ArePreparable (kind_of q) (effects c.ops h q) (next_effects c.ops h q events) (effects c.ops (with_events h events) q)

  -- by a first event that is an end,
  by_end : (h : History) (i : ℕ) (es : List Event) → Says (with_event h (End i)) es → Says h (End i ∷ es)
  by_end h i es rest =
      let after = effects c.ops (with_events h (End i ∷ es)) q in
      subst (λ n. ArePreparable (kind_of q) (effects c.ops h q) (effects_from c.ops h.plans q n (acts es)) after) (acts_same h i)
      (subst (λ b. ArePreparable (kind_of q) b (next_effects c.ops (with_event h (End i)) q es) after) (ends_add_none c.ops h i q) rest)

  -- an act on another subsystem,
  by_other : (h : History) (e : Entry) (es : List Event) → eqb (subsystem_of c.ops e.op) q ≡ false → subsystem_of c.ops e.op ≢ q → Says (with_event h (Act e)) es → Says h (Act e ∷ es)
  by_other h e es is off rest =
      let n = length (acts h.events) in
      let after = effects c.ops (with_events h (Act e ∷ es)) q in
      subst (λ next. ArePreparable (kind_of q) (effects c.ops h q) next after)
      (sym (ap (λ b. if b then effect_of c.ops h.plans n e ∷ effects_from c.ops h.plans q (n + 1) (acts es) else effects_from c.ops h.plans q (n + 1) (acts es)) is))
      (subst (λ m. ArePreparable (kind_of q) (effects c.ops h q) (effects_from c.ops h.plans q m (acts es)) after) (acts_more h e)
      (subst (λ b. ArePreparable (kind_of q) b (next_effects c.ops (with_event h (Act e)) q es) after) ((acts_add_their_effect c.ops h e).others q off) rest))

  -- or one on this.
  by_own : (h : History) (e : Entry) (es : List Event) → eqb (subsystem_of c.ops e.op) q ≡ true → subsystem_of c.ops e.op ≡ q → IsHistoryUnder c (with_event h (Act e)) → Says (with_event h (Act e)) es → Says h (Act e ∷ es)
  by_own h e es is on under rest =
      let n = length (acts h.events) in
      let x = next_effect c.ops h e in
      let after = effects c.ops (with_events h (Act e ∷ es)) q in
      let may = next_effects_may_be_prepared c h e q on under in
      subst (λ next. ArePreparable (kind_of q) (effects c.ops h q) next after)
      (sym (ap (λ b. if b then effect_of c.ops h.plans n e ∷ effects_from c.ops h.plans q (n + 1) (acts es) else effects_from c.ops h.plans q (n + 1) (acts es)) is))
      (first_of (kind_of q) (effects c.ops h q) x (effects_from c.ops h.plans q (n + 1) (acts es)) after may.follows may.amount ((acts_add_their_effect c.ops h e).new q)
      (subst (λ m. ArePreparable (kind_of q) (effects c.ops h q ++ x ∷ []) (effects_from c.ops h.plans q m (acts es)) after) (acts_more h e)
      (subst (λ b. ArePreparable (kind_of q) b (next_effects c.ops (with_event h (Act e)) q es) after) ((acts_add_their_effect c.ops h e).own q on) rest)))

  by_act : (h : History) (e : Entry) (es : List Event) → ((eqb (subsystem_of c.ops e.op) q ≡ true) × (subsystem_of c.ops e.op ≡ q)) ⊎ ((eqb (subsystem_of c.ops e.op) q ≡ false) × (subsystem_of c.ops e.op ≢ q))
      → IsHistoryUnder c (with_event h (Act e)) → Says (with_event h (Act e)) es → Says h (Act e ∷ es)
  by_act h e es (inl here) under rest = by_own h e es here.0 here.1 under rest
  by_act h e es (inr there) under rest = by_other h e es there.0 there.1 rest

  by_events : (h : History) (events : List Event) → IsHistoryUnder c h → Each IsNoStart events → GoesOnBy c h events → Says h events
  by_events h [] under none goes = record {
    adds = sym (append-nil (effects c.ops h q));
    few = let few = few_on c h under q in omega (arith, few);
    follow = tt;
    amounts = All-nil (λ (e : Effect). is_amount e.call.amount ≡ true);
    lacks = All-nil (λ (e : Effect). is_among e (effects c.ops h q) ≡ false);
  }
  by_events h (Start i ∷ es) under none goes = absurd none.0
  by_events h (End i ∷ es) under none goes = by_end h i es (by_events (with_event h (End i)) es goes.0 none.1 goes.1)
  by_events h (Act e ∷ es) under none goes = by_act h e es (eqb_tells (subsystem_of c.ops e.op) q) goes.0 (by_events (with_event h (Act e)) es goes.0 none.1 goes.1)

pub groups_may_be_prepared : GroupsMayBePrepared
groups_may_be_prepared c h events q under none goes = by_events c q h events under none goes
