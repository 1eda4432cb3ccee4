-- The next effect of a history may be prepared.
use Rattle.std.proofs.Common.{◌≡◌, ◌≤◌, ◌<◌, ◌+◌, ℕ, Bool, true, false, not, ◌||◌, List, [], ◌∷◌, ◌++◌, length, refl, sym, ◌∙◌, ap, arith, length-append}
use Rattle.std.specs.Bool.{IsTrue}
use Rattle.std.specs.List.{sum_by}
use Rattle.std.proofs.lemmas.Bool.{and_from, and_parts, leb-true}
use Rattle.process_tree.specs.Conflicts.{do_conflict}
use Rattle.process_tree.specs.declared.entry.Entry.{Entry}
use Rattle.schedule_model.specs.Conflict.{ConflictRelation}
use Rattle.schedule_model.specs.Course.{Course, courses_of}
use Rattle.schedule_model.specs.declared.event.Event.{Event}
use Rattle.schedule_model.specs.declared.event.Event.TheVariants.{Act}
use Rattle.schedule_model.specs.declared.history.History.{History}
use Rattle.schedule_model.specs.Histories.{active, acts, ends}
use Rattle.schedule_model.specs.Laws.{AreGood}
use Rattle.schedule_model.specs.Legal.{is_legal, may_come}
use Rattle.schedule_model.specs.Limits.{entries, is_within_limits, limits, stands_within, still_needed}
use Rattle.schedule_model.proofs.Appends.{acts-append}
use Rattle.schedule_model.proofs.Legal.{is_legal-push}
use Rattle.schedule_model.proofs.Members.{contains-from_among}
use Rattle.schedule_model.proofs.NoConflict.{own_order-legal}
use Rattle.schedule_model.proofs.WithinLimits.{limits-hold}
use Rattle.commute_table.specs.declared.catalog.Catalog.{Catalog}
use Rattle.subsystem_store.specs.Order.{is_above}
use Rattle.subsystem_store.specs.Values.{can_undo}
use Rattle.process_journal.specs.Bodies.{with_event}
use Rattle.process_journal.specs.Journals.{IsHistoryUnder}
use Rattle.process_journal.proofs.GoodPlans.{plans_are_good}
use Rattle.history_files.specs.Effects.{effects, subsystem_of}
use Rattle.history_files.specs.Laws.{NextEffectsMayBePrepared, next_effect}
use Rattle.history_files.specs.Sound.{kind_of}
use Rattle.history_files.proofs.Amounts.{amount_within}
use Rattle.history_files.proofs.FewEffects.{few_effects, is_above_all}
use Rattle.history_files.proofs.StandingSteps.{undo_has_forward}

module _ (c : Catalog) (h : History) (e : Entry) (after : IsHistoryUnder c (with_event h (Act e))) where
  abbrev table : ConflictRelation
  table = do_conflict c.conflicts

  abbrev courses : List Course
  courses = courses_of h.plans

  abbrev with_it : List Event
  with_it = h.events ++ Act e ∷ []

  good : AreGood h.plans
  good = (plans_are_good c h.plans after.catalog after.plans).good

  allowed : IsTrue (is_legal table courses with_it) × IsTrue (is_within_limits courses with_it)
  allowed = and_parts (is_legal table courses with_it) (is_within_limits courses with_it) after.allowed

  goes : IsTrue (is_legal table courses h.events) × IsTrue (may_come table courses h.events (Act e))
  goes = and_parts (is_legal table courses h.events) (may_come table courses h.events (Act e)) (sym (is_legal-push table courses h.events (Act e)) ∙ allowed.0)

  stands : IsTrue (stands_within limits courses with_it)
  stands = limits-hold limits h.plans with_it good (own_order-legal courses table with_it allowed.0) allowed.1

  most : length (acts with_it) + length (ends with_it) + sum_by (still_needed courses with_it) (active with_it) ≤ 16384
  most = leb-true (entries courses with_it) limits.entries (and_parts _ _ stands).1

  -- the acts are fewer than the limit
  few_acts : length (acts h.events) < 16384
  few_acts =
      let all = ap length (acts-append h.events (Act e ∷ [])) in
      let one = length-append (acts h.events) (e ∷ []) in
      omega (arith, most, all, one)

  undo_follows : (q : ℕ) → subsystem_of c.ops e.op ≡ q → (u : Bool) → e.undo ≡ u → (not u || can_undo (kind_of q) (effects c.ops h q) (next_effect c.ops h e)) ≡ true
  undo_follows q on true undo = undo_has_forward c.ops h.plans q (kind_of q) table courses h.events e (length (acts h.events)) goes.0 goes.1 undo on
  undo_follows q on false forward = refl

pub next_effects_may_be_prepared : NextEffectsMayBePrepared
next_effects_may_be_prepared c h e q on after = record {
  few = let few = few_effects c.ops h.plans q 0 (acts h.events) in let all = few_acts c h e after in omega (arith, few, all);
  follows = and_from (is_above (effects c.ops h q) (length (acts h.events))) (not e.undo || can_undo (kind_of q) (effects c.ops h q) (next_effect c.ops h e))
      (is_above_all c.ops h.plans q (acts h.events) (length (acts h.events)) (omega arith))
      (undo_follows c h e after q on e.undo refl);
  amount = amount_within h.plans e.process e.step (λ p is. (good c h e after p (contains-from_among p h.plans is)).tree);
}
