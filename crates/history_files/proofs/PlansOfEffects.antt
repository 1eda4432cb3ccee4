-- Effects stay with other plans that have the same steps: with one plan more, and with equal plans that lie elsewhere in memory.
use Rattle.std.proofs.Common.{◌≡◌, inl, inr, ◌+◌, ◌-◌, ◌<◌, ◌==◌, pos, ℕ, Bool, true, false, List, [], ◌∷◌, ◌++◌, length, map, refl, sym, ◌∙◌, ap, arith, append-nil, if◌then◌else◌}
use Rattle.std.specs.Prelude.{slice_index_or}
use Rattle.std.proofs.lemmas.Bool.{and_parts}
use Rattle.std.proofs.lemmas.List.{get_or_append_left, map-append, length-map}
use Rattle.process_tree.specs.Blocks.{outline}
use Rattle.process_tree.specs.Conflicts.{do_conflict}
use Rattle.process_tree.specs.declared.entry.Entry.{Entry}
use Rattle.process_tree.specs.declared.plan.Plan.{Plan}
use Rattle.process_tree.specs.declared.step.Step.{Step}
use Rattle.schedule_model.specs.Course.{courses_of}
use Rattle.schedule_model.specs.declared.event.Event.TheVariants.{Start}
use Rattle.schedule_model.specs.declared.history.History.{History}
use Rattle.schedule_model.specs.Histories.{acts}
use Rattle.schedule_model.specs.Legal.{is_legal}
use Rattle.schedule_model.specs.Limits.{is_within_limits}
use Rattle.schedule_model.proofs.Appends.{acts-append}
use Rattle.schedule_model.proofs.Members.{Among}
use Rattle.schedule_model.proofs.Prefixes.{legal-numbered}
use Rattle.schedule_model.proofs.Started.{acts-started}
use Rattle.commute_table.specs.declared.op.Op.{Op}
use Rattle.subsystem_store.specs.declared.effect.Effect.{Effect}
use Rattle.process_journal.specs.Laws.{AreEqualInTurn, IsSameHistory}
use Rattle.history_files.specs.Effects.{effect_of, effects, effects_from, steps_of_process, subsystem_of, verb_of}
use Rattle.history_files.specs.Laws.{StartsAddNone}

-- the effect of an entry of a process with these steps
abbrev effect_by : List Op → ℕ → Entry → List Step → Effect
effect_by ops n e steps = record {
  number = n;
  process = e.process;
  step = e.step;
  undo = e.undo;
  call = record { verb = verb_of ops e.op; key = slice_index_or (map (λ (s : Step). s.key) steps) e.step 0; amount = slice_index_or (map (λ (s : Step). s.amount) steps) e.step (pos 0) };
}

module _ (ops : List Op) (ps qs : List Plan) (q : ℕ) where
  -- plans of which each process of these entries has the same steps
  pub effects-plans : (n : ℕ) (es : List Entry) → ((e : Entry) → Among e es → steps_of_process ps e.process ≡ steps_of_process qs e.process) → effects_from ops ps q n es ≡ effects_from ops qs q n es
  effects-plans n [] same = refl
  effects-plans n (x ∷ xs) same = by (subsystem_of ops x.op == q) (ap (effect_by ops n x) (same x (inl refl))) (effects-plans (n + 1) xs (λ e is. same e (inr is)))
    where
      by : (b : Bool) → effect_of ops ps n x ≡ effect_of ops qs n x → effects_from ops ps q (n + 1) xs ≡ effects_from ops qs q (n + 1) xs
          → (if b then effect_of ops ps n x ∷ effects_from ops ps q (n + 1) xs else effects_from ops ps q (n + 1) xs)
          ≡ (if b then effect_of ops qs n x ∷ effects_from ops qs q (n + 1) xs else effects_from ops qs q (n + 1) xs)
      by true one rest = ap (λ e. e ∷ effects_from ops ps q (n + 1) xs) one ∙ ap (λ es. effect_of ops qs n x ∷ es) rest
      by false one rest = rest

-- the steps of each plan
abbrev steps_in : Plan → List Step
steps_in p = (outline p.tree).steps

-- with a plan more a process before has the same steps
steps_before : (plans : List Plan) (p : Plan) (i : ℕ) → i - 1 < length plans → steps_of_process plans i ≡ steps_of_process (plans ++ p ∷ []) i
steps_before plans p i within =
    sym (get_or_append_left (map steps_in plans) (steps_in p ∷ []) [] (i - 1) (let long = length-map plans steps_in in omega (arith, long, within)))
    ∙ ap (λ ss. slice_index_or ss (i - 1) []) (sym (map-append steps_in plans (p ∷ [])))

-- a start adds none
pub starts_add_none : StartsAddNone
starts_add_none c h i p q under =
    ap (effects_from c.ops (h.plans ++ p ∷ []) q 0) (acts-append h.events (Start i ∷ []) ∙ append-nil (acts h.events))
    ∙ sym (effects-plans c.ops h.plans (h.plans ++ p ∷ []) q 0 (acts h.events) (λ e is. steps_before h.plans p e.process (started e is)))
  where
    legal : is_legal (do_conflict c.conflicts) (courses_of h.plans) h.events ≡ true
    legal = (and_parts (is_legal (do_conflict c.conflicts) (courses_of h.plans) h.events) (is_within_limits (courses_of h.plans) h.events) under.allowed).0

    started : (e : Entry) → Among e (acts h.events) → e.process - 1 < length h.plans
    started e is =
        let bounds = legal-numbered (do_conflict c.conflicts) (courses_of h.plans) h.events legal e.process (acts-started (do_conflict c.conflicts) (courses_of h.plans) h.events legal e is) in
        let low = bounds.0 in
        let high = bounds.1 in
        omega (arith, low, high, under.one_each)

-- equal plans have the same steps
same_steps : (ps qs : List Plan) → AreEqualInTurn ps qs → map steps_in ps ≡ map steps_in qs
same_steps [] [] equal = refl
same_steps [] (q ∷ qs) equal = absurd equal
same_steps (p ∷ ps) [] equal = absurd equal
same_steps (p ∷ ps) (q ∷ qs) equal = ap (λ o. o.steps ∷ map steps_in ps) equal.0.says ∙ ap (λ ss. steps_in q ∷ ss) (same_steps ps qs equal.1)

-- so the effects of one history are the same
pub same_effects : (ops : List Op) (h k : History) (q : ℕ) → IsSameHistory h k → effects ops h q ≡ effects ops k q
same_effects ops h k q same =
    effects-plans ops h.plans k.plans q 0 (acts h.events) (λ e is. ap (λ ss. slice_index_or ss (e.process - 1) []) (same_steps h.plans k.plans same.plans))
    ∙ ap (λ es. effects_from ops k.plans q 0 (acts es)) same.events
