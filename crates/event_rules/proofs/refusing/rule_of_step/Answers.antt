use Rattle.std.specs.List.{flat_map}
use Rattle.schedule_model.specs.Histories.{active}
use Rattle.schedule_model.specs.Recovery.{owed}
use Rattle.std.proofs.Common.{sym, ap, ◌∙◌, subst}
use Rattle.process_tree.specs.Conflicts.{do_conflict}
use Rattle.process_tree.specs.Recovery.{class_by_kind, committing, undoable}
use Rattle.process_tree.specs.Shape.{Shape, kind_of}
use Rattle.schedule_model.specs.Course.{courses_of}
use Rattle.schedule_rules.specs.Applying.{AreKnown}
use Rattle.history_judging.specs.Conflicting.{conflicts_with_any}
use Rattle.event_rules.proofs.RefusedSteps.{branches, numbers, op-known, owed-known, plan-there, shape-is, step-there}
use Rattle.event_rules.proofs.Rules.{no_against, some_against}
use Rattle.event_rules.proofs.Steps.{class-is, reserved-is, reserved_rule, undoable_rule}
use Rattle.event_rules.proofs.refusing.rule_of_step.Goals as goal

pub all_owed-requires-clause-branches : goal.all_owed-requires-clause-branches
all_owed-requires-clause-branches c = branches c.args.c.now c.args.plans.now c.args.before.now.events c.args.e.now c.requires.step c.requires.refused

pub conflicts_with_any-requires-clause-entry : goal.conflicts_with_any-requires-clause-entry
conflicts_with_any-requires-clause-entry c = op-known c.args.c.now c.args.plans.now c.args.before.now.events c.args.e.now c.requires.step c.requires.refused

pub conflicts_with_any-requires-clause-others : goal.conflicts_with_any-requires-clause-others
conflicts_with_any-requires-clause-others c =
    subst (AreKnown c.args.c.now) (sym (c.deref.ensures.value ∙ c.in_ok-owed.ensures))
    (owed-known c.args.c.now c.args.plans.now c.args.before.now.events c.args.e.now c.requires.step c.requires.refused)

pub returns-then-conflicts_with_any : goal.returns-then-conflicts_with_any
returns-then-conflicts_with_any c =
    let table = do_conflict c.args.c.now in
    let courses = courses_of c.args.plans.now in
    let h = c.args.before.now.events in
    let e = c.args.e.now in
    let same = c.deref.ensures.value ∙ c.in_ok-owed.ensures in
    let is = sym (c.conflicts_with_any.ensures ∙ ap (conflicts_with_any table e) same) ∙ c.if-conflicts_with_any.true in
    reserved_rule table courses h e c.requires.step
    (λ none. some_against table e (flat_map (owed courses h) (active h)) is (sym (reserved-is table courses h e c.requires.step) ∙ none))

pub overflow_sub-e : goal.overflow_sub-e
overflow_sub-e c = (numbers c.args.c.now c.args.plans.now c.args.before.now.events c.args.e.now c.requires.step c.requires.refused).0

pub is_committing-requires : goal.is_committing-requires
is_committing-requires c =
    let p = c.index-plans-e.result in
    let e = c.args.e.now in
    step-there c.args.c.now c.args.plans.now c.args.before.now.events e c.requires.step c.requires.refused p c.index-plans-e.is
    (c.requires.refused.planned.good p (plan-there c.args.c.now c.args.plans.now c.args.before.now.events e c.requires.step c.requires.refused p c.index-plans-e.is)).tree

pub rule_of_commit-requires-clause-class : goal.rule_of_commit-requires-clause-class
rule_of_commit-requires-clause-class c =
    let table = do_conflict c.args.c.now in
    let courses = courses_of c.args.plans.now in
    let h = c.args.before.now.events in
    let e = c.args.e.now in
    let p = c.index-plans-e.result in
    let none = sym (c.conflicts_with_any.ensures ∙ ap (conflicts_with_any table e) (c.deref.ensures.value ∙ c.in_ok-owed.ensures)) ∙ c.if-conflicts_with_any.false in
    let apart = reserved-is table courses h e c.requires.step ∙ no_against table e (flat_map (owed courses h) (active h)) none in
    let shape = shape-is c.args.c.now c.args.plans.now h e c.requires.step c.requires.refused p c.index-plans-e.is in
    class-is table courses h e c.requires.step c.requires.refused.refused apart committing
    (ap (λ (t : Shape). class_by_kind (kind_of t e.step)) shape ∙ c.is_committing.ensures.committing c.if-is_committing.true)

pub rule_of_commit-requires-clause-apart : goal.rule_of_commit-requires-clause-apart
rule_of_commit-requires-clause-apart c =
    let table = do_conflict c.args.c.now in
    let courses = courses_of c.args.plans.now in
    let h = c.args.before.now.events in
    let e = c.args.e.now in
    let none = sym (c.conflicts_with_any.ensures ∙ ap (conflicts_with_any table e) (c.deref.ensures.value ∙ c.in_ok-owed.ensures)) ∙ c.if-conflicts_with_any.false in
    reserved-is table courses h e c.requires.step ∙ no_against table e (flat_map (owed courses h) (active h)) none

pub returns : goal.returns
returns c =
    let table = do_conflict c.args.c.now in
    let courses = courses_of c.args.plans.now in
    let h = c.args.before.now.events in
    let e = c.args.e.now in
    let p = c.index-plans-e.result in
    let none = sym (c.conflicts_with_any.ensures ∙ ap (conflicts_with_any table e) (c.deref.ensures.value ∙ c.in_ok-owed.ensures)) ∙ c.if-conflicts_with_any.false in
    let apart = reserved-is table courses h e c.requires.step ∙ no_against table e (flat_map (owed courses h) (active h)) none in
    let shape = shape-is c.args.c.now c.args.plans.now h e c.requires.step c.requires.refused p c.index-plans-e.is in
    undoable_rule table courses h e c.requires.step c.requires.refused.refused apart
    (class-is table courses h e c.requires.step c.requires.refused.refused apart undoable
    (ap (λ (t : Shape). class_by_kind (kind_of t e.step)) shape ∙ c.is_committing.ensures.undoable c.if-is_committing.false))
