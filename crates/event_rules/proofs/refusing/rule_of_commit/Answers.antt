use Rattle.std.proofs.Common.{◌≡◌, List, true, false, ◌||◌, sym, ap, ◌∙◌, subst}
use Rattle.std.proofs.lemmas.Bool.{or_cases}
use Rattle.process_tree.specs.declared.entry.Entry.{Entry}
use Rattle.process_tree.specs.Conflicts.{do_conflict}
use Rattle.schedule_model.specs.Course.{courses_of}
use Rattle.schedule_model.specs.Holdings.{active_net, at_rest}
use Rattle.schedule_rules.specs.Applying.{AreKnown}
use Rattle.event_rules.proofs.Rules.{neither}
use Rattle.history_judging.specs.Conflicting.{conflicts_in_front, conflicts_with_any}
use Rattle.event_rules.proofs.Owing.{active_net-filtered}
use Rattle.event_rules.proofs.RefusedSteps.{net-known, op-known}
use Rattle.event_rules.proofs.Steps.{active_rule, owed_rule, with_active-none, with_active-some}
use Rattle.event_rules.proofs.refusing.rule_of_commit.Goals as goal

pub stands_in_way-requires-clause-entry : goal.stands_in_way-requires-clause-entry
stands_in_way-requires-clause-entry c = op-known c.args.c.now c.args.plans.now c.args.before.now.events c.args.e.now c.requires.step c.requires.refused

pub stands_in_way-requires-clause-standing : goal.stands_in_way-requires-clause-standing
stands_in_way-requires-clause-standing c =
    subst (AreKnown c.args.c.now) (sym (c.deref.ensures.value ∙ c.in_ok-standing.ensures))
    (net-known c.args.c.now c.args.plans.now c.args.before.now.events c.args.e.now c.requires.step c.requires.refused)

pub returns-then-stands_in_way : goal.returns-then-stands_in_way
returns-then-stands_in_way c =
    let table = do_conflict c.args.c.now in
    let courses = courses_of c.args.plans.now in
    let h = c.args.before.now.events in
    let e = c.args.e.now in
    let es = active_net (at_rest courses h) in
    let same = c.deref.ensures.value ∙ (c.in_ok-standing.ensures ∙ active_net-filtered courses h) in
    let is : (conflicts_with_any table e es || conflicts_in_front table e.process es) ≡ true =
    sym (c.stands_in_way.ensures ∙ ap (λ (xs : List Entry). conflicts_with_any table e xs || conflicts_in_front table e.process xs) same) ∙ c.if-stands_in_way.true in
    active_rule table courses h e c.requires.step c.requires.refused.refused c.requires.apart c.requires.class
    (with_active-some table courses h e c.requires.step c.requires.refused.legal (or_cases (conflicts_with_any table e es) (conflicts_in_front table e.process es) is))

pub returns : goal.returns
returns c =
    let table = do_conflict c.args.c.now in
    let courses = courses_of c.args.plans.now in
    let h = c.args.before.now.events in
    let e = c.args.e.now in
    let es = active_net (at_rest courses h) in
    let same = c.deref.ensures.value ∙ (c.in_ok-standing.ensures ∙ active_net-filtered courses h) in
    let is : (conflicts_with_any table e es || conflicts_in_front table e.process es) ≡ false =
    sym (c.stands_in_way.ensures ∙ ap (λ (xs : List Entry). conflicts_with_any table e xs || conflicts_in_front table e.process xs) same) ∙ c.if-stands_in_way.false in
    let parts = neither (conflicts_with_any table e es) (conflicts_in_front table e.process es) is in
    owed_rule table courses h e c.requires.step c.requires.refused.refused c.requires.apart c.requires.class
    (with_active-none table courses h e c.requires.step c.requires.refused.legal parts.0 parts.1)
