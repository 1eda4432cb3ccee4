use Rattle.std.proofs.Common.{List, ℕ, sym, ◌∙◌, subst}
use Rattle.process_tree.specs.declared.entry.Entry.{Entry}
use Rattle.schedule_model.specs.Histories.{net}
use Rattle.schedule_rules.specs.Recovering.{StandsOnBranches}
use Rattle.event_rules.proofs.held.all_owed.Goals as goal

pub owed_by_all-requires-clause-branches : goal.owed_by_all-requires-clause-branches
owed_by_all-requires-clause-branches c =
    let plans = c.args.plans.now in
    let h = c.args.h.now.events in
    subst (λ (es : List Entry). StandsOnBranches plans es c.deref-2.result.now) (sym (c.deref.ensures.value ∙ c.in_ok-entries.ensures))
    (subst (λ (is : List ℕ). StandsOnBranches plans (net h) is) (sym (c.deref-2.ensures.value ∙ c.in_ok-processes.ensures)) c.requires.branches)
