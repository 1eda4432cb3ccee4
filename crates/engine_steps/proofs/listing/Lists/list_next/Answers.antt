use Rattle.std.proofs.Common.{◌∙◌, arith, ap, subst, length}
use Rattle.process_core.proofs.FewEvents.{few_events}
use Rattle.schedule_model.specs.Histories.{acts}
use Rattle.engine_steps.specs.Engines.{full_history}
use Rattle.engine_steps.specs.Listing.{ListsEach}
use Rattle.engine_steps.proofs.ListedEffects.{fewer_acts, listed_is}
use Rattle.engine_steps.proofs.listing.Lists.list_next.Goals as goal

pub acts_count-number-requires : goal.acts_count-number-requires
acts_count-number-requires c =
    let few = few_events c.args.core.now c.run_holds.ensures in
    let is = ap length (c.as_slice.ensures ∙ c.history-history.ensures.events) in
    omega (arith, few, is)

pub list_each-requires-clause-numbers : goal.list_each-requires-clause-numbers
list_each-requires-clause-numbers c =
    let few = few_events c.args.core.now c.run_holds.ensures in
    let is = ap length (c.as_slice.ensures ∙ c.history-history.ensures.events) in
    let counted = fewer_acts c.as_slice.result.now in
    let more = c.requires.few in
    omega (arith, few, is, counted, c.acts_count-number.ensures, more)

pub returns : goal.returns
returns c =
    let core = c.args.core.now in
    let ops = c.args.catalog.now.ops in
    let events = c.args.events.now in
    let h = full_history core in
    let number = c.acts_count-number.ensures ∙ ap (λ es. length (acts es)) (c.as_slice.ensures ∙ c.history-history.ensures.events) in
    listed_is ops h events c.list_each.new.group.items c.list_each.ensures.count
    (subst (λ os. ListsEach os h.plans (length (acts h.events)) (acts events) c.list_each.new.group.items) c.as_slice-2.ensures
    (subst (λ ps. ListsEach c.as_slice-2.result.now ps (length (acts h.events)) (acts events) c.list_each.new.group.items) (c.as_slice-3.ensures ∙ c.history-history.ensures.plans)
    (subst (λ n. ListsEach c.as_slice-2.result.now c.as_slice-3.result.now n (acts events) c.list_each.new.group.items) number c.list_each.ensures.lists)))
