use Rattle.std.proofs.Common.{filter, rules, ap, ◌∙◌}
use Rattle.std.proofs.lemmas.Fn.{filter_same}
use Rattle.process_tree.specs.declared.entry.Entry.{Entry}
use Rattle.schedule_model.specs.Histories.{is_active}
use Rattle.event_rules.proofs.held.active_net.Goals as goal

pub returns : goal.returns
returns c =
    let h = c.args.h.now.events in
    filter_same _ (λ (e : Entry). is_active h e.process) _ (λ x b f' k. search rules) c.in_ok-entries.entries.items c.retain.new.self.items c.retain.ensures.filtered
    ∙ ap (filter (λ (e : Entry). is_active h e.process)) c.in_ok-entries.ensures
