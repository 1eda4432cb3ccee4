use Rattle.std.proofs.Common.{filter, rules, ap, ◌∙◌}
use Rattle.std.proofs.lemmas.Fn.{filter_same}
use Rattle.schedule_model.specs.Histories.{is_active, starts}
use Rattle.event_rules.proofs.Owing.{active-filtered}
use Rattle.event_rules.proofs.held.active_processes.Goals as goal

pub returns : goal.returns
returns c =
    let h = c.args.h.now.events in
    filter_same _ (is_active h) _ (λ x b f' k. search rules) c.in_ok-processes.processes.items c.retain.new.self.items c.retain.ensures.filtered
    ∙ (ap (filter (is_active h)) (c.in_ok-processes.ensures ∙ ap starts c.as_slice.ensures) ∙ active-filtered h)
