use Rattle.std.proofs.Common.{not, filter, rules, ap, ◌∙◌}
use Rattle.std.proofs.lemmas.Fn.{filter_same}
use Rattle.schedule_model.specs.Histories.{is_in, starts}
use Rattle.schedule_rules.proofs.completion.active_processes.Goals as goal

pub returns : goal.returns
returns c =
    filter_same _ (λ i. not (is_in i c.in_ok-ended.ended.items)) _ (λ x b f' k. search rules) c.in_ok-processes.processes.items c.retain.new.self.items c.retain.ensures.filtered
    ∙ (ap (filter (λ i. not (is_in i c.in_ok-ended.ended.items))) c.in_ok-processes.ensures
    ∙ ap (λ es. filter (λ i. not (is_in i es)) (starts c.args.events.now)) c.in_ok-ended.ensures)
