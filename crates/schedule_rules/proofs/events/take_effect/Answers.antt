use Rattle.std.proofs.Common.{not, filter, rules, sym, ap, ◌∙◌, ◌++◌, ◌∷◌, [], if◌then◌else◌}
use Rattle.std.proofs.lemmas.Fn.{filter_same}
use Rattle.schedule_model.specs.Histories.{same_step}
use Rattle.schedule_rules.proofs.events.take_effect.Goals as goal

pub returns-then-entry : goal.returns-then-entry
returns-then-entry c =
    let was = c.args.entries.now.items in
    let e = c.args.entry in
    filter_same _ (λ f. not (same_step f e)) _ (λ x b f' k. search rules) was c.retain.new.self.items c.retain.ensures.filtered
    ∙ sym (ap (λ u. if u then filter (λ f. not (same_step f e)) was else was ++ e ∷ []) c.if-entry.true)
