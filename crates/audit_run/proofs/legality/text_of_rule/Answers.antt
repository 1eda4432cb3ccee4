use Rattle.std.proofs.Common.{◌∙◌, ◌++◌, ◌-◌, List, ℕ, map, codes, decimal, ap, sym}
use Rattle.std.specs.List.{slice_get}
use Rattle.std.specs.Option.{option_to_list}
use Rattle.process_report.specs.Lines.{event_line, text_of}
use Rattle.process_report.specs.Report.{form_of}
use Rattle.audit_run.specs.History.{legality_text, rule_part}
use Rattle.audit_run.proofs.Ruled.{rule-there}
use Rattle.audit_run.proofs.legality.text_of_rule.Goals as goal

pub returns : goal.returns
returns c =
    let catalog = c.args.c.now in
    let h = c.args.h.now in
    let n = c.in-Some.n in
    let line = text_of (map (event_line (form_of catalog) h.plans catalog.ops) (option_to_list (slice_get h.events (n - 1)))) in
    c.in_ok-put_event_at.ensures
    ∙ (ap (λ (t : List ℕ). t ++ line)
    (c.in_ok-put_refused.ensures
    ∙ (ap (λ (t : List ℕ). t ++ codes "not legal at " ++ decimal n ++ rule_part c.args.rule ++ codes "\n") c.new-text.ensures.items
    ∙ ap (λ r. codes "not legal at " ++ decimal n ++ rule_part r ++ codes "\n") (rule-there catalog h c.args.first c.args.rule c.requires n c.in-Some.is)))
    ∙ ap (legality_text catalog h) (sym c.in-Some.is))
