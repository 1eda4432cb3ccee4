use Rattle.std.proofs.Common.{not, rules, tests, eqb}
use Rattle.std.proofs.lemmas.Fn.{filter_same}
use Rattle.process_tree.specs.declared.entry.Entry.{Entry}
use Rattle.history_judging.proofs.keeping.leave.Goals as goal

pub returns : goal.returns
returns c =
    filter_same _ (λ (e : Entry). not (eqb e.process c.args.process)) _ (λ x b f' k. search (rules, tests)) c.args.entries.now.items c.retain.new.self.items c.retain.ensures.filtered
