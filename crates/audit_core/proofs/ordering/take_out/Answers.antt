use Rattle.std.proofs.Common.{not, nat_eq, rules}
use Rattle.std.proofs.lemmas.Fn.{filter_same}
use Rattle.audit_core.proofs.ordering.take_out.Goals as goal

pub returns : goal.returns
returns c =
    filter_same _ (λ k. not (nat_eq k c.args.i)) _ (λ x b f' k. search rules) c.args.all.now.items c.retain.new.self.items c.retain.ensures.filtered
