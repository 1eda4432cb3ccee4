use Rattle.std.proofs.Common.{◌≡◌, ◌∙◌, ◌++◌, ◌∷◌, [], ap, sym, arith, rules, length}
use Rattle.trace_verify.specs.Names.{found}
use Rattle.trace_verify.proofs.Naming.{numbered-pushed, number-pushed}
use Rattle.trace_verify.proofs.names.Names.number.Goals as goal

pub invariant_of-self-in-Ok : goal.invariant_of-self-in-Ok
invariant_of-self-in-Ok c =
    let items = c.self.inside.list.items in
    let long : c.len-n.result ≡ length items = omega (arith, c.len-n.ensures, c.self.inside.list.ok.0) in
    let pushed : c.push.new.self.items ≡ items ++ c.args.name ∷ [] = search rules in
    numbered-pushed c.self.inside.numbers c.insert.new.self items c.push.new.self.items c.args.name c.len-n.result c.self.invariant
    (ap (λ ns. found ns c.args.name.now) c.self.view_is ∙ sym c.in_default.ensures.found) pushed long c.in-Ok.ensures.updates

pub returns-in-Ok-clause-number : goal.returns-in-Ok-clause-number
returns-in-Ok-clause-number c =
    let items = c.self.inside.list.items in
    let long : c.len-n.result ≡ length items = omega (arith, c.len-n.ensures, c.self.inside.list.ok.0) in
    let pushed : c.push.new.self.items ≡ items ++ c.args.name ∷ [] = search rules in
    number-pushed items c.push.new.self.items c.args.name c.len-n.result
    (ap (λ ns. found ns c.args.name.now) c.self.view_is ∙ sym c.in_default.ensures.found) pushed long
