use Rattle.std.proofs.Common.{◌≡◌, ◌∙◌, ◌<◌, ◌≤◌, ap, sym, length, get_or, List, ℕ}
use denote.Ref.{Bor}
use Rattle.process_tree.specs.Making.{same_text}
use Rattle.trace_verify.specs.Names.{is_named}
use Rattle.trace_verify.proofs.Naming.{named-at, named-past, same-sym}
use Rattle.trace_verify.proofs.names.Names.is_named.Goals as goal

pub returns-in-Some : goal.returns-in-Some
returns-in-Some c =
    let names = c.self.inside.list.items in
    let w = c.args.name.now in
    let k = c.args.number in
    let at = c.in-Some.ensures.lookup.3 in
    let less : k < length names = rw (← c.deref.ensures.value, ← c.from.ensures) at.0 in
    let there : c.in-Some.named.now ≡ get_or names k c.in-Some.named.now = rw (← c.deref.ensures.value, ← c.from.ensures) (at.1 c.in-Some.named.now) in
    c.eq.ensures
    ∙ (same-sym c.in-Some.named.now.now w
    ∙ (ap (λ (n : Bor (List ℕ)). same_text w n.now) there
    ∙ (sym (named-at names k c.in-Some.named.now w less) ∙ ap (λ ns. is_named ns k w) c.self.view_is)))

pub returns-in-None : goal.returns-in-None
returns-in-None c =
    let names = c.self.inside.list.items in
    let w = c.args.name.now in
    let k = c.args.number in
    let past : length names ≤ k = rw (← c.deref.ensures.value, ← c.from.ensures) c.in-None.ensures.lookup.3 in
    sym (ap (λ ns. is_named ns k w) (sym c.self.view_is) ∙ named-past names k w past)
