use Rattle.std.proofs.Common.{List, ◌∷◌, not, sym, ap, get_or, take, drop, length, ◌-◌, ◌∙◌}
use Rattle.process_tree.specs.Conflicts.{do_conflict}
use Rattle.dependence_model.specs.declared.placed.Placed.{Placed}
use Rattle.dependence_model.specs.Dependence.{chained, depends_on_any, entries_of}
use Rattle.schedule_rules.proofs.ListTests.{first_split}
use Rattle.audit_core.proofs.Chains.{chain_leads}
use Rattle.audit_core.proofs.Takings.{nothing}
use Rattle.audit_core.proofs.dependence.can_go.Goals as goal

pub returns-then-depends : goal.returns-then-depends
returns-then-depends c =
    let table = do_conflict c.args.c.now in
    let xs = c.loop-rest.rest.now in
    let x : Placed = get_or xs 0 nothing in
    let after : List Placed = take (length xs - 1) (drop 1 xs) in
    let i = c.loop-rest.invariant in
    let split = first_split xs nothing c.in-len1-up.len_at_least in
    sym (ap not (chain_leads table c.args.step.now c.loop-rest.found.items (entries_of after) _ x.entry c.args.undo.now
    (ap (λ (ys : List Placed). chained table c.args.step.now c.loop-rest.found.items (entries_of ys)) (sym split) ∙ i.chain)
    (ap (λ es. depends_on_any table (c.args.step.now ∷ es) x.entry) (sym c.deref.ensures.value) ∙ (sym c.is_chained.ensures ∙ c.if-is_chained.true)) (sym c.depends.ensures ∙ c.if-depends.true)))
