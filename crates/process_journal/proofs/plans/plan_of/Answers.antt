use Rattle.std.proofs.Common.{[], sym, ◌∙◌, subst}
use Rattle.std.proofs.lemmas.Bool.{false≢true}
use Rattle.process_tree.specs.declared.tree.Named.{Named}
use Rattle.process_tree.specs.Blocks.{outline}
use Rattle.commute_table.specs.declared.errors.BindError.TheVariants.{UnknownOp}
use Rattle.commute_table.specs.Binding.{numbers_bound, Fails}
use Rattle.process_journal.specs.Plans.{IsTextOf}
use Rattle.process_journal.proofs.TextPlans.{found_is, none_is, no_text, not_well_formed, not_bound}
use Rattle.process_journal.proofs.plans.plan_of.Goals as goal

pub returns-in_default : goal.returns-in_default
returns-in_default c =
    let none = none_is ((p : Named) → ¬ IsTextOf c.args.text.now p) (IsTextOf c.args.text.now) c.in_ok-named.field-0 c.in_default.is c.in_ok-named.ensures in
    no_text c.args.catalog.now c.args.text.now none

pub returns-then-not-branch : goal.returns-then-not-branch
returns-then-not-branch c =
    let own = found_is ((p : Named) → ¬ IsTextOf c.args.text.now p) (IsTextOf c.args.text.now) c.in_ok-named.field-0 c.in-Some.named c.in-Some.is c.in_ok-named.ensures in
    not_well_formed c.args.catalog.now c.args.text.now c.in-Some.named own (λ good. false≢true (sym c.if-not-branch.true ∙ c.in_ok-is_well_formed.ensures.1 good))

pub returns-in-Err-UnknownOp : goal.returns-in-Err-UnknownOp
returns-in-Err-UnknownOp c =
    let own = found_is ((p : Named) → ¬ IsTextOf c.args.text.now p) (IsTextOf c.args.text.now) c.in_ok-named.field-0 c.in-Some.named c.in-Some.is c.in_ok-named.ensures in
    let ops = c.args.catalog.now.ops in
    not_bound c.args.catalog.now c.args.text.now c.in-Some.named (UnknownOp c.in-Err-UnknownOp.field-0-0) own
    (subst (λ e. Fails e (numbers_bound ops [] (outline c.in-Some.named.tree).steps)) c.in-Err-UnknownOp.field-0-is c.in-Err-UnknownOp.ensures)
