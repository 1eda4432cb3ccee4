use Rattle.std.proofs.Common.{◌≡◌, List, ℕ, Ok, Err, rules, subst}
use Rattle.commute_table.specs.Document.{Says}
use Rattle.command_input.specs.Inputs.{input}
use Rattle.init_run.specs.Init.{IsWithoutWarning}
use Rattle.init_run.specs.Strict.{IsUnpassed}
use Rattle.init_run.proofs.Strictly.{unpassed}
use Rattle.init_run.proofs.creating.catalog_of.Goals as goal

pub returns-clause-read : goal.returns-clause-read
returns-clause-read g c = (
  c.in_ok-text.text.items,
  c.in_ok-text.ensures.text,
  (
    c.in_ok-catalog.field-0.processes,
    rw (← c.deref.ensures.value) c.in_ok-catalog.ensures.says,
    c.in_ok-passed.ensures.sound,
    λ strict. subst (λ (text : List ℕ). IsWithoutWarning c.in_ok-catalog.field-0.catalog text) c.bytes.ensures (c.in_ok-passed.ensures.quiet strict),
  ),
)

pub returns-in_err-passed-clause-unmade : goal.returns-in_err-passed-clause-unmade
returns-in_err-passed-clause-unmade g c =
    let failed : c.from_residual-in_err-passed.result ≡ Err c.in_err-passed.field-0.0 = search rules in
    let says : Says c.in_ok-text.text.items (Ok c.in_ok-catalog.field-0) = rw (← c.deref.ensures.value) c.in_ok-catalog.ensures.says in
    rw failed (unpassed c.args.values c.args.strict (input g.S.Source c.args.source.now) (input g.S.Source c.text_of.new.source) c.in_ok-text.text.items c.in_ok-catalog.field-0 c.in_err-passed.field-0.0 c.in_ok-text.ensures.text says
    (subst (λ (text : List ℕ). IsUnpassed c.args.values c.args.strict c.in_ok-catalog.field-0.catalog text c.in_err-passed.field-0.0) c.bytes.ensures c.in_err-passed.ensures.unmade))
