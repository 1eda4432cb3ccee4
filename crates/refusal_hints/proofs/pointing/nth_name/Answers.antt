use Rattle.std.proofs.Common.{◌∙◌, ap, arith, Some}
use Rattle.std.specs.Prelude.{option_and_then}
use Rattle.toml.proofs.Views.{get_item_within, get_item_past}
use Rattle.toml.specs.View.{view}
use Rattle.refusal_hints.specs.Near.{name_in}
use Rattle.refusal_hints.proofs.pointing.nth_name.Goals as goal

pub returns-then-k-tables : goal.returns-then-k-tables
returns-then-k-tables c =
    c.name_in.ensures ∙ ap (option_and_then name_in) (ap (λ v. Some (view v)) c.index-tables-k.is ∙ get_item_within c.args.tables.now c.args.k c.index-tables-k.result (omega arith))

pub returns-else-k-tables : goal.returns-else-k-tables
returns-else-k-tables c = ap (option_and_then name_in) (get_item_past c.args.tables.now c.args.k (omega arith))
