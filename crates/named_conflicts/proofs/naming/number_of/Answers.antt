use Rattle.std.proofs.Common.{rules, tests, ◌≡◌, ℕ, ◌+◌, List, [], ◌∷◌, Some, if◌then◌else◌, refl, ap, ◌∙◌}
use Rattle.std.proofs.lemmas.Iterator.{YieldsList-from_slice}
use Rattle.std.proofs.lemmas.Iterator.Adapters.{position_from-zero}
use Rattle.std.proofs.lemmas.Iterator.Search.{position_from_yields_List}
use Rattle.std.specs.List.{position_from}
use Rattle.process_tree.specs.Making.{same_text}
use Rattle.commute_table.specs.declared.op.Op.{Op}
use Rattle.commute_table.specs.Document.{number_from}
use Rattle.named_conflicts.proofs.naming.number_of.Goals as goal

numbered : (name : List ℕ) (ops : List Op) (n : ℕ) → position_from (λ o. same_text o.name name) n ops ≡ number_from n ops name
numbered name [] n = refl
numbered name (o ∷ ops) n = ap (λ found. if same_text o.name name then Some n else found) (numbered name ops (n + 1))

pub returns-clause-number : goal.returns-clause-number
returns-clause-number c =
    position_from_yields_List (λ o. same_text o.name c.args.name.now) _ _ c.position.result c.position.ensures.ran (YieldsList-from_slice _ c.iter.ensures.rest) (λ x b q k. search (rules, tests))
    ∙ position_from-zero _ c.args.ops.now ∙ numbered c.args.name.now c.args.ops.now 0
