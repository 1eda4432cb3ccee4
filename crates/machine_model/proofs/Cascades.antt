-- The computed cascade is the least set.
use Rattle.std.proofs.Common.{◌≡◌, ℕ, eqb, List, [], ◌∷◌, sym, ap, ◌∙◌}
use Rattle.std.proofs.Math.Bool.{or-false}
use Rattle.std.specs.Bool.{IsTrue}
use Rattle.std.proofs.lemmas.Bool.{eqb-true}
use Rattle.process_tree.specs.declared.entry.Entry.{Entry}
use Rattle.schedule_model.specs.Conflict.{ConflictRelation}
use Rattle.schedule_model.specs.Histories.{is_in}
use Rattle.schedule_model.specs.Holdings.{Holdings, holders}
use Rattle.schedule_model.proofs.Walks.{reached_least}
use Rattle.machine_model.specs.Cascade.{IsCascade, cascade, drags}

alone : (k root : ℕ) → IsTrue (is_in k (root ∷ [])) → k ≡ root
alone k root is = eqb-true k root (sym (or-false (eqb k root)) ∙ is)

pub cascade-least : (table : ConflictRelation) (g : Holdings) (root : ℕ) (entries : List Entry) → IsTrue (is_in root (holders g))
    → IsCascade table g root entries (cascade table g root entries)
cascade-least table g root entries active = reached_least (drags table g root entries) (holders g) (root ∷ []) (λ k is. ap (λ i. is_in i (holders g)) (alone k root is) ∙ active)
