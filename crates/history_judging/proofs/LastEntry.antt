-- The last of some entries.
use Rattle.std.proofs.Common.{◌≡◌, ◌-◌, ◌≤◌, List, [], ◌∷◌, ◌++◌, length, take, get_or, refl, ap, ◌∙◌}
use Rattle.process_tree.specs.declared.entry.Entry.{Entry}
use Rattle.schedule_model.specs.Histories.{same_step}
use Rattle.schedule_model.specs.OwnOrder.{is_of_last}
use Rattle.schedule_rules.proofs.ListTests.{last_split}

is_of_last-push : (xs : List Entry) (x e : Entry) → is_of_last (xs ++ x ∷ []) e ≡ same_step x e
is_of_last-push [] x e = refl
is_of_last-push (y ∷ []) x e = refl
is_of_last-push (y ∷ z ∷ xs) x e = is_of_last-push (z ∷ xs) x e

pub last-is : (xs : List Entry) (d e : Entry) → 1 ≤ length xs → is_of_last xs e ≡ same_step (get_or xs (length xs - 1) d) e
last-is xs d e some = ap (λ ys. is_of_last ys e) (last_split xs d some) ∙ is_of_last-push (take (length xs - 1) xs) (get_or xs (length xs - 1) d) e
