use Rattle.std.proofs.Common.{◌≡◌, ◌++◌, ◌∷◌, [], drop}
use Rattle.std.specs.List.{list_any}
use Rattle.commute_table.specs.Reading.{is_new}
use Rattle.commute_table.proofs.reading.has_free_end.Given as goal

-- none of the bytes so far does
abbrev pub invariant-loop-end : goal.invariant-loop-end
invariant-loop-end l = list_any (λ b. is_new l.earlier (l.text ++ b ∷ [])) (drop l.end-index l.ends) ≡ list_any (λ b. is_new l.earlier (l.text ++ b ∷ [])) l.ends
