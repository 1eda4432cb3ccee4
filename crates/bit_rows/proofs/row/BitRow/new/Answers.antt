use Rattle.std.proofs.Common.{◌∷◌, [], ◌∙◌, ◌<◌, ◌≡◌, ℕ, zero, suc, List, slice_index_or, refl}
use Rattle.bit_rows.proofs.Columns.{column_of, none_set}
use Rattle.bit_rows.proofs.row.BitRow.new.Goals as goal

abbrev empty : List ℕ
empty = 0 ∷ 0 ∷ 0 ∷ 0 ∷ []

zeros : (j : ℕ) → j < 4 → slice_index_or empty j 0 ≡ 0
zeros zero less = refl
zeros (suc zero) less = refl
zeros (suc (suc zero)) less = refl
zeros (suc (suc (suc zero))) less = refl
zeros (suc (suc (suc (suc j)))) less = refl

pub returns : goal.returns
returns c k = column_of empty k refl ∙ none_set empty refl zeros k
