-- What a book comes to when what is in doubt in it is committed, taken back, or prepared.
use Rattle.std.proofs.Common.{◌≡◌, Bool, List, [], ◌∷◌, ◌++◌, ◌&&◌, append-nil, true, false, sym, ◌∙◌, ap, if◌then◌else◌}
use Rattle.std.specs.List.{All, list_all}
use Rattle.std.proofs.lemmas.Bool.{false≢true}
use Rattle.std.proofs.lemmas.List.Elements.{All-head}
use Rattle.subsystem_store.specs.declared.effect.Effect.{Effect}
use Rattle.history_files.specs.Sound.{are_among, counted, is_among}

-- the book once a doubt is ended: committed, as a recorded one is, or taken back
abbrev pub book_after : Bool → List Effect → List Effect → List Effect
book_after recorded book doubt = if recorded then book ++ doubt else book

-- that is what the book comes to, by whether what is in doubt stands among the effects
pub counted_by : (recorded : Bool) (es book doubt : List Effect) → are_among doubt es ≡ recorded → counted es book doubt ≡ book_after recorded book doubt
counted_by true es book [] among = sym (append-nil book)
counted_by false es book [] among = absurd (false≢true (sym among))
counted_by recorded es book (e ∷ doubt) among = ap (λ b. if b then book ++ e ∷ doubt else book) among

-- so once the doubt is ended, the book is all of the effects
pub counts_after : (recorded : Bool) (es book doubt : List Effect) → are_among doubt es ≡ recorded → counted es book doubt ≡ es → book_after recorded book doubt ≡ es
counts_after recorded es book doubt among counts = sym (counted_by recorded es book doubt among) ∙ counts

-- effects of which each is new are not all among them
pub not_all_among : (es : List Effect) (e : Effect) (new : List Effect) → All (λ (x : Effect). is_among x es ≡ false) (e ∷ new) → are_among (e ∷ new) es ≡ false
not_all_among es e new lacks = ap (λ b. b && list_all (λ (x : Effect). is_among x es) new) (All-head (λ (x : Effect). is_among x es ≡ false) e new lacks)

-- a book that is all of them comes to them with new effects in doubt
pub counts_doubt : (es book new : List Effect) → All (λ (x : Effect). is_among x es ≡ false) new → book ≡ es → counted es book new ≡ es
counts_doubt es book [] lacks is = is
counts_doubt es book (e ∷ new) lacks is = counted_by false es book (e ∷ new) (not_all_among es e new lacks) ∙ is
