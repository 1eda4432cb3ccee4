-- The refused pieces with one kept event more.
use Rattle.std.proofs.Common.{◌≡◌, ℕ, ◌+◌, ◌≤◌, Bool, true, false, not, cond, eqb, ◌||◌, List, [], ◌∷◌, ◌++◌, filter, find, Some, sym, refl, ap, ◌∙◌, append-nil, arith}
use Rattle.std.proofs.Math.Bool.{or-false}
use Rattle.std.specs.List.{list_any}
use Rattle.std.proofs.lemmas.Bool.{false≢true, or_parts, or_from}
use Rattle.std.proofs.lemmas.Option.{same_Some}
use Rattle.std.proofs.lemmas.List.Folds.{list_any-append}
use Rattle.std.proofs.lemmas.List.Elements.{filter-append}
use Rattle.process_tree.specs.Order.{Each}
use Rattle.process_tree.proofs.Every.{Each-weaker}
use Rattle.schedule_model.proofs.Snoc.{filter_same}
use Rattle.machine_model.specs.declared.kept.Kept.{Kept}
use Rattle.machine_model.specs.declared.kept.Kept.TheVariants.{Hand, Refuse}
use Rattle.machine_model.specs.Moment.{Moment, Piece}
use Rattle.machine_model.specs.Pieces.{hands, piece_of, is_effect, is_refusal, refused_pieces, runs}
use Rattle.machine_model.proofs.Counting.{count, count-some, none-count}
use Rattle.machine_model.proofs.Snoc.{hands-append}
use Rattle.machine_model.proofs.PieceCounts.{Counted, is_number, ends_piece}

-- an event that neither hands out nor refuses changes nothing
pub refused-plain : (ks : List Kept) (k : Kept) → hands (k ∷ []) ≡ [] → ((n : ℕ) → is_refusal n k ≡ false) → refused_pieces (ks ++ k ∷ []) ≡ refused_pieces ks
refused-plain ks k none never =
    ap (filter (λ p. list_any (is_refusal p.number) (ks ++ k ∷ []))) (hands-append ks (k ∷ []) ∙ (ap (λ ps. hands ks ++ ps) none ∙ append-nil (hands ks)))
    ∙ filter_same (λ p. list_any (is_refusal p.number) (ks ++ k ∷ [])) (λ p. list_any (is_refusal p.number) ks) (hands ks)
    (λ p. list_any-append (is_refusal p.number) ks (k ∷ []) ∙ (ap (λ t. list_any (is_refusal p.number) ks || (t || false)) (never p.number) ∙ or-false (list_any (is_refusal p.number) ks)))

fresh_step : (p : Piece) (ks : List Kept) → list_any (is_refusal p.number) ks ≡ false → filter (λ q. list_any (is_refusal q.number) ks) (p ∷ []) ≡ []
fresh_step p ks never = ap (λ t. cond t (p ∷ []) []) never

-- nor does a hand of a number that no event refused
pub refused-hand : (ks : List Kept) (p : Piece) → list_any (is_refusal p.number) ks ≡ false → refused_pieces (ks ++ Hand p.number p.process p.step p.work ∷ []) ≡ refused_pieces ks
refused-hand ks p never =
    let k : Kept = Hand p.number p.process p.step p.work in
    ap (filter (λ q. list_any (is_refusal q.number) (ks ++ k ∷ []))) (hands-append ks (k ∷ []))
    ∙ (filter_same (λ q. list_any (is_refusal q.number) (ks ++ k ∷ [])) (λ q. list_any (is_refusal q.number) ks) (hands ks ++ p ∷ [])
    (λ q. list_any-append (is_refusal q.number) ks (k ∷ []) ∙ or-false (list_any (is_refusal q.number) ks))
    ∙ (filter-append (λ q. list_any (is_refusal q.number) ks) (hands ks) (p ∷ [])
    ∙ (ap (λ ps. refused_pieces ks ++ ps) (fresh_step p ks never) ∙ append-nil (refused_pieces ks))))

-- the refused pieces among these, where n is refused too
abbrev pub refused_with : ℕ → List Kept → List Piece → List Piece
refused_with n ks ps = filter (λ p. list_any (is_refusal p.number) ks || eqb p.number n) ps

pub refused-more : (ks : List Kept) (n : ℕ) → refused_pieces (ks ++ Refuse n ∷ []) ≡ refused_with n ks (hands ks)
refused-more ks n =
    ap (filter (λ p. list_any (is_refusal p.number) (ks ++ Refuse n ∷ []))) (hands-append ks (Refuse n ∷ []) ∙ append-nil (hands ks))
    ∙ filter_same (λ p. list_any (is_refusal p.number) (ks ++ Refuse n ∷ [])) (λ p. list_any (is_refusal p.number) ks || eqb p.number n) (hands ks)
    (λ p. list_any-append (is_refusal p.number) ks (Refuse n ∷ []) ∙ ap (λ t. list_any (is_refusal p.number) ks || t) (or-false (eqb p.number n)))

other_step : (r : Piece → Bool) (p : Piece) (ys zs : List Piece) (t u : Bool) → (u ≡ true → r p ≡ false) → filter r ys ≡ filter r zs → filter r (cond (t || u) (p ∷ ys) ys) ≡ filter r (cond t (p ∷ zs) zs)
other_step r p ys zs true u not same = rw same refl
other_step r p ys zs false true not same = ap (λ t. cond t (p ∷ filter r ys) (filter r ys)) (not refl) ∙ same
other_step r p ys zs false false not same = same

-- where the refused piece fails a test, those that pass it stay
refused-other_in : (r : Piece → Bool) (ks : List Kept) (n : ℕ) (ps : List Piece) → Each (λ p. eqb p.number n ≡ true → r p ≡ false) ps
    → filter r (refused_with n ks ps) ≡ filter r (filter (λ p. list_any (is_refusal p.number) ks) ps)
refused-other_in r ks n [] each = refl
refused-other_in r ks n (p ∷ ps) each =
    other_step r p (refused_with n ks ps) (filter (λ q. list_any (is_refusal q.number) ks) ps) (list_any (is_refusal p.number) ks) (eqb p.number n) each.0 (refused-other_in r ks n ps each.1)

pub refused-other : (r : Piece → Bool) (ks : List Kept) (n : ℕ) → Each (λ p. eqb p.number n ≡ true → r p ≡ false) (hands ks)
    → filter r (refused_pieces (ks ++ Refuse n ∷ [])) ≡ filter r (refused_pieces ks)
refused-other r ks n each = ap (filter r) (refused-more ks n) ∙ refused-other_in r ks n (hands ks) each

none_each : {X : Type 0} (p : X → Bool) (y : X) (xs : List X) → list_any p xs ≡ false → Each (λ x. p x ≡ true → x ≡ y) xs
none_each p y [] none = tt
none_each p y (x ∷ xs) none = let parts = or_parts (p x) (list_any p xs) none in ((λ is. absurd (false≢true (sym parts.0 ∙ is))), none_each p y xs parts.1)

only_step : {X : Type 0} (p : X → Bool) (x y : X) (xs : List X) (t : Bool) → p x ≡ t → (count p xs ≤ 1 → find p xs ≡ Some y → Each (λ z. p z ≡ true → z ≡ y) xs)
    → cond {A = ℕ} t 1 0 + count p xs ≤ 1 → cond t (Some x) (find p xs) ≡ Some y → Each (λ z. p z ≡ true → z ≡ y) (x ∷ xs)
only_step p x y xs true at rest few found = ((λ is. same_Some x y found), none_each p y xs (none-count p xs (omega arith)))
only_step p x y xs false at rest few found = ((λ is. absurd (false≢true (sym at ∙ is))), rest (omega arith) found)

-- where at most one passes, the one that is found is the only one
pub only_found : {X : Type 0} (p : X → Bool) (y : X) (xs : List X) → count p xs ≤ 1 → find p xs ≡ Some y → Each (λ x. p x ≡ true → x ≡ y) xs
only_found p y [] few found = tt
only_found p y (x ∷ xs) few found = only_step p x y xs (p x) refl (only_found p y xs) few found

weaker_none : {X : Type 0} (p q : X → Bool) (xs : List X) → ((x : X) → p x ≡ false → q x ≡ false) → list_any p xs ≡ false → list_any q xs ≡ false
weaker_none p q [] weaker none = refl
weaker_none p q (x ∷ xs) weaker none =
    let parts = or_parts (p x) (list_any p xs) none in or_from (q x) (list_any q xs) (weaker x parts.0) (weaker_none p q xs weaker parts.1)

-- where no event ended piece n, none refused it
unended-unrefused : (m : Moment) (n : ℕ) → count (ends_piece n) m.kept ≡ 0 → list_any (is_refusal n) m.kept ≡ false
unended-unrefused m n none = refusals_among m.kept (none-count (ends_piece n) m.kept none)
  where
    refusals_among : (ks : List Kept) → list_any (ends_piece n) ks ≡ false → list_any (is_refusal n) ks ≡ false
    refusals_among ks never = weaker_none (ends_piece n) (is_refusal n) ks (λ k is. (or_parts (is_effect n k) (is_refusal n k) is).1) never

-- a number that wasn't handed out was never refused
pub unhanded-unrefused : (m : Moment) (n : ℕ) → Counted m → count (is_number n) (hands m.kept) ≡ 0 → list_any (is_refusal n) m.kept ≡ false
unhanded-unrefused m n c none = unended-unrefused m n (let p = c.parted n in omega arith)

-- nor was a piece that is out
pub out-unrefused : (m : Moment) (n : ℕ) → Counted m → runs m n ≡ true → list_any (is_refusal n) m.kept ≡ false
out-unrefused m n c out = let some = count-some (is_number n) m.out out in unended-unrefused m n (let p = c.parted n in let o = c.once n in omega arith)

-- a refusal of piece n leaves the refused pieces of other processes
pub refused-others : (m : Moment) (n i : ℕ) (p : Piece) (r : Piece → Bool) → Counted m → piece_of m.kept n ≡ Some p → eqb p.process i ≡ false → ((q : Piece) → eqb q.process i ≡ false → r q ≡ false)
    → filter r (refused_pieces (m.kept ++ Refuse n ∷ [])) ≡ filter r (refused_pieces m.kept)
refused-others m n i p r c found away never =
    refused-other r m.kept n (Each-weaker (λ q. eqb q.number n ≡ true → q ≡ p) (λ q. eqb q.number n ≡ true → r q ≡ false)
    (λ q only is. never q (ap (λ (x : Piece). eqb x.process i) (only is) ∙ away)) (hands m.kept) (only_found (is_number n) p (hands m.kept) (c.once n) found))
