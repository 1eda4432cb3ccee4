-- Pairs of entries of which one stands before the other.
use Rattle.std.proofs.Common.{◌≡◌, ◌⊎◌, inl, inr, Bool, true, false, ◌||◌, List, [], ◌∷◌, ◌++◌, refl, ap, ◌∙◌}
use Rattle.std.specs.List.{list_any}
use Rattle.std.proofs.Math.Bool.{or-false}
use Rattle.std.proofs.lemmas.Bool.{false≢true, or_cases, or_left, or_right}
use Rattle.std.proofs.lemmas.List.Folds.{list_any-append}
use Rattle.process_tree.specs.declared.entry.Entry.{Entry}
use Rattle.schedule_model.proofs.Members.{Among, among-any, among_there, any-among}
use Rattle.history_judging.specs.Conflicting.{in_turn}

-- one of these and an entry behind them
pub in_turn-at : (q : Entry → Entry → Bool) (x y : Entry) (seen rest : List Entry) → Among x seen → q x y ≡ true → in_turn q (seen ++ y ∷ rest) ≡ true
in_turn-at q x y [] rest is has = absurd is
in_turn-at q x y (e ∷ seen) rest (inl here) has =
    or_left (list_any (q e) (seen ++ y ∷ rest)) (in_turn q (seen ++ y ∷ rest)) (any-among (q e) y (seen ++ y ∷ rest) (among_there seen y rest) (ap (λ z. q z y) here ∙ has))
in_turn-at q x y (e ∷ seen) rest (inr later) has =
    or_right (list_any (q e) (seen ++ y ∷ rest)) (in_turn q (seen ++ y ∷ rest)) (in_turn-at q x y seen rest later has)

or_middle : (a b c d : Bool) → ((a || b) || (c || d)) ≡ ((a || c) || (b || d))
or_middle true b c d = refl
or_middle false true true d = refl
or_middle false true false d = refl
or_middle false false c d = refl

-- one more entry behind these
pub in_turn-push : (q : Entry → Entry → Bool) (xs : List Entry) (y : Entry) → in_turn q (xs ++ y ∷ []) ≡ (in_turn q xs || list_any (λ x. q x y) xs)
in_turn-push q [] y = refl
in_turn-push q (x ∷ xs) y =
    ap (λ t. t || in_turn q (xs ++ y ∷ [])) (list_any-append (q x) xs (y ∷ []) ∙ ap (λ t. list_any (q x) xs || t) (or-false (q x y)))
    ∙ (ap (λ t. (list_any (q x) xs || q x y) || t) (in_turn-push q xs y)
    ∙ or_middle (list_any (q x) xs) (q x y) (in_turn q xs) (list_any (λ z. q z y) xs))

-- a pair of these, of which one stands before the other
pub record Pair (q : Entry → Entry → Bool) (es : List Entry) : Type 0 where
  pub first : Entry
  pub second : Entry
  pub is : q first second ≡ true
  pub first_there : Among first es
  pub second_there : Among second es
  pub in_turn : (r : Entry → Entry → Bool) → r first second ≡ true → in_turn r es ≡ true

pub pair_of : (q : Entry → Entry → Bool) (es : List Entry) → in_turn q es ≡ true → Pair q es
pair_of q [] is = absurd (false≢true is)
pair_of q (x ∷ es) is = by_first (or_cases (list_any (q x) es) (in_turn q es) is) (pair_of q es)
  where
    by_first : (list_any (q x) es ≡ true) ⊎ (in_turn q es ≡ true) → (in_turn q es ≡ true → Pair q es) → Pair q (x ∷ es)
    by_first (inl here) rest =
        let found = among-any (q x) es here in
        record {
          first = x;
          second = found.0;
          is = found.2;
          first_there = inl refl;
          second_there = inr found.1;
          in_turn = λ r has. or_left (list_any (r x) es) (in_turn r es) (any-among (r x) found.0 es found.1 has);
        }
    by_first (inr later) rest =
        let pair = rest later in
        record {
          first = pair.first;
          second = pair.second;
          is = pair.is;
          first_there = inr pair.first_there;
          second_there = inr pair.second_there;
          in_turn = λ r has. or_right (list_any (r x) es) (in_turn r es) (pair.in_turn r has);
        }
