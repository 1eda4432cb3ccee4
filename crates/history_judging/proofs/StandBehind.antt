-- Pairs of entries of different steps: one stands behind the other.
use Rattle.std.proofs.Common.{◌≡◌, ◌⊎◌, inl, inr, Bool, true, false, not, cond, List, [], ◌∷◌, ◌++◌, sym, refl, ap, ◌∙◌, subst}
use Rattle.std.specs.List.{list_any}
use Rattle.std.proofs.lemmas.Bool.{false≢true, not-true, or_cases, or_left, or_right}
use Rattle.process_tree.specs.declared.entry.Entry.{Entry}
use Rattle.schedule_model.specs.Histories.{same_step}
use Rattle.schedule_model.specs.Holdings.{behind}
use Rattle.schedule_model.proofs.Apart.{Apart}
use Rattle.schedule_model.proofs.Behind.{behind-split, same_step-itself, same_step-symmetric, split_at}
use Rattle.schedule_model.proofs.Members.{Among, all-among, among-any, any-among}
use Rattle.history_judging.specs.Conflicting.{in_turn}

in_turn-there : (q : Entry → Entry → Bool) (before : List Entry) (x y : Entry) (after : List Entry) → Among y after → q x y ≡ true → in_turn q (before ++ x ∷ after) ≡ true
in_turn-there q [] x y after is has = or_left (list_any (q x) after) (in_turn q after) (any-among (q x) y after is has)
in_turn-there q (e ∷ before) x y after is has =
    or_right (list_any (q e) (before ++ x ∷ after)) (in_turn q (before ++ x ∷ after)) (in_turn-there q before x y after is has)

-- an entry and one that stands behind it
pub in_turn-behind : (q : Entry → Entry → Bool) (es : List Entry) (x y : Entry) → Apart es → Among x es → Among y (behind x es) → q x y ≡ true → in_turn q es ≡ true
in_turn-behind q es x y apart there back has =
    let s = split_at x es apart there in
    let after = subst (Among y) (ap (behind x) s.is ∙ behind-split s.before x s.after s.none_before) back in
    ap (in_turn q) s.is ∙ in_turn-there q s.before x y s.after after has

-- where there is such a pair, one stands behind the other
pub record Behind (q : Entry → Entry → Bool) (es : List Entry) : Type 0 where
  pub first : Entry
  pub second : Entry
  pub there : Among first es
  pub back : Among second (behind first es)
  pub is : q first second ≡ true

pub behind_of : (q : Entry → Entry → Bool) (es : List Entry) → Apart es → in_turn q es ≡ true → Behind q es
behind_of q [] apart is = absurd (false≢true is)
behind_of q (e ∷ es) apart is = by_first (or_cases (list_any (q e) es) (in_turn q es) is) (behind_of q es apart.1)
  where
    other : (x : Entry) → Among x es → same_step x e ≡ false
    other x there = same_step-symmetric x e ∙ not-true (same_step e x) (all-among (λ f. not (same_step e f)) es apart.0 x there)

    by_first : (list_any (q e) es ≡ true) ⊎ (in_turn q es ≡ true) → (in_turn q es ≡ true → Behind q es) → Behind q (e ∷ es)
    by_first (inl here) rest =
        let found = among-any (q e) es here in
        record {
          first = e;
          second = found.0;
          there = inl refl;
          back = subst (λ t. Among found.0 (cond t es (behind e es))) (sym (same_step-itself e)) found.1;
          is = found.2;
        }
    by_first (inr later) rest =
        let b = rest later in
        record {
          first = b.first;
          second = b.second;
          there = inr b.there;
          back = subst (λ t. Among b.second (cond t es (behind b.first es))) (sym (other b.first b.there)) b.back;
          is = b.is;
        }
