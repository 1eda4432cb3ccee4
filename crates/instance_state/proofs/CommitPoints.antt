-- What a process owes follows its last commit point.
use Rattle.std.proofs.Common.{◌≡◌, ℕ, zero, suc, ◌+◌, ◌<◌, ◌≤◌, Bool, true, false, nat_eq, if◌then◌else◌, List, [], ◌∷◌, ◌++◌, length, take, Option, Some, None, refl, sym, ap, subst, ◌∙◌, arith}
use Rattle.std.specs.Option.{IfSome}
use Rattle.std.proofs.lemmas.Bool.{ne_eqb}
use Rattle.std.proofs.lemmas.Option.{none-some, same_Some}
use Rattle.process_tree.specs.Laws.{IsTreeShape}
use Rattle.process_tree.specs.Recovery.{forward}
use Rattle.process_tree.specs.Shape.{Shape, branch_to, commits, fixed_len, last_commit, last_of, last_after}
use Rattle.process_tree.proofs.Fixed.{fixed_more, fixed_le}
use Rattle.instance_state.specs.Rows.{done_to}
use Rattle.instance_state.proofs.Lists.{length_push, take_all, take_push}
use Rattle.instance_state.proofs.RowFacts.{behind_within, branch_behind, commit_more, less_behind}

-- the fixed part of what is done to step b is what is done to step c
pub record IsFixedTo (t : Shape) (b c : ℕ) : Type 0 where
  pub within : c < length t.kinds
  pub part : take (fixed_len t (done_to t (Some b))) (done_to t (Some b)) ≡ done_to t (Some c)

none_last : (k : ℕ) → last_of (take k []) ≡ None
none_last zero = refl
none_last (suc k) = refl

module _ (t : Shape) (tree : IsTreeShape t) (b c : ℕ) (lt : b < length t.kinds) (is : last_commit t (done_to t (Some b)) ≡ Some c) where
  abbrev v : List ℕ
  v = branch_to t b

  at_commit : commits t b ≡ true → IsFixedTo t b c
  at_commit fixes =
      let all : fixed_len t (v ++ b ∷ []) ≡ length v + 1 = fixed_more t v b ∙ ap (λ k. if k then length v + 1 else fixed_len t v) fixes in
      let same : b ≡ c = same_Some b c (sym (commit_more t v b ∙ ap (λ k. if k then Some b else last_commit t v) fixes) ∙ is) in
      let long = length_push v b in
      record {
        within = subst (λ x. x < length t.kinds) same lt;
        part = take_all (v ++ b ∷ []) (fixed_len t (v ++ b ∷ [])) (omega arith) ∙ ap (λ x. done_to t (Some x)) same;
      }

  before_it : commits t b ≡ false → last_commit t v ≡ Some c
  before_it leaves = sym (commit_more t v b ∙ ap (λ k. if k then Some b else last_commit t v) leaves) ∙ is

  same_part : commits t b ≡ false → take (fixed_len t (v ++ b ∷ [])) (v ++ b ∷ []) ≡ take (fixed_len t v) v
  same_part leaves = ap (λ k. take k (v ++ b ∷ [])) (fixed_more t v b ∙ ap (λ k. if k then length v + 1 else fixed_len t v) leaves) ∙ take_push v b (fixed_len t v) (fixed_le t v)

  by_kind : ((a : ℕ) → last_of v ≡ Some a → last_commit t (done_to t (Some a)) ≡ Some c → IsFixedTo t a c) → (k : Bool) → commits t b ≡ k → IsFixedTo t b c
  by_kind rest true fixes = at_commit fixes
  by_kind rest false leaves = by_last (last_of v) refl
    where
      by_last : (o : Option ℕ) → last_of v ≡ o → IsFixedTo t b c
      by_last None at =
          let empty : v ≡ [] = branch_behind t tree b lt ∙ ap (done_to t) at in
          absurd (none-some c (sym (ap (last_commit t) empty ∙ none_last (fixed_len t [])) ∙ before_it leaves))
      by_last (Some a) at =
          let here : v ≡ done_to t (Some a) = branch_behind t tree b lt ∙ ap (done_to t) at in
          let fixed = rest a at (ap (last_commit t) (sym here) ∙ before_it leaves) in
          record { within = fixed.within; part = same_part leaves ∙ (ap (λ w. take (fixed_len t w) w) here ∙ fixed.part) }

-- so it is with the last commit point
fixed_to_below : (t : Shape) → IsTreeShape t → (n b c : ℕ) → b < n → b < length t.kinds → last_commit t (done_to t (Some b)) ≡ Some c → IsFixedTo t b c
fixed_to_below t tree zero b c less lt is = absurd (omega arith)
fixed_to_below t tree (suc n) b c less lt is =
    by_kind t tree b c lt is (λ a at before. let low = less_behind t tree b a at in fixed_to_below t tree n a c (omega arith) (subst (λ o. IfSome o (λ x. x < length t.kinds)) at (behind_within t tree b lt)) before)
    (commits t b) refl

pub fixed_to : (t : Shape) → IsTreeShape t → (b c : ℕ) → b < length t.kinds → last_commit t (done_to t (Some b)) ≡ Some c → IsFixedTo t b c
fixed_to t tree b c lt is = fixed_to_below t tree (b + 1) b c (omega arith) lt is

-- what is owed follows it
pub owed_behind_commit : (t : Shape) (b c : ℕ) → IsFixedTo t b c → last_after t (done_to t (Some c)) ≡ forward t (done_to t (Some b))
owed_behind_commit t b c fixed =
    ap (last_after t) (sym fixed.part)
    ∙ sym (ap (λ k. if k then [] else last_after t (take (fixed_len t w) w)) (ne_eqb (fixed_len t w) 0 (λ none. let long = length_push (branch_to t c) c in let empty = ap length (sym fixed.part ∙ ap (λ n. take n w) none) in absurd (omega arith))))
  where
    w : List ℕ
    w = done_to t (Some b)

-- without a commit point nothing is owed
pub nothing_owed : (t : Shape) (w : List ℕ) → last_commit t w ≡ None → forward t w ≡ []
nothing_owed t w none = ap (λ n. if nat_eq n 0 then [] else last_after t (take n w)) (by_fixed (fixed_len t w) w (fixed_le t w) none)
  where
    some_last : (x : ℕ) (xs : List ℕ) → last_of (x ∷ xs) ≡ None → ⊥
    some_last x [] is = none-some x (sym is)
    some_last x (y ∷ xs) is = some_last y xs is

    by_fixed : (n : ℕ) (xs : List ℕ) → n ≤ length xs → last_of (take n xs) ≡ None → n ≡ 0
    by_fixed zero xs most is = refl
    by_fixed (suc n) [] most is = absurd (omega arith)
    by_fixed (suc n) (x ∷ xs) most is = absurd (some_last x (take n xs) is)
