-- Loops over steps: the first bad one, and the first with the name of an earlier one.
use Rattle.std.proofs.Math.Bool.{or-false, or_comm}
use Rattle.std.proofs.Common.{◌≡◌, ℕ, ◌+◌, ◌<◌, Bool, true, false, not, ◌||◌, List, [], ◌∷◌, ◌++◌, length, map, take, drop, drop-cons, reverse, get_or, add-one, Option, Some, ap, ◌∙◌, sym, refl, if◌then◌else◌}
use Rattle.std.proofs.lemmas.List.{take_more, reverse-append, map-append}
use Rattle.std.proofs.lemmas.List.Folds.{list_any-append}
use Rattle.std.specs.List.{list_any, position_from}
use Rattle.std.proofs.Common.{Bor}
use Rattle.process_tree.specs.declared.step.Step.{Step}
use Rattle.process_tree.specs.Making.{is_good_step, same_text, first_same_name, first_bad_step}

-- the steps behind references
abbrev pub now : List (Bor Step) → List Step
now rs = map (λ s. s.now) rs

-- the first behind n, and the rest
pub now-drop : (rs : List (Bor Step)) (n : ℕ) (r : Bor Step) → n < length rs → r ≡ get_or rs n r → now (drop n rs) ≡ r.now ∷ now (drop (n + 1) rs)
now-drop rs n r lt is = rw (add-one, drop-cons rs n r, ← is) refl

-- where the first bad step is found behind references, of which n stand before
pub bad_at : (rs : List (Bor Step)) (n : ℕ) → position_from (λ r. not (is_good_step r.now)) n rs ≡ first_bad_step n (now rs)
bad_at [] n = refl
bad_at (r ∷ rs) n = here (is_good_step r.now) (bad_at rs (n + 1))
  where
    here : (good : Bool) {x y : Option ℕ} → x ≡ y → (if not good then Some n else x) ≡ (if good then y else Some n)
    here true e = e
    here false e = refl

-- the names of these steps, the last first
abbrev pub names_back : List (Bor Step) → List (List ℕ)
names_back rs = reverse (map (λ s. s.now.name) rs)

-- whether one of them is this name doesn't depend on the order
any_back : (name : List ℕ) (rs : List (Bor Step)) → list_any (same_text name) (names_back rs) ≡ list_any (λ s. same_text name s.now.name) rs
any_back name [] = refl
any_back name (r ∷ rs) =
    let names : List (List ℕ) = map (λ s. s.now.name) rs in
    ap (list_any (same_text name)) (reverse-append (r.now.name ∷ []) names)
    ∙ list_any-append (same_text name) (reverse names) (r.now.name ∷ [])
    ∙ ap (λ b. b || (same_text name r.now.name || false)) (any_back name rs)
    ∙ ap (λ b. list_any (λ s. same_text name s.now.name) rs || b) (or-false (same_text name r.now.name))
    ∙ or_comm (list_any (λ s. same_text name s.now.name) rs) (same_text name r.now.name)

-- one name more
back_next : (rs : List (Bor Step)) (n : ℕ) (r : Bor Step) → n < length rs → r ≡ get_or rs n r → names_back (take (n + 1) rs) ≡ r.now.name ∷ names_back (take n rs)
back_next rs n r lt is =
    ap names_back (take_more rs n r lt ∙ ap (λ x. take n rs ++ x ∷ []) (sym is))
    ∙ ap reverse (map-append (λ s. s.now.name) (take n rs) (r ∷ []))
    ∙ reverse-append (map (λ s. s.now.name) (take n rs)) (r.now.name ∷ [])

-- a new name is passed over
pub name_next : (rs : List (Bor Step)) (n : ℕ) (r : Bor Step) (w : Option ℕ) → n < length rs → r ≡ get_or rs n r → list_any (λ s. same_text r.now.name s.now.name) (take n rs) ≡ false → first_same_name n (names_back (take n rs)) (now (drop n rs)) ≡ w → first_same_name (n + 1) (names_back (take (n + 1) rs)) (now (drop (n + 1) rs)) ≡ w
name_next rs n r w lt is new inv =
    let rest = now (drop (n + 1) rs) in
    let step : first_same_name n (names_back (take n rs)) (r.now ∷ rest) ≡ first_same_name (n + 1) (r.now.name ∷ names_back (take n rs)) rest =
    ap (λ b. if b then Some n else first_same_name (n + 1) (r.now.name ∷ names_back (take n rs)) rest) (any_back r.now.name (take n rs) ∙ new) in
    ap (λ names. first_same_name (n + 1) names rest) (back_next rs n r lt is) ∙ sym step ∙ sym (ap (first_same_name n (names_back (take n rs))) (now-drop rs n r lt is)) ∙ inv

-- an old name is the answer
pub name_here : (rs : List (Bor Step)) (n : ℕ) (r : Bor Step) (w : Option ℕ) → n < length rs → r ≡ get_or rs n r → list_any (λ s. same_text r.now.name s.now.name) (take n rs) ≡ true → first_same_name n (names_back (take n rs)) (now (drop n rs)) ≡ w → Some n ≡ w
name_here rs n r w lt is old inv =
    let rest = now (drop (n + 1) rs) in
    let step : first_same_name n (names_back (take n rs)) (r.now ∷ rest) ≡ Some n =
    ap (λ b. if b then Some n else first_same_name (n + 1) (r.now.name ∷ names_back (take n rs)) rest) (any_back r.now.name (take n rs) ∙ old) in
    sym step ∙ sym (ap (first_same_name n (names_back (take n rs))) (now-drop rs n r lt is)) ∙ inv

-- one step more, of those that were found
pub taken_next : (steps : List Step) (n : ℕ) (s : Step) → n < length steps → get_or steps n s ≡ s → take (n + 1) steps ≡ take n steps ++ s ∷ []
taken_next steps n s lt is = take_more steps n s lt ∙ ap (λ x. take n steps ++ x ∷ []) is
