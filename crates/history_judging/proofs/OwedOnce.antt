-- A commit point isn't owed again once it took effect.
use Rattle.std.proofs.Common.{◌≡◌, ℕ, ◌+◌, Bool, true, false, not, cond, eqb, ◌||◌, if◌then◌else◌, List, [], ◌∷◌, ◌++◌, length, take, map, filter, sym, refl, ap, ◌∙◌, subst, arith, length-append}
use Rattle.std.proofs.lemmas.Bool.{and_right, false≢true, ne_eqb}
use Rattle.std.proofs.lemmas.List.{take_all}
use Rattle.process_tree.specs.declared.entry.Entry.{Entry}
use Rattle.process_tree.specs.Laws.{IsTreeShape}
use Rattle.process_tree.specs.Order.{has}
use Rattle.process_tree.specs.Recovery.{forward}
use Rattle.process_tree.specs.Shape.{Shape, commits_after, fixed_len, path_through, steps_before, last_after, last_path}
use Rattle.process_tree.proofs.LastPath.{on_last}
use Rattle.process_tree.proofs.TreeLaws.{one_branch_to_a_step, paths_lie_in_order}
use Rattle.process_tree.proofs.Fixed.{fixed_more}
use Rattle.schedule_model.specs.Course.{Course}
use Rattle.schedule_model.specs.Histories.{doing, same_step}
use Rattle.schedule_model.proofs.Conflicts.{same_either_way}
use Rattle.schedule_model.proofs.Members.{Among, among-left, among-map, among_there, is_in-among}
use Rattle.schedule_rules.proofs.ListTests.{all_pass, not_passed}

-- where all that is done is fixed, what is owed is the path that goes on behind all of it
owed_behind : (t : Shape) (w : List ℕ) (b : ℕ) → commits_after t w b ≡ true → forward t (w ++ b ∷ []) ≡ last_path (length t.kinds) t (w ++ b ∷ [])
owed_behind t w b is =
    let fixed : fixed_len t (w ++ b ∷ []) ≡ length w + 1 = fixed_more t w b ∙ ap (λ c. cond c (length w + 1) (fixed_len t w)) is in
    ap (λ c. if c then [] else last_after t (take (fixed_len t (w ++ b ∷ [])) (w ++ b ∷ []))) (ne_eqb (fixed_len t (w ++ b ∷ [])) 0 (λ none. omega (arith, fixed, none)))
    ∙ ap (last_after t) (take_all (fixed_len t (w ++ b ∷ [])) (w ++ b ∷ []) (omega (arith, fixed, length-append w (b ∷ []))))

-- a step isn't among those before it
none_before : (b : ℕ) (p : List ℕ) → has b (steps_before b p) ≡ false
none_before b [] = refl
none_before b (x ∷ p) = by_first (eqb x b) refl (none_before b p)
  where
    by_first : (t : Bool) → eqb x b ≡ t → has b (steps_before b p) ≡ false → has b (if t then [] else x ∷ steps_before b p) ≡ false
    by_first true here rest = refl
    by_first false other rest = ap (λ t. t || has b (steps_before b p)) (same_either_way x b false other) ∙ rest

pub not_owed_again : (t : Shape) → IsTreeShape t → (w : List ℕ) (b : ℕ) → commits_after t w b ≡ true → has b (forward t (w ++ b ∷ [])) ≡ false
not_owed_again t tree w b is = not_passed (has b (forward t (w ++ b ∷ []))) again
  where
    again : has b (forward t (w ++ b ∷ [])) ≡ true → ⊥
    again owes =
        let laid = paths_lie_in_order t tree in
        let on = on_last t (length t.kinds) (w ++ b ∷ []) b laid.rising (ap (has b) (sym (owed_behind t w b is)) ∙ owes) in
        let branch = one_branch_to_a_step t tree ((w ++ b ∷ []) ++ on.part) b on.on in
        let there = is_in-among b ((w ++ b ∷ []) ++ on.part) (among-left b (w ++ b ∷ []) on.part (among_there w b [])) in
        false≢true (sym (none_before b (path_through b t.paths)) ∙ (ap (has b) branch ∙ there))

-- so what is owed then is of other steps
pub owed_others : (courses : List Course) (e : Entry) (bs : List ℕ) → has e.step bs ≡ false
    → filter (λ s. not (same_step s e)) (map (doing courses e.process) bs) ≡ map (doing courses e.process) bs
owed_others courses e bs none =
    all_pass (λ s. not (same_step s e)) (map (doing courses e.process) bs)
    (λ s is.
    let found = among-map (doing courses e.process) s bs is in
    let other : eqb found.0 e.step ≡ false = ne_eqb found.0 e.step (λ same. false≢true (sym none ∙ is_in-among e.step bs (subst (λ b. Among b bs) same found.1))) in
    ap not (ap (λ x. same_step x e) (sym found.2) ∙ and_right (eqb e.process e.process) (eqb found.0 e.step) other))
