-- One pass over entries that marks the processes to which arrows lead.
use Rattle.std.proofs.Common.{◌≡◌, ⊎_elim, ℕ, Bool, true, false, ◌&&◌, ◌||◌, List, [], ◌∷◌, ◌++◌, set, sym, ap, ◌∙◌, subst}
use Rattle.std.proofs.Math.Bool.{or-false}
use Rattle.std.proofs.lemmas.Bool.{and_from, and_parts, false≢true, or_cases, or_left, or_right}
use Rattle.std.proofs.lemmas.List.Folds.{list_any-append}
use Rattle.process_tree.specs.Entries.{access_of}
use Rattle.process_tree.specs.Conflicts.{Access}
use Rattle.process_tree.specs.declared.entry.Entry.{Entry}
use Rattle.schedule_model.specs.Conflict.{ConflictRelation}
use Rattle.history_judging.specs.Conflicting.{is_closed, is_marked}
use Rattle.history_judging.proofs.Marks.{led, led-in, led-more, marked_now}
use Rattle.schedule_rules.proofs.ListTests.{not_passed}

module _ (table : ConflictRelation) where
  pub led-push : (p : ℕ → Bool) (seen : List Entry) (e : Entry) (a : Access) → led table p (seen ++ e ∷ []) a ≡ (led table p seen a || (p e.process && table (access_of e) a))
  led-push p seen e a =
      list_any-append (λ x. p x.process && table (access_of x) a) seen (e ∷ []) ∙ ap (λ t. led table p seen a || t) (or-false (p e.process && table (access_of e) a))

  -- with what one more entry of a marked process does: what conflicts is led to
  pub conflicting-led : (p : ℕ → Bool) (seen : List Entry) (e : Entry) (a : Access) (old new : Bool) → p e.process ≡ true → new ≡ (table (access_of e) a || old)
      → (old ≡ true → led table p seen a ≡ true) → new ≡ true → led table p (seen ++ e ∷ []) a ≡ true
  conflicting-led p seen e a old new there grown was is =
      led-push p seen e a
      ∙ ⊎_elim
      (λ here. or_right (led table p seen a) (p e.process && table (access_of e) a) (and_from (p e.process) (table (access_of e) a) there here))
      (λ before. or_left (led table p seen a) (p e.process && table (access_of e) a) (was before))
      (or_cases (table (access_of e) a) old (sym grown ∙ is))

  -- and what is led to conflicts
  pub led-conflicting : (p : ℕ → Bool) (seen : List Entry) (e : Entry) (a : Access) (old new : Bool) → new ≡ (table (access_of e) a || old)
      → (led table p seen a ≡ true → old ≡ true) → led table p (seen ++ e ∷ []) a ≡ true → new ≡ true
  led-conflicting p seen e a old new grown was is =
      grown
      ∙ ⊎_elim
      (λ before. or_right (table (access_of e) a) old (was before))
      (λ here. or_left (table (access_of e) a) old (and_parts (p e.process) (table (access_of e) a) here).1)
      (or_cases (led table p seen a) (p e.process && table (access_of e) a) (sym (led-push p seen e a) ∙ is))

  -- an entry of a process that isn't marked leads nowhere
  pub led-still : (p : ℕ → Bool) (seen : List Entry) (e : Entry) (a : Access) → led table p seen a ≡ true → led table p (seen ++ e ∷ []) a ≡ true
  led-still p seen e a is = led-push p seen e a ∙ or_left (led table p seen a) (p e.process && table (access_of e) a) is

  pub led-before : (p : ℕ → Bool) (seen : List Entry) (e : Entry) (a : Access) → p e.process ≡ false → led table p (seen ++ e ∷ []) a ≡ true → led table p seen a ≡ true
  led-before p seen e a away is =
      ⊎_elim
      (λ before. before)
      (λ here. absurd (false≢true (sym away ∙ (and_parts (p e.process) (table (access_of e) a) here).0)))
      (or_cases (led table p seen a) (p e.process && table (access_of e) a) (sym (led-push p seen e a) ∙ is))

  -- the process that is marked now is of each set that has the marked ones and out of which no arrow leads
  pub marked-in : (marks : List Bool) (p : ℕ → Bool) (seen rest es : List Entry) (e : Entry) → es ≡ seen ++ e ∷ rest → is_closed table p es ≡ true
      → ((k : ℕ) → is_marked marks k ≡ true → p k ≡ true) → led table (is_marked marks) seen (access_of e) ≡ true
      → (k : ℕ) → is_marked (set marks e.process true) k ≡ true → p k ≡ true
  marked-in marks p seen rest es e split closed only leads k is =
      ⊎_elim
      (λ here. ap p here ∙ led-in table p seen rest e (subst (λ xs. is_closed table p xs ≡ true) split closed) (led-more table (is_marked marks) p seen (access_of e) only leads))
      (λ before. only k before)
      (marked_now marks e.process k is)

  -- what doesn't conflict isn't led to
  pub not_led : (seen : List Entry) (p : ℕ → Bool) (a : Access) (conflicts : Bool) → (led table p seen a ≡ true → conflicts ≡ true) → conflicts ≡ false → led table p seen a ≡ false
  not_led seen p a conflicts all none = not_passed (led table p seen a) (λ is. false≢true (sym none ∙ all is))
