-- Where a move applies, and where it doesn't, by the places of a list.
use Rattle.std.proofs.Common.{◌≡◌, ℕ, suc, ◌+◌, ◌-◌, ◌<◌, ◌≤◌, true, false, List, ◌∷◌, ◌++◌, length, take, drop, get_or, length-take, length-drop, Some, None, ap, ◌∙◌, arith}
use Rattle.std.specs.List.{list_all, slice_range}
use Rattle.process_tree.specs.declared.entry.Entry.{Entry}
use Rattle.schedule_model.specs.Conflict.{ConflictRelation}
use Rattle.schedule_model.specs.Reduction.{can_change, carried_on, carried_back}
use Rattle.schedule_rules.proofs.Turned.{split_after, split_before}
use Rattle.schedule_rules.proofs.Carries.{back-carried, back-refused, back-zero, on-carried, on-past, on-refused, on-zero}

-- what is read where there is no entry
abbrev pub blank : Entry
blank = record { process = 0; step = 0; op = 0; key = 0; undo = false }

module _ (table : ConflictRelation) where
  -- The same at the places of a list.
  module _ (xs : List Entry) (d : Entry) (from to : ℕ) where
    -- a move onward: what stands before the entry, the entry, what it passes, and the rest
    module _ (some : from ≡ 0 → ⊥) (later : from < to) (within : to ≤ length xs) where
      abbrev passed : List Entry
      passed = slice_range xs from to

      pub on_before : from - 1 ≡ length (take (from - 1) xs)
      on_before = omega (arith, length-take (from - 1) xs, some)

      pub on_many : to - from ≡ length passed
      on_many = omega (arith, length-take (to - from) (drop from xs), length-drop from xs)

      pub on_split : xs ≡ take (from - 1) xs ++ get_or xs (from - 1) d ∷ (passed ++ drop to xs)
      on_split =
          let at : suc (from - 1) ≡ from = omega (arith, some) in
          split_after xs (from - 1) to d (omega (arith, some)) within
          ∙ ap (λ n. take (from - 1) xs ++ get_or xs (from - 1) d ∷ (slice_range xs n to ++ drop to xs)) at

      on_same : carried_on table (to - from) from xs
          ≡ carried_on table (length passed) (suc (length (take (from - 1) xs))) (take (from - 1) xs ++ get_or xs (from - 1) d ∷ (passed ++ drop to xs))
      on_same =
          ap (λ n. carried_on table n from xs) on_many
          ∙ (ap (λ n. carried_on table (length passed) n xs) (let e : from ≡ suc (length (take (from - 1) xs)) = omega (arith, on_before, some) in e)
          ∙ ap (carried_on table (length passed) (suc (length (take (from - 1) xs)))) on_split)

      pub moves_on : list_all (can_change table (get_or xs (from - 1) d)) passed ≡ true
          → carried_on table (to - from) from xs ≡ Some (take (from - 1) xs ++ (passed ++ get_or xs (from - 1) d ∷ drop to xs))
      moves_on all = on_same ∙ on-carried table (take (from - 1) xs) (get_or xs (from - 1) d) passed (drop to xs) all

      pub moves_not_on : list_all (can_change table (get_or xs (from - 1) d)) passed ≡ false → carried_on table (to - from) from xs ≡ None
      moves_not_on none = on_same ∙ on-refused table (take (from - 1) xs) (get_or xs (from - 1) d) passed (drop to xs) none

    -- a move back
    module _ (some : to ≡ 0 → ⊥) (earlier : to < from) (within : from ≤ length xs) where
      abbrev passed_back : List Entry
      passed_back = slice_range xs (to - 1) (from - 1)

      pub back_before : to - 1 ≡ length (take (to - 1) xs)
      back_before = omega (arith, length-take (to - 1) xs, some)

      pub back_many : from - 1 - (to - 1) ≡ length passed_back
      back_many = omega (arith, length-take (from - 1 - (to - 1)) (drop (to - 1) xs), length-drop (to - 1) xs)

      pub back_split : xs ≡ take (to - 1) xs ++ (passed_back ++ get_or xs (from - 1) d ∷ drop (suc (from - 1)) xs)
      back_split = split_before xs (to - 1) (from - 1) d (omega arith) (omega (arith, some))

      back_same : carried_back table (from - to) from xs
          ≡ carried_back table (length passed_back) (suc (length (take (to - 1) xs)) + length passed_back)
          (take (to - 1) xs ++ (passed_back ++ get_or xs (from - 1) d ∷ drop (suc (from - 1)) xs))
      back_same =
          ap (λ n. carried_back table n from xs) (let e : from - to ≡ length passed_back = omega (arith, back_many, some) in e)
          ∙ (ap (λ n. carried_back table (length passed_back) n xs)
          (let e : from ≡ suc (length (take (to - 1) xs)) + length passed_back = omega (arith, back_before, back_many, some) in e)
          ∙ ap (carried_back table (length passed_back) (suc (length (take (to - 1) xs)) + length passed_back)) back_split)

      pub moves_back : list_all (λ b. can_change table b (get_or xs (from - 1) d)) passed_back ≡ true
          → carried_back table (from - to) from xs ≡ Some (take (to - 1) xs ++ get_or xs (from - 1) d ∷ (passed_back ++ drop (suc (from - 1)) xs))
      moves_back all = back_same ∙ back-carried table (take (to - 1) xs) (get_or xs (from - 1) d) passed_back (drop (suc (from - 1)) xs) all

      pub moves_not_back : list_all (λ b. can_change table b (get_or xs (from - 1) d)) passed_back ≡ false → carried_back table (from - to) from xs ≡ None
      moves_not_back none = back_same ∙ back-refused table (take (to - 1) xs) (get_or xs (from - 1) d) passed_back (drop (suc (from - 1)) xs) none

    -- nothing is moved from place 0, past the end or to place 0
    pub none_from_zero : from ≡ 0 → from < to → carried_on table (to - from) from xs ≡ None
    none_from_zero none less =
        ap (λ n. carried_on table n from xs) (let e : to - from ≡ suc (to - from - 1) = omega arith in e)
        ∙ (ap (λ n. carried_on table (suc (to - from - 1)) n xs) none ∙ on-zero table (to - from - 1) xs)

    pub none_past : length xs < to → from < to → carried_on table (to - from) from xs ≡ None
    none_past past less =
        ap (λ n. carried_on table n from xs) (let e : to - from ≡ suc (to - from - 1) = omega arith in e)
        ∙ on-past table (to - from - 1) from xs (omega arith)

    pub none_to_zero : to ≡ 0 → to < from → carried_back table (from - to) from xs ≡ None
    none_to_zero none less =
        ap (λ n. carried_back table n from xs) (let e : from - to ≡ suc (from - to - 1) = omega arith in e)
        ∙ back-zero table (from - to - 1) from xs (omega arith)
