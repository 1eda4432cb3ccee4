-- Who is dragged along, one entry after another.
use Rattle.std.proofs.Common.{◌≡◌, ◌≢◌, ℕ, ◌-◌, ◌||◌, List, ◌∷◌, ◌++◌, refl}
use Rattle.std.proofs.lemmas.Bool.{eq-eqb, ne_eqb}
use Rattle.process_tree.specs.declared.entry.Entry.{Entry}
use Rattle.schedule_model.specs.Conflict.{ConflictRelation}
use Rattle.cascade.specs.Walking.{drags_from, has_hit}

module _ (table : ConflictRelation) (running : List Entry) (j : ℕ) (x : Entry) (es : List Entry) (k : ℕ) where
  -- an entry that is taken back drags along
  pub taken_back : (left : ℕ) → x.process ≡ j → left ≡ 0 → drags_from table running j left (x ∷ es) k ≡ (has_hit table x (es ++ running) k || drags_from table running j left es k)
  taken_back left own none = rw (eq-eqb x.process j own, none) refl

  -- one that stays doesn't
  pub stays : (left : ℕ) → x.process ≡ j → left ≢ 0 → drags_from table running j left (x ∷ es) k ≡ drags_from table running j (left - 1) es k
  stays left own some = rw (eq-eqb x.process j own, ne_eqb left 0 some) refl

  -- nor does one of another process
  pub of_another : (left : ℕ) → x.process ≢ j → drags_from table running j left (x ∷ es) k ≡ drags_from table running j left es k
  of_another left other = rw (ne_eqb x.process j other) refl
