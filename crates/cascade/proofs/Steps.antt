-- The least step that conflicts, and the least block by A5.
use Rattle.std.proofs.Common.{◌≡◌, ◌≢◌, ℕ, ◌-◌, ◌<◌, ◌≤◌, Bool, true, false, ◌||◌, ◌&&◌, List, [], ◌∷◌, length, take, filter, Option, Some, None, sym, refl, ap, ◌∙◌, arith, if◌then◌else◌}
use Rattle.std.specs.Prelude.{nat_eq, nat_lt, slice_index_or}
use Rattle.std.proofs.lemmas.Bool.{eq-eqb, ne_eqb, le-ltb}
use Rattle.process_tree.specs.declared.entry.Entry.{Entry}
use Rattle.hold_tables.specs.Reading.{is_before, least_step, lesser}
use Rattle.hold_tables.specs.Places.{last_place}
use Rattle.hold_tables.proofs.Places.{last_place-push}
use Rattle.std.proofs.lemmas.List.{length-take}
use Rattle.machine_model.specs.declared.blocked.Blocked.{Blocked}
use Rattle.machine_model.specs.declared.blocked.Rule.TheVariants.{A5}
use Rattle.machine_model.specs.Blocks.{by_rule, is_less, least_block, lesser as lesser_of_blocks}
use Rattle.schedule_model.specs.Conflict.{ConflictRelation, conflict}
use Rattle.schedule_model.specs.Blocking.{against}
use Rattle.cascade.proofs.Marking.{front_back}

-- the first entry, where it passes, and then the others
pub least_head : (test : Entry → Bool) (y : Entry) (es : List Entry) → least_step None (filter test (y ∷ es)) ≡ (if test y then lesser (y.process, y.step) (least_step None (filter test es)) else least_step None (filter test es))
least_head test y es = by (test y) refl
  where
    by : (t : Bool) → test y ≡ t → least_step None (filter test (y ∷ es)) ≡ (if test y then lesser (y.process, y.step) (least_step None (filter test es)) else least_step None (filter test es))
    by true is = rw is refl
    by false is = rw is refl

module _ (i : ℕ) (net : List Entry) (at : ℕ) (y : Entry) (some : 0 < at) (most : at ≤ length net) (is : (d : Entry) → y ≡ slice_index_or net (at - 1) d) where
  -- an entry of the process is its last one of those up to there
  pub found_last : y.process ≡ i → Some (at - 1) ≡ last_place i (take at net)
  found_last own =
      let taken = length-take (at - 1) net in
      let count : length (take (at - 1) net) ≡ at - 1 = omega (arith, most, taken) in
      ap Some (sym count)
      ∙ sym (ap (last_place i) (front_back net at y some most is) ∙ last_place-push i (take (at - 1) net) y ∙ ap (λ t. if t then Some (length (take (at - 1) net)) else last_place i (take (at - 1) net)) (eq-eqb y.process i own))

  -- one of another process is passed over
  pub passed_over : y.process ≢ i → last_place i (take (at - 1) net) ≡ last_place i (take at net)
  passed_over other =
      sym (ap (last_place i) (front_back net at y some most is) ∙ last_place-push i (take (at - 1) net) y ∙ ap (λ t. if t then Some (length (take (at - 1) net)) else last_place i (take (at - 1) net)) (ne_eqb y.process i other))

-- a step and another with a smaller part in common
none_less : (n : ℕ) → nat_lt n n ≡ false
none_less n = le-ltb n n (omega arith)

same_rest : (a b : Bool) → (a || (b && false)) ≡ a
same_rest true b = refl
same_rest false true = refl
same_rest false false = refl

module _ (own : ℕ) where
  -- blocks by A5 of one's own step
  abbrev pub by_undo : ℕ × ℕ → Blocked
  by_undo other = record { on = other.0; other = other.1; own = own; rule = A5 }

  abbrev pub by_undo_if : Option (ℕ × ℕ) → Option Blocked
  by_undo_if None = None
  by_undo_if (Some other) = Some (by_undo other)

  same_order : (a b : ℕ × ℕ) → is_less (by_undo b) (by_undo a) ≡ is_before b a
  same_order a b =
      ap (λ t. nat_lt b.0 a.0 || (nat_eq b.0 a.0 && (nat_lt b.1 a.1 || (nat_eq b.1 a.1 && (t || (nat_eq own own && false)))))) (none_less own)
      ∙ ap (λ t. nat_lt b.0 a.0 || (nat_eq b.0 a.0 && (nat_lt b.1 a.1 || (nat_eq b.1 a.1 && t)))) (same_rest false (nat_eq own own))
      ∙ ap (λ t. nat_lt b.0 a.0 || (nat_eq b.0 a.0 && t)) (same_rest (nat_lt b.1 a.1) (nat_eq b.1 a.1))

  lesser_block : (a : ℕ × ℕ) (o : Option (ℕ × ℕ)) → lesser_of_blocks (by_undo a) (by_undo_if o) ≡ by_undo_if (lesser a o)
  lesser_block a None = refl
  lesser_block a (Some b) = by (is_before b a) (same_order a b)
    where
      by : (t : Bool) → is_less (by_undo b) (by_undo a) ≡ t → (if is_less (by_undo b) (by_undo a) then Some (by_undo b) else Some (by_undo a)) ≡ by_undo_if (if t then Some b else Some a)
      by true is = rw is refl
      by false is = rw is refl

  -- the least block by A5 is that of the least step
  pub least_by_undo : (table : ConflictRelation) (x : Entry) (es : List Entry) → x.step ≡ own → least_block (by_rule A5 (against table x es)) ≡ by_undo_if (least_step None (filter (conflict table x) es))
  least_by_undo table x [] is = refl
  least_by_undo table x (y ∷ es) is = by (conflict table x y) refl (least_by_undo table x es is)
    where
      by : (t : Bool) → conflict table x y ≡ t → least_block (by_rule A5 (against table x es)) ≡ by_undo_if (least_step None (filter (conflict table x) es))
          → least_block (by_rule A5 (against table x (y ∷ es))) ≡ by_undo_if (least_step None (filter (conflict table x) (y ∷ es)))
      by true hit rest = rw (hit, is, rest) (lesser_block (y.process, y.step) (least_step None (filter (conflict table x) es)))
      by false hit rest = rw hit rest
