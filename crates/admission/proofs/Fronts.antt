-- What stands in front of the entries of a process, entry by entry.
use Rattle.std.proofs.Common.{◌≡◌, ℕ, zero, suc, ◌-◌, ◌<◌, ◌≤◌, Bool, true, false, not, ◌&&◌, if◌then◌else◌, List, [], ◌∷◌, ◌++◌, flat_map, length, take, drop, Option, None, sym, refl, ap, ◌∙◌, arith}
use Rattle.std.specs.Prelude.{nat_eq, slice_index_or}
use Rattle.std.specs.List.{list_all}
use Rattle.std.proofs.lemmas.Bool.{and_parts, eq-eqb, not-true}
use Rattle.schedule_model.proofs.Apart.{Apart}
use Rattle.schedule_model.proofs.Behind.{same_step-symmetric}
use Rattle.process_tree.specs.declared.entry.Entry.{Entry}
use Rattle.process_tree.specs.Order.{Each}
use Rattle.schedule_model.specs.Conflict.{ConflictRelation}
use Rattle.schedule_model.specs.Histories.{same_step}
use Rattle.schedule_model.specs.Holdings.{behind}
use Rattle.schedule_model.specs.Blocking.{Clash, against}
use Rattle.machine_model.specs.declared.blocked.Blocked.{Blocked}
use Rattle.machine_model.specs.declared.blocked.Rule.TheVariants.{A3}
use Rattle.machine_model.specs.Blocks.{by_rule, least_block}
use Rattle.hold_tables.proofs.Tidy.{each_entry}
use Rattle.admission.specs.Least.{least_on, least_over, least_with, lesser_of}
use Rattle.admission.specs.Parts.{least_front, least_fronts}
use Rattle.admission.proofs.Order.{thrice, with_none}
use Rattle.admission.proofs.Over.{on-cons, on-over, over-append, over-both, over-each, over-none, over-same, rule-flat}
use Rattle.admission.proofs.Places.{front_back, rest_back}

same_at : {A : Type 0} (xs : List A) (place : ℕ) (a b : A) → place < length xs → slice_index_or xs place a ≡ slice_index_or xs place b
same_at [] place a b within = absurd (omega arith)
same_at (x ∷ xs) zero a b within = refl
same_at (x ∷ xs) (suc place) a b within = same_at xs place a b (omega arith)

abbrev no_entry : Entry
no_entry = record { process = 0; step = 0; op = 0; key = 0; undo = false }

-- none of these is of the step of x
none_of : (x : Entry) (es : List Entry) → list_all (λ f. not (same_step x f)) es ≡ true → Each (λ y. same_step y x ≡ false) es
none_of x [] all = tt
none_of x (y ∷ es) all =
    let parts = and_parts (not (same_step x y)) (list_all (λ f. not (same_step x f)) es) all in
    (same_step-symmetric y x ∙ not-true (same_step x y) parts.0, none_of x es parts.1)

itself : (x : Entry) → same_step x x ≡ true
itself x = both (nat_eq x.process x.process) (nat_eq x.step x.step) (eq-eqb x.process x.process refl) (eq-eqb x.step x.step refl)
  where
    both : (a b : Bool) → a ≡ true → b ≡ true → (a && b) ≡ true
    both a b first second = rw (first, second) refl

module _ (table : ConflictRelation) (i : ℕ) where
  -- one place further to the front, an entry more is looked at
  pub fronts_back : (net : List Entry) (place : ℕ) (found next : Option Blocked) → 0 < place → place ≤ length net
      → ((d : Entry) → next ≡ lesser_of (least_front table i (take (place - 1) net) (slice_index_or net (place - 1) d)) found)
      → found ≡ least_fronts table i (take place net) (drop place net) → next ≡ least_fronts table i (take (place - 1) net) (drop (place - 1) net)
  fronts_back net place found next some most is rest =
      let y = slice_index_or net (place - 1) no_entry in
      let before = take (place - 1) net in
      let any : (d : Entry) → y ≡ slice_index_or net (place - 1) d = λ d. same_at net (place - 1) no_entry d (omega arith) in
      is no_entry
      ∙ ap (lesser_of (least_front table i before y)) (rest ∙ ap (λ fs. least_fronts table i fs (drop place net)) (front_back net place y some most any))
      ∙ sym (ap (least_fronts table i before) (rest_back net place y some most any))

  -- one entry against an earlier one, if it is of the process
  abbrev one : Entry → Entry → Option Blocked
  one x y = if nat_eq y.process i then least_with table A3 y x None else None

  -- an entry against those behind it
  abbrev behind_one : Entry → List Entry → Option Blocked
  behind_one x es = least_over (one x) es

  -- each entry against those behind it
  abbrev behind_each : List Entry → Option Blocked
  behind_each [] = None
  behind_each (x ∷ es) = lesser_of (behind_one x es) (behind_each es)

  front_over : (front : List Entry) (y : Entry) → least_front table i front y ≡ least_over (λ x. one x y) front
  front_over front y = by (nat_eq y.process i) refl
    where
      by : (t : Bool) → nat_eq y.process i ≡ t → least_front table i front y ≡ least_over (λ x. one x y) front
      by true is = ap (λ t. if t then least_on table A3 y front else None) is ∙ on-over table A3 y front
          ∙ over-same (λ x. least_with table A3 y x None) (λ x. one x y) front (λ x. sym (ap (λ t. if t then least_with table A3 y x None else None) is))
      by false is = ap (λ t. if t then least_on table A3 y front else None) is
          ∙ sym (over-none (λ x. one x y) front (λ x. ap (λ t. if t then least_with table A3 y x None else None) is))

  front_more : (front : List Entry) (x y : Entry) → least_front table i (front ++ x ∷ []) y ≡ lesser_of (least_front table i front y) (one x y)
  front_more front x y = front_over (front ++ x ∷ []) y ∙ over-append (λ z. one z y) front (x ∷ [])
      ∙ ap (λ o. lesser_of o (lesser_of (one x y) None)) (sym (front_over front y)) ∙ ap (lesser_of (least_front table i front y)) (with_none (one x y))

  -- entry by entry, what stands in front of these, and what stands in front of each among them
  fronts_are : (front es : List Entry) → least_fronts table i front es ≡ lesser_of (least_over (least_front table i front) es) (behind_each es)
  fronts_are front [] = refl
  fronts_are front (y ∷ es) =
      ap (lesser_of (least_front table i front y)) (fronts_are (front ++ y ∷ []) es
      ∙ ap (λ o. lesser_of o (behind_each es)) (over-same (least_front table i (front ++ y ∷ [])) (λ z. lesser_of (least_front table i front z) (one y z)) es (front_more front y)
      ∙ sym (over-both (least_front table i front) (one y) es))
      ∙ thrice (least_over (least_front table i front) es) (behind_one y es) (behind_each es))
      ∙ sym (thrice (least_front table i front y) (least_over (least_front table i front) es) (lesser_of (behind_one y es) (behind_each es)))

  -- none stands in front of the first
  nothing_first : (es : List Entry) → least_over (least_front table i []) es ≡ None
  nothing_first es = over-none (least_front table i []) es (λ y. by y (nat_eq y.process i) refl)
    where
      by : (y : Entry) (t : Bool) → nat_eq y.process i ≡ t → least_front table i [] y ≡ None
      by y true is = ap (λ t. if t then None else None) is
      by y false is = ap (λ t. if t then None else None) is

  -- the clashes of the entries of the process with what stands in front
  abbrev pairs : Entry → List Entry → List Clash
  pairs x es = flat_map (λ y. if nat_eq y.process i then against table y (x ∷ []) else []) es

  pair_one : (x y : Entry) → least_block (by_rule A3 (if nat_eq y.process i then against table y (x ∷ []) else [])) ≡ one x y
  pair_one x y = by (nat_eq y.process i) refl
    where
      by : (t : Bool) → nat_eq y.process i ≡ t → least_block (by_rule A3 (if nat_eq y.process i then against table y (x ∷ []) else [])) ≡ one x y
      by true is = rw is (on-cons table A3 y x [])
      by false is = rw is refl

  pairs_are : (x : Entry) (es : List Entry) → least_block (by_rule A3 (pairs x es)) ≡ behind_one x es
  pairs_are x es = rule-flat A3 (λ y. if nat_eq y.process i then against table y (x ∷ []) else []) es
      ∙ over-same (λ y. least_block (by_rule A3 (if nat_eq y.process i then against table y (x ∷ []) else []))) (one x) es (pair_one x)

  -- each entry against what is behind it in the whole
  each_behind : (es : List Entry) → Apart es → least_over (λ x. behind_one x (behind x es)) es ≡ behind_each es
  each_behind [] apart = refl
  each_behind (x ∷ es) apart =
      ap (λ zs. lesser_of (behind_one x zs) (least_over (λ z. behind_one z (behind z (x ∷ es))) es)) (ap (λ t. if t then es else behind x es) (itself x))
      ∙ ap (lesser_of (behind_one x es)) (over-each (λ z. behind_one z (behind z (x ∷ es))) (λ z. behind_one z (behind z es)) es
      (each_entry es (λ z is. ap (λ t. behind_one z (if t then es else behind z es)) is) (none_of x es apart.0)) ∙ each_behind es apart.1)

  -- what stands in front of each entry of the process is told by the pairs of the net
  pub fronts-are : (es : List Entry) → Apart es → least_fronts table i [] es ≡ least_block (by_rule A3 (flat_map (λ x. pairs x (behind x es)) es))
  fronts-are es apart =
      fronts_are [] es ∙ ap (λ o. lesser_of o (behind_each es)) (nothing_first es) ∙ sym (each_behind es apart)
      ∙ sym (rule-flat A3 (λ x. pairs x (behind x es)) es ∙ over-same (λ x. least_block (by_rule A3 (pairs x (behind x es)))) (λ x. behind_one x (behind x es)) es (λ x. pairs_are x (behind x es)))
