-- Pairs counted: none, one, and some after others; and the same taken off.
use Rattle.std.proofs.Common.{◌≡◌, ◌<◌, ◌+◌, ℕ, Bool, true, false, ◌||◌, ◌&&◌, List, [], ◌∷◌, length, slice_index_or, Option, Some, sym, refl, ap, ◌∙◌, subst, arith}
use Rattle.std.specs.Prelude.{nat_eq}
use Rattle.std.proofs.lemmas.Bool.{eq-eqb, eqb-true, eqb-false}
use Rattle.process_tree.specs.declared.entry.Entry.{Entry}
use Rattle.schedule_model.specs.Conflict.{ConflictRelation, conflict}
use Rattle.hold_tables.specs.Tables.{OpenProcess, Tables, has_number}
use Rattle.hold_tables.specs.Places.{place_of}
use Rattle.hold_tables.specs.Counts.{AreCounted, HasRoomFor, IsCounted, IsUncounted, Pairs, TellCounts, TellCountsBut, count_at, counted, pair, pairs_by, pairs_to}
use Rattle.bit_rows.specs.Cells.{IsOneRow, one_if}
use Rattle.hold_tables.specs.Walks.{AreDistinctRows, step_of, steps_under_way}
use Rattle.hold_tables.proofs.Arrows.{steps_first}
use Rattle.hold_tables.proofs.Pairs.{by_append}
use Rattle.hold_tables.proofs.SameGraph.{step_is}
use Rattle.hold_tables.proofs.Extended.{same_place}
use Rattle.hold_tables.proofs.Marks.{neither_of}

module _ (rows : List OpenProcess) where
  -- no pairs change nothing
  pub counted_none : (added : Pairs) (counts : List (List ℕ)) → ((i k : ℕ) → added i k ≡ 0) → IsCounted rows added counts counts
  counted_none added counts none = record { count = refl; tell = λ i k here there. let zero = none i k in omega (arith, zero) }

  pub uncounted_none : (taken : Pairs) (counts : List (List ℕ)) → ((i k : ℕ) → taken i k ≡ 0) → IsUncounted rows taken false counts counts
  uncounted_none taken counts none = record { count = refl; tell = λ i k here there. let zero = none i k in omega (arith, zero); stays = λ kept i k here there some. some }

  module _ (first second all : Pairs) (same : (i k : ℕ) → all i k ≡ first i k + second i k) where
    -- some pairs after others are all of them
    pub counted_on : (old mid new : List (List ℕ)) → IsCounted rows first old mid → IsCounted rows second mid new → IsCounted rows all old new
    counted_on old mid new e f = record {
      count = f.count ∙ e.count;
      tell = λ i k here there. let a = e.tell i k here there in let b = f.tell i k here there in let both = same i k in omega (arith, a, b, both);
    }

    pub uncounted_on : (a b : Bool) (old mid new : List (List ℕ)) → IsUncounted rows first a old mid → IsUncounted rows second b mid new → IsUncounted rows all (a || b) old new
    uncounted_on a b old mid new e f = record {
      count = f.count ∙ e.count;
      tell = λ i k here there. let x = e.tell i k here there in let y = f.tell i k here there in let both = same i k in omega (arith, x, y, both);
      stays = λ kept i k here there some. let parts = neither_of a b kept in f.stays parts.1 i k here there (e.stays parts.0 i k here there some);
    }

    -- where there is room for all, there is for each
    pub room_first : (old : List (List ℕ)) → HasRoomFor rows all old → HasRoomFor rows first old
    room_first old room i k here there = let most = room i k here there in let both = same i k in omega (arith, most, both)

    pub room_later : (old mid : List (List ℕ)) → HasRoomFor rows all old → IsCounted rows first old mid → HasRoomFor rows second mid
    room_later old mid room e i k here there = let most = room i k here there in let both = same i k in let a = e.tell i k here there in omega (arith, most, both, a)

    -- where all are counted, each are
    pub among_first : (old : List (List ℕ)) → AreCounted rows all old → AreCounted rows first old
    among_first old among i k here there = let least = among i k here there in let both = same i k in omega (arith, least, both)

    pub among_later : (a : Bool) (old mid : List (List ℕ)) → AreCounted rows all old → IsUncounted rows first a old mid → AreCounted rows second mid
    among_later a old mid among e i k here there = let least = among i k here there in let both = same i k in let x = e.tell i k here there in omega (arith, least, both, x)

-- the pair of two processes alone
abbrev pub one_pair : ℕ → ℕ → Pairs
one_pair p q i k = one_if (nat_eq p i && nat_eq q k)

-- entries that conflict are that pair
pub pair_is : (table : ConflictRelation) (x y : Entry) → conflict table x y ≡ true → (i k : ℕ) → pair table x y i k ≡ one_pair x.process y.process i k
pair_is table x y is i k = ap (λ t. one_if (nat_eq x.process i && (nat_eq y.process k && t))) is ∙ ap (λ t. one_if (nat_eq x.process i && t)) (and_true (nat_eq y.process k))
  where
    and_true : (b : Bool) → (b && true) ≡ b
    and_true true = refl
    and_true false = refl

module _ (rows : List OpenProcess) (p q : ℕ) (old new : List (List ℕ)) (are : AreDistinctRows rows old) (from : has_number p rows ≡ true) (to : has_number q rows ≡ true)
    (one : IsOneRow (place_of p rows) old new) where
  -- process p has its row, and in the others stands what stood there
  own_row : (i k : ℕ) → nat_eq p i ≡ true → counted rows new i k ≡ count_at new (place_of p rows) (place_of k rows)
  own_row i k is = ap (λ n. counted rows new n k) (sym (eqb-true p i is))

  other_row : (i k : ℕ) → has_number i rows ≡ true → nat_eq p i ≡ false → counted rows new i k ≡ counted rows old i k
  other_row i k here is =
      ap (λ r. slice_index_or r (place_of k rows) 0) (one.others (place_of i rows) (λ at. eqb-false (place_of p rows) (place_of i rows) (same_place rows p i from here ∙ is) (sym at)))

  -- one pair is counted in a row
  pub counted_one : ((d : ℕ) → count_at new (place_of p rows) d ≡ count_at old (place_of p rows) d + one_if (nat_eq (place_of q rows) d)) → IsCounted rows (one_pair p q) old new
  counted_one is = record { count = one.count; tell = λ i k here there. by i k here there (nat_eq p i) refl }
    where
      by : (i k : ℕ) → has_number i rows ≡ true → has_number k rows ≡ true → (t : Bool) → nat_eq p i ≡ t → counted rows new i k ≡ counted rows old i k + one_if (nat_eq p i && nat_eq q k)
      by i k here there true same =
          own_row i k same ∙ is (place_of k rows) ∙ ap (λ t. count_at old (place_of p rows) (place_of k rows) + one_if t) (same_place rows q k to there)
          ∙ ap (λ n. counted rows old n k + one_if (nat_eq q k)) (eqb-true p i same) ∙ ap (λ t. counted rows old i k + one_if (t && nat_eq q k)) (sym same)
      by i k here there false other = let stays = other_row i k here other in rw other (omega (arith, stays))

  -- one pair is taken off in a row, and there are more, unless it is told that there are none
  pub uncounted_one : (gone : Bool) → ((d : ℕ) → count_at old (place_of p rows) d ≡ count_at new (place_of p rows) d + one_if (nat_eq (place_of q rows) d)) → (gone ≡ false → 0 < count_at new (place_of p rows) (place_of q rows))
      → IsUncounted rows (one_pair p q) gone old new
  uncounted_one gone is more = record {
    count = one.count;
    tell = λ i k here there. by i k here there (nat_eq p i) refl;
    stays = λ kept i k here there some. left kept i k here there some (nat_eq p i) (nat_eq q k) refl refl;
  }
    where
      by : (i k : ℕ) → has_number i rows ≡ true → has_number k rows ≡ true → (t : Bool) → nat_eq p i ≡ t → counted rows old i k ≡ counted rows new i k + one_if (nat_eq p i && nat_eq q k)
      by i k here there true same =
          ap (λ n. counted rows old n k) (sym (eqb-true p i same)) ∙ is (place_of k rows) ∙ ap (λ t. count_at new (place_of p rows) (place_of k rows) + one_if t) (same_place rows q k to there)
          ∙ ap (λ n. n + one_if (nat_eq q k)) (sym (own_row i k same)) ∙ ap (λ t. counted rows new i k + one_if (t && nat_eq q k)) (sym same)
      by i k here there false other = let stays = other_row i k here other in rw other (omega (arith, stays))

      left : gone ≡ false → (i k : ℕ) → has_number i rows ≡ true → has_number k rows ≡ true → 0 < counted rows old i k → (s t : Bool) → nat_eq p i ≡ s → nat_eq q k ≡ t → 0 < counted rows new i k
      left kept i k here there some true true first last =
          subst (λ n. 0 < n) (sym (own_row i k first)) (subst (λ n. 0 < count_at new (place_of p rows) (place_of n rows)) (eqb-true q k last) (more kept))
      left kept i k here there some true false first last =
          let all = by i k here there true first in
          let none : one_if (nat_eq p i && nat_eq q k) ≡ 0 = ap (λ t. one_if (nat_eq p i && t)) last ∙ ap (λ t. one_if (t && false)) first in
          omega (arith, all, none, some)
      left kept i k here there some false t first last = let stays = other_row i k here first in omega (arith, stays, some)

-- of a pair, the two processes are one
pub one_self : (p q : ℕ) → one_pair p q p q ≡ 1
one_self p q = ap (λ t. one_if (t && nat_eq q q)) (eq-eqb p p refl) ∙ ap one_if (eq-eqb q q refl)

-- the same pairs, told otherwise
pub counted_same : (rows : List OpenProcess) (added other : Pairs) (old new : List (List ℕ)) → ((i k : ℕ) → added i k ≡ other i k) → IsCounted rows added old new → IsCounted rows other old new
counted_same rows added other old new' same e = record { count = e.count; tell = λ i k here there. e.tell i k here there ∙ ap (counted rows old i k +◌) (same i k) }

-- the pair of two entries that conflict, counted at the places of their processes
pub pair_counted : (table : ConflictRelation) (rows : List OpenProcess) (x y : Entry) (from to : ℕ) (old new : List (List ℕ)) → AreDistinctRows rows old
    → has_number x.process rows ≡ true → has_number y.process rows ≡ true → from ≡ place_of x.process rows → to ≡ place_of y.process rows → conflict table x y ≡ true
    → IsOneRow from old new → ((d : ℕ) → count_at new from d ≡ count_at old from d + one_if (nat_eq to d)) → IsCounted rows (pair table x y) old new
pair_counted table rows x y from to old new are here there a b is one row =
    counted_same rows (one_pair x.process y.process) (pair table x y) old new (λ i k. sym (pair_is table x y is i k))
    (counted_one rows x.process y.process old new are here there (subst (λ at. IsOneRow at old new) a one)
    (λ d. subst (λ at. count_at new at d ≡ count_at old at d + one_if (nat_eq (place_of y.process rows) d)) a
    (subst (λ at. count_at new from d ≡ count_at old from d + one_if (nat_eq at d)) b (row d))))

pub uncounted_same : (rows : List OpenProcess) (taken other : Pairs) (gone : Bool) (old new : List (List ℕ)) → ((i k : ℕ) → taken i k ≡ other i k) → IsUncounted rows taken gone old new → IsUncounted rows other gone old new
uncounted_same rows taken other gone old new same e = record { count = e.count; tell = λ i k here there. e.tell i k here there ∙ ap (counted rows new i k +◌) (same i k); stays = e.stays }

module _ (table : ConflictRelation) where
  -- no entries, and no processes, make no pairs
  pub none_to_one : (es : List Entry) (e : Entry) → length es ≡ 0 → (i k : ℕ) → pairs_to table es e i k ≡ 0
  none_to_one [] e none i k = refl
  none_to_one (x ∷ es) e none i k = absurd (omega (arith, none))

  pub none_by : (x : Entry) (ys : List Entry) → length ys ≡ 0 → (i k : ℕ) → pairs_by table x ys i k ≡ 0
  none_by x [] none i k = refl
  none_by x (y ∷ ys) none i k = absurd (omega (arith, none))

  pub none_by_steps : (x : Entry) (rows : List OpenProcess) → length rows ≡ 0 → (i k : ℕ) → pairs_by table x (steps_under_way rows) i k ≡ 0
  none_by_steps x [] none i k = refl
  none_by_steps x (r ∷ rows) none i k = absurd (omega (arith, none))

  -- the pairs with what is under way in the first process, and in the others
  pub by_steps_first : (x : Entry) (rows : List OpenProcess) (r : OpenProcess) (after : List OpenProcess) (o : Option Entry) → rows ≡ r ∷ after → o ≡ r.running
      → (i k : ℕ) → pairs_by table x (steps_under_way rows) i k ≡ pairs_by table x (step_of o) i k + pairs_by table x (steps_under_way after) i k
  by_steps_first x rows r after o is running i k =
      ap (λ rs. pairs_by table x (steps_under_way rs) i k) is ∙ ap (λ es. pairs_by table x es i k) (steps_first r after) ∙ by_append table i k x (step_of r.running) (steps_under_way after)
      ∙ ap (λ o. pairs_by table x (step_of o) i k + pairs_by table x (steps_under_way after) i k) (sym running)

  -- and with one that is under way, if it is a step
  pub by_step : (x y : Entry) → y.undo ≡ false → (i k : ℕ) → pair table x y i k ≡ pairs_by table x (step_of (Some y)) i k
  by_step x y forward i k = let is = ap (λ es. pairs_by table x es i k) (step_is y forward) in omega (arith, is)

or_all : (a b c : Bool) → (a || (b || c)) ≡ ((a || b) || c)
or_all true b c = refl
or_all false b c = refl

or_none : (b : Bool) → (b || false) ≡ b
or_none true = refl
or_none false = refl

-- whether an arrow is gone, told otherwise
pub gone_is : (rows : List OpenProcess) (taken : Pairs) (gone other : Bool) (old new : List (List ℕ)) → gone ≡ other → IsUncounted rows taken gone old new → IsUncounted rows taken other old new
gone_is rows taken gone other old new same = subst (λ b. IsUncounted rows taken b old new) same

pub gone_later : (rows : List OpenProcess) (taken : Pairs) (first second later both : Bool) (old new : List (List ℕ)) → both ≡ (first || second)
    → IsUncounted rows taken (first || (second || later)) old new → IsUncounted rows taken (both || later) old new
gone_later rows taken first second later both old new is = gone_is rows taken _ _ old new (or_all first second later ∙ ap (λ b. b || later) (sym is))

pub gone_all : (rows : List OpenProcess) (taken : Pairs) (gone : Bool) (old new : List (List ℕ)) → IsUncounted rows taken (gone || false) old new → IsUncounted rows taken gone old new
gone_all rows taken gone old new = gone_is rows taken _ _ old new (or_none gone)

-- pairs that were left out are counted
pub but_counted : (t : Tables) (added : Pairs) (old new : List (List ℕ)) → TellCountsBut t added old → IsCounted t.processes added old new → TellCounts t new
but_counted t added old after tells e = record {
  rows = (e.count ∙ tells.rows.0, tells.rows.1);
  tell = λ i k here there. e.tell i k here there ∙ sym (tells.tell i k here there);
}
