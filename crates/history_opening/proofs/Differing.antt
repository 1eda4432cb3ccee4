-- The first of some stores whose book differs from the effects of a history.
use Rattle.std.proofs.Common.{◌≡◌, ◌<◌, ◌≤◌, ◌+◌, ℕ, zero, suc, true, false, List, [], ◌∷◌, length, length-append, Option, Some, None, refl, sym, ◌∙◌, ap, subst, arith}
use Rattle.std.specs.Prelude.{is_some, unwrap_or}
use Rattle.std.proofs.lemmas.Bool.{false≢true}
use Rattle.std.specs.List.{slice_get}
use Rattle.std.proofs.lemmas.Option.{none-some}
use Rattle.schedule_model.specs.declared.history.History.{History}
use Rattle.commute_table.specs.declared.op.Op.{Op}
use Rattle.subsystem_store.specs.declared.effect.Effect.{Effect}
use Rattle.subsystem_store.specs.Laws.{IsGoodBook}
use Rattle.subsystem_store.specs.Opened.{Opened}
use Rattle.history_files.specs.Effects.{effects}
use Rattle.history_files.specs.Sound.{counted}
use Rattle.history_files.specs.Standing.{ComeTo}
use Rattle.history_opening.specs.declared.faults.BookFault.{BookFault}
use Rattle.history_opening.specs.Comparing.{book_difference, books_difference, difference, or_else}
use Rattle.history_opening.proofs.Differences.{no_difference, none_in_itself}

-- the difference of the store at a place, where the first is of subsystem n
abbrev pub difference_at : {B : Type 0} → List Op → History → ℕ → ℕ → Opened B → Option BookFault
difference_at ops h n q s = book_difference (q + n) (effects ops h (q + n)) s.book s.doubt

-- The first store that differs.
pub record DiffersAt {B : Type 0} (ops : List Op) (h : History) (n : ℕ) (stores : List (Opened B)) (fault : BookFault) : Type 0 where
  pub place : ℕ
  pub store : Opened B
  pub at : slice_get stores place ≡ Some store
  pub differs : difference_at ops h n place store ≡ Some fault
  pub earlier : (p : ℕ) (s : Opened B) → p < place → slice_get stores p ≡ Some s → difference_at ops h n p s ≡ None

-- the place of the first
first_place : (n : ℕ) → n ≡ 0 + n
first_place n = omega arith

-- a fact of the first store, said of its place
at_first : {B : Type 0} (ops : List Op) (h : History) (n : ℕ) (s : Opened B) (d : Option BookFault) → book_difference n (effects ops h n) s.book s.doubt ≡ d → difference_at ops h n 0 s ≡ d
at_first ops h n s d is = subst (λ k. book_difference k (effects ops h k) s.book s.doubt ≡ d) (first_place n) is

-- the place of a later one
later_place : (q n : ℕ) → q + (n + 1) ≡ suc q + n
later_place q n = omega arith

differs_later : {B : Type 0} (ops : List Op) (h : History) (n : ℕ) (x : Opened B) (xs : List (Opened B)) (fault : BookFault) → book_difference n (effects ops h n) x.book x.doubt ≡ None
    → DiffersAt ops h (n + 1) xs fault → DiffersAt ops h n (x ∷ xs) fault
differs_later {B} ops h n x xs fault none later = record {
  place = suc later.place;
  store = later.store;
  at = later.at;
  differs = subst (λ k. book_difference k (effects ops h k) later.store.book later.store.doubt ≡ Some fault) (later_place later.place n) later.differs;
  earlier = earlier;
}
  where
    earlier : (p : ℕ) (s : Opened B) → p < suc later.place → slice_get (x ∷ xs) p ≡ Some s → difference_at ops h n p s ≡ None
    earlier zero s below at = at_first ops h n s None (subst (λ (y : Opened B). book_difference n (effects ops h n) y.book y.doubt ≡ None) (ap (λ o. unwrap_or o x) at) none)
    earlier (suc p) s below at = subst (λ k. book_difference k (effects ops h k) s.book s.doubt ≡ None) (later_place p n) (later.earlier p s (omega (arith, below)) at)

-- where a difference was found, a store is the first that differs,
pub differs_at : {B : Type 0} (ops : List Op) (h : History) (n : ℕ) (stores : List (Opened B)) (fault : BookFault) → books_difference ops h n stores ≡ Some fault → DiffersAt ops h n stores fault
differs_at ops h n [] fault found = absurd (none-some fault found)
differs_at {B} ops h n (x ∷ xs) fault found = by (book_difference n (effects ops h n) x.book x.doubt) refl found (differs_at ops h (n + 1) xs fault)
  where
    by : (d : Option BookFault) → book_difference n (effects ops h n) x.book x.doubt ≡ d → or_else d (books_difference ops h (n + 1) xs) ≡ Some fault
        → (books_difference ops h (n + 1) xs ≡ Some fault → DiffersAt ops h (n + 1) xs fault) → DiffersAt ops h n (x ∷ xs) fault
    by None is found later = differs_later ops h n x xs fault is (later found)
    by (Some own) is found later = record {
      place = 0;
      store = x;
      at = refl;
      differs = at_first ops h n x (Some fault) (is ∙ found);
      earlier = λ p s below at. absurd (omega (arith, below));
    }

-- and where none was, none differs,
pub none_differ : {B : Type 0} (ops : List Op) (h : History) (n : ℕ) (stores : List (Opened B)) → books_difference ops h n stores ≡ None
    → (q : ℕ) (s : Opened B) → slice_get stores q ≡ Some s → difference_at ops h n q s ≡ None
none_differ ops h n [] none q s at = absurd (none-some s at)
none_differ {B} ops h n (x ∷ xs) none q s at = by (book_difference n (effects ops h n) x.book x.doubt) refl none q at (none_differ ops h (n + 1) xs)
  where
    by : (d : Option BookFault) → book_difference n (effects ops h n) x.book x.doubt ≡ d → or_else d (books_difference ops h (n + 1) xs) ≡ None → (k : ℕ) → slice_get (x ∷ xs) k ≡ Some s
        → (books_difference ops h (n + 1) xs ≡ None → (q : ℕ) (s : Opened B) → slice_get xs q ≡ Some s → difference_at ops h (n + 1) q s ≡ None) → difference_at ops h n k s ≡ None
    by (Some own) is none k at later = absurd (none-some own (sym none))
    by None is none zero at later = at_first ops h n s None (subst (λ (y : Opened B). book_difference n (effects ops h n) y.book y.doubt ≡ None) (ap (λ o. unwrap_or o x) at) is)
    by None is none (suc k) at later = subst (λ m. book_difference m (effects ops h m) s.book s.doubt ≡ None) (later_place k n) (later none k s at)

-- so the books come to the effects of the history
pub come_to : {B : Type 0} (ops : List Op) (h : History) (stores : List (Opened B)) → books_difference ops h 0 stores ≡ None → ComeTo ops h stores
come_to ops h stores none q s at =
    let is : q + 0 ≡ q = omega arith in
    no_difference q 1 (counted (effects ops h q) s.book s.doubt) (effects ops h q)
    (subst (λ k. book_difference k (effects ops h k) s.book s.doubt ≡ None) is (none_differ ops h 0 stores none q s at))

-- a book that comes to some effects has no difference from them
pub same_books : (q : ℕ) (es book doubt : List Effect) → counted es book doubt ≡ es → book_difference q es book doubt ≡ None
same_books q es book doubt comes = ap (λ b. difference q b es) comes ∙ none_in_itself q 1 es

-- the difference of a store from acts that are the effects
pub found_here : {B : Type 0} (ops : List Op) (h : History) (q : ℕ) (s : Opened B) (acts : List Effect) (found : Option BookFault) → acts ≡ effects ops h q
    → found ≡ book_difference q acts s.book s.doubt → book_difference q (effects ops h q) s.book s.doubt ≡ found
found_here ops h q s acts found is found_is =
    ap (λ es. book_difference q es s.book s.doubt) (sym is) ∙ sym found_is

-- it is that of the stores from there on, if there is one,
pub found_first : {B : Type 0} (ops : List Op) (h : History) (q : ℕ) (s : Opened B) (rest : List (Opened B)) (found : Option BookFault) → book_difference q (effects ops h q) s.book s.doubt ≡ found
    → is_some found ≡ true → found ≡ books_difference ops h q (s ∷ rest)
found_first ops h q s rest None is some = absurd (false≢true some)
found_first ops h q s rest (Some fault) is some = sym (ap (λ d. or_else d (books_difference ops h (q + 1) rest)) is)

-- and else that of the others
pub found_later : {B : Type 0} (ops : List Op) (h : History) (q : ℕ) (s : Opened B) (rest : List (Opened B)) (found : Option BookFault) → book_difference q (effects ops h q) s.book s.doubt ≡ found
    → is_some found ≡ false → books_difference ops h (q + 1) rest ≡ books_difference ops h q (s ∷ rest)
found_later ops h q s rest None is none = sym (ap (λ d. or_else d (books_difference ops h (q + 1) rest)) is)
found_later ops h q s rest (Some fault) is none = absurd (false≢true (sym none))

-- a good book is of few effects
pub few_in_good : {B : Type 0} (s : Opened B) → IsGoodBook s.kind s.book s.doubt → length s.book + length s.doubt ≤ 16384
few_in_good s good = let few = good.few in omega (arith, few, length-append s.book s.doubt)
