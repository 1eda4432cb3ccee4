-- The arrows that entries make, one after another, and what they extend.
use Rattle.std.proofs.Common.{◌≡◌, ℕ, Bool, true, false, ◌||◌, ◌&&◌, not, List, [], ◌∷◌, ◌++◌, length, filter, flat_map, sym, refl, ap, ◌∙◌, arith}
use Rattle.std.specs.Prelude.{nat_eq}
use Rattle.std.specs.List.{list_any}
use Rattle.std.proofs.lemmas.List.Folds.{list_any-append}
use Rattle.std.proofs.lemmas.List.Elements.{filter-append}
use Rattle.std.proofs.lemmas.Bool.{false≢true}
use Rattle.schedule_model.specs.Graph.{Arrow}
use Rattle.hold_tables.specs.Tables.{OpenProcess, running_of}
use Rattle.process_tree.specs.declared.entry.Entry.{Entry}
use Rattle.schedule_model.specs.Conflict.{ConflictRelation, conflict}
use Rattle.hold_tables.specs.Walks.{arrows_by, arrows_to, steps_under_way, IsExtended}
use Rattle.hold_tables.proofs.Extended.{extended_none, one}

-- two entries that conflict make one arrow
pub arrow_alone : (table : ConflictRelation) (x y : Entry) → conflict table x y ≡ true → (i k : ℕ) → one x.process y.process i k ≡ arrows_by table x (y ∷ []) i k
arrow_alone table x y is i k = ap (nat_eq x.process i &&◌) (by (nat_eq y.process k) (conflict table x y) is)
  where
    by : (s t : Bool) → t ≡ true → s ≡ ((s && t) || false)
    by true true is = refl
    by false true is = refl
    by s false is = absurd (false≢true is)

pub any_later : (s a b : Bool) → (s && (a || b)) ≡ ((s && a) || (s && b))
any_later true a b = refl
any_later false a b = refl

-- the arrows of an entry to some and then to others
pub arrows_append : (table : ConflictRelation) (x : Entry) (ys zs : List Entry) (i k : ℕ) → arrows_by table x (ys ++ zs) i k ≡ (arrows_by table x ys i k || arrows_by table x zs i k)
arrows_append table x ys zs i k =
    ap (nat_eq x.process i &&◌) (list_any-append (λ y. nat_eq y.process k && conflict table x y) ys zs)
    ∙ any_later (nat_eq x.process i) (list_any (λ y. nat_eq y.process k && conflict table x y) ys) (list_any (λ y. nat_eq y.process k && conflict table x y) zs)

nothing : (rows : List OpenProcess) (added : Arrow) (marks : List (List Bool)) → ((i k : ℕ) → added i k ≡ false) → IsExtended rows added marks marks
nothing rows added marks none = extended_none rows added marks (λ i k here there arrow. absurd (false≢true (sym (none i k) ∙ arrow)))

pub none_first : (s : Bool) → (s && false) ≡ false
none_first true = refl
none_first false = refl

-- no processes make no arrows
pub no_steps : (rows : List OpenProcess) (table : ConflictRelation) (x : Entry) (rs : List OpenProcess) (marks : List (List Bool)) → length rs ≡ 0 → IsExtended rows (arrows_by table x (steps_under_way rs)) marks marks
no_steps rows table x [] marks none = nothing rows (arrows_by table x []) marks (λ i k. none_first (nat_eq x.process i))
no_steps rows table x (r ∷ rs) marks none = absurd (omega (arith, none))

-- nor do no entries make any to a later one
pub none_to : (rows : List OpenProcess) (table : ConflictRelation) (es : List Entry) (e : Entry) (marks : List (List Bool)) → length es ≡ 0 → IsExtended rows (arrows_to table es e) marks marks
none_to rows table [] e marks none = nothing rows (arrows_to table [] e) marks (λ i k. refl)
none_to rows table (x ∷ es) e marks none = absurd (omega (arith, none))

-- what is under way in the first process, and in the others
pub steps_first : (r : OpenProcess) (rows : List OpenProcess) → steps_under_way (r ∷ rows) ≡ filter (λ e. not e.undo) (running_of r) ++ steps_under_way rows
steps_first r rows = filter-append (λ (e : Entry). not e.undo) (running_of r) (flat_map running_of rows)
