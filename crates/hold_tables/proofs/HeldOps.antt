-- Where no operation that is held may conflict with that of an entry, none of the entries conflicts with it.
use Rattle.std.proofs.Common.{◌≡◌, ℕ, Bool, true, false, not, ◌||◌, ◌&&◌, List, [], ◌∷◌, sym, refl, ap, ◌∙◌}
use Rattle.std.specs.Prelude.{nat_eq}
use Rattle.std.specs.List.{list_any}
use Rattle.std.proofs.lemmas.Bool.{false≢true}
use Rattle.process_tree.specs.declared.entry.Entry.{Entry}
use Rattle.process_tree.specs.declared.conflicts.Mode.{Mode}
use Rattle.process_tree.specs.declared.conflicts.Mode.TheVariants.{Never, Key, Always}
use Rattle.process_tree.specs.Conflicts.{Table, covers, do_conflict, mode_of}
use Rattle.schedule_model.specs.Conflict.{conflict}
use Rattle.hold_tables.specs.Operations.{is_conflict, may_conflict, ops_of}
use Rattle.hold_tables.specs.Walks.{conflicts_with}
use Rattle.hold_tables.proofs.Marks.{neither_of}

covers_none : (m : Mode) (k l : ℕ) → is_conflict m ≡ false → covers m k l ≡ false
covers_none Never k l none = refl
covers_none Key k l none = absurd (false≢true (sym none))
covers_none Always k l none = absurd (false≢true (sym none))

none_behind : (b : Bool) → (b && false) ≡ false
none_behind true = refl
none_behind false = refl

pub no_conflict : (table : Table) (b e : Entry) → may_conflict table b.op e.op ≡ false → conflict (do_conflict table) b e ≡ false
no_conflict table b e none = ap (not (nat_eq b.process e.process) &&◌) (covers_none (mode_of table b.op e.op) b.key e.key none) ∙ none_behind (not (nat_eq b.process e.process))

pub none_conflicts : (table : Table) (b : Entry) (es : List Entry) → list_any (may_conflict table b.op) (ops_of es) ≡ false → conflicts_with (do_conflict table) es b ≡ false
none_conflicts table b [] none = refl
none_conflicts table b (e ∷ es) none =
    let parts = neither_of (may_conflict table b.op e.op) (list_any (may_conflict table b.op) (ops_of es)) none in
    ap (λ t. t || conflicts_with (do_conflict table) es b) (no_conflict table b e parts.0) ∙ none_conflicts table b es parts.1
