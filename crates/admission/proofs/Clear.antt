-- Where no operation that is held may conflict with that of an entry, nothing stands against it.
use Rattle.std.proofs.Common.{◌≡◌, ℕ, zero, suc, false, ◌||◌, List, [], ◌∷◌, map, take, None, refl, ap, ◌∙◌}
use Rattle.std.specs.List.{list_any}
use Rattle.process_tree.specs.declared.entry.Entry.{Entry}
use Rattle.process_tree.specs.Conflicts.{Table, do_conflict}
use Rattle.schedule_model.specs.Blocking.{Clash, against}
use Rattle.machine_model.specs.declared.blocked.Rule.{Rule}
use Rattle.machine_model.specs.Blocks.{by_rule, least_block}
use Rattle.hold_tables.specs.Tables.{reserved_entry}
use Rattle.hold_tables.specs.Operations.{may_conflict, ops_of}
use Rattle.hold_tables.proofs.HeldOps.{no_conflict}
use Rattle.hold_tables.proofs.Marks.{neither_of}
use Rattle.admission.specs.Least.{least_on}

module _ (table : Table) (b : Entry) where
  pub none_against : (es : List Entry) → list_any (may_conflict table b.op) (ops_of es) ≡ false → against (do_conflict table) b es ≡ []
  none_against [] none = refl
  none_against (e ∷ es) none =
      let parts = neither_of (may_conflict table b.op e.op) (list_any (may_conflict table b.op) (ops_of es)) none in
      rw (no_conflict table b e parts.0) (none_against es parts.1)

  pub none_on : (rule : Rule) (es : List Entry) → list_any (may_conflict table b.op) (ops_of es) ≡ false → least_on (do_conflict table) rule b es ≡ None
  none_on rule es none = ap (λ (cs : List Clash). least_block (by_rule rule cs)) (none_against es none)

  -- of reserved steps
  pub none_reserved_on : (rule : Rule) (i : ℕ) (planned : List (ℕ × ℕ × ℕ)) → list_any (may_conflict table b.op) (map (λ step. step.1) planned) ≡ false
      → least_on (do_conflict table) rule b (map (reserved_entry i) planned) ≡ None
  none_reserved_on rule i planned none = none_on rule (map (reserved_entry i) planned) (ap (list_any (may_conflict table b.op)) (same planned) ∙ none)
    where
      same : (planned : List (ℕ × ℕ × ℕ)) → ops_of (map (reserved_entry i) planned) ≡ map (λ step. step.1) planned
      same [] = refl
      same (s ∷ planned) = ap (s.1 ∷◌) (same planned)

  -- of those before a place
  pub none_before : (n : ℕ) (es : List Entry) → list_any (may_conflict table b.op) (ops_of es) ≡ false → list_any (may_conflict table b.op) (ops_of (take n es)) ≡ false
  none_before zero [] none = refl
  none_before zero (e ∷ es) none = refl
  none_before (suc n) [] none = refl
  none_before (suc n) (e ∷ es) none =
      let parts = neither_of (may_conflict table b.op e.op) (list_any (may_conflict table b.op) (ops_of es)) none in
      ap (λ t. t || list_any (may_conflict table b.op) (ops_of (take n es))) parts.0 ∙ none_before n es parts.1
