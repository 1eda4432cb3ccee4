-- The rule that is named, by which lists of clashes are empty.
use Rattle.std.proofs.Common.{◌≡◌, Bool, true, false, ◌||◌, List, [], ◌∷◌, Option, Some, sym, refl, ap, ◌∙◌}
use Rattle.std.specs.List.{list_any}
use Rattle.std.proofs.lemmas.Bool.{false≢true}
use Rattle.process_tree.specs.declared.entry.Entry.{Entry}
use Rattle.schedule_model.specs.Blocking.{Clash, against}
use Rattle.schedule_model.specs.Conflict.{ConflictRelation, conflict}
use Rattle.schedule_model.proofs.Clear.{against-none, none_against}
use Rattle.schedule_model.proofs.Members.{among-any}
use Rattle.schedule_rules.proofs.ListTests.{none_of_all}
use Rattle.machine_model.specs.declared.blocked.Rule.{Rule}
use Rattle.event_rules.specs.Refusing.{rule_or}

-- a rule that names a clash
pub named : (rule : Rule) (clashes : List Clash) (other : Option Rule) → (clashes ≡ [] → ⊥) → rule_or rule clashes other ≡ Some rule
named rule [] other some = absurd (some refl)
named rule (c ∷ cs) other some = refl

-- and one that names none
pub passed : (rule : Rule) (clashes : List Clash) (other : Option Rule) → clashes ≡ [] → rule_or rule clashes other ≡ other
passed rule clashes other none = ap (λ cs. rule_or rule cs other) none

module _ (table : ConflictRelation) (b : Entry) (es : List Entry) where
  -- an entry conflicts with one of these
  pub some_against : list_any (conflict table b) es ≡ true → against table b es ≡ [] → ⊥
  some_against is none = let found = among-any (conflict table b) es is in false≢true (sym (none_against table b es none found.0 found.1) ∙ found.2)

  -- or with none
  pub no_against : list_any (conflict table b) es ≡ false → against table b es ≡ []
  no_against is = against-none table b es (λ x there. none_of_all (conflict table b) x es is there)

-- neither of two tests passes
pub neither : (a b : Bool) → (a || b) ≡ false → (a ≡ false) × (b ≡ false)
neither true b is = absurd (false≢true (sym is))
neither false b is = (refl, is)
