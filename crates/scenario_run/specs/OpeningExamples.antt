-- Worked refusals of openings, each of which holds by computing.
use Rattle.std.specs.Prelude.{◌≡◌, refl, [], ◌∷◌, Some, None, codes}
use Rattle.std.specs.Fmt.{digits}
use Rattle.process_tree.specs.declared.conflicts.Mode.TheVariants.{Never, Always}
use Rattle.commute_table.specs.declared.catalog.Catalog.{Catalog}
use Rattle.commute_table.specs.declared.op.Verb.TheVariants.{Add, Take}
use Rattle.commute_table.specs.Bytes.{bytes_of}
use Rattle.history_opening.specs.declared.faults.OpenError.TheVariants.{BadHistory}
use Rattle.command_refusals.specs.Refusals.{refusal_text}
use Rattle.command_refusals.specs.declared.refusal.Refusal.TheVariants.{CatalogDiffers, Unfinished}
use Rattle.scenario_run.specs.Opening.{first_difference, open_refusal}

-- one operation that conflicts with nothing
abbrev pub add_only : Catalog
add_only =
    record { version = 1; ops = record { name = codes "add"; subsystem = 0; verb = Add } ∷ []; conflicts = (Never ∷ []) ∷ [] }

-- two operations, both of which conflict with themselves and each other
abbrev pub add_and_take : Catalog
add_and_take = record {
  version = 1;
  ops = record { name = codes "add"; subsystem = 0; verb = Add } ∷ record { name = codes "take"; subsystem = 0; verb = Take } ∷ [];
  conflicts = (Always ∷ Always ∷ []) ∷ (Always ∷ []) ∷ [];
}

-- the numbers of their operations differ, at byte 1
pub differ_in_count : first_difference (bytes_of add_only) (bytes_of add_and_take) ≡ Some 1
differ_in_count = refl

pub differ_nowhere : first_difference (bytes_of add_only) (bytes_of add_only) ≡ None
differ_nowhere = refl

pub one_is_longer : first_difference (1 ∷ 2 ∷ []) (1 ∷ 2 ∷ 3 ∷ []) ≡ Some 2
one_is_longer = refl

pub differs_line : refusal_text (CatalogDiffers 1) ≡ codes "catalog differs at byte 1"
unfolding digits
differs_line = refl

pub unfinished_line : refusal_text (Unfinished 1) ≡ codes "unfinished 1"
unfolding digits
unfinished_line = refl

pub history_line : refusal_text (open_refusal (BadHistory 3)) ≡ codes "bad history at record 3"
unfolding digits
history_line = refl
