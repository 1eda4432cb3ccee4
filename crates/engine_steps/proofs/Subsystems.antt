-- The operations of a catalog are on one of eight subsystems.
use Rattle.std.proofs.Common.{◌≡◌, ◌<◌, ℕ, zero, suc, true, List, [], ◌∷◌, arith}
use Rattle.std.specs.Prelude.{nat_lt, nat_le}
use Rattle.std.specs.List.{list_all}
use Rattle.std.proofs.lemmas.Bool.{and_parts, ltb-true}
use Rattle.process_tree.specs.Name.{is_name}
use Rattle.commute_table.specs.declared.op.Op.{Op}
use Rattle.commute_table.specs.declared.op.Verb.{Verb}
use Rattle.commute_table.specs.declared.op.Verb.TheVariants.{Add, Take, Look, Put, Hold, Free}
use Rattle.commute_table.specs.Operations.{is_good_op, takes}
use Rattle.history_files.specs.Effects.{subsystem_of}

low_by : (q : ℕ) (v : Verb) → takes q v ≡ true → q < 8
low_by q Add is = let low = ltb-true q 4 is in omega (arith, low)
low_by q Take is = let low = ltb-true q 4 is in omega (arith, low)
low_by q Put is = let low = ltb-true q 6 (and_parts (nat_le 4 q) (nat_lt q 6) is).1 in omega (arith, low)
low_by q Hold is = ltb-true q 8 (and_parts (nat_le 6 q) (nat_lt q 8) is).1
low_by q Free is = ltb-true q 8 (and_parts (nat_le 6 q) (nat_lt q 8) is).1
low_by q Look is = ltb-true q 8 is

pub subsystem_low : (ops : List Op) (op : ℕ) → list_all is_good_op ops ≡ true → subsystem_of ops op < 8
subsystem_low [] op good = omega arith
subsystem_low (o ∷ ops) zero good = low_by o.subsystem o.verb (and_parts (is_name o.name) (takes o.subsystem o.verb) (and_parts (is_good_op o) (list_all is_good_op ops) good).0).1
subsystem_low (o ∷ ops) (suc n) good = subsystem_low ops n (and_parts (is_good_op o) (list_all is_good_op ops) good).1
