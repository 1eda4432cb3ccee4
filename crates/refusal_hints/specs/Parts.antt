-- Which part of a catalog a byte of it is of.
use Rattle.std.specs.Prelude.{◌≡◌, ℕ, ◌+◌, ◌-◌, List, [], ◌∷◌, length, nat_lt, codes, if◌then◌else◌, refl}
use Rattle.commute_table.specs.declared.op.Op.{Op}
use Rattle.commute_table.specs.declared.op.Verb.TheVariants.{Add}
use Rattle.refusal_hints.specs.declared.parts.Part.{Part}
use Rattle.refusal_hints.specs.declared.parts.Part.TheVariants.{Front, Operation, Pair, Behind}

-- byte n of the conflicts of count operations, the first of which has the number i: they come in rows, one of each operation with
-- itself and each later one
abbrev pub part_of_rows : ℕ → ℕ → List Op → Part
part_of_rows n i [] = Behind
part_of_rows n i (o ∷ ops) = if nat_lt n (length (o ∷ ops)) then Pair i (i + n) else part_of_rows (n - length (o ∷ ops)) (i + 1) ops

-- how many bytes an operation has: the length of its name, the name, its subsystem and its verb
abbrev pub op_size : Op → ℕ
op_size o = length o.name + 3

-- byte n of these operations, the first of which has the number k, or of what stands behind them: the conflicts of all
abbrev pub part_of_ops : ℕ → ℕ → List Op → List Op → Part
part_of_ops n k all [] = part_of_rows n 1 all
part_of_ops n k all (o ∷ ops) = if nat_lt n (op_size o) then Operation k else part_of_ops (n - op_size o) (k + 1) all ops

-- byte n of a catalog with these operations: the version and their number have three
abbrev pub part_at : ℕ → List Op → Part
part_at n ops = if nat_lt n 3 then Front else part_of_ops (n - 3) 1 ops ops

-- one operation of the name ab: its bytes are 3 to 7, and byte 8 is its conflict with itself
pub of_the_name : part_at 4 (record { name = codes "ab"; subsystem = 0; verb = Add } ∷ []) ≡ Operation 1
of_the_name = refl

pub of_the_pair : part_at 8 (record { name = codes "ab"; subsystem = 0; verb = Add } ∷ []) ≡ Pair 1 1
of_the_pair = refl
