use Rattle.std.proofs.Common.{◌≡◌, ◌&&◌, Bool, true, false, not, nat_eq, ap, refl, ◌∙◌}
use Rattle.std.specs.Prelude.{if◌then◌else◌}
use Rattle.bit_rows.proofs.Columns.{column_of, column_seen}
use Rattle.bit_rows.proofs.row.BitRow.clear.Goals as goal

pub returns : goal.returns
returns c k =
    column_of c.clear.new.words k c.clear.array_long ∙ c.clear.ensures k
    ∙ ap (λ t. not (nat_eq k c.args.column) && t) (column_seen c.args.self.now c.self.inside.words k c.self.told c.self.view_is) ∙ either (nat_eq k c.args.column) _
  where
    either : (t b : Bool) → (not t && b) ≡ (if t then false else b)
    either true b = refl
    either false b = refl
