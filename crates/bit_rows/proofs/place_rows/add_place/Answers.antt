use Rattle.std.proofs.Common.{◌≡◌, ◌++◌, ◌∷◌, [], length, ap, ◌∙◌, arith, if◌then◌else◌}
use Rattle.std.specs.Prelude.{nat_eq, replicate}
use Rattle.bit_rows.specs.Cells.{cell_or}
use Rattle.bit_rows.proofs.Cells.{length_pushed, none_in_row, pushed_none}
use Rattle.bit_rows.proofs.place_rows.add_place.Goals as goal

pub returns-clause-cells : goal.returns-clause-cells
returns-clause-cells g c a b =
    let none = c.args.none in
    let walks = c.args.rows.now.items in
    let pushed : c.push_reserved.new.self.items ≡ c.clear_place.new.rows.items ++ replicate 256 none ∷ [] = c.push_reserved.ensures.items in
    let place : c.len.result ≡ length walks = (let len = c.len.ensures in omega (arith, len)) in
    ap (λ m. cell_or none m a b) pushed ∙ pushed_none none c.clear_place.new.rows.items (replicate 256 none) a b (none_in_row none 256 b) ∙ c.clear_place.ensures.cells a b
    ∙ ap (λ p. if nat_eq b p then none else cell_or none walks a b) place

pub returns-clause-count : goal.returns-clause-count
returns-clause-count g c =
    let none = c.args.none in
    let pushed : c.push_reserved.new.self.items ≡ c.clear_place.new.rows.items ++ replicate 256 none ∷ [] = c.push_reserved.ensures.items in
    let longer = ap length pushed in
    let more = length_pushed c.clear_place.new.rows.items (replicate 256 none) in
    let same = c.clear_place.ensures.count in
    omega (arith, longer, more, same)
