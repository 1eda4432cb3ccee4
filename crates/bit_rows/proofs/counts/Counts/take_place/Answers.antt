use Rattle.std.proofs.Common.{◌≤◌, nat_lt, sym, ap, subst, ◌∙◌, arith}
use Rattle.bit_rows.specs.Cells.{place_before}
use Rattle.bit_rows.proofs.counts.Counts.take_place.Goals as goal

pub invariant_of-self : goal.invariant_of-self
invariant_of-self c =
    let marked = c.self.invariant.1 in
    let same = marked.0 in
    let fewer = c.take_place-2.ensures.count in
    let less = c.take_place.ensures.count in (
      subst (λ n. 256 ≤ n) (sym c.take_place.ensures.capacity) c.self.invariant.0,
      (
        omega (arith, same, fewer, less),
        λ a b.
            c.take_place-2.ensures.cells a b ∙ marked.1 (place_before c.args.place a) (place_before c.args.place b)
            ∙ sym (ap (nat_lt 0) (c.take_place.ensures.cells a b)),
      ),
    )
