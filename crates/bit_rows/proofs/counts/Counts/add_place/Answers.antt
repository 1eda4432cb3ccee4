use Rattle.std.proofs.Common.{◌≡◌, ◌≤◌, ◌+◌, ℕ, Bool, true, false, length, nat_eq, nat_lt, refl, sym, ap, subst, ◌∙◌, if◌then◌else◌}
use Rattle.bit_rows.specs.Cells.{cell, cell_or}
use Rattle.bit_rows.proofs.counts.Counts.add_place.Goals as goal

either : (t : Bool) (n : ℕ) → (if t then false else nat_lt 0 n) ≡ nat_lt 0 (if t then 0 else n)
either true n = refl
either false n = refl

pub invariant_of-self : goal.invariant_of-self
invariant_of-self c =
    let marked = c.self.invariant.1 in
    let counts = c.self.inside.rows.items in
    let bits = c.self.inside.bits in (
      subst (λ n. 256 ≤ n) (sym c.add_place.ensures.capacity) c.self.invariant.0,
      (
        c.add_place-2.ensures.count ∙ ap (λ n. n + 1) marked.0 ∙ sym c.add_place.ensures.count,
        λ a b.
            c.add_place-2.ensures.cells a b ∙ ap (λ p. if nat_eq b p then false else cell bits a b) marked.0
            ∙ ap (λ t. if nat_eq b (length counts) then false else t) (marked.1 a b) ∙ either (nat_eq b (length counts)) (cell_or 0 counts a b)
            ∙ sym (ap (nat_lt 0) (c.add_place.ensures.cells a b)),
      ),
    )
