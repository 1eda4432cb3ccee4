use Rattle.std.proofs.Common.{rules, ◌≡◌, ◌<◌, ℕ, slice_index_or}
use Rattle.std.specs.Int.{bit_at}
use Rattle.bit_rows.proofs.Columns.{none_set, some_set}
use Rattle.bit_rows.proofs.words.is_zero.Goals as goal

pub returns-clause-none : goal.returns-clause-none
returns-clause-none c = search (none_set, rules)

pub returns-clause-some : goal.returns-clause-some
returns-clause-some c is =
    let words = c.args.words.now in
    let found : (P : ℕ → Type 0) → ((w t : ℕ) → t < 64 → bit_at w t ≡ 1 → P w) → (j : ℕ) × (j < 4) × P (slice_index_or words j 0)
    = λ P set. search (set, rules) in
    let at = found (λ w. (t : ℕ) × (t < 64) × (bit_at w t ≡ 1)) (λ w t less one. (t, less, one)) in
    some_set words at.0 at.2.0 at.1 at.2.1 at.2.2
