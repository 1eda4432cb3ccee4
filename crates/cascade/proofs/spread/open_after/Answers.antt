use Rattle.std.proofs.Common.{◌≡◌, ◌+◌, sym, ap, ◌∙◌, arith}
use Rattle.hold_tables.specs.Reading.{next_open}
use Rattle.hold_tables.proofs.Numbers.{none_behind}
use Rattle.cascade.proofs.spread.open_after.Goals as goal

pub returns-in-None : goal.returns-in-None
returns-in-None c =
    let t = c.args.holds.now in
    let fits = c.ranges.process.fits in
    let much = c.in-None.ensures in
    let last : 4294967296 ≡ c.args.process + 1 = omega (arith, fits, much) in
    sym (none_behind 4294967296 t.processes c.requires.numbers) ∙ ap (next_open t) last
