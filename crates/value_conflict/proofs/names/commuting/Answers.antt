use Rattle.std.proofs.Common.{◌∙◌, arith, sym, ap}
use Rattle.value_conflict.specs.Soundness.{pair_of}
use Rattle.value_conflict.proofs.LeastPair.{first_commuting-is_exact}
use Rattle.value_conflict.proofs.names.commuting.Goals as goal

pub names_of-requires-clause-a_is_one : goal.names_of-requires-clause-a_is_one
names_of-requires-clause-a_is_one c =
    let p = c.in-Err.field-0 in
    let least = (first_commuting-is_exact c.args.c.now).some p.a p.b (sym c.value_sound.ensures ∙ ap pair_of c.in-Err.is) in
    omega (arith, least.ordered, least.there, c.in-Err.a-is)

pub names_of-requires-clause-b_is_one : goal.names_of-requires-clause-b_is_one
names_of-requires-clause-b_is_one c =
    let p = c.in-Err.field-0 in
    let least = (first_commuting-is_exact c.args.c.now).some p.a p.b (sym c.value_sound.ensures ∙ ap pair_of c.in-Err.is) in
    omega (arith, least.there, c.in-Err.b-is)
