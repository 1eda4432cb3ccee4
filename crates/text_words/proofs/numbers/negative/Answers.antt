use Rattle.std.proofs.Common.{arith, rules, ◌≤◌}
use Rattle.text_words.proofs.NumberWords.{zero_fails, above_zero_passes}
use Rattle.text_words.proofs.numbers.negative.Goals as goal

pub returns-in-Some-eq0-clause-test : goal.returns-in-Some-eq0-clause-test
returns-in-Some-eq0-clause-test c = zero_fails _ c.args.digits.now (search rules)

pub returns-in-Some-clause-test : goal.returns-in-Some-clause-test
returns-in-Some-clause-test c =
    let within : c.in-Some.n ≤ 1000000000 = search rules in
    above_zero_passes _ c.args.digits.now c.in-Some.n (omega arith) (search rules) within (search rules)
