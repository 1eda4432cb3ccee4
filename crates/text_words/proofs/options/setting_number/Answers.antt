use Rattle.std.proofs.Common.{arith, rules, ◌≡◌, true, false}
use Rattle.text_words.specs.Numbers.{is_number}
use Rattle.text_words.specs.Marks.{takes}
use Rattle.text_words.proofs.Settings.{setting_passes, setting_fails, no_number_fails}
use Rattle.text_words.proofs.options.setting_number.Goals as goal

pub returns-in-None-clause-test : goal.returns-in-None-clause-test
returns-in-None-clause-test c =
    let no : is_number 99 c.args.word.now ≡ false = search rules in
    no_number_fails c.args.setting c.args.word.now no

pub returns-then-not-takes-clause-test : goal.returns-then-not-takes-clause-test
returns-then-not-takes-clause-test c =
    let out : takes c.args.setting c.in-Some.n ≡ false = search rules in
    setting_fails c.args.setting c.args.word.now c.in-Some.n (omega arith) (search rules) out

pub returns-clause-test : goal.returns-clause-test
returns-clause-test c =
    let yes : is_number 99 c.args.word.now ≡ true = search rules in
    let in_range : takes c.args.setting c.in-Some.n ≡ true = search rules in
    setting_passes c.args.setting c.args.word.now c.in-Some.n (omega arith) (search rules) yes in_range
