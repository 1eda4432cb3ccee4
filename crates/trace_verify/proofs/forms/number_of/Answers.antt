use Rattle.std.proofs.Common.{◌≡◌, ◌∙◌, sym, ap, arith, rules, Some, None, true, if◌then◌else◌, decimal}
use Rattle.std.specs.Str.Parse.{digits_value}
use Rattle.process_text.proofs.NumberWords.{value_of_decimal}
use Rattle.trace_verify.specs.Forms.{is_number}
use Rattle.trace_verify.proofs.forms.number_of.Goals as goal

pub returns-in-Some : goal.returns-in-Some
returns-in-Some c =
    let w = c.args.word.now in
    let written : w ≡ decimal c.in-Some.n = search rules in
    let good : is_number w ≡ true = search rules in
    let value : digits_value 10 w ≡ c.in-Some.n = ap (digits_value 10) written ∙ value_of_decimal c.in-Some.n (omega arith) in
    sym (ap (λ b. if b then Some (digits_value 10 w) else None) good ∙ ap Some value)
