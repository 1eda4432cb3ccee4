use Rattle.std.proofs.Common.{◌≡◌, ◌==◌, [], true, false, length, sym, ap, ◌∙◌}
use Rattle.session_text.specs.Sessions.{after}
use Rattle.session_text.proofs.Lines.{line-some}
use Rattle.session_text.proofs.reading.read_line.Goals as goal

pub returns-in_ok-add_line-in-Some-clause-on : goal.returns-in_ok-add_line-in-Some-clause-on
returns-in_ok-add_line-in-Some-clause-on c = λ rest.
    let some : c.args.line.now ≡ [] → ⊥ = λ none.
    let zero : (length c.args.line.now == 0) ≡ true = ap (λ l. length l == 0) none in
    let both : true ≡ false = sym zero ∙ (sym c.is_empty.ensures ∙ c.if-is_empty.false) in
    cc in
    ap (after c.args.lines.now.items) (line-some c.args.line.now c.args.n rest c.in-Some.line some (sym c.in_ok-line.ensures ∙ c.in-Some.is)) ∙ c.in_ok-add_line-in-Some.ensures c.args.n rest
