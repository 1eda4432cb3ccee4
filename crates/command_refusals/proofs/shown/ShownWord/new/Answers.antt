use Rattle.std.proofs.Common.{◌≡◌, ◌∙◌, ℕ, List, true, map, take, ap, sym, subst, arith}
use Rattle.std.specs.List.{list_all}
use Rattle.std.proofs.lemmas.List.{take_all}
use Rattle.command_refusals.specs.Shown.{is_shown, shown_byte}
use Rattle.command_refusals.proofs.ShownWords.{shown_bytes}
use Rattle.command_refusals.proofs.shown.ShownWord.new.Goals as goal

pub invariant_of-result : goal.invariant_of-result
invariant_of-result c =
    subst (λ (bytes : List ℕ). list_all is_shown bytes ≡ true) (sym c.loop-byte.invariant) (shown_bytes (take c.loop-byte.byte-index c.beginning-first.result.now))

pub returns : goal.returns
returns c =
    c.loop-byte.invariant
    ∙ ap (map shown_byte) (take_all c.loop-byte.byte-index c.beginning-first.result.now (omega (arith, c.loop-byte-test.false)) ∙ c.beginning-first.ensures)
