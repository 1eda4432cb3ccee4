use Rattle.std.proofs.Common.{◌≡◌, ◌∙◌, ap, sym, map, string_bytes}
use Rattle.std.specs.Prelude.{Some, None}
use Rattle.program_words.specs.Commands.{asked}
use Rattle.call_words.specs.Borrowed.{parts_of, IsWhole}
use Rattle.call_words.proofs.Whole.{all_behind, of_any}
use Rattle.call_words.proofs.parting.call_parts.Goals as goal

pub returns-in-Ok-None-clause-whole : goal.returns-in-Ok-None-clause-whole
returns-in-Ok-None-clause-whole c =
    let words = map string_bytes c.args.words.now in
    of_any (λ p. IsWhole words (parts_of p))
    (λ p command is.
    let some : asked (map string_bytes c.folder_of.result.1.now) ≡ Some command =
    ap asked (c.folder_of.ensures.words ∙ all_behind words command is) ∙ is in
    let none : asked (map string_bytes c.folder_of.result.1.now) ≡ None = sym c.in-Ok-None.ensures ∙ c.in-Ok-None.field-0-is in
    let bad : None ≡ Some command = sym none ∙ some in
    cc)
    c.with_file.result
