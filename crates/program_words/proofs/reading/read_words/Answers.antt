use Rattle.std.proofs.Common.{◌∙◌, ap, map, string_bytes, sym}
use Rattle.program_words.specs.Names.{named}
use Rattle.program_words.proofs.Complete.{answered, asked_named, form_asked}
use Rattle.program_words.proofs.reading.read_words.Goals as goal

pub returns-in-Some-clause-complete : goal.returns-in-Some-clause-complete
returns-in-Some-clause-complete c =
    let named_by = asked_named string_bytes c.args.words.now c.first-item.result _ c.in-len1-up.len_at_least c.first-item.is
    (ap named (sym c.as_str.ensures.value) ∙ (sym c.name_of.ensures ∙ c.in-Some.is)) in
    λ command form. answered command _ c.read_after.result c.read_after.ensures.asked (sym named_by ∙ form_asked command (map string_bytes c.args.words.now) form)
