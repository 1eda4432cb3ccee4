use mir.Val.{SFits}
use Rattle.std.proofs.lemmas.Int.{to_z-of_z}
use Rattle.std.proofs.Common.{rules, w64, not, sym, ◌∙◌, ap, Some}
use Rattle.process_tree.specs.Making.{same_text}
use Rattle.subsystem_store.specs.declared.effect.Record.TheVariants.{Prepared}
use Rattle.subsystem_store.specs.Bodies.{prepared_bytes, effect_at, is_amount}
use Rattle.subsystem_store.proofs.Records.{not_same, is_prepared, no_by_not, yes_by_not}
use Rattle.subsystem_store.proofs.bodies.prepared_of.Goals as goal

pub returns-then-ne : goal.returns-then-ne
returns-then-ne c =
    let body = c.args.body.now in
    let bytes = c.as_slice.ensures ∙ c.prepared_bytes.ensures ∙ ap prepared_bytes c.effect_at-effect.ensures in
    let other = sym c.if-ne.true ∙ c.ne.ensures ∙ ap (λ bs. not (same_text bs body)) bytes in
    sym (not_same body (no_by_not (same_text (prepared_bytes (effect_at body)) body) other))

pub returns-then-is_amount : goal.returns-then-is_amount
returns-then-is_amount c =
    let body = c.args.body.now in
    let bytes = c.as_slice.ensures ∙ c.prepared_bytes.ensures ∙ ap prepared_bytes c.effect_at-effect.ensures in
    let same = sym c.if-ne.false ∙ c.ne.ensures ∙ ap (λ bs. not (same_text bs body)) bytes in
    let fits : SFits w64 c.effect_at-effect.result.call.amount = search rules in
    let amount = to_z-of_z w64 c.effect_at-effect.result.call.amount fits in
    let within = ap (λ e. is_amount e.call.amount) (sym c.effect_at-effect.ensures) ∙ ap is_amount (sym amount) ∙ sym c.is_amount.ensures ∙ c.if-is_amount.true in
    ap (λ e. Some (Prepared e)) c.effect_at-effect.ensures ∙ sym (is_prepared body (yes_by_not (same_text (prepared_bytes (effect_at body)) body) same) within)
