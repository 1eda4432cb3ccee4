use mir.Val.{SFits}
use Rattle.std.proofs.Common.{rules, w64, refl}
use Rattle.std.proofs.lemmas.Int.{to_z-of_z}
use Rattle.subsystem_store.proofs.bodies.prepared_bytes.Goals as goal

pub returns : goal.returns
returns c =
    let fits : SFits w64 c.args.effect.now.call.amount = search rules in
    rw (c.to_le_bytes.ensures, c.to_le_bytes-2.ensures, c.to_le_bytes-3.ensures, c.to_le_bytes-4.ensures, c.to_le_bytes-5.ensures, c.cast_unsigned.ensures, c.flag-undo.ensures, c.code-verb.ensures, to_z-of_z w64 c.args.effect.now.call.amount fits) refl
