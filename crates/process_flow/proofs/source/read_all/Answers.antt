use Rattle.std.proofs.Common.{◌≡◌, Err, rules}
use Rattle.std.proofs.KnownBytes.{Consumes-trans}
use Rattle.process_flow.specs.declared.source.ReadError.TheVariants.{NoMemory}
use Rattle.process_flow.proofs.source.read_all.Goals as goal

pub returns-in_err-extend_from_slice-clause-gave : goal.returns-in_err-extend_from_slice-clause-gave
returns-in_err-extend_from_slice-clause-gave g c =
    let wanting : c.from_residual.result ≡ Err NoMemory = search rules in
    (_, Consumes-trans _ _ _ _ _ c.loop-chunk.invariant.consumed (c.in-Ok.ensures.bytes.0), rw wanting tt)
