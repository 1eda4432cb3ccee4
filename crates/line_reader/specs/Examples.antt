-- Worked lines, computed.
use Rattle.std.specs.Prelude.{[], true, false, codes, refl}
use Rattle.std.proofs.Common.{arith}
use Rattle.line_reader.specs.declared.taken.Taken.TheVariants.{LongLine, LongEnd}
use Rattle.line_reader.specs.Taking.{IsFirstOf, IsFrontTaken}

-- the front of a line, whose rest isn't there yet
pub a_front : IsFrontTaken 8 (codes "ne") [] [] (codes "ne") false
a_front = (refl, refl, refl)

-- its rest, behind which the next line stands
pub a_rest : IsFrontTaken 8 (codes "xt\nstop\n") (codes "stop\n") (codes "ne") (codes "next") true
a_rest = (codes "xt", refl, refl)

-- an empty line
pub an_empty_line : IsFrontTaken 8 (codes "\nstop\n") (codes "stop\n") [] [] true
an_empty_line = ([], refl, refl)

-- of a line that is too long one byte more is kept than may be
pub a_long_front : IsFrontTaken 2 (codes "next\n") [] [] (codes "nex") true
a_long_front = (codes "next", refl, refl)

-- to which nothing is added then
pub a_longer_front : IsFrontTaken 2 (codes "t\n") [] (codes "nex") (codes "nex") true
a_longer_front = (codes "t", refl, refl)

pub a_long_line : IsFirstOf 2 (codes "next\nstop") (codes "stop") LongLine
a_long_line = (codes "next", refl, omega arith)

pub a_long_end : IsFirstOf 2 (codes "next") [] LongEnd
a_long_end = (refl, refl, omega arith)
