use Rattle.std.proofs.Common.{◌≡◌, map, take}
use Rattle.command_refusals.specs.Shown.{shown_byte}
use Rattle.command_refusals.proofs.shown.ShownWord.new.Given as goal

abbrev pub invariant-loop-byte : goal.invariant-loop-byte
invariant-loop-byte l = l.bytes.items ≡ map shown_byte (take l.byte-index l.first)
