-- What an expansion has written, in the words of what it writes: it goes from the last word to the first, so its lists stand backwards.
use Rattle.std.specs.Prelude.{map, reverse}
use Rattle.process_expand.specs.declared.expansion.Open.{Open}
use Rattle.process_expand.specs.declared.expansion.Written.{Written}
use Rattle.process_expand.specs.Expansion.{Frame, State}

abbrev pub frame_of : Open → Frame
frame_of o = record { rest = reverse o.rest.items; written = reverse o.written.items }

abbrev pub state_of : Written → State
state_of w = record { text = reverse w.text.items; frames = reverse (map frame_of w.open.items) }
