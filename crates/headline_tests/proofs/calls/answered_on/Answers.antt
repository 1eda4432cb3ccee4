use Rattle.std.proofs.Common.{Some, ap}
use Rattle.std.specs.Prelude.{map, string_bytes}
use Rattle.process_flow.specs.Memory.{MemoryOutput}
use Rattle.headline_tests.proofs.OneWord.{call_of}
use Rattle.headline_tests.proofs.calls.answered_on.Goals as goal

pub returns : goal.returns
returns g c =
    let last = c.top-finished in
    call_of _ _ _ _ _
    (record { source = c.new-source.result; sink = c.new-sink.result; rack = c.args.rack; boxes = c.in_ok-resources.resources.items; gates = c.in_ok-gates.gates.items })
    (record { source = last.new.source; sink = last.new.sink; rack = last.result.rack; boxes = last.result.resources.items; gates = last.result.gates.items })
    (map string_bytes c.deref.result.now) (map string_bytes c.args.words.items) last.result.status last.result.refused (ap (map string_bytes) c.deref.ensures.value) (ap (λ (s : MemoryOutput). Some s.taken) c.new-sink.ensures) last.ensures
