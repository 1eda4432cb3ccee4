use Rattle.std.proofs.Common.{◌∙◌, ap, sym}
use Rattle.std.specs.Prelude.{map, not, string_bytes}
use Rattle.std.specs.Option.{option_map}
use Rattle.command_input.specs.Inputs.{input}
use Rattle.process_program.proofs.SameAnswer.{answer_seen, answers_over_new, gates_are_new, given_inside}
use Rattle.process_program.proofs.calls.answered.Goals as goal

pub returns : goal.returns
returns g c =
    let new = c.over-rack.ensures in
    let after = c.top-finished in
    let parts = c.into_parts-source in
    let words = map string_bytes c.args.words.now in
    let given = option_map (λ i. i.items) parts.result.1 in
    record {
      answers = answers_over_new g.S.Source g.K.Sink g.E.Sink _ _ words c.args.source parts.result.0 c.args.sink.now after.new.sink c.args.errors.now c.tell_beside.new.errors c.args.folder c.over-rack.result after.result.rack
          _ _ _ _ _ _ after.result.refused given new.folder (new.writes ∙ ap not c.only_reads.ensures) new.new (sym c.from.ensures) c.requires.empty
          (gates_are_new c.args.ready.gates.items c.requires.gates)
          (answer_seen g.S.Source words _ _ after.result.status after.result.refused after.ensures c.args.source parts.result.0 (ap (input g.S.Source) c.new-source.ensures.inner)
          (sym (ap (input g.S.Source) parts.ensures.inner)) (λ same. parts.ensures.inner ∙ ap (λ k. k.inner) same ∙ c.new-source.ensures.inner))
          (given_inside (g.S.Source.left c.args.source) g.O.Opening.left (g.S.Source.left after.new.source.inner) (g.S.Source.left parts.result.0) (λ i. i.items) parts.result.1 c.requires.opening
          (sym (ap g.S.Source.left parts.ensures.inner)) parts.ensures.kept)
          c.tell_beside.ensures;
    }
