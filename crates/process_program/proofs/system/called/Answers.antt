use Rattle.std.proofs.Common.{◌∙◌, ap, subst, sym, inl, inr, string_bytes}
use Rattle.std.specs.Option.{option_map}
use Rattle.call_words.specs.Borrowed.{parts_of}
use Rattle.process_program.specs.Bars.{IsBarred}
use Rattle.process_program.proofs.system.called.Goals as goal

pub returns-in-Ok-entered : goal.returns-in-Ok-entered
returns-in-Ok-entered g c =
    let found = c.in-Ok-entered.ensures in
    record {
      ends = inl (
        c.in-Ok-entered.source,
        found.input,
        (
          c.entered.new.folder,
          ap (option_map string_bytes) found.place ∙ c.in-Ok.ensures,
          found.access ∙ c.requires.new.0,
          (c.program-source.result.source, c.program-source.result.rack, c.program-source.ensures.ends),
        ),
      );
    }

pub returns-in-Err : goal.returns-in-Err
returns-in-Err g c =
    let told = subst (λ n. IsBarred g.K.Sink g.E.Sink (parts_of c.args.parts.now) c.in-Err.bar c.args.sink.now c.args.errors.now c.tell_barred.new.sink c.tell_barred.new.errors n) (sym c.from-in-Err.ensures) c.tell_barred.ensures in
    record { ends = inr (inl (c.entered.new.folder, (c.in-Err.bar, c.in-Err.ensures.cause.0, c.in-Err.ensures.cause.1, told))) }
