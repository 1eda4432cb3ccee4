use Rattle.std.proofs.Common.{refl}
use Rattle.history_files.specs.Effects.{effects}
use Rattle.value_replay.specs.Replays.{books, serial_list}
use Rattle.replay_run.proofs.PrintedText.{have_serial, own_values}
use Rattle.replay_run.proofs.PrintedValues.{lines_alike}
use Rattle.replay_run.proofs.command.said_of.Goals as goal

pub text_of-requires-clause-values : goal.text_of-requires-clause-values
text_of-requires-clause-values g c =
    have_serial (λ b. (g.B.Resource.meaning b).items) c.args.boxes.now c.serial_lists_keep_values.ensures.completed c.args.c.now c.args.h.now c.requires.history
    (c.journals_keep_histories.ensures.planned c.args.c.now c.args.h.now c.requires.history) c.requires.sound c.requires.idle c.requires.values

pub returns-clause-said : goal.returns-clause-said
returns-clause-said g c =
    let h = c.args.h.now in
    let planned = c.journals_keep_histories.ensures.planned c.args.c.now h c.requires.history in
    record {
      idle = c.requires.idle;
      sound = c.requires.sound;
      printed = c.in_ok-text.ensures;
      ended = refl;
      own = lines_alike (books c.args.c.now.ops h.plans (serial_list h)) (effects c.args.c.now.ops h)
          (own_values c.serial_lists_keep_values.ensures.completed c.args.c.now h c.requires.history planned c.requires.sound c.requires.idle);
    }
