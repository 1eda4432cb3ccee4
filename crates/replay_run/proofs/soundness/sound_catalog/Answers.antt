use Rattle.std.proofs.Common.{sym, ◌∙◌}
use Rattle.replay_run.proofs.SoundCatalogs.{none_is_sound}
use Rattle.replay_run.proofs.soundness.sound_catalog.Goals as goal

pub returns-in-None-clause-sound : goal.returns-in-None-clause-sound
returns-in-None-clause-sound c = none_is_sound c.args.c.now (sym c.in_ok-commuting.ensures ∙ c.in-None.is)
