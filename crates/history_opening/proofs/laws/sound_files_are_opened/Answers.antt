use Rattle.history_opening.proofs.SoundOpened.{sound_files_are_opened}
use Rattle.history_opening.proofs.laws.sound_files_are_opened.Goals as goal

pub returns : goal.returns
returns c = sound_files_are_opened c.journals_are_opened.ensures c.journals_have_one_history.ensures c.books_are_read_back.ensures.file
