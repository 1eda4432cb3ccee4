use Rattle.headline.proofs.Chained.{chains_lose_nothing}
use Rattle.headline.proofs.nothing_is_lost.Goals as goal

pub returns : goal.returns
returns g c = chains_lose_nothing g.S.Source g.K.Sink g.R.Rack g.B.Resource g.G.Gate g.met.R.Rack.honest c.sound_files_are_opened.ensures (c.books_are_read_back.ensures.file, c.printed_lists_keep_values.ensures)
