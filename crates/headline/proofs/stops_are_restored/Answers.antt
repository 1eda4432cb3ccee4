use Rattle.headline.proofs.Whole.{headline, stops_are_restored}
use Rattle.headline.proofs.stops_are_restored.Goals as goal

pub returns-clause-stops : goal.returns-clause-stops
returns-clause-stops g c = stops_are_restored g.S.Source g.K.Sink g.R.Rack g.B.Resource g.G.Gate g.met.R.Rack.honest c.sound_files_are_opened.ensures (c.books_are_read_back.ensures.file, c.printed_lists_keep_values.ensures)

pub returns-clause-headline : goal.returns-clause-headline
returns-clause-headline g c = headline g.S.Source g.K.Sink g.R.Rack g.B.Resource g.G.Gate g.met.R.Rack.honest c.sound_files_are_opened.ensures (c.books_are_read_back.ensures.file, c.printed_lists_keep_values.ensures)
