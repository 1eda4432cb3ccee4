use Rattle.headline.proofs.PrintedKept.{printed_is_kept}
use Rattle.headline.proofs.printed_is_kept.Goals as goal

pub returns : goal.returns
returns g c = printed_is_kept g.S.Source g.K.Sink g.R.Rack g.B.Resource g.G.Gate g.met.R.Rack.honest
