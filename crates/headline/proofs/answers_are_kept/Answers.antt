use Rattle.headline.proofs.AnswersKept.{answers_are_kept}
use Rattle.headline.proofs.answers_are_kept.Goals as goal

pub returns : goal.returns
returns g c = answers_are_kept g.S.Source g.K.Sink g.R.Rack g.B.Resource g.G.Gate g.met.R.Rack.honest
