use Rattle.process_disk.proofs.rack.racks_are_honest.Goals as goal

pub returns : goal.returns
returns g c = g.met.R.Rack.honest
