use Rattle.process_journal.proofs.Appending.{appended, images_appended, bytes_appended}
use Rattle.process_journal.proofs.journal.Journal.append.Goals as goal

pub returns-clause-acknowledged : goal.returns-clause-acknowledged
returns-clause-acknowledged g c = λ told catalog h after stands made good.
    appended catalog c.args.entry.now h after _ _ (g.R.Rack.disk c.add.new.rack) stands.history made good (c.add.ensures.acknowledged told _ stands.log)

pub returns-clause-any_moment : goal.returns-clause-any_moment
returns-clause-any_moment g c = λ told catalog h after stands made good.
    images_appended catalog c.args.entry.now h after c.args.self.now.file _ _ stands.history made c.add.ensures.file (c.add.ensures.any_moment told _ stands.log)

pub returns-clause-bytes : goal.returns-clause-bytes
returns-clause-bytes g c = λ told version catalog h after stands made before.
    bytes_appended version catalog c.args.entry.now h after c.args.self.now.file _ _ _ stands.history made c.add.ensures.file (c.add.ensures.bytes told version _ stands.log) before
