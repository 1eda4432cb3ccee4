use Rattle.process_engine.proofs.AloneGroups.{room_made}
use Rattle.history_files.proofs.Answered.{OnOk-then}
use Rattle.process_engine.proofs.finishing.make_room.Goals as goal

pub returns-in-Forward-clause-room : goal.returns-in-Forward-clause-room
returns-in-Forward-clause-room g c =
    OnOk-then (room_made c.args.engine.now c.make_room.new.self c.args.piece.now.piece c.make_room.ensures.room) c.make_room.result c.make_room.ensures.ok
