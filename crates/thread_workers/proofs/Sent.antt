-- What an engine holds may be sent to a thread.
use denote.RattleType.{RattleType}
use denote.Param.Send.{IsSend, IsSync, sendable, view_send, recorded_send, recorded_sync, struct_send, struct_sync}
use denote.Struct.Tuple.{TupleAt, field_at, type_at}
use mir.Syntax.{Sym}
use Rattle.std.proofs.Common.{[], ◌∷◌}
use denote.Struct.Declared.{shape}
use Rattle.std.proofs.Crossing.{crosses}
use Rattle.process_tree.proofs.block.Tail.TheLaws.TheKnot as knot
use Rattle.instance_state.specs.contracts.rows.Rows as rows
use Rattle.instance_state.specs.contracts.instance.Instance as instance
use Rattle.core_state.specs.contracts.seats.Seat as seat
use Rattle.process_core.specs.contracts.cores.Core as core
use Rattle.process_disk.specs.declared.rack.Rack.{Ghosts as Racks}
use Rattle.history_files.proofs.files.Files.TheSendSync as files
use Rattle.engine_steps.specs.contracts.engines.Engine as engine
use Rattle.engine_steps.specs.contracts.engines.Engine.TheInside as engine_inside
use Rattle.shared_engine.specs.contracts.shared.SharedEngine as shared
use Rattle.process_core.specs.contracts.cores.Core.TheInside as core_inside

pub rows_send : IsSend rows.the_row
rows_send = search (crosses, knot.crosses, sendable) depth 60 fits 20000

pub instance_send : IsSend instance.the_row
instance_send = search (rows_send, crosses, sendable) depth 60 fits 20000

pub seat_send : IsSend seat.the_row
seat_send = search (instance_send, crosses, sendable) depth 60 fits 20000

pub core_send : IsSend core.the_row
core_send =
    view_send core_inside.the_row _ _ _ _
    (recorded_send (core_inside.the_field).row _ _ (core_inside.the_type).to_one
    (struct_send (shape core_inside.the_type) (
      search (crosses, sendable) depth 60 fits 20000,
      (
        search (crosses, knot.crosses, sendable) depth 60 fits 20000,
        (
          search (crosses, sendable) depth 60 fits 20000,
          (
            search (crosses, sendable) depth 60 fits 20000,
            (
              search (crosses, sendable) depth 60 fits 20000,
              (
                search (crosses, sendable) depth 60 fits 20000,
                (
                  search (crosses, sendable) depth 60 fits 20000,
                  (
                    search (seat_send, crosses, sendable) depth 60 fits 20000,
                    (search (crosses, sendable) depth 60 fits 20000, tt),
                  ),
                ),
              ),
            ),
          ),
        ),
      ),
    )))

module _ (R B : RattleType) (g : Racks R.Denot) where
  pub engine_send : IsSend R → IsSend B → IsSend (engine.the_row R B g)
  engine_send r b =
      view_send (engine_inside.the_row R B g) _ _ _ _
      (recorded_send (engine_inside.the_field R B g).row _ _ (engine_inside.the_type R B g).to_one
      (struct_send (shape (engine_inside.the_type R B g)) (
        core_send,
        (
          search (crosses, knot.crosses, sendable) depth 60 fits 20000,
          (
            search (files.the_send, r, b, crosses, sendable) depth 60 fits 40000,
            (search (crosses, sendable) depth 60 fits 20000, (search (crosses, sendable) depth 60 fits 20000, tt)),
          ),
        ),
      )))

  pub shared_send : IsSend R → IsSend B → IsSend (shared.the_row R B g)
  shared_send r b =
      recorded_send (shared.the_field R B g).row _ _ (shared.the_type R B g).to_one
      (struct_send (shape (shared.the_type R B g)) (
        engine_send r b,
        (
          search (crosses, knot.crosses, sendable) depth 60 fits 20000,
          (search (crosses, sendable) depth 60 fits 20000, (search (crosses, sendable) depth 60 fits 20000, tt)),
        ),
      ))

-- a closure that holds two things which may be shared may be shared
pub two_sync : (name : Sym) (T U : RattleType) → IsSync T → IsSync U → IsSync (TupleAt name (T ∷ U ∷ []))
two_sync name T U t u =
    recorded_sync (field_at name (T ∷ U ∷ [])).row _ _ (type_at name (T ∷ U ∷ [])).to_one
    (struct_sync (shape (type_at name (T ∷ U ∷ []))) (t, (u, tt)))
