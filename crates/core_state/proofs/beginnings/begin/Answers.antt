use Rattle.std.proofs.Common.{◌≡◌, ◌∙◌, Some, length, ap, sym}
use Rattle.process_tree.specs.Recovery.{forward}
use Rattle.machine_model.specs.ProcessState.{begun, pending_count}
use Rattle.instance_state.specs.Instances.{InstanceState}
use Rattle.hold_tables.specs.Tables.{Tables, is_open}
use Rattle.hold_tables.specs.Changes.{changed}
use Rattle.core_state.specs.Beginnings.{begun_row_of}
use Rattle.core_state.specs.Seats.{SeatState}
use Rattle.core_state.proofs.BegunLists.{stopped_open}
use Rattle.core_state.proofs.StoppedRows.{stays_open, stopped_row}
use Rattle.core_state.proofs.beginnings.begin.Goals as goal

pub keep_reserved-requires : goal.keep_reserved-requires
keep_reserved-requires c = record { «open» = ap (λ (t : Tables). is_open t c.args.i) c.stop_running.ensures ∙ stopped_open c.args.i c.args.holds.now c.requires.open }

pub pend-requires : goal.pend-requires
pend-requires c = record { «open» = stays_open c.args.i c.args.holds.now c.owed.result c.stop_running.ensures c.keep_reserved.ensures c.requires.open }

pub returns-clause-holds : goal.returns-clause-holds
returns-clause-holds c =
    let i = c.args.i in
    let t = c.args.holds.now in
    let x = c.in-Some.instance in
    let owed_is : c.owed.result ≡ length (forward x.state.progress.shape x.state.progress.net) =
    c.owed.ensures ∙ ap (λ (y : InstanceState). length (forward y.state.progress.shape y.state.progress.net)) c.abort.ensures in
    let pending_is : c.pending.result ≡ pending_count (begun x.state) = c.pending.ensures ∙ ap (λ (y : InstanceState). pending_count y.state) c.abort.ensures in
    let its : c.args.seat.now.instance ≡ Some x = sym (ap (λ (s : SeatState). s.instance) c.seat.view_is) ∙ c.in-Some.is in
    stopped_row i t c.owed.result c.stop_running.ensures c.keep_reserved.ensures c.pending.result c.pend.ensures _ (pending_count (begun x.state)) owed_is pending_is ∙ ap (λ o. changed (begun_row_of o) i t) (sym its)
