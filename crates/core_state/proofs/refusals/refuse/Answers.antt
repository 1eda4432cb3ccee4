use Rattle.std.proofs.Common.{◌≡◌, ◌∙◌, Some, length, ap, sym}
use Rattle.process_tree.specs.Recovery.{forward}
use Rattle.machine_model.specs.ProcessState.{pending_count, was_refused}
use Rattle.instance_state.specs.Instances.{InstanceState}
use Rattle.hold_tables.specs.Tables.{Tables, is_open}
use Rattle.hold_tables.specs.Changes.{changed}
use Rattle.core_state.specs.Beginnings.{refused_row_of}
use Rattle.core_state.specs.Seats.{SeatState}
use Rattle.core_state.proofs.BegunLists.{refused_owes, stopped_open}
use Rattle.core_state.proofs.StoppedRows.{stays_open, stopped_row}
use Rattle.core_state.proofs.refusals.refuse.Goals as goal

pub keep_reserved-requires : goal.keep_reserved-requires
keep_reserved-requires c = record { «open» = ap (λ (t : Tables). is_open t c.args.i) c.stop.ensures ∙ stopped_open c.args.i c.args.holds.now c.requires.open }

pub pend-requires : goal.pend-requires
pend-requires c = record { «open» = stays_open c.args.i c.args.holds.now c.owed.result c.stop.ensures c.keep_reserved.ensures c.requires.open }

pub returns-clause-holds : goal.returns-clause-holds
returns-clause-holds c =
    let i = c.args.i in
    let t = c.args.holds.now in
    let x = c.in-Some.instance in
    let owed_is : c.owed.result ≡ length (forward x.state.progress.shape x.state.progress.net) =
    c.owed.ensures ∙ ap (λ (y : InstanceState). length (forward y.state.progress.shape y.state.progress.net)) c.refused-refusal.ensures.state ∙ refused_owes x.state in
    let pending_is : c.pending.result ≡ pending_count (was_refused x.state) = c.pending.ensures ∙ ap (λ (y : InstanceState). pending_count y.state) c.refused-refusal.ensures.state in
    let its : c.args.seat.now.instance ≡ Some x = sym (ap (λ (s : SeatState). s.instance) c.seat.view_is) ∙ c.in-Some.is in
    stopped_row i t c.owed.result c.stop.ensures c.keep_reserved.ensures c.pending.result c.pend.ensures _ (pending_count (was_refused x.state)) owed_is pending_is ∙ ap (λ o. changed (refused_row_of o) i t) (sym its)
