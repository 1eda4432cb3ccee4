use Rattle.std.proofs.Common.{◌∙◌, ◌<◌, List, length, ap, subst, sym, arith}
use Rattle.machine_model.specs.declared.kept.Kept.{Kept}
use Rattle.machine_model.specs.Pieces.{hands}
use Rattle.core_state.specs.Cores.{CoreState}
use Rattle.process_core.specs.Handing.{AreNumbered}
use Rattle.core_state.proofs.FewHands.{hands_few}
use Rattle.core_state.proofs.KeptSeen.{kept_seen}
use Rattle.process_core.proofs.NumberedPieces.{hands_numbered}
use Rattle.process_core.proofs.RepliesSeen.{asked_blocked, asked_free, asked_known, asked_open, asked_plan, asked_step, asked_within}
use Rattle.process_core.proofs.cores.Core.by_rules.Goals as goal

pub overflow_sub-plan : goal.overflow_sub-plan
overflow_sub-plan c = (asked_plan c.self.view_is c.self.invariant c.args.i c.args.todo c.args.tried c.requires).0

pub bounds-as_slice-i : goal.bounds-as_slice-i
bounds-as_slice-i c =
    let bounds = asked_plan c.self.view_is c.self.invariant c.args.i c.args.todo c.args.tried c.requires in
    let low = bounds.0 in
    let high = bounds.1 in
    let many = ap length c.as_slice.ensures in
    omega arith

pub admit-requires-clause-open : goal.admit-requires-clause-open
admit-requires-clause-open c = asked_open c.self.view_is c.self.invariant c.args.i c.args.todo c.args.tried c.requires

pub admit-requires-clause-plan : goal.admit-requires-clause-plan
admit-requires-clause-plan c = asked_known c.self.view_is c.self.invariant c.args.i c.args.todo c.args.tried c.requires c.as_slice.result.now c.as_slice.ensures c.index-as_slice-i.result c.index-as_slice-i.is

pub admit-requires-clause-todo : goal.admit-requires-clause-todo
admit-requires-clause-todo c = asked_within c.self.view_is c.self.invariant c.args.i c.args.todo c.args.tried c.requires c.as_slice.result.now c.as_slice.ensures c.index-as_slice-i.result c.index-as_slice-i.is

pub next_number-number-requires-clause-numbered : goal.next_number-number-requires-clause-numbered
next_number-number-requires-clause-numbered c =
    subst (λ (ks : List Kept). AreNumbered (hands ks)) (sym (c.deref.ensures.value ∙ ap (λ (v : CoreState). v.kept) c.self.view_is)) (hands_numbered c.args.self.now (kept_seen c.self.view_is c.self.invariant).stands.core)

pub next_number-number-requires-clause-few : goal.next_number-number-requires-clause-few
next_number-number-requires-clause-few c =
    subst (λ (ks : List Kept). length (hands ks) < 4294967295) (sym (c.deref.ensures.value ∙ ap (λ (v : CoreState). v.kept) c.self.view_is)) (hands_few c.args.self.now (kept_seen c.self.view_is c.self.invariant).stands.core)

pub piece_told-requires : goal.piece_told-requires
piece_told-requires c = asked_step c.self.view_is c.self.invariant c.args.i c.args.todo c.args.tried c.requires c.as_slice.result.now c.as_slice.ensures c.index-as_slice-i.result c.index-as_slice-i.is

pub returns-in-Blocked : goal.returns-in-Blocked
returns-in-Blocked c =
    asked_blocked c.self.view_is c.self.invariant c.args.i c.args.todo c.args.tried c.requires c.as_slice.result.now c.as_slice.ensures c.index-as_slice-i.result c.index-as_slice-i.is
    c.admit.result c.admit.ensures c.in-Blocked.block c.in-Blocked.is

pub returns-in-Free : goal.returns-in-Free
returns-in-Free c =
    asked_free c.self.view_is c.self.invariant c.args.i c.args.todo c.args.tried c.requires c.as_slice.result.now c.as_slice.ensures c.index-as_slice-i.result c.index-as_slice-i.is
    c.admit.result c.admit.ensures c.in-Free.is c.deref.result.now c.deref.ensures.value c.next_number-number.result c.next_number-number.ensures c.piece_told.result c.piece_told.ensures
