use Rattle.std.proofs.Common.{◌≡◌, ◌∙◌, ℕ, ◌+◌, ◌-◌, Option, refl, sym, ap, subst, arith}
use Rattle.std.specs.Option.{option_map}
use Rattle.process_tree.specs.Blocks.{numbers_from}
use Rattle.core_state.proofs.KeptSeen.{few_seen}
use Rattle.process_core.specs.declared.replies.Found.{Found}
use Rattle.process_core.specs.declared.replies.Waiting.{Waiting}
use Rattle.process_core.specs.Moments.{first_blocked_in, reply_in}
use Rattle.process_core.specs.Rotation.{IfWaiting, first_told, piece_found, waiting_in, waiting_of}
use Rattle.process_core.proofs.FoundAfter.{piece_after, waiting_after}
use Rattle.process_core.proofs.RotationSeen.{free_seen, waiting_seen}
use Rattle.process_core.proofs.cores.Core.found_in_rotation.Goals as goal

pub overflow_cast-count : goal.overflow_cast-count
overflow_cast-count c =
    let few = few_seen c.self.view_is c.self.invariant in
    let is = c.len-count.ensures in
    omega arith

pub overflow_add-served : goal.overflow_add-served
overflow_add-served c =
    let few = few_seen c.self.view_is c.self.invariant in
    let is = c.len-count.ensures in
    let least = c.min-served.ensures in
    omega arith

pub overflow_add-count : goal.overflow_add-count
overflow_add-count c =
    let few = few_seen c.self.view_is c.self.invariant in
    let is = c.len-count.ensures in
    omega arith

pub overflow_add-served-in-Waiting : goal.overflow_add-served-in-Waiting
overflow_add-served-in-Waiting c =
    let few = few_seen c.self.view_is c.self.invariant in
    let is = c.len-count.ensures in
    let least = c.min-served.ensures in
    omega arith

pub returns-in-Piece-clause-piece : goal.returns-in-Piece-clause-piece
returns-in-Piece-clause-piece c =
    let is = c.len-count.ensures in
    let ok = c.self.inside.seats.ok in
    free_seen c.self.view_is c.self.invariant c.len-count.result (omega arith) c.min-served.result c.min-served.ensures _ _
    (ap piece_found (sym c.in-Piece.is) ∙ c.found_among.ensures.piece) refl

pub returns-in-Waiting-clause-piece : goal.returns-in-Waiting-clause-piece
returns-in-Waiting-clause-piece c =
    let is = c.len-count.ensures in
    let ok = c.self.inside.seats.ok in
    let later = c.found_among-in-Waiting in
    ap piece_found c.found_after.ensures ∙ piece_after c.in-Waiting.first later.result
    ∙ free_seen c.self.view_is c.self.invariant c.len-count.result (omega arith) c.min-served.result c.min-served.ensures _ _
    (ap piece_found (sym c.in-Waiting.is) ∙ c.found_among.ensures.piece) later.ensures.piece

pub returns-in-Waiting-clause-waiting : goal.returns-in-Waiting-clause-waiting
returns-in-Waiting-clause-waiting c =
    let v = c.args.self.now in
    let is = c.len-count.ensures in
    let ok = c.self.inside.seats.ok in
    let first = c.in-Waiting.first in
    let later = c.found_among-in-Waiting in
    let Told : ℕ → ℕ → Option Waiting → Type 0 = λ from n w. w ≡ first_told (λ i. waiting_in i (reply_in v i)) (numbers_from from n) in
    let Due : Option Waiting → Type 0 = λ w. option_map waiting_of w ≡ first_blocked_in v in
    let served = c.min-served.result in
    let before : Told (served + 1) (c.len-count.result + 1 - (served + 1)) first
    = subst (λ (f : Found). IfWaiting f (Told (served + 1) (c.len-count.result + 1 - (served + 1)))) c.in-Waiting.is c.found_among.ensures.waiting in
    subst (λ (f : Found). IfWaiting f Due) (sym c.found_after.ensures)
    (waiting_after first later.result (Told 1 (served + 1 - 1)) Due
    (λ w told. waiting_seen c.self.view_is c.self.invariant c.len-count.result (omega arith) served c.min-served.ensures first w before told)
    later.ensures.waiting)
