use Rattle.std.proofs.Common.{◌≡◌, filter}
use Rattle.process_tree.specs.Blocks.{numbers_from}
use Rattle.machine_model.specs.Moment.{has_begun}
use Rattle.machine_model.specs.Replies.{admit_reply}
use Rattle.core_state.specs.Cores.{courses_in, moment_of, relation}
use Rattle.process_core.specs.Rotation.{can_be_victim}
use Rattle.process_core.proofs.cores.Core.greatest_victim.Given as goal

abbrev pub invariant-loop-left : goal.invariant-loop-left
invariant-loop-left l =
    filter (λ i. can_be_victim (has_begun (moment_of l.self) i) (admit_reply (relation l.self) (courses_in l.self) (moment_of l.self) i)) (numbers_from 1 l.count)
    ≡ filter (λ i. can_be_victim (has_begun (moment_of l.self) i) (admit_reply (relation l.self) (courses_in l.self) (moment_of l.self) i)) (numbers_from 1 l.left)

abbrev pub decreases-loop-left : goal.decreases-loop-left
decreases-loop-left l = l.left
