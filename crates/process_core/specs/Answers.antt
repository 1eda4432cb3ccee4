-- What a core answers to a call, and the core after it.
use Rattle.std.specs.Prelude.{[], ◌∷◌, ◌++◌}
use Rattle.process_tree.specs.declared.plan.Plan.{Plan}
use Rattle.schedule_model.specs.Course.{course_of}
use Rattle.machine_model.specs.Calls.{Answer, Call, start, answer}
use Rattle.core_state.specs.Cores.{CoreState, machine_of, relation}

-- the answer to a call
abbrev pub answer_in : CoreState → Call → Answer
answer_in c call = answer (relation c) (machine_of c) call

-- the core after a call that is no start
abbrev pub after_call : CoreState → Call → CoreState
after_call c call =
    let a = answer_in c call in
    record { conflicts = c.conflicts; plans = c.plans; opening = c.opening; kept = c.kept ++ a.kept; served = a.served }

-- the core after a process of this plan started
abbrev pub after_start : CoreState → Plan → CoreState
after_start c p =
    let a = answer_in c (start (course_of p)) in
    record { conflicts = c.conflicts; plans = c.plans ++ p ∷ []; opening = c.opening; kept = c.kept ++ a.kept; served = a.served }
