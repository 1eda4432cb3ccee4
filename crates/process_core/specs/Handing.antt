-- Pieces as a core hands them out: what is replied, and which piece it is.
use Rattle.std.specs.Prelude.{◌≡◌, ◌<◌, ℕ, List, [], ◌∷◌, ◌++◌, length, map}
use Rattle.process_tree.specs.declared.plan.Plan.{Plan}
use Rattle.process_tree.specs.Blocks.{numbers_from, outline}
use Rattle.schedule_model.specs.Course.{course_of}
use Rattle.machine_model.specs.declared.kept.Kept.{Kept}
use Rattle.machine_model.specs.declared.kept.Work.{Work}
use Rattle.machine_model.specs.declared.kept.Work.TheVariants.{Forward, Undo, End}
use Rattle.machine_model.specs.declared.replies.Todo.{Todo}
use Rattle.machine_model.specs.declared.replies.Todo.TheVariants.{Forward as DoStep, Undo as UndoStep, End as DoEnd}
use Rattle.machine_model.specs.declared.replies.Todo.TheVariants.{Exhausted as UsedUp}
use Rattle.machine_model.specs.Moment.{Piece}
use Rattle.machine_model.specs.ProcessState.{allowance_in}
use Rattle.machine_model.specs.Replies.{Handed, Admit as AdmitReply, piece, blocked, running, unknown, ended, exhausted}
use Rattle.process_core.specs.declared.replies.Admit.{Admit}
use Rattle.process_core.specs.declared.replies.Admit.TheVariants.{Piece as IsPiece, Blocked as IsBlocked, Running, Unknown, Ended}
use Rattle.process_core.specs.declared.replies.Admit.TheVariants.{Exhausted}
use Rattle.core_state.specs.Cores.{CoreState}

-- a reply to a request for a piece of one process, as the machine has it
abbrev pub admit_reply_of : Admit → AdmitReply
admit_reply_of (IsPiece d) = piece d
admit_reply_of (IsBlocked b) = blocked b
admit_reply_of Running = running
admit_reply_of Unknown = unknown
admit_reply_of Ended = ended
admit_reply_of (Exhausted b) = exhausted b

-- the piece with this number that does this work on step b of process i, which was refused so often
abbrev pub piece_for : ℕ → ℕ → Work → ℕ → ℕ → ℕ → Handed
piece_for number i work b tried refuse =
    record { piece = record { number = number; process = i; step = b; work = work }; tried = tried; refuse = refuse }

-- the same by what is told of its next piece
abbrev pub piece_told : Plan → ℕ → ℕ → ℕ → Todo → Handed
piece_told p number i tried (DoStep b) = piece_for number i Forward b tried (allowance_in (course_of p) b).refuse
piece_told p number i tried (UndoStep b) = piece_for number i Undo b tried (allowance_in (course_of p) b).undo_refuse
piece_told p number i tried DoEnd = piece_for number i End 0 tried 0
piece_told p number i tried (UsedUp b) = piece_for number i End 0 tried 0

-- a step to be done or undone is one of the plan, and tries are left
abbrev pub IsOfPlan : Plan → Todo → Type 0
IsOfPlan p (DoStep b) = b < length (outline p.tree).steps
IsOfPlan p (UndoStep b) = b < length (outline p.tree).steps
IsOfPlan p DoEnd = Unit
IsOfPlan p (UsedUp b) = ⊥

-- a core that has kept one event more
abbrev pub with_kept : CoreState → Kept → CoreState
with_kept c k = record { conflicts = c.conflicts; plans = c.plans; opening = c.opening; kept = c.kept ++ k ∷ []; served = c.served }

-- a core that has kept these events more
abbrev pub with_all : CoreState → List Kept → CoreState
with_all c ks = record { conflicts = c.conflicts; plans = c.plans; opening = c.opening; kept = c.kept ++ ks; served = c.served }

-- a core whose rotation goes on after process i
abbrev pub with_served : CoreState → ℕ → CoreState
with_served c i = record { conflicts = c.conflicts; plans = c.plans; opening = c.opening; kept = c.kept; served = i }

-- these pieces are numbered from 1, in order
abbrev pub AreNumbered : List Piece → Type 0
AreNumbered ps = map (λ (p : Piece). p.number) ps ≡ numbers_from 1 (length ps)
