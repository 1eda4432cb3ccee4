-- Recovery of a process that goes on or back by one step.
use Rattle.std.proofs.Common.{◌≡◌, ℕ, ◌+◌, true, false, not, cond, eqb, ◌&&◌, List, [], ◌∷◌, ◌++◌, length, map, filter, drop, sym, refl, ap, ◌∙◌, arith}
use Rattle.std.proofs.Math.Bool.{and_comm}
use Rattle.std.proofs.lemmas.List.{drop-append-le, length-append, map-append}
use Rattle.std.proofs.Math.ListN.{drop_of_length-le}
use Rattle.process_tree.specs.declared.entry.Entry.{Entry}
use Rattle.process_tree.specs.Shape.{commits_after, fixed_len}
use Rattle.process_tree.specs.Recovery.{forward}
use Rattle.schedule_model.specs.declared.event.Event.{Event}
use Rattle.schedule_model.specs.declared.event.Event.TheVariants.{Act}
use Rattle.schedule_model.specs.Course.{Course, shape}
use Rattle.schedule_model.specs.Histories.{doing, net, net_of, net_steps, same_step, steps_of, of_process}
use Rattle.schedule_model.specs.Recovery.{backward_entries, owed, owed_after}
use Rattle.process_tree.proofs.Fixed.{fixed_le, fixed_more}
use Rattle.schedule_model.proofs.Snoc.{net_of-do, net-undo, filter_twice, filter_same}

pub steps_count : (es : List Entry) → length (steps_of es) ≡ length es
steps_count [] = refl
steps_count (e ∷ es) = let l = steps_count es in omega arith

-- The net of a process, and its recovery, after a step of its own.

pub net_steps-do : (h : List Event) (e : Entry) → e.undo ≡ false → net_steps (h ++ Act e ∷ []) e.process ≡ net_steps h e.process ++ e.step ∷ []
net_steps-do h e is_step = ap steps_of (net_of-do h e is_step) ∙ map-append (λ (x : Entry). x.step) (net_of h e.process) (e ∷ [])

-- what it owes after the step is what it was said to owe then
pub owed-do : (courses : List Course) (h : List Event) (e : Entry) → e.undo ≡ false
    → owed courses (h ++ Act e ∷ []) e.process ≡ owed_after courses h e.process e.step
owed-do courses h e is_step = ap (λ w. map (doing courses e.process) (forward (shape courses e.process) w)) (net_steps-do h e is_step)

undoable_at : (courses : List Course) (h : List Event) (e : Entry) → e.undo ≡ false
    → backward_entries courses (h ++ Act e ∷ []) e.process
    ≡ drop (cond (commits_after (shape courses e.process) (net_steps h e.process) e.step) (length (net_steps h e.process) + 1) (fixed_len (shape courses e.process) (net_steps h e.process))) (net_of h e.process ++ e ∷ [])
undoable_at courses h e is_step =
    ap (λ es. drop (fixed_len (shape courses e.process) (steps_of es)) es) (net_of-do h e is_step)
    ∙ ap (λ k. drop k (net_of h e.process ++ e ∷ []))
    (ap (fixed_len (shape courses e.process)) (map-append (λ (x : Entry). x.step) (net_of h e.process) (e ∷ []))
    ∙ fixed_more (shape courses e.process) (net_steps h e.process) e.step)

-- after a commit point nothing can be undone any more
pub backward_entries-commit : (courses : List Course) (h : List Event) (e : Entry) → e.undo ≡ false → commits_after (shape courses e.process) (net_steps h e.process) e.step ≡ true
    → backward_entries courses (h ++ Act e ∷ []) e.process ≡ []
backward_entries-commit courses h e is_step is =
    undoable_at courses h e is_step
    ∙ (ap (λ c. drop (cond c (length (net_steps h e.process) + 1) (fixed_len (shape courses e.process) (net_steps h e.process))) (net_of h e.process ++ e ∷ [])) is
    ∙ drop_of_length-le (net_of h e.process ++ e ∷ []) (omega (arith, length-append (net_of h e.process) (e ∷ []), steps_count (net_of h e.process))))

-- another step can be undone too
pub backward_entries-do : (courses : List Course) (h : List Event) (e : Entry) → e.undo ≡ false → commits_after (shape courses e.process) (net_steps h e.process) e.step ≡ false
    → backward_entries courses (h ++ Act e ∷ []) e.process ≡ backward_entries courses h e.process ++ e ∷ []
backward_entries-do courses h e is_step is =
    undoable_at courses h e is_step
    ∙ (ap (λ c. drop (cond c (length (net_steps h e.process) + 1) (fixed_len (shape courses e.process) (net_steps h e.process))) (net_of h e.process ++ e ∷ [])) is
    ∙ drop-append-le (fixed_len (shape courses e.process) (net_steps h e.process)) (net_of h e.process) (e ∷ [])
    (omega (arith, fixed_le (shape courses e.process) (net_steps h e.process), steps_count (net_of h e.process))))

-- The net of a process after an undo of its own.

-- the undo takes the entries of its step away
pub net_of-undo : (h : List Event) (e : Entry) (i : ℕ) → e.undo ≡ true → net_of (h ++ Act e ∷ []) i ≡ filter (λ f. not (same_step f e)) (net_of h i)
net_of-undo h e i undo =
    ap (of_process i) (net-undo h e undo)
    ∙ (filter_twice (λ f. not (same_step f e)) (λ f. eqb f.process i) (net h)
    ∙ (filter_same (λ f. not (same_step f e) && eqb f.process i) (λ f. eqb f.process i && not (same_step f e)) (net h) (λ f. and_comm (not (same_step f e)) (eqb f.process i))
    ∙ sym (filter_twice (λ f. eqb f.process i) (λ f. not (same_step f e)) (net h))))
