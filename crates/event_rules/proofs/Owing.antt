-- What the active processes of a history hold, by its net and by who is active.
use Rattle.std.proofs.Common.{◌≡◌, ◌<◌, ◌-◌, ℕ, not, ◌&&◌, List, ◌∷◌, ◌++◌, filter, get_or, length, sym, ap, ◌∙◌, append_assoc}
use Rattle.process_tree.specs.declared.entry.Entry.{Entry}
use Rattle.process_tree.specs.declared.plan.Plan.{Plan}
use Rattle.process_tree.specs.Recovery.{forward}
use Rattle.process_tree.specs.Shape.{shape_of}
use Rattle.schedule_model.specs.declared.event.Event.{Event}
use Rattle.schedule_model.specs.Course.{Course, course_of, courses_of}
use Rattle.schedule_model.specs.Histories.{active, ends, is_active, is_in, net, of_process, starts, steps_of}
use Rattle.schedule_model.specs.Holdings.{active_net, at_rest, holders}
use Rattle.schedule_model.proofs.Clear.{is_holder}
use Rattle.schedule_model.proofs.Members.{filter-agree, is_in-among}
use Rattle.schedule_rules.specs.Recovering.{owed_by}
use Rattle.schedule_rules.proofs.Branches.{course_there}
use Rattle.event_rules.specs.Held.{all_owed_among}

-- those that started and are active are the active ones
pub active-filtered : (h : List Event) → filter (is_active h) (starts h) ≡ active h
active-filtered h =
    filter-agree (is_active h) (λ i. not (is_in i (ends h))) (starts h)
    (λ i there. ap (λ t. t && not (is_in i (ends h))) (is_in-among i (starts h) there))

-- the net entries of those that are active
pub active_net-filtered : (courses : List Course) (h : List Event) → filter (λ e. is_active h e.process) (net h) ≡ active_net (at_rest courses h)
active_net-filtered courses h =
    sym (filter-agree (λ (e : Entry). is_in e.process (holders (at_rest courses h))) (λ (e : Entry). is_active h e.process) (net h) (λ e there. is_holder courses h e.process))

-- what one more process owes
pub owed_more : (plans : List Plan) (p : Plan) (es : List Entry) (i : ℕ) (rest : List ℕ) (before now whole : List Entry)
    → i - 1 < length plans → p ≡ get_or plans (i - 1) p → now ≡ before ++ owed_by (course_of p) i (forward (shape_of p.tree) (steps_of (of_process i es)))
    → before ++ all_owed_among (courses_of plans) es (i ∷ rest) ≡ whole → now ++ all_owed_among (courses_of plans) es rest ≡ whole
owed_more plans p es i rest before now whole less at is all =
    ap (λ ns. ns ++ all_owed_among (courses_of plans) es rest) is
    ∙ (append_assoc before (owed_by (course_of p) i (forward (shape_of p.tree) (steps_of (of_process i es)))) (all_owed_among (courses_of plans) es rest)
    ∙ (ap (λ (c : Course). before ++ (owed_by c i (forward c.shape (steps_of (of_process i es))) ++ all_owed_among (courses_of plans) es rest)) (sym (course_there plans (i - 1) p less at)) ∙ all))
