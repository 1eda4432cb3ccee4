use Rattle.std.proofs.Common.{◌≡◌, ◌-◌, ◌<◌, length, sym, ap, ◌∙◌, subst, arith, if◌then◌else◌}
use Rattle.std.specs.Prelude.{IfOk}
use Rattle.std.proofs.lemmas.Bool.{and_parts}
use Rattle.process_tree.specs.Conflicts.{do_conflict}
use Rattle.schedule_model.specs.Course.{Course, course, courses_of}
use Rattle.history_judging.specs.Judging.{comes, entry_comes, kept_after}
use Rattle.history_judging.specs.Keeping.{Tables, is_active_in, stepped, undone}
use Rattle.schedule_rules.proofs.Branches.{course_there}
use Rattle.history_judging.proofs.legality.after.Goals as goal

pub returns-else-e : goal.returns-else-e
returns-else-e c =
    let plans = c.args.plans.now in
    let cs = courses_of plans in
    let t : Tables = c.args.t in
    let e = c.in-Act.e in
    let table = c.requires.comes.0 in
    let may = ap (comes (do_conflict table) cs t) (sym c.in-Act.is) ∙ c.requires.comes.2 in
    let goes = (and_parts (is_active_in t.processes e.process) (entry_comes (do_conflict table) (course cs e.process) t e) may).0 in
    let stands = c.requires.comes.1.stand e.process goes in
    let less : e.process - 1 < length plans = omega (arith, stands.0, stands.1) in
    let planned = course_there plans (e.process - 1) c.index-plans-e.result less c.index-plans-e.is in
    let kept = ap (λ (x : Course). stepped x e t) (sym planned)
    ∙ (sym (ap (λ u. if u then undone e t else stepped (course cs e.process) e t) c.if-e.false) ∙ ap (kept_after cs t) (sym c.in-Act.is)) in
    subst (λ (x : Tables). IfOk c.step.result (λ longer. longer ≡ x)) kept c.step.ensures
