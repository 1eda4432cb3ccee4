use Rattle.std.proofs.Common.{◌≡◌, ℕ, ◌+◌, ◌-◌, List, [], ◌∷◌, ◌∙◌, length, take, sym, refl, ap, subst, arith, append-nil, length-append}
use Rattle.std.specs.Bool.{IsTrue}
use Rattle.std.proofs.Math.Seq.{take-append_seam}
use Rattle.std.proofs.lemmas.List.{take_all}
use Rattle.process_tree.specs.Conflicts.{do_conflict, operations_in}
use Rattle.process_tree.specs.declared.plan.Plan.{Plan}
use Rattle.schedule_model.specs.declared.event.Event.{Event}
use Rattle.schedule_model.specs.Course.{courses_of}
use Rattle.schedule_model.specs.Histories.{starts}
use Rattle.schedule_model.specs.Laws.{IsPlanned}
use Rattle.schedule_model.specs.OwnOrder.{is_in_own_order}
use Rattle.dependence_model.specs.Audited.{completed_schedule}
use Rattle.audit_core.specs.Audits.{IsFoundFrom, NowFound, schedule_at}
use Rattle.audit_core.specs.declared.judging.Audited.TheVariants.{Reducible}
use Rattle.audit_core.proofs.Beginnings.{planned-at, own-at, schedule-same, exact-at, shorter, found-next, found-all}
use Rattle.audit_core.proofs.auditing.audit.Goals as goal

pub judged-requires-in-loop-left-clause-planned : goal.judged-requires-in-loop-left-clause-planned
judged-requires-in-loop-left-clause-planned c =
    let n = operations_in c.args.c.now in
    let plans = c.args.h.plans in
    let h = c.args.h.events in
    let g = c.in_ok-g.g in
    let i = c.loop-left.invariant in
    let e = c.in_ok-g.ensures.events.0 in
    let rest : List Event = e ∷ i.rest in
    let parts = shorter plans c.loop-left.g.plans g.plans h c.loop-left.g.events g.events i.rest e i.split i.plans c.in_ok-g.ensures.events.1 c.in_ok-g.ensures.plans in
    let planned = subst (IsPlanned n plans) parts.0 c.requires.planned in
    let own = subst (λ (es : List Event). IsTrue (is_in_own_order (courses_of plans) es)) parts.0 c.requires.own_order in
    subst (λ (ps : List Plan). IsPlanned n ps g.events) (sym parts.1) (planned-at n plans g.events rest planned own)

pub judged-requires-in-loop-left-clause-own_order : goal.judged-requires-in-loop-left-clause-own_order
judged-requires-in-loop-left-clause-own_order c =
    let n = operations_in c.args.c.now in
    let plans = c.args.h.plans in
    let h = c.args.h.events in
    let g = c.in_ok-g.g in
    let i = c.loop-left.invariant in
    let e = c.in_ok-g.ensures.events.0 in
    let rest : List Event = e ∷ i.rest in
    let parts = shorter plans c.loop-left.g.plans g.plans h c.loop-left.g.events g.events i.rest e i.split i.plans c.in_ok-g.ensures.events.1 c.in_ok-g.ensures.plans in
    let planned = subst (IsPlanned n plans) parts.0 c.requires.planned in
    let own = subst (λ (es : List Event). IsTrue (is_in_own_order (courses_of plans) es)) parts.0 c.requires.own_order in
    subst (λ (ps : List Plan). IsTrue (is_in_own_order (courses_of ps) g.events)) (sym parts.1) (own-at n plans g.events rest planned own)

pub loop-left-init : goal.loop-left-init
loop-left-init c =
    let table = do_conflict c.args.c.now in
    let h = c.args.h.events in
    let courses = courses_of c.args.h.plans in
    let count = ap length c.as_slice-count.ensures in
    let whole : take (length h) h ≡ h = take_all (length h) h (omega arith) in
    let now = subst (λ (es : List Event). NowFound table (completed_schedule courses es) (length h) (Reducible c.in_ok-serial.serial) c.in_ok-found.found) (sym whole) c.in_ok-found.ensures in
    record {
      rest = [];
      split = sym (append-nil h);
      plans = sym (take_all (length (starts h)) c.args.h.plans (omega (arith, c.requires.planned.one_each)));
      count = sym count;
      found = subst (λ (k : ℕ). IsFoundFrom table courses h k c.in_ok-found.found) (sym count)
          (found-next table courses h (length h) (length h + 1) (Reducible c.in_ok-serial.serial) c.in_ok-found.found refl (omega arith)
          (exact-at c.test_is_exact.ensures c.schedules_are_once.ensures c.args.c.now (operations_in c.args.c.now) c.args.h.plans h c.requires.planned c.requires.own_order (length h)).1
          (λ m above within. absurd (omega (arith, above, within)), c.in_ok-serial.ensures) now);
    }

pub loop-left-preserved : goal.loop-left-preserved
loop-left-preserved c =
    let n = operations_in c.args.c.now in
    let plans = c.args.h.plans in
    let h = c.args.h.events in
    let g = c.in_ok-g.g in
    let i = c.loop-left.invariant in
    let e = c.in_ok-g.ensures.events.0 in
    let rest : List Event = e ∷ i.rest in
    let parts = shorter plans c.loop-left.g.plans g.plans h c.loop-left.g.events g.events i.rest e i.split i.plans c.in_ok-g.ensures.events.1 c.in_ok-g.ensures.plans in
    let planned = subst (IsPlanned n plans) parts.0 c.requires.planned in
    let own = subst (λ (es : List Event). IsTrue (is_in_own_order (courses_of plans) es)) parts.0 c.requires.own_order in
    let table = do_conflict c.args.c.now in
    let courses = courses_of plans in
    let left : ℕ = c.loop-left.left - 1 in
    let shorter' = ap length c.in_ok-g.ensures.events.1 ∙ length-append g.events (e ∷ []) in
    let count : length g.events ≡ left = omega (arith, shorter', i.count) in
    let long = ap length parts.0 ∙ length-append g.events rest in
    let front : take left h ≡ g.events = ap (λ k. take k h) (sym count) ∙ (ap (λ es. take (length g.events) es) parts.0 ∙ take-append_seam g.events rest) in
    let same : completed_schedule (courses_of g.plans) g.events ≡ schedule_at courses h left =
    ap (λ ps. completed_schedule (courses_of ps) g.events) parts.1
    ∙ (schedule-same n plans g.events rest planned own ∙ ap (λ es. completed_schedule courses es) (sym front)) in
    let now = subst (λ es. NowFound table es left c.loop-left.found c.in_ok-found-2.found) same
    (subst (λ (k : ℕ). NowFound table (completed_schedule (courses_of g.plans) g.events) k c.loop-left.found c.in_ok-found-2.found) count c.in_ok-found-2.ensures) in
    record {
      rest = rest;
      split = parts.0;
      plans = parts.1;
      count = count;
      found = found-next table courses h left c.loop-left.left c.loop-left.found c.in_ok-found-2.found (omega (arith, c.loop-left-test.true)) (omega (arith, count, long))
          (exact-at c.test_is_exact.ensures c.schedules_are_once.ensures c.args.c.now n plans h c.requires.planned c.requires.own_order left).1
          i.found now;
    }

pub returns : goal.returns
returns c =
    let table = do_conflict c.args.c.now in
    let h = c.args.h.events in
    let plans = c.args.h.plans in
    let none : c.loop-left.left ≡ 0 = omega (arith, c.loop-left-test.false) in
    found-all table (courses_of plans) h c.loop-left.found
    (λ n within can. (exact-at c.test_is_exact.ensures c.schedules_are_once.ensures c.args.c.now (operations_in c.args.c.now) plans h c.requires.planned c.requires.own_order n).0 can)
    (subst (λ (k : ℕ). IsFoundFrom table (courses_of plans) h k c.loop-left.found) none c.loop-left.invariant.found)
