use Rattle.std.proofs.Common.{◌≡◌, ◌+◌, ◌++◌, ◌∷◌, ◌-◌, [], List, inl, inr, ⊎_elim, length, take, drop, get_or, Some, refl, ap, sym, ◌∙◌, subst, append_assoc, length-append, arith}
use Rattle.schedule_model.specs.declared.event.Event.{Event}
use Rattle.schedule_model.specs.declared.event.Event.TheVariants.{Start}
use Rattle.process_tree.specs.Conflicts.{do_conflict}
use Rattle.schedule_model.specs.Course.{courses_of}
use Rattle.schedule_model.specs.Legal.{may_come}
use Rattle.history_judging.specs.Keeping.{HasPlan, IsJudged}
use Rattle.history_judging.proofs.FirstIllegal.{first-there, plan-there}
use Rattle.schedule_rules.proofs.ListTests.{first_split}
use Rattle.history_judging.proofs.legal_history.legal.Goals as goal

pub loop-rest-init : goal.loop-rest-init
loop-rest-init c = record {
  past = [];
  split = sym c.as_slice-rest.ensures;
  judged = c.new-legality.ensures c.args.c.now c.args.h.now.plans (record { good = c.requires.planned.good; known = c.requires.planned.known });
  place = refl;
}

pub one_more-requires-clause-plan : goal.one_more-requires-clause-plan
one_more-requires-clause-plan c =
    let xs = c.loop-rest.rest.now in
    let i = c.loop-rest.invariant in
    let event : Event = get_or xs 0 (Start 0) in
    let later : List Event = take (length xs - 1) (drop 1 xs) in
    let split = i.split ∙ ap (λ es. i.past ++ es) (first_split xs (Start 0) c.in-len1-up.len_at_least) in
    subst (λ ps. HasPlan ps c.loop-rest.legality event) (sym c.as_slice-plans.ensures)
    (plan-there c.args.c.now c.args.h.now.plans c.args.h.now.events i.past event later c.loop-rest.legality split i.judged c.requires.planned)

pub returns-in-Err-clause-first : goal.returns-in-Err-clause-first
returns-in-Err-clause-first c =
    let table = c.args.c.now in
    let plans = c.args.h.now.plans in
    let xs = c.loop-rest.rest.now in
    let i = c.loop-rest.invariant in
    let event : Event = get_or xs 0 (Start 0) in
    let later : List Event = take (length xs - 1) (drop 1 xs) in
    let split = i.split ∙ ap (λ es. i.past ++ es) (first_split xs (Start 0) c.in-len1-up.len_at_least) in
    let next : length i.past + 1 ≡ c.in-Some.next = omega (arith, c.in-Some.ensures.1, i.place) in
    ⊎_elim (λ none. inl none)
    (λ refused. inr (
      c.in-Some.next,
      refused.0,
      first-there table plans c.args.h.now.events i.past event later c.loop-rest.legality split i.judged
          (ap (λ ps. may_come (do_conflict table) (courses_of ps) i.past event) (sym c.as_slice-plans.ensures)
          ∙ refused.1 i.past (subst (λ ps. IsJudged table ps i.past c.loop-rest.legality) (sym c.as_slice-plans.ensures) i.judged))
          ∙ ap Some next,
    ))
    c.in-Err.ensures.refused

pub loop-rest-preserved : goal.loop-rest-preserved
loop-rest-preserved c =
    let table = c.args.c.now in
    let xs = c.loop-rest.rest.now in
    let i = c.loop-rest.invariant in
    let event : Event = get_or xs 0 (Start 0) in
    let later : List Event = take (length xs - 1) (drop 1 xs) in
    record {
      past = i.past ++ event ∷ [];
      split = i.split ∙ (ap (λ es. i.past ++ es) (first_split xs (Start 0) c.in-len1-up.len_at_least) ∙ sym (append_assoc i.past (event ∷ []) later));
      judged = subst (λ ps. IsJudged table ps (i.past ++ event ∷ []) c.in-Ok.longer) c.as_slice-plans.ensures
          (c.in-Ok.ensures.judged i.past (subst (λ ps. IsJudged table ps i.past c.loop-rest.legality) (sym c.as_slice-plans.ensures) i.judged));
      place = omega (arith, c.in-Some.ensures.1, i.place, length-append i.past (event ∷ []));
    }
