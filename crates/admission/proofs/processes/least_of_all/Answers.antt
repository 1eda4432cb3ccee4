use Rattle.std.proofs.Common.{drop, ◌≡◌, ◌-◌, ap, sym, ◌∙◌, arith}
use Rattle.hold_tables.specs.Tables.{holds_nothing}
use Rattle.admission.specs.Least.{least_over, lesser_of}
use Rattle.admission.specs.Parts.{least_of_process}
use Rattle.admission.proofs.Holders.{all_idle, idle_more, open_there, process_more}
use Rattle.admission.proofs.Places.{rest_none}
use Rattle.admission.proofs.processes.least_of_all.Goals as goal

pub places-init : goal.places-init
places-init c =
    let t = c.args.holds.now in
    let f = least_of_process t c.args.sought c.args.own in
    let count = c.open_len-place.ensures.len in
    record {
      within = omega (arith, count);
      least = sym (ap (λ n. least_over f (drop n t.processes)) count ∙ ap (least_over f) (rest_none t.processes));
    }

pub has-requires : goal.has-requires
has-requires c =
    let le = c.places.invariant.within in
    let few = c.open_len-place.ensures.few in
    let len = c.open_len-place.ensures.len in
    let lt = c.places-test.true in
    omega (arith, le, few, len, lt)

pub least_of_process-requires-clause-open : goal.least_of_process-requires-clause-open
least_of_process-requires-clause-open c =
    let le = c.places.invariant.within in
    let lt = c.places-test.true in
    open_there c.args.holds.now (c.places.place - 1) c.open_at-process.result (omega arith) c.open_at-process.ensures.number

pub places-preserved-then-has : goal.places-preserved-then-has
places-preserved-then-has c =
    let t = c.args.holds.now in
    let le = c.places.invariant.within in
    let lt = c.places-test.true in
    record {
      within = omega arith;
      least =
          c.lesser_of-least.ensures
          ∙ ap (λ o. lesser_of o c.places.least) c.least_of_process.ensures
          ∙ ap (lesser_of _) c.places.invariant.least
          ∙ process_more t c.args.sought c.args.own c.places.place lt le c.open_len-place.ensures.tidy.numbered c.open_at-process.result c.open_at-process.ensures.number;
    }

pub places-preserved : goal.places-preserved
places-preserved c =
    let t = c.args.holds.now in
    let le = c.places.invariant.within in
    let lt = c.places-test.true in
    record {
      within = omega arith;
      least =
          c.places.invariant.least
          ∙ idle_more t c.args.sought c.args.own c.places.place lt le
          (sym (c.who_may_hold-who.ensures (c.places.place - 1) (holds_nothing 0 0) (omega arith)) ∙ sym c.has.ensures ∙ c.if-has.false);
    }

pub returns-clause-least : goal.returns-clause-least
returns-clause-least c =
    let t = c.args.holds.now in
    let none = c.places-test.false in
    let front : c.places.place ≡ 0 = omega arith in
    c.places.invariant.least ∙ ap (λ n. least_over (least_of_process t c.args.sought c.args.own) (drop n t.processes)) front

pub returns-then-is_empty-clause-least : goal.returns-then-is_empty-clause-least
returns-then-is_empty-clause-least c =
    let t = c.args.holds.now in
    sym (all_idle t c.args.sought c.args.own t.processes (λ p d within. sym (c.who_may_hold-who.ensures p d within) ∙ c.is_empty.ensures.none c.if-is_empty.true p))
