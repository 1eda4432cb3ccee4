use Rattle.std.proofs.Common.{◌≡◌, ◌+◌, suc, ◌++◌, ◌∷◌, [], drop, take, sym, ap, subst, ◌∙◌, arith}
use Rattle.process_tree.specs.Conflicts.{Table, do_conflict}
use Rattle.hold_tables.specs.Kept.{IsKnown}
use Rattle.admission.specs.Least.{least_on, lesser_of}
use Rattle.admission.proofs.Looking.{with_table}
use Rattle.admission.proofs.Order.{first_two, thrice}
use Rattle.admission.proofs.Over.{on-append, on-last, with_first}
use Rattle.admission.proofs.Places.{part_last, part_parts}
use Rattle.admission.proofs.net.least_between.Goals as goal

pub places-init : goal.places-init
places-init c = record {
  after = c.first_before-place.ensures.within.0;
  before = c.first_before-place.ensures.within.1;
  least = sym (c.first_before-place.ensures.passed c.args.rule c.args.own);
}

pub least_with-least-requires-clause-other : goal.least_with-least-requires-clause-other
least_with-least-requires-clause-other c = subst (λ (x : Table). IsKnown x c.net_at.result) (sym c.conflicts-c.ensures.table) c.net_at.ensures.known

pub places-preserved : goal.places-preserved
places-preserved c =
    let t = c.args.holds.now in
    let table = do_conflict t.conflicts in
    let e = c.net_at.result in
    let low = c.places.invariant.after in
    let lt = c.places-test.true in
    let most = c.requires.places.1 in
    let next : c.places.place + 1 ≡ suc c.places.place = omega arith in
    let later = c.first_before-place-in-places in
    let so_far = least_on table c.args.rule c.args.own (drop c.args.from (take (c.places.place + 1) t.net)) in
    let behind = least_on table c.args.rule c.args.own (drop (c.places.place + 1) (take later.result t.net)) in
    let more = ap (λ n. drop c.args.from (take n t.net)) next ∙ part_last t.net c.args.from c.places.place e low (omega arith)
    ∙ ap (λ x. drop c.args.from (take c.places.place t.net) ++ x ∷ []) (sym (c.net_at.ensures.entry e)) in
    let here : c.least_with-least.result ≡ lesser_of so_far c.args.found =
    c.least_with-least.ensures
    ∙ with_table c.conflicts-c.result.now t.conflicts c.args.rule c.args.own e c.places.least _ c.conflicts-c.ensures.table c.places.invariant.least
    ∙ with_first table c.args.rule c.args.own e (least_on table c.args.rule c.args.own (drop c.args.from (take c.places.place t.net))) c.args.found
    ∙ ap (λ o. lesser_of o c.args.found) (sym (on-last table c.args.rule c.args.own (drop c.args.from (take c.places.place t.net)) e)
    ∙ ap (least_on table c.args.rule c.args.own) (sym more)) in
    record {
      after = let passed = later.ensures.within in omega arith;
      before = later.ensures.within.1;
      least =
          sym (later.ensures.passed c.args.rule c.args.own) ∙ ap (lesser_of behind) here
          ∙ first_two behind so_far c.args.found ∙ sym (thrice so_far behind c.args.found)
          ∙ ap (λ o. lesser_of o c.args.found) (sym (ap (least_on table c.args.rule c.args.own)
          (part_parts t.net c.args.from (c.places.place + 1) later.result (omega arith) later.ensures.within.0)
          ∙ on-append table c.args.rule c.args.own (drop c.args.from (take (c.places.place + 1) t.net)) (drop (c.places.place + 1) (take later.result t.net))));
    }

pub returns : goal.returns
returns c =
    let t = c.args.holds.now in
    let le = c.places.invariant.before in
    let none = c.places-test.false in
    let same : c.places.place ≡ c.args.end = omega arith in
    c.places.invariant.least ∙ ap (λ n. lesser_of (least_on (do_conflict t.conflicts) c.args.rule c.args.own (drop c.args.from (take n t.net))) c.args.found) same
