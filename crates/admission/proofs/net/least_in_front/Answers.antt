use Rattle.std.proofs.Common.{◌≡◌, take, drop, sym, ap, ◌∙◌, arith}
use Rattle.process_tree.specs.Conflicts.{do_conflict}
use Rattle.admission.specs.Parts.{least_fronts}
use Rattle.admission.proofs.Fronts.{fronts_back}
use Rattle.admission.proofs.Places.{rest_none}
use Rattle.admission.proofs.net.least_in_front.Goals as goal

pub places-init : goal.places-init
places-init c =
    let t = c.args.holds.now in
    record {
      within = omega arith;
      least = sym (ap (least_fronts (do_conflict t.conflicts) c.args.process (take c.net_len-place.result t.net)) (ap (λ n. drop n t.net) c.net_len-place.ensures.len ∙ rest_none t.net));
    }

pub places-preserved : goal.places-preserved
places-preserved c =
    let t = c.args.holds.now in
    let le = c.places.invariant.within in
    record {
      within = omega arith;
      least = fronts_back (do_conflict t.conflicts) c.args.process t.net c.places.place c.places.least c.least_at-least.result c.places-test.true le c.least_at-least.ensures c.places.invariant.least;
    }

pub returns-clause-least : goal.returns-clause-least
returns-clause-least c =
    let t = c.args.holds.now in
    let none = c.places-test.false in
    let front : c.places.place ≡ 0 = omega arith in
    c.places.invariant.least ∙ ap (λ n. least_fronts (do_conflict t.conflicts) c.args.process (take n t.net) (drop n t.net)) front
