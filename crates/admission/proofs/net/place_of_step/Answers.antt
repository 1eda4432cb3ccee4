use Rattle.std.proofs.Common.{◌≡◌, drop, sym, ap, ◌∙◌, arith}
use Rattle.admission.specs.Parts.{further, place_of_step}
use Rattle.admission.proofs.Places.{rest_none}
use Rattle.admission.proofs.StepPlaces.{at_front, found_behind, found_here, place_within}
use Rattle.admission.proofs.net.place_of_step.Goals as goal

pub places-init : goal.places-init
places-init c =
    let t = c.args.holds.now in
    record {
      within = omega arith;
      found = sym (ap (λ es. further c.net_len-place.result (place_of_step c.args.process c.args.step es)) (ap (λ n. drop n t.net) c.net_len-place.ensures.len ∙ rest_none t.net));
    }

pub places-preserved-then-is_of_step : goal.places-preserved-then-is_of_step
places-preserved-then-is_of_step c =
    let le = c.places.invariant.within in
    record {
      within = omega arith;
      found = found_here c.args.process c.args.step c.args.holds.now.net c.places.place c.net_at-e.result c.places-test.true le c.net_at-e.ensures.entry (sym c.is_of_step.ensures ∙ c.if-is_of_step.true);
    }

pub places-preserved : goal.places-preserved
places-preserved c =
    let le = c.places.invariant.within in
    record {
      within = omega arith;
      found = c.places.invariant.found ∙ found_behind c.args.process c.args.step c.args.holds.now.net c.places.place c.net_at-e.result c.places-test.true le c.net_at-e.ensures.entry (sym c.is_of_step.ensures ∙ c.if-is_of_step.false);
    }

pub returns-clause-place : goal.returns-clause-place
returns-clause-place c =
    let net = c.args.holds.now.net in
    let none = c.places-test.false in
    let front : c.places.place ≡ 0 = omega arith in
    c.places.invariant.found ∙ ap (λ n. further n (place_of_step c.args.process c.args.step (drop n net))) front ∙ at_front (place_of_step c.args.process c.args.step net)

pub returns-clause-within : goal.returns-clause-within
returns-clause-within c =
    let net = c.args.holds.now.net in
    let none = c.places-test.false in
    let front : c.places.place ≡ 0 = omega arith in
    place_within c.args.process c.args.step net c.places.found
    (c.places.invariant.found ∙ ap (λ n. further n (place_of_step c.args.process c.args.step (drop n net))) front ∙ at_front (place_of_step c.args.process c.args.step net))
