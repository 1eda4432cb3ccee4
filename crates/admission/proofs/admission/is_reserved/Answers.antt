use Rattle.std.proofs.Common.{◌≡◌, ◌||◌, drop, sym, ap, ◌∙◌, arith}
use Rattle.std.specs.Prelude.{map}
use Rattle.std.proofs.lemmas.Bool.{eq-eqb, ne_eqb}
use Rattle.schedule_model.specs.Histories.{is_in}
use Rattle.hold_tables.specs.Tables.{kept_of}
use Rattle.admission.proofs.Looking.{step_more}
use Rattle.admission.proofs.Places.{rest_none}
use Rattle.admission.proofs.admission.is_reserved.Goals as goal

pub places-init : goal.places-init
places-init c =
    let planned = (kept_of c.args.holds.now c.args.process).reserved in
    record {
      within = omega arith;
      found = sym (ap (λ ps. is_in c.args.step (map (λ p. p.0) ps)) (ap (λ n. drop n planned) c.reserved_len-place.ensures ∙ rest_none planned));
    }

pub places-preserved : goal.places-preserved
places-preserved c =
    let planned = (kept_of c.args.holds.now c.args.process).reserved in
    let found_step = c.reserved_at.result in
    let le = c.places.invariant.within in
    record {
      within = omega arith;
      found = c.places.invariant.found
          ∙ ap (λ t. t || is_in c.args.step (map (λ p. p.0) (drop c.places.place planned))) (sym (ne_eqb c.args.step found_step.0 c.if-step-reserved_at.false))
          ∙ step_more c.args.step planned c.places.place found_step c.places-test.true le c.reserved_at.ensures;
    }

pub places-preserved-then-step-reserved_at : goal.places-preserved-then-step-reserved_at
places-preserved-then-step-reserved_at c =
    let planned = (kept_of c.args.holds.now c.args.process).reserved in
    let found_step = c.reserved_at.result in
    let le = c.places.invariant.within in
    record {
      within = omega arith;
      found = eq-eqb c.args.step found_step.0 c.if-step-reserved_at.true
          ∙ ap (λ t. t || is_in c.args.step (map (λ p. p.0) (drop c.places.place planned))) (sym (eq-eqb c.args.step found_step.0 c.if-step-reserved_at.true))
          ∙ step_more c.args.step planned c.places.place found_step c.places-test.true le c.reserved_at.ensures;
    }

pub returns : goal.returns
returns c =
    let planned = (kept_of c.args.holds.now c.args.process).reserved in
    let none = c.places-test.false in
    let front : c.places.place ≡ 0 = omega arith in
    c.places.invariant.found ∙ ap (λ n. is_in c.args.step (map (λ p. p.0) (drop n planned))) front
