use Rattle.std.proofs.Common.{◌≡◌, ◌-◌, ◌<◌, true, drop, length, sym, ap, subst, ◌∙◌, arith}
use Rattle.process_tree.specs.declared.entry.Entry.{Entry}
use Rattle.machine_model.specs.declared.blocked.Rule.TheVariants.{A2}
use Rattle.hold_tables.specs.Tables.{is_open}
use Rattle.hold_tables.proofs.Places.{each_place}
use Rattle.hold_tables.specs.Tables.{holdings_of}
use Rattle.std.specs.Prelude.{Bool, List, filter}
use Rattle.process_tree.specs.Conflicts.{do_conflict}
use Rattle.schedule_model.specs.Blocking.{Clash}
use Rattle.schedule_model.specs.Holdings.{reaches}
use Rattle.admission.specs.Parts.{with_circle}
use Rattle.admission.proofs.Clear.{none_against}
use Rattle.admission.proofs.Assembled.{least_by}
use Rattle.admission.proofs.WalksBack.{circle, circle-is, circle_more, none_led}
use Rattle.admission.proofs.Places.{rest_back, rest_none}
use Rattle.admission.proofs.circle.least_in_circle.Goals as goal

pub places-init : goal.places-init
places-init c =
    let t = c.args.holds.now in
    record {
      within = omega arith;
      least = sym (ap (λ es. least_by A2 (circle t c.args.own es)) (ap (λ n. drop n t.net) c.net_len-place.ensures.len ∙ rest_none t.net));
    }

pub with_circle-least-requires-clause-to : goal.with_circle-least-requires-clause-to
with_circle-least-requires-clause-to c =
    let t = c.args.holds.now in
    let e = c.net_at-other.result in
    let le = c.places.invariant.within in
    let lt = c.places-test.true in
    let within : c.places.place - 1 < length t.net = omega arith in
    subst (λ (x : Entry). is_open t x.process ≡ true) (sym (c.net_at-other.ensures.entry e))
    (each_place (λ (x : Entry). is_open t x.process ≡ true) t.net (c.places.place - 1) e within c.net_len-place.ensures.tidy.of_open)

pub places-preserved : goal.places-preserved
places-preserved c =
    let t = c.args.holds.now in
    let e = c.net_at-other.result in
    let le = c.places.invariant.within in
    record {
      within = omega arith;
      least =
          c.with_circle-least.ensures ∙ ap (with_circle t c.args.own e) c.places.invariant.least
          ∙ sym (circle_more t c.args.own e (drop c.places.place t.net))
          ∙ sym (ap (λ es. least_by A2 (circle t c.args.own es)) (rest_back t.net c.places.place e c.places-test.true le c.net_at-other.ensures.entry));
    }

pub returns : goal.returns
returns c =
    let t = c.args.holds.now in
    let none = c.places-test.false in
    let front : c.places.place ≡ 0 = omega arith in
    c.places.invariant.least ∙ ap (λ n. least_by A2 (circle t c.args.own (drop n t.net))) front ∙ sym (circle-is t c.args.own c.net_len-place.ensures.tidy)

pub returns-then-is_clear_of_net : goal.returns-then-is_clear_of_net
returns-then-is_clear_of_net c =
    let t = c.args.holds.now in
    let own = c.args.own in
    let led : Clash → Bool = λ x. reaches (do_conflict t.conflicts) (holdings_of t) own.process x.other.process in
    sym (circle-is t own c.net_len-place.ensures.tidy
    ∙ ap (λ (cs : List Clash). least_by A2 (filter led cs)) (none_against t.conflicts own t.net (c.is_clear_of_net.ensures.clear c.if-is_clear_of_net.true)))

pub returns-then-leads_nowhere : goal.returns-then-leads_nowhere
returns-then-leads_nowhere c =
    let t = c.args.holds.now in
    let tidy = c.net_len-place.ensures.tidy in
    sym (circle-is t c.args.own tidy ∙ none_led t c.args.own (c.leads_nowhere.ensures.none c.if-leads_nowhere.true) t.net tidy.of_open)
