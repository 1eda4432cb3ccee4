use Rattle.std.proofs.Common.{◌≡◌, ◌+◌, ◌-◌, List, ◌∷◌, length, drop, sym, ap, subst, ◌∙◌, arith}
use Rattle.process_tree.specs.Conflicts.{Table, do_conflict}
use Rattle.process_tree.specs.declared.entry.Entry.{Entry}
use Rattle.schedule_model.specs.Histories.{of_process}
use Rattle.machine_model.specs.declared.blocked.Rule.TheVariants.{A1}
use Rattle.hold_tables.specs.Kept.{IsKnown}
use Rattle.hold_tables.specs.Tables.{kept_of, lasts}
use Rattle.admission.specs.Least.{least_on}
use Rattle.admission.proofs.Known.{own_number}
use Rattle.admission.proofs.Looking.{lasts_all, other_more, own_more, pending_found, with_table}
use Rattle.admission.proofs.Over.{on-cons}
use Rattle.admission.proofs.processes.least_pending.Goals as goal

pub least_with-least-requires-clause-other : goal.least_with-least-requires-clause-other
least_with-least-requires-clause-other c = subst (λ (x : Table). IsKnown x c.net_at-other.result) (sym c.conflicts-c.ensures.table) c.net_at-other.ensures.known

pub places-preserved-then-other-process : goal.places-preserved-then-other-process
places-preserved-then-other-process c =
    let t = c.args.holds.now in
    let e = c.net_at-other.result in
    let le = c.places.invariant.within in
    let some = c.if-left-gt0.true in
    let count = c.places.invariant.left in
    let more = own_more c.args.process t.net c.places.place e c.places-test.true le c.net_at-other.ensures.entry c.if-other-process.true in
    record {
      within = omega arith;
      left = ap (λ (es : List Entry). (c.places.left - 1) + length es) more ∙ (let same : (c.places.left - 1) + length (e ∷ of_process c.args.process (drop c.places.place t.net)) ≡ (kept_of t c.args.process).pending = omega arith in same);
      least =
          c.least_with-least.ensures
          ∙ with_table c.conflicts-c.result.now t.conflicts A1 c.args.own e c.places.least _ c.conflicts-c.ensures.table c.places.invariant.least
          ∙ sym (on-cons (do_conflict t.conflicts) A1 c.args.own e (of_process c.args.process (drop c.places.place t.net)))
          ∙ ap (least_on (do_conflict t.conflicts) A1 c.args.own) (sym more);
    }

pub places-preserved : goal.places-preserved
places-preserved c =
    let t = c.args.holds.now in
    let le = c.places.invariant.within in
    let more = other_more c.args.process t.net c.places.place c.net_at-other.result c.places-test.true le c.net_at-other.ensures.entry c.if-other-process.false in
    record {
      within = omega arith;
      left = ap (λ (es : List Entry). c.places.left + length es) more ∙ c.places.invariant.left;
      least = c.places.invariant.least ∙ ap (least_on (do_conflict t.conflicts) A1 c.args.own) (sym more);
    }

pub returns-else-left-gt0 : goal.returns-else-left-gt0
returns-else-left-gt0 c =
    let t = c.args.holds.now in
    let r = kept_of t c.args.process in
    let found = pending_found c.args.process r.pending c.places.place t.net c.places.left c.if-left-gt0.false c.places.invariant.left in
    c.places.invariant.least
    ∙ ap (least_on (do_conflict t.conflicts) A1 c.args.own) (sym found ∙ ap (λ i. lasts r.pending (of_process i t.net)) (sym (own_number t c.conflicts-c.ensures.tidy c.args.process c.requires.«open»)))

pub returns-after-places : goal.returns-after-places
returns-after-places c =
    let t = c.args.holds.now in
    let r = kept_of t c.args.process in
    let none = c.places-test.false in
    let front : c.places.place ≡ 0 = omega arith in
    let count = c.places.invariant.left in
    let counted : c.places.left + length (of_process c.args.process t.net) ≡ r.pending = ap (λ n. c.places.left + length (of_process c.args.process (drop n t.net))) (sym front) ∙ count in
    let all = lasts_all r.pending (of_process c.args.process t.net) (omega arith) in
    c.places.invariant.least
    ∙ ap (λ n. least_on (do_conflict t.conflicts) A1 c.args.own (of_process c.args.process (drop n t.net))) front
    ∙ ap (least_on (do_conflict t.conflicts) A1 c.args.own) (sym all ∙ ap (λ i. lasts r.pending (of_process i t.net)) (sym (own_number t c.conflicts-c.ensures.tidy c.args.process c.requires.«open»)))
