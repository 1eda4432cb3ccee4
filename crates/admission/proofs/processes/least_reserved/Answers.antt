use Rattle.std.proofs.Common.{◌≡◌, ◌<◌, drop, ℕ, ◌-◌, sym, ap, subst, ◌∙◌, arith}
use Rattle.std.specs.Prelude.{map}
use Rattle.process_tree.specs.Conflicts.{Table, do_conflict, operations_in}
use Rattle.hold_tables.specs.Tables.{kept_of, reserved_entry}
use Rattle.admission.specs.Least.{least_on}
use Rattle.admission.proofs.Known.{known_reserved, own_number}
use Rattle.admission.proofs.Looking.{reserved_more, with_table}
use Rattle.admission.proofs.processes.least_reserved.Goals as goal

pub least_with-least-requires-clause-other : goal.least_with-least-requires-clause-other
least_with-least-requires-clause-other c =
    let t = c.args.holds.now in
    let step = c.reserved_at-step.result in
    let known = known_reserved t c.conflicts-c.ensures.tidy c.args.process c.requires.«open» (c.places.place - 1) step (let le = c.places.invariant.within in let lt = c.places-test.true in omega arith) in
    subst (λ (x : Table). step.1 < operations_in x) (sym c.conflicts-c.ensures.table)
    (subst (λ (p : ℕ × ℕ × ℕ). p.1 < operations_in t.conflicts) (sym (c.reserved_at-step.ensures step)) known)

pub places-preserved : goal.places-preserved
places-preserved c =
    let t = c.args.holds.now in
    let le = c.places.invariant.within in
    record {
      within = omega arith;
      least =
          c.least_with-least.ensures
          ∙ with_table c.conflicts-c.result.now t.conflicts c.args.rule c.args.own (reserved_entry c.args.process c.reserved_at-step.result) c.places.least _ c.conflicts-c.ensures.table c.places.invariant.least
          ∙ reserved_more (do_conflict t.conflicts) c.args.rule c.args.own c.args.process (kept_of t c.args.process).reserved c.places.place c.reserved_at-step.result c.places-test.true le c.reserved_at-step.ensures;
    }

pub returns : goal.returns
returns c =
    let t = c.args.holds.now in
    let r = kept_of t c.args.process in
    let none = c.places-test.false in
    let front : c.places.place ≡ 0 = omega arith in
    c.places.invariant.least
    ∙ ap (λ n. least_on (do_conflict t.conflicts) c.args.rule c.args.own (map (reserved_entry c.args.process) (drop n r.reserved))) front
    ∙ ap (λ i. least_on (do_conflict t.conflicts) c.args.rule c.args.own (map (reserved_entry i) r.reserved)) (sym (own_number t c.conflicts-c.ensures.tidy c.args.process c.requires.«open»))
