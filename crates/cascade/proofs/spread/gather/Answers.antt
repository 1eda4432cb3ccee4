use Rattle.std.proofs.Common.{◌≡◌, ◌<◌, ◌≤◌, ◌+◌, ◌++◌, ◌||◌, true, List, [], length, Option, IfSome, sym, ap, subst, ◌∙◌, arith, length-append}
use Rattle.std.specs.List.{list_any}
use Rattle.std.proofs.Math.Bool.{or-false}
use Rattle.process_tree.specs.declared.entry.Entry.{Entry}
use Rattle.process_tree.specs.Order.{Each}
use Rattle.hold_tables.specs.Tables.{is_open, kept_of}
use Rattle.cascade.specs.Walking.{IsWithin, steps_among}
use Rattle.cascade.proofs.Gathered.{all_to_come, any_on, each_with, fewer_left, left_of, next_opens, next_room, one_at_most, one_gathered, open_within, passes, step_within}
use Rattle.cascade.proofs.spread.gather.Goals as goal

pub processes-init : goal.processes-init
processes-init c =
    let t = c.args.holds.now in
    let none : c.clear.new.self.items ≡ [] = c.clear.ensures.items in
    let few : length c.clear.new.self.items ≤ 0 = subst (λ (es : List Entry). length es ≤ 0) (sym none) (omega arith) in
    record {
      opens = next_opens 0 t.processes c.next_open-next.result c.next_open-next.ensures.least;
      room = next_room 0 (length c.clear.new.self.items) t.processes c.next_open-next.result c.next_open-next.ensures.least few;
      capacity = c.clear.ensures.capacity;
      within = subst (Each (IsWithin t.conflicts (c.args.most + 1))) (sym none) tt;
      any = λ p. ap (λ (es : List Entry). list_any p es || any_on (passes p) c.next_open-next.result t.processes) none ∙ ap (λ o. any_on (passes p) o t.processes) c.next_open-next.ensures.least ∙ all_to_come p t.processes;
    }

pub add_step-requires : goal.add_step-requires
add_step-requires c =
    let k = c.in-Some.process in
    let opened : is_open c.args.holds.now k ≡ true = subst (λ o. IfSome o (λ k. is_open c.args.holds.now k ≡ true)) c.in-Some.is c.processes.invariant.opens in
    let few : length c.processes.running.items ≤ k = subst (λ o. IfSome o (λ k. length c.processes.running.items ≤ k)) c.in-Some.is c.processes.invariant.room in
    let le = open_within c.args.most k c.args.holds.now.processes opened c.requires.open in
    let room = c.requires.room in
    let same = c.processes.invariant.capacity in
    omega (arith, few, le, room, same)

pub processes-smaller : goal.processes-smaller
processes-smaller c =
    let t = c.args.holds.now in
    let k = c.in-Some.process in
    let opened : is_open t k ≡ true = subst (λ o. IfSome o (λ k. is_open t k ≡ true)) c.in-Some.is c.processes.invariant.opens in
    let le = open_within c.args.most k t.processes opened c.requires.open in
    subst (λ o. left_of c.args.most c.open_after-next.result < left_of c.args.most o) (sym c.in-Some.is) (fewer_left c.args.most k t.processes c.open_after-next.result le c.open_after-next.ensures)

pub processes-preserved : goal.processes-preserved
processes-preserved c =
    let t = c.args.holds.now in
    let k = c.in-Some.process in
    let opened : is_open t k ≡ true = subst (λ o. IfSome o (λ k. is_open t k ≡ true)) c.in-Some.is c.processes.invariant.opens in
    let few : length c.processes.running.items ≤ k = subst (λ o. IfSome o (λ k. length c.processes.running.items ≤ k)) c.in-Some.is c.processes.invariant.room in
    let more : c.add_step.new.running.items ≡ c.processes.running.items ++ steps_among (kept_of t k).running = c.add_step.ensures.items ∙ ap (λ (o : Option Entry). c.processes.running.items ++ steps_among o) c.running.ensures in
    let longer = ap length more ∙ length-append c.processes.running.items (steps_among (kept_of t k).running) in
    let one = one_at_most (kept_of t k).running in
    record {
      opens = next_opens (k + 1) t.processes c.open_after-next.result c.open_after-next.ensures;
      room = next_room (k + 1) (length c.add_step.new.running.items) t.processes c.open_after-next.result c.open_after-next.ensures (omega (arith, few, longer, one));
      capacity = c.add_step.ensures.capacity ∙ c.processes.invariant.capacity;
      within = subst (Each (IsWithin t.conflicts (c.args.most + 1))) (sym more)
          (each_with (IsWithin t.conflicts (c.args.most + 1)) c.processes.running.items (steps_among (kept_of t k).running) c.processes.invariant.within (step_within t c.args.most k c.next_open-next.ensures.tidy opened c.requires.open));
      any = λ p. ap (λ (es : List Entry). list_any p es || any_on (passes p) c.open_after-next.result t.processes) more
          ∙ ap (λ o. list_any p (c.processes.running.items ++ steps_among (kept_of t k).running) || any_on (passes p) o t.processes) c.open_after-next.ensures
          ∙ one_gathered p k t.processes c.processes.running.items c.next_open-next.ensures.tidy.numbered opened
          ∙ ap (λ o. list_any p c.processes.running.items || any_on (passes p) o t.processes) (sym c.in-Some.is)
          ∙ c.processes.invariant.any p;
    }

pub returns-clause-same : goal.returns-clause-same
returns-clause-same c p =
    sym (or-false (list_any p c.processes.running.items))
    ∙ ap (λ o. list_any p c.processes.running.items || any_on (passes p) o c.args.holds.now.processes) (sym c.in_default.is)
    ∙ c.processes.invariant.any p
