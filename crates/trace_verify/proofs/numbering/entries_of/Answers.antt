use Rattle.std.proofs.Common.{◌≡◌, ◌∙◌, ◌-◌, ap, arith, length, take, drop, map, true}
use Rattle.trace_verify.specs.Names.{is_among, entry_of, with_names, step_names, op_names}
use Rattle.trace_verify.proofs.NumbersKept.{as_cons, among-added, few-added, entry-kept, entries-next, names-next}
use Rattle.trace_verify.proofs.numbering.entries_of.Goals as goal

pub loop-rest-preserved : goal.loop-rest-preserved
loop-rest-preserved c =
    let rest = c.loop-rest.rest.now in
    let act = c.act-item.result in
    let after = take (length rest - 1) (drop 1 rest) in
    let is = as_cons rest act c.in-len1-up.len_at_least c.act-item.is in
    let long = ap length is in
    let steps = c.in_ok-entry.ensures.steps in
    let ops = c.in_ok-entry.ensures.ops in
    let step_there : is_among c.entry_of.new.steps act.step ≡ true = rw steps (among-added c.loop-rest.steps act.step) in
    let op_there : is_among c.entry_of.new.ops act.op ≡ true = rw ops (among-added c.loop-rest.ops act.op) in
    let more_steps = names-next (λ a. a.step) rest after act c.loop-rest.steps c.entry_of.new.steps _ is c.loop-rest.invariant.steps steps in
    let more_ops = names-next (λ a. a.op) rest after act c.loop-rest.ops c.entry_of.new.ops _ is c.loop-rest.invariant.ops ops in
    let more_few = few-added c.loop-rest.steps act.step in
    let few_ops = few-added c.loop-rest.ops act.op in
    let steps_long = ap length steps in
    let ops_long = ap length ops in
    let same = c.in_ok-entry.ensures.entry
    ∙ (entry-kept c.entry_of.new.steps c.entry_of.new.ops (map (λ a. a.step) after) (map (λ a. a.op) after) act step_there op_there
    ∙ (ap (λ ns. entry_of ns (with_names c.entry_of.new.ops (map (λ a. a.op) after)) act) more_steps ∙ ap (λ ns. entry_of (step_names c.args.acts.now) ns act) more_ops)) in
    record {
      steps = more_steps;
      ops = more_ops;
      entries = entries-next (entry_of (step_names c.args.acts.now) (op_names c.args.acts.now)) rest after act c.loop-rest.entries.items c.push.new.self.items _ c.in_ok-entry.entry is
          c.loop-rest.invariant.entries same c.in_ok-push.ensures.items;
      few_steps = omega (arith, more_few, steps_long, long, c.loop-rest.invariant.few_steps);
      few_ops = omega (arith, few_ops, ops_long, long, c.loop-rest.invariant.few_ops);
    }
