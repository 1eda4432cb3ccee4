use Rattle.std.proofs.Common.{◌<◌, ◌-◌, ◌∷◌, ◌++◌, ◌||◌, List, length, take, get_or, sym, ◌∙◌, ap, append_assoc, []}
use Rattle.process_tree.specs.Entries.{access_of}
use Rattle.process_tree.specs.declared.entry.Entry.{Entry}
use Rattle.process_tree.specs.Conflicts.{do_conflict, operations_in}
use Rattle.history_judging.specs.Conflicting.{conflicts_in_front}
use Rattle.schedule_rules.proofs.Moves.{blank}
use Rattle.schedule_rules.proofs.ListTests.{each_last, last_split}
use Rattle.history_judging.proofs.ByAccess.{front-more, front-met, front-own, accesses-own}
use Rattle.history_judging.proofs.against.conflicts_in_front.Goals as goal

pub returns-then-conflict : goal.returns-then-conflict
returns-then-conflict c =
    let table = do_conflict c.args.c.now in
    let i = c.args.process in
    let xs = c.loop-rest.rest.now in
    let seen = c.loop-rest.invariant.seen in
    let before : List Entry = take (length xs - 1) xs in
    let e : Entry = get_or xs (length xs - 1) blank in
    sym (ap (conflicts_in_front table i) (c.loop-rest.invariant.split ∙ (ap (λ es. es ++ seen) (last_split xs blank c.in-len1-up.len_at_least) ∙ append_assoc before (e ∷ []) seen))
    ∙ front-more table i before (e ∷ seen)
    (front-met table i e seen c.if-entry-process.false
    (sym (c.loop-rest.invariant.conflicts (access_of e)) ∙ (sym c.conflict.ensures ∙ c.if-conflict.true))))

pub loop-rest-preserved-in_ok-add : goal.loop-rest-preserved-in_ok-add
loop-rest-preserved-in_ok-add c =
    let table = do_conflict c.args.c.now in
    let i = c.args.process in
    let xs = c.loop-rest.rest.now in
    let seen = c.loop-rest.invariant.seen in
    let before : List Entry = take (length xs - 1) xs in
    let e : Entry = get_or xs (length xs - 1) blank in
    let known = each_last (λ (e : Entry). e.op < operations_in c.args.c.now) xs blank c.in-len1-up.len_at_least c.loop-rest.invariant.rest in
    record {
      seen = e ∷ seen;
      split = c.loop-rest.invariant.split ∙ (ap (λ es. es ++ seen) (last_split xs blank c.in-len1-up.len_at_least) ∙ append_assoc before (e ∷ []) seen);
      none = front-own table i e seen c.if-entry-process.true c.loop-rest.invariant.none;
      conflicts = λ a. c.in_ok-add.ensures.conflicts c.args.c.now a ∙ (ap (λ t. table (access_of e) a || t) (c.loop-rest.invariant.conflicts a) ∙ sym (accesses-own table i e seen a c.if-entry-process.true));
      known = c.in_ok-add.ensures.known (operations_in c.args.c.now) known.1 c.loop-rest.invariant.known;
      rest = known.0;
    }
