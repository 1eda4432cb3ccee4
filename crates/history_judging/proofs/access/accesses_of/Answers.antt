use Rattle.std.proofs.Common.{◌<◌, ◌-◌, ◌||◌, List, length, take, drop, subst, sym, ◌∙◌, ap}
use Rattle.std.specs.List.{list_any}
use Rattle.process_tree.specs.Entries.{access_of}
use Rattle.process_tree.specs.declared.entry.Entry.{Entry}
use Rattle.process_tree.specs.Conflicts.{do_conflict}
use Rattle.process_tree.specs.Order.{Each}
use Rattle.history_judging.specs.Conflicting.{access_conflicts}
use Rattle.schedule_rules.proofs.ListTests.{first_split, or_shift}
use Rattle.history_judging.proofs.access.accesses_of.Goals as goal

pub returns-clause-known : goal.returns-clause-known
returns-clause-known c n all = (c.loop-rest.invariant.known n all).0

pub loop-rest-preserved : goal.loop-rest-preserved
loop-rest-preserved c =
    let xs = c.loop-rest.rest.now in
    let old = c.loop-rest.accesses in
    let later : List Entry = take (length xs - 1) (drop 1 xs) in
    let split = first_split xs _ c.in-len1-up.len_at_least in
    record {
      conflicts = λ table a.
          ap (λ t. t || list_any (λ (e : Entry). do_conflict table (access_of e) a) later) (c.in_ok-add.ensures.conflicts table a)
          ∙ (or_shift (do_conflict table _ a) (access_conflicts (do_conflict table) old a) (list_any (λ (e : Entry). do_conflict table (access_of e) a) later)
          ∙ (ap (λ t. access_conflicts (do_conflict table) old a || t) (sym (ap (list_any (λ (e : Entry). do_conflict table (access_of e) a)) split))
          ∙ c.loop-rest.invariant.conflicts table a));
      known = λ n all.
          let was = c.loop-rest.invariant.known n all in
          let parts = subst (Each (λ (e : Entry). e.op < n)) split was.1 in
          (c.in_ok-add.ensures.known n parts.0 was.0, parts.1);
    }
