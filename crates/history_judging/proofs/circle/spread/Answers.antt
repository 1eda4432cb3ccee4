use Rattle.std.proofs.Common.{◌≡◌, ◌<◌, ◌-◌, ◌∷◌, ◌++◌, [], inl, inr, List, length, take, drop, get_or, set, true, false, sym, ◌∙◌, ap, subst, append_assoc, arith, length-set}
use Rattle.std.proofs.lemmas.Bool.{false≢true}
use Rattle.process_tree.specs.Entries.{access_of}
use Rattle.process_tree.specs.declared.entry.Entry.{Entry}
use Rattle.process_tree.specs.Conflicts.{do_conflict, operations_in}
use Rattle.process_tree.specs.Order.{Each}
use Rattle.history_judging.specs.Conflicting.{access_conflicts, is_marked}
use Rattle.history_judging.proofs.Marks.{closed-push, led-more, marked_self, marked_stays, unmarked-less}
use Rattle.schedule_rules.proofs.Moves.{blank}
use Rattle.history_judging.proofs.Spreading.{led-before, led-conflicting, led-still, marked-in, not_led, conflicting-led}
use Rattle.schedule_rules.proofs.ListTests.{first_split}
use Rattle.history_judging.proofs.circle.spread.Goals as goal

pub loop-rest-preserved-in_ok-add : goal.loop-rest-preserved-in_ok-add
loop-rest-preserved-in_ok-add c =
    let table = do_conflict c.args.c.now in
    let xs = c.loop-rest.rest.now in
    let i = c.loop-rest.invariant in
    let seen = i.seen in
    let e : Entry = get_or xs 0 blank in
    let later : List Entry = take (length xs - 1) (drop 1 xs) in
    let first = first_split xs blank c.in-len1-up.len_at_least in
    let known = subst (Each (λ (x : Entry). x.op < operations_in c.args.c.now)) first i.known in
    let numbers = subst (Each (λ (x : Entry). x.process < length c.args.marks.now)) first i.numbers in
    let marked = is_marked c.loop-rest.marks in
    record {
      seen = seen ++ e ∷ [];
      split = i.split ∙ (ap (λ es. seen ++ es) first ∙ sym (append_assoc seen (e ∷ []) later));
      len = i.len;
      stay = i.stay;
      only = i.only;
      conflicts = λ a is. conflicting-led table marked seen e a (access_conflicts table c.loop-rest.accesses a) _ c.if-marks-place.true (c.in_ok-add.ensures.conflicts c.args.c.now a) (i.conflicts a) is;
      all_conflicts = λ still a is. led-conflicting table marked seen e a (access_conflicts table c.loop-rest.accesses a) _ (c.in_ok-add.ensures.conflicts c.args.c.now a) (i.all_conflicts still a) is;
      closed = λ still. closed-push table marked seen e (i.closed still) (inl c.if-marks-place.true);
      fewer = i.fewer;
      more = i.more;
      accesses = c.in_ok-add.ensures.known (operations_in c.args.c.now) known.0 i.accesses;
      known = known.1;
      numbers = numbers.1;
    }

pub loop-rest-preserved-in_ok-add-2 : goal.loop-rest-preserved-in_ok-add-2
loop-rest-preserved-in_ok-add-2 c =
    let table = do_conflict c.args.c.now in
    let xs = c.loop-rest.rest.now in
    let i = c.loop-rest.invariant in
    let seen = i.seen in
    let e : Entry = get_or xs 0 blank in
    let later : List Entry = take (length xs - 1) (drop 1 xs) in
    let first = first_split xs blank c.in-len1-up.len_at_least in
    let known = subst (Each (λ (x : Entry). x.op < operations_in c.args.c.now)) first i.known in
    let numbers = subst (Each (λ (x : Entry). x.process < length c.args.marks.now)) first i.numbers in
    let marks = c.loop-rest.marks in
    let split = i.split ∙ ap (λ es. seen ++ es) first in
    let leads = i.conflicts (access_of e) (sym c.conflict.ensures ∙ c.if-conflict.true) in
    let within : e.process < length marks = subst (λ n. e.process < n) (sym i.len) numbers.0 in
    let less = unmarked-less marks e.process within c.if-marks-place.false in
    let fewer = i.fewer in
    record {
      seen = seen ++ e ∷ [];
      split = split ∙ sym (append_assoc seen (e ∷ []) later);
      len = length-set marks e.process true ∙ i.len;
      stay = λ k is. marked_stays marks e.process k (i.stay k is);
      only = λ p old closed k is. marked-in table marks p seen later c.args.entries.now e split closed (i.only p old closed) leads k is;
      conflicts = λ a is. conflicting-led table (is_marked (set marks e.process true)) seen e a (access_conflicts table c.loop-rest.accesses a) _ (marked_self marks e.process within) (c.in_ok-add-2.ensures.conflicts c.args.c.now a)
          (λ before. led-more table (is_marked marks) (is_marked (set marks e.process true)) seen a (λ k was. marked_stays marks e.process k was) (i.conflicts a before)) is;
      all_conflicts = λ still. absurd (false≢true (sym still));
      closed = λ still. absurd (false≢true (sym still));
      fewer = omega arith;
      more = λ _. omega arith;
      accesses = c.in_ok-add-2.ensures.known (operations_in c.args.c.now) known.0 i.accesses;
      known = known.1;
      numbers = numbers.1;
    }

pub loop-rest-preserved : goal.loop-rest-preserved
loop-rest-preserved c =
    let table = do_conflict c.args.c.now in
    let xs = c.loop-rest.rest.now in
    let i = c.loop-rest.invariant in
    let seen = i.seen in
    let e : Entry = get_or xs 0 blank in
    let later : List Entry = take (length xs - 1) (drop 1 xs) in
    let first = first_split xs blank c.in-len1-up.len_at_least in
    let known = subst (Each (λ (x : Entry). x.op < operations_in c.args.c.now)) first i.known in
    let numbers = subst (Each (λ (x : Entry). x.process < length c.args.marks.now)) first i.numbers in
    let marked = is_marked c.loop-rest.marks in
    let none : access_conflicts table c.loop-rest.accesses (access_of e) ≡ false = sym c.conflict.ensures ∙ c.if-conflict.false in
    record {
      seen = seen ++ e ∷ [];
      split = i.split ∙ (ap (λ es. seen ++ es) first ∙ sym (append_assoc seen (e ∷ []) later));
      len = i.len;
      stay = i.stay;
      only = i.only;
      conflicts = λ a is. led-still table marked seen e a (i.conflicts a is);
      all_conflicts = λ still a is. i.all_conflicts still a (led-before table marked seen e a c.if-marks-place.false is);
      closed = λ still. closed-push table marked seen e (i.closed still) (inr (not_led table seen marked (access_of e) (access_conflicts table c.loop-rest.accesses (access_of e)) (i.all_conflicts still (access_of e)) none));
      fewer = i.fewer;
      more = i.more;
      accesses = i.accesses;
      known = known.1;
      numbers = numbers.1;
    }
