use Rattle.std.proofs.Common.{◌≡◌, List, length, sym, subst, arith, ◌∙◌, ap}
use Rattle.std.proofs.lemmas.List.{length-drop}
use Rattle.process_tree.specs.declared.entry.Entry.{Entry}
use Rattle.process_tree.specs.Conflicts.{do_conflict}
use Rattle.process_tree.specs.Order.{Each}
use Rattle.hold_tables.specs.Operations.{KeepOps, ops_of}
use Rattle.hold_tables.specs.Walks.{IsPlaced, steps_under_way}
use Rattle.hold_tables.proofs.Counted.{uncounted_none, uncounted_same}
use Rattle.hold_tables.proofs.LastPairs.{each_parts, last_pairs, last_parts, no_last_pairs, with_last}
use Rattle.hold_tables.proofs.Places.{last_away, no_place, none_away}
use Rattle.hold_tables.proofs.Reaching.{placed_net, placed_running}
use Rattle.hold_tables.proofs.Tidy.{tables}
use Rattle.hold_tables.proofs.uncounting.uncount_last.Goals as goal

pub returns-in_default : goal.returns-in_default
returns-in_default c =
    let p = c.args.process in
    let net = c.args.net.now in
    uncounted_none c.args.rows.now _ c.args.counts.now (λ j k. no_last_pairs (do_conflict c.args.conflicts.now) (steps_under_way c.args.rows.now) p j k net
    (none_away p net (no_place p net (sym c.last_place.ensures ∙ c.in_default.is))))

pub split_at-requires : goal.split_at-requires
split_at-requires c = let within = (last_away c.args.process c.args.net.now c.in-Some.place (sym c.last_place.ensures ∙ c.in-Some.is)).0 in omega (arith, within)

pub uncount_marked-requires-clause-before : goal.uncount_marked-requires-clause-before
uncount_marked-requires-clause-before c =
    let P = IsPlaced c.args.conflicts.now c.args.rows.now in
    let front = c.split_at.result.0.now in
    let x = c.in-Some-split_first.x.now in
    let back = c.in-Some-split_first.back.now in
    let parts = last_parts c.args.process c.args.net.now c.in-Some.place front c.split_at.result.1.now x back (sym c.last_place.ensures ∙ c.in-Some.is) c.split_at.ensures.front c.split_at.ensures.back c.in-Some-split_first.ensures.cases.0 in
    (each_parts P front x back (subst (λ (es : List Entry). Each P es) parts.0 (placed_net (tables c.args.conflicts.now c.args.net.now c.args.rows.now) c.requires.tidy))).0

pub uncount_marked-requires-clause-behind : goal.uncount_marked-requires-clause-behind
uncount_marked-requires-clause-behind c =
    let P = IsPlaced c.args.conflicts.now c.args.rows.now in
    let front = c.split_at.result.0.now in
    let x = c.in-Some-split_first.x.now in
    let back = c.in-Some-split_first.back.now in
    let parts = last_parts c.args.process c.args.net.now c.in-Some.place front c.split_at.result.1.now x back (sym c.last_place.ensures ∙ c.in-Some.is) c.split_at.ensures.front c.split_at.ensures.back c.in-Some-split_first.ensures.cases.0 in
    (each_parts P front x back (subst (λ (es : List Entry). Each P es) parts.0 (placed_net (tables c.args.conflicts.now c.args.net.now c.args.rows.now) c.requires.tidy))).2

pub uncount_marked-requires-clause-entry : goal.uncount_marked-requires-clause-entry
uncount_marked-requires-clause-entry c =
    let P = IsPlaced c.args.conflicts.now c.args.rows.now in
    let front = c.split_at.result.0.now in
    let x = c.in-Some-split_first.x.now in
    let back = c.in-Some-split_first.back.now in
    let parts = last_parts c.args.process c.args.net.now c.in-Some.place front c.split_at.result.1.now x back (sym c.last_place.ensures ∙ c.in-Some.is) c.split_at.ensures.front c.split_at.ensures.back c.in-Some-split_first.ensures.cases.0 in
    (each_parts P front x back (subst (λ (es : List Entry). Each P es) parts.0 (placed_net (tables c.args.conflicts.now c.args.net.now c.args.rows.now) c.requires.tidy))).1

pub uncount_marked-requires-clause-marks : goal.uncount_marked-requires-clause-marks
uncount_marked-requires-clause-marks c =
    let front = c.split_at.result.0.now in
    let x = c.in-Some-split_first.x.now in
    let back = c.in-Some-split_first.back.now in
    let parts = last_parts c.args.process c.args.net.now c.in-Some.place front c.split_at.result.1.now x back (sym c.last_place.ensures ∙ c.in-Some.is) c.split_at.ensures.front c.split_at.ensures.back c.in-Some-split_first.ensures.cases.0 in
    subst (λ (es : List Entry). KeepOps c.args.conflicts.now (ops_of es) c.args.in_net.now) parts.0 c.requires.marks

pub uncount_marked-requires-clause-under : goal.uncount_marked-requires-clause-under
uncount_marked-requires-clause-under c = placed_running (tables c.args.conflicts.now c.args.net.now c.args.rows.now) c.requires.tidy

pub uncount_marked-requires-clause-among : goal.uncount_marked-requires-clause-among
uncount_marked-requires-clause-among c i k here there =
    let p = c.args.process in
    let net = c.args.net.now in
    let table = do_conflict c.args.conflicts.now in
    let running = steps_under_way c.args.rows.now in
    let front = c.split_at.result.0.now in
    let x = c.in-Some-split_first.x.now in
    let back = c.in-Some-split_first.back.now in
    let parts = last_parts p net c.in-Some.place front c.split_at.result.1.now x back (sym c.last_place.ensures ∙ c.in-Some.is) c.split_at.ensures.front c.split_at.ensures.back c.in-Some-split_first.ensures.cases.0 in
    let same = last_pairs table running p i k net front x back parts.0 parts.1 in
    let all = with_last table running p i k net in
    let told = c.requires.counts.tell i k here there in
    omega (arith, same, all, told)

pub returns-in-Some-split_first : goal.returns-in-Some-split_first
returns-in-Some-split_first c =
    let p = c.args.process in
    let net = c.args.net.now in
    let front = c.split_at.result.0.now in
    let x = c.in-Some-split_first.x.now in
    let back = c.in-Some-split_first.back.now in
    let parts = last_parts p net c.in-Some.place front c.split_at.result.1.now x back (sym c.last_place.ensures ∙ c.in-Some.is) c.split_at.ensures.front c.split_at.ensures.back c.in-Some-split_first.ensures.cases.0 in
    uncounted_same c.args.rows.now _ _ c.uncount_marked.result c.args.counts.now c.uncount_marked.new.counts
    (λ j k. sym (last_pairs (do_conflict c.args.conflicts.now) (steps_under_way c.args.rows.now) p j k net front x back parts.0 parts.1)) c.uncount_marked.ensures

pub returns-in-None : goal.returns-in-None
returns-in-None c =
    let within = (last_away c.args.process c.args.net.now c.in-Some.place (sym c.last_place.ensures ∙ c.in-Some.is)).0 in
    let none : length c.split_at.result.1.now ≡ 0 = c.in-None.ensures.cases in
    let rest = ap length c.split_at.ensures.back in
    let left = length-drop c.in-Some.place c.args.net.now in
    absurd (omega (arith, within, none, rest, left))
