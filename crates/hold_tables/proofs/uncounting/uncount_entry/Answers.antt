use Rattle.std.proofs.Common.{◌+◌, ◌||◌, ℕ, refl, ap, sym, ◌∙◌}
use Rattle.process_tree.specs.Conflicts.{do_conflict}
use Rattle.hold_tables.specs.Counts.{pairs_by, pairs_of_entry, pairs_to}
use Rattle.hold_tables.specs.Walks.{steps_under_way}
use Rattle.hold_tables.proofs.Counted.{among_first, among_later, gone_is, uncounted_on}
use Rattle.hold_tables.proofs.uncounting.uncount_entry.Goals as goal

pub uncount_to-before-requires-clause-among : goal.uncount_to-before-requires-clause-among
uncount_to-before-requires-clause-among c =
    let table = do_conflict c.args.conflicts.now in
    let running = steps_under_way c.args.rows.now in
    among_first c.args.rows.now (pairs_to table c.args.front.now c.args.x) (λ i k. pairs_by table c.args.x c.args.back.now i k + pairs_by table c.args.x running i k)
    (pairs_of_entry table running c.args.front.now c.args.x c.args.back.now) (λ i k. refl) c.args.counts.now c.requires.among

pub uncount_by-behind-requires-clause-among : goal.uncount_by-behind-requires-clause-among
uncount_by-behind-requires-clause-among c =
    let table = do_conflict c.args.conflicts.now in
    let running = steps_under_way c.args.rows.now in
    let both = λ (i k : ℕ). pairs_by table c.args.x c.args.back.now i k + pairs_by table c.args.x running i k in
    among_first c.args.rows.now (pairs_by table c.args.x c.args.back.now) (pairs_by table c.args.x running) both (λ i k. refl) c.uncount_to-before.new.counts
    (among_later c.args.rows.now (pairs_to table c.args.front.now c.args.x) both (pairs_of_entry table running c.args.front.now c.args.x c.args.back.now) (λ i k. refl) c.uncount_to-before.result
    c.args.counts.now c.uncount_to-before.new.counts c.requires.among c.uncount_to-before.ensures)

pub uncount_steps-under-requires-clause-among : goal.uncount_steps-under-requires-clause-among
uncount_steps-under-requires-clause-among c =
    let table = do_conflict c.args.conflicts.now in
    let running = steps_under_way c.args.rows.now in
    let both = λ (i k : ℕ). pairs_by table c.args.x c.args.back.now i k + pairs_by table c.args.x running i k in
    among_later c.args.rows.now (pairs_by table c.args.x c.args.back.now) (pairs_by table c.args.x running) both (λ i k. refl) c.uncount_by-behind.result c.uncount_to-before.new.counts c.uncount_by-behind.new.counts
    (among_later c.args.rows.now (pairs_to table c.args.front.now c.args.x) both (pairs_of_entry table running c.args.front.now c.args.x c.args.back.now) (λ i k. refl) c.uncount_to-before.result
    c.args.counts.now c.uncount_to-before.new.counts c.requires.among c.uncount_to-before.ensures) c.uncount_by-behind.ensures

pub returns : goal.returns
returns c =
    let table = do_conflict c.args.conflicts.now in
    let running = steps_under_way c.args.rows.now in
    let both = λ (i k : ℕ). pairs_by table c.args.x c.args.back.now i k + pairs_by table c.args.x running i k in
    let a = c.uncount_to-before.result in
    let b = c.uncount_by-behind.result in
    let d = c.uncount_steps-under.result in
    let all = pairs_of_entry table running c.args.front.now c.args.x c.args.back.now in
    gone_is c.args.rows.now all (a || (b || d)) c.either-2.result c.args.counts.now c.uncount_steps-under.new.counts (sym (c.either-2.ensures ∙ ap (a ||◌) c.either.ensures))
    (uncounted_on c.args.rows.now (pairs_to table c.args.front.now c.args.x) both all (λ i k. refl) a (b || d) c.args.counts.now c.uncount_to-before.new.counts c.uncount_steps-under.new.counts c.uncount_to-before.ensures
    (uncounted_on c.args.rows.now (pairs_by table c.args.x c.args.back.now) (pairs_by table c.args.x running) both (λ i k. refl) b d c.uncount_to-before.new.counts c.uncount_by-behind.new.counts c.uncount_steps-under.new.counts
    c.uncount_by-behind.ensures c.uncount_steps-under.ensures))
