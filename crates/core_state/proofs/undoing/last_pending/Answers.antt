use Rattle.std.proofs.Common.{◌≡◌, ◌∙◌, ◌+◌, ◌-◌, ◌<◌, true, length, take, ap, subst, sym, arith}
use Rattle.hold_tables.specs.Tables.{is_open}
use Rattle.hold_tables.proofs.Places.{each_place}
use Rattle.core_state.specs.OpenTables.{last_pending}
use Rattle.core_state.proofs.PendingEntries.{found_last, passed_last}
use Rattle.core_state.proofs.undoing.last_pending.Goals.{After-net_at-e}
use Rattle.core_state.proofs.undoing.last_pending.Goals as goal

-- the entry is one of the net
within : (c : After-net_at-e) → c.entries.count - 1 < length c.args.holds.now.net
within c =
    let some = c.entries-test.true in
    let most = c.entries.invariant.1 in
    omega arith

-- so many are the entries up to it
same : (c : After-net_at-e) → c.entries.count - 1 + 1 ≡ c.entries.count
same c = let some = c.entries-test.true in omega arith

pub pending-requires : goal.pending-requires
pending-requires c =
    let t = c.args.holds.now in
    let e = c.net_at-e.result in
    let n = c.entries.count - 1 in
    record { «open» = subst (λ x. is_open t x.process ≡ true) (sym (c.net_at-e.ensures.entry e)) (each_place (λ x. is_open t x.process ≡ true) t.net n e (within (goal.at.pending-requires c).After-net_at-e) c.net_len-count.ensures.tidy.of_open) }

pub returns-then-pending-ne0 : goal.returns-then-pending-ne0
returns-then-pending-ne0 c =
    let t = c.args.holds.now in
    let e = c.net_at-e.result in
    let n = c.entries.count - 1 in
    let at = (goal.at.returns-then-pending-ne0 c).After-net_at-e in
    sym (found_last t t.net n e (within at) (c.net_at-e.ensures.entry e) (λ none. c.if-pending-ne0.true (c.pending.ensures ∙ none)))
    ∙ (ap (λ k. last_pending t (take k t.net)) (same at) ∙ c.entries.invariant.0)

pub entries-preserved : goal.entries-preserved
entries-preserved c =
    let t = c.args.holds.now in
    let e = c.net_at-e.result in
    let n = c.entries.count - 1 in
    let some = c.entries-test.true in
    let most = c.entries.invariant.1 in
    let at = (goal.at.entries-preserved c).After-net_at-e in (
      sym (passed_last t t.net n e (within at) (c.net_at-e.ensures.entry e) (sym c.pending.ensures ∙ c.if-pending-ne0.false))
          ∙ (ap (λ k. last_pending t (take k t.net)) (same at) ∙ c.entries.invariant.0),
      omega arith,
    )
