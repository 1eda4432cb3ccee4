use Rattle.std.proofs.Common.{◌≡◌, List, [], ap, sym, subst}
use Rattle.shared_engine.specs.declared.entries.TurnEntry.{TurnEntry}
use Rattle.thread_workers.specs.Jobs.{job_seen, or_else}
use Rattle.thread_workers.specs.Workers.{IsBeginning}
use Rattle.thread_workers.proofs.Lists.{both_begin}
use Rattle.thread_workers.proofs.seats.take_in.Goals as goal

pub returns-clause-begins : goal.returns-clause-begins
returns-clause-begins g c =
    let a = c.args.seat.place.me.0.seen in
    let b = c.in-Some-Some.theirs.place.me.0.seen in
    let all = c.join.result.place.me.0.seen in
    let e = c.join.ensures in
    let both = both_begin a b e.begins in
    let theirs : job_seen c.args.job ≡ b = ap (or_else (λ s. s.place.me.0.seen) []) c.in-Some-Some.is-0 in (
      subst (IsBeginning a) (sym e.seen) both.0,
      subst (λ (l : List TurnEntry). IsBeginning l all) (sym theirs) (subst (IsBeginning b) (sym e.seen) both.1),
    )
