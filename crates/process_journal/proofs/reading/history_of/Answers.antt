use Rattle.std.proofs.Common.{◌∷◌, subst, arith}
use Rattle.commute_table.specs.Bytes.{bytes_of}
use Rattle.journal_records.specs.Bytes.{setup_bytes}
use Rattle.process_journal.specs.Replays.{IsReadTo, IsFaultOf}
use Rattle.process_journal.proofs.ReadingOn.{read_none, read_refused}
use Rattle.process_journal.proofs.reading.history_of.Goals as goal

pub records-init : goal.records-init
records-init c = (read_none c.args.catalog.now c.args.bodies.now c.in_ok-replay.replay c.requires.catalog c.in_ok-replay.ensures.none (c.in_ok-replay.ensures.judged c.args.catalog.now.conflicts), omega arith)

pub returns-in-Err-clause-refused : goal.returns-in-Err-clause-refused
returns-in-Err-clause-refused c =
    let catalog = c.args.catalog.now in
    let bodies = setup_bytes (bytes_of catalog) ∷ c.args.bodies.now in
    let read = subst (λ bs. IsReadTo catalog bodies c.records.replay bs c.records.number) c.in-Some.ensures.cases.0 c.records.invariant.0 in
    read_refused catalog bodies c.records.replay c.in-Some.body.now c.in-Some.after.now c.records.number c.in-Err.error read
    (subst (λ b. IsFaultOf catalog c.records.replay.history c.records.number b c.in-Err.error) c.bytes.ensures c.in-Err.ensures.refused)
