use Rattle.std.proofs.Common.{◌≡◌, length, get_or, rules, arith}
use Rattle.journal_records.proofs.ReadBack.{act_told, eight_told}
use Rattle.journal_records.proofs.bytes.read.Goals as goal

pub returns-in-2-clause-bytes : goal.returns-in-2-clause-bytes
returns-in-2-clause-bytes c =
    let body = c.args.body.now in
    let process = c.from_le_bytes-process.result in
    let step = c.from_le_bytes-in-2.result in
    let eight : length body ≡ 8 = omega (arith, c.in-2.len_at_least, c.in-2.len_below) in
    let first : get_or body 0 0 ≡ 2 = search rules in
    act_told process step (get_or body 7 0) body c.entry_by.result c.entry_by.ensures
    (eight_told body process step eight first (λ k. let fits = c.type_inv.body k in omega arith) c.from_le_bytes-process.ensures c.from_le_bytes-in-2.ensures)
