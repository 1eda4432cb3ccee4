use Rattle.std.proofs.Common.{rules, length, ◌<◌}
use Rattle.process_text.proofs.Reprinted.{canonical_reading}
use Rattle.process_text.proofs.Short.{text_is_short}
use Rattle.process_text.proofs.printing.print.Goals as goal

pub returns-clause-reading : goal.returns-clause-reading
returns-clause-reading c =
    let told = c.in_ok-text.ensures in
    canonical_reading c.args.name.now c.args.tree.now c.in_ok-text.text.items told.named told.good told.canonical

pub returns-clause-short : goal.returns-clause-short
returns-clause-short c =
    let told = c.in_ok-text.ensures in
    let short = text_is_short c.args.name.now c.args.tree.now told.named told.good in
    let size : length c.in_ok-text.text.items < 40000 = rw told.canonical short in
    search (rules, size)
