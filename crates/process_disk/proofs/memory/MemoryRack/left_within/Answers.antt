use Rattle.std.proofs.Common.{◌≡◌, Result, Ok, Err, IfOk, length, reverse, take, sym, ◌∙◌, ap, subst}
use Rattle.process_disk.specs.Disk.{FileSet}
use Rattle.process_disk.specs.Memory.{LeftSince}
use Rattle.process_disk.specs.MemoryView.{memory}
use Rattle.process_disk.specs.Stop.{from_latest, is_before, is_through, is_within, left_by}
use Rattle.process_disk.proofs.Stops.{left_within, left_count}
use Rattle.process_disk.proofs.memory.MemoryRack.left_within.Goals as goal

-- what holds of the value, holds of an Ok that is this value
if_ok : {E : Type 0} (result : Result FileSet E) (files : FileSet) (P : FileSet → Type 0) → IfOk result (λ found. found ≡ files) → P files → IfOk result P
if_ok (Ok found) files P is holds = subst P (sym is) holds
if_ok (Err e) files P is holds = tt

pub returns-clause-files : goal.returns-clause-files
returns-clause-files c =
    let m = memory c.args.self.now in
    let changes = c.changes_within-end.ensures.changes ∙ ap (from_latest (is_within c.args.call)) c.made-made.ensures in
    let of_first = subst (λ first. IfOk c.left_by.result (λ files. files ≡ left_by c.args.keep c.args.fill first (reverse (take c.changes_within-end.result c.made-made.result.now)))) c.first.ensures c.left_by.ensures in
    subst (λ made. IfOk c.left_by.result (λ files. files ≡ left_by c.args.keep c.args.fill m.first made)) changes of_first

pub returns-clause-image : goal.returns-clause-image
returns-clause-image c =
    let m = memory c.args.self.now in
    let sound = c.args.self.now.sound in
    let since = λ (files : FileSet). LeftSince m.first (from_latest (is_through c.args.call) m.made) (length (from_latest (is_before c.args.call) m.made)) files in
    if_ok c.left_by.result (left_by c.args.keep c.args.fill m.first (from_latest (is_within c.args.call) m.made)) since (returns-clause-files c)
    (left_within c.args.keep c.args.fill c.args.call m.first m.made sound.nine sound.placed)

pub returns-clause-nine : goal.returns-clause-nine
returns-clause-nine c =
    let m = memory c.args.self.now in
    let sound = c.args.self.now.sound in
    if_ok c.left_by.result (left_by c.args.keep c.args.fill m.first (from_latest (is_within c.args.call) m.made)) (λ files. length files ≡ 9) (returns-clause-files c)
    (left_count c.args.keep c.args.fill c.args.call m.first m.made sound.nine sound.placed)
