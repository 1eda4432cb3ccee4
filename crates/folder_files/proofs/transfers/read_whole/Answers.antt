use Rattle.std.proofs.Common.{◌≡◌, ◌+◌, ◌∙◌, subst, arith, drop, length-append, rules}
use Rattle.process_disk.specs.Disk.{file_of}
use Rattle.folder_files.specs.Folder.{IsPart}
use Rattle.process_disk.proofs.Images.{still_told}
use Rattle.folder_files.proofs.WholeCalls.{looks_then, read_more}
use Rattle.folder_files.proofs.transfers.read_whole.Goals as goal

pub loop-count-preserved : goal.loop-count-preserved
loop-count-preserved g c =
    let D = g.D.Folder in
    let old = D.disk c.args.folder.now in
    let mid = D.disk c.loop-count.folder in
    let so = c.loop-count.invariant in
    let step = c.in-Ok.ensures in
    let split = c.split_at_mut-rest in
    let there : c.in-Some.place ≡ c.args.at + c.loop-count.count = search rules in
    record {
      within = omega (arith, so.within, step.bound, split.ensures.front_len, c.read.auto.buf, length-append split.result.0.now c.read.new.buf);
      read = λ told.
          let part = subst (λ fs. IsPart (drop c.in-Some.place (file_of fs c.args.file)) c.read.new.buf c.in-Ok.more) ((so.looks.looks told).files) (step.part (still_told old mid so.looks.tells told)) in
          read_more (file_of old.files c.args.file) split.result.0.now c.read.new.buf c.loop-count.buf c.args.at c.in-Some.place c.loop-count.count c.in-Ok.more split.ensures.front split.ensures.front_len there (so.read told) part;
      looks = record {
        looks = λ told. looks_then old mid (D.disk c.read.new.self) (g.met.D.Folder.honest c.args.folder.now told) (so.looks.looks told) (step.looks.looks (still_told old mid so.looks.tells told));
        tells = step.looks.tells ∙ so.looks.tells;
      };
      stays = (step.stays.0 ∙ so.stays.0, step.stays.1 ∙ so.stays.1);
      access = step.access ∙ so.access;
      quiet = step.faults.quiet ∙ so.quiet;
    }
