use Rattle.std.proofs.Common.{◌≡◌, ◌≤◌, ◌<◌, ◌+◌, ◌∙◌, sym, ap, subst, arith, length, take, refl, rules}
use Rattle.process_disk.specs.Disk.{file_of, put}
use Rattle.process_disk.proofs.Images.{still_told, told_before}
use Rattle.folder_files.proofs.WholeCalls.{put_none, put_size, put_more, writes_of_looks, looks_none, writes_then, nine_read}
use Rattle.folder_files.proofs.transfers.write_whole.Goals as goal

pub loop-sent-init : goal.loop-sent-init
loop-sent-init g c =
    let D = g.D.Folder in
    record {
      within = omega arith;
      written = λ told. sym (put_none (D.disk c.args.folder.now).files c.args.file c.args.at (c.requires.place told));
      writes = record {
        writes = λ told. writes_of_looks c.args.file c.args.at (length c.args.bytes.now) (D.disk c.args.folder.now) (D.disk c.args.folder.now) (looks_none (D.disk c.args.folder.now));
        tells = refl;
      };
      stays = (refl, refl);
      access = refl;
      quiet = refl;
    }

pub write-requires-clause-place : goal.write-requires-clause-place
write-requires-clause-place g c told =
    let D = g.D.Folder in
    let old = D.disk c.args.folder.now in
    let so = c.loop-sent.invariant in
    let told_old = told_before old (D.disk c.loop-sent.folder) so.writes.tells told in
    let there : c.args.file < length old.files = omega (arith, c.requires.file, nine_read old (g.met.D.Folder.honest c.args.folder.now told_old)) in
    let place : c.in-Some.place ≡ c.args.at + c.loop-sent.sent = search rules in
    let size = put_size old.files c.args.file c.args.at c.loop-sent.sent c.args.bytes.now there (c.requires.place told_old) so.within in
    subst (λ fs. c.in-Some.place ≤ length (file_of fs c.args.file)) (sym (so.written told_old)) (omega (arith, size, place))

pub loop-sent-preserved : goal.loop-sent-preserved
loop-sent-preserved g c =
    let D = g.D.Folder in
    let old = D.disk c.args.folder.now in
    let mid = D.disk c.loop-sent.folder in
    let new = D.disk c.write.new.self in
    let so = c.loop-sent.invariant in
    let step = c.in-Ok.ensures in
    let place : c.in-Some.place ≡ c.args.at + c.loop-sent.sent = search rules in
    record {
      within = omega (arith, so.within, step.bound, c.split_at.ensures.back_len);
      written = λ told.
          let there : c.args.file < length old.files = omega (arith, c.requires.file, nine_read old (g.met.D.Folder.honest c.args.folder.now told)) in
          step.written (still_told old mid so.writes.tells told)
          ∙ ap (λ fs. put fs c.args.file c.in-Some.place (take c.in-Ok.more c.split_at.result.1.now)) (so.written told)
          ∙ put_more old.files c.args.file c.args.at c.in-Some.place c.loop-sent.sent c.in-Ok.more c.args.bytes.now c.split_at.result.1.now there (c.requires.place told) so.within place c.split_at.ensures.back;
      writes = record {
        writes = λ told.
            let told_mid = still_told old mid so.writes.tells told in
            writes_then c.args.file c.args.at (length c.args.bytes.now) c.in-Some.place (length c.split_at.result.1.now) old mid new (omega (arith, place)) (omega (arith, place, so.within, c.split_at.ensures.back_len)) (step.grows told_mid) (so.writes.writes told) (step.writes.writes told_mid);
        tells = step.writes.tells ∙ so.writes.tells;
      };
      stays = (step.stays.0 ∙ so.stays.0, step.stays.1 ∙ so.stays.1);
      access = step.access ∙ so.access;
      quiet = step.faults.quiet ∙ so.quiet;
    }

pub returns-in-Err-clause-writes : goal.returns-in-Err-clause-writes
returns-in-Err-clause-writes g c =
    let D = g.D.Folder in
    let old = D.disk c.args.folder.now in
    let mid = D.disk c.loop-sent.folder in
    let new = D.disk c.write.new.self in
    let so = c.loop-sent.invariant in
    let step = c.in-Err.ensures in
    let place : c.in-Some.place ≡ c.args.at + c.loop-sent.sent = search rules in
    record {
      writes = λ told.
          let told_mid = still_told old mid so.writes.tells told in
          writes_then c.args.file c.args.at (length c.args.bytes.now) c.in-Some.place (length c.split_at.result.1.now) old mid new (omega (arith, place)) (omega (arith, place, so.within, c.split_at.ensures.back_len)) (step.grows told_mid) (so.writes.writes told) (step.writes.writes told_mid);
      tells = step.writes.tells ∙ so.writes.tells;
    }
