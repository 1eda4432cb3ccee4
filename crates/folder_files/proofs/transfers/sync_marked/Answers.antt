use Rattle.std.proofs.Common.{◌<◌, ◌∙◌, sym, arith, rules, subst, inl, inr}
use Rattle.std.proofs.lemmas.Bool.{cases_eq, false≢true}
use Rattle.process_flow.specs.Causes.{Rose}
use Rattle.folder_files.specs.Folder.{syncs_of, IsMarked, IsUnmarked}
use Rattle.process_disk.proofs.Images.{still_told}
use Rattle.folder_files.proofs.WholeCalls.{kept_further, kept_by_look, looks_then}
use Rattle.folder_files.proofs.transfers.sync_marked.Goals.{then-marks-from+in_ok-sync, else-marks-from}
use Rattle.folder_files.proofs.transfers.sync_marked.Goals as goal

pub loop-file-preserved : goal.loop-file-preserved
loop-file-preserved g c = elim c.if-marks-from.branch [
  | then-marks-from+in_ok-sync w ↦
      let D = g.D.Folder in
      let old = D.disk c.args.folder.now in
      let mid = D.disk c.loop-file.folder in
      let new = D.disk w.sync.new.self in
      let so = c.loop-file.invariant in
      let step = w.in_ok-sync.ensures in
      rw w.folder-is record {
        kept = λ marks told.
            let told_mid = still_told old mid so.looks.tells told in
            kept_further new c.loop-file.file (λ k below. kept_by_look k mid new (step.looks.looks told_mid) (so.kept marks told k below)) (step.kept told_mid);
        synced = λ k below marked. elim (cases_eq k c.loop-file.file) [
          | inl same ↦ subst (λ j. Rose (syncs_of (D.syncs c.args.folder.now) j) (syncs_of (D.syncs w.sync.new.self) j)) (sym same) (omega (arith, so.never_fell c.loop-file.file, step.synced.rose))
          | inr other ↦ let rose = so.synced k (omega (arith, below, other)) marked in omega (arith, rose, step.synced.never_fell k)
        ];
        never_fell = λ k. omega (arith, so.never_fell k, step.synced.never_fell k);
        looks = record {
          looks = λ told. looks_then old mid new (g.met.D.Folder.honest c.args.folder.now told) (so.looks.looks told) (step.looks.looks (still_told old mid so.looks.tells told));
          tells = step.looks.tells ∙ so.looks.tells;
        };
        taken = step.taken ∙ so.taken;
        access = step.access ∙ so.access;
        quiet = step.faults.quiet ∙ so.quiet;
      }
  | else-marks-from w ↦
      let D = g.D.Folder in
      let old = D.disk c.args.folder.now in
      let mid = D.disk c.loop-file.folder in
      let so = c.loop-file.invariant in
      let below_nine : c.loop-file.file < 9 = search rules in
      let unmarked : IsUnmarked c.args.marks.now c.loop-file.file = search rules in
      rw w.folder-is record {
        kept = λ marks told. kept_further mid c.loop-file.file (so.kept marks told) (kept_by_look c.loop-file.file old mid (so.looks.looks told) (marks told c.loop-file.file below_nine unmarked));
        synced = λ k below marked. elim (cases_eq k c.loop-file.file) [
          | inl same ↦ absurd (false≢true (sym unmarked ∙ subst (λ j. IsMarked c.args.marks.now j) same marked))
          | inr other ↦ so.synced k (omega (arith, below, other)) marked
        ];
        never_fell = so.never_fell;
        looks = so.looks;
        taken = so.taken;
        access = so.access;
        quiet = so.quiet;
      }
]
