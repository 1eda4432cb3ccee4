-- A log on a file that is no store's stays as it is.
use Rattle.std.proofs.Common.{◌≢◌, ℕ, List, sym, subst, arith}
use Rattle.process_disk.specs.Disk.{Disk, FileSet, IsHonest, file_of}
use Rattle.process_disk.specs.Images.{EachImage, RunBy}
use Rattle.process_disk.proofs.Images.{each_now, now_each}
use Rattle.gate_log.specs.LogFile.{IsLog}
use Rattle.gate_log.specs.Standing.{LogState, Logs, StandsFor}
use Rattle.gate_log.specs.Staging.{AreOnDisk, HasBehind}
use Rattle.subsystem_store.specs.Opened.{Opened}
use Rattle.store_group.specs.Groups.{OfEach, SameButStores}

-- each image of a run on the stores is the log still,
pub images_beside : {B : Type 0} (stores : List (Opened B)) (log : LogState) (bodies : List (List ℕ)) (old new : Disk) → IsHonest old → OfEach (λ s. s.log.file ≢ log.file) stores → RunBy (SameButStores stores) old new → StandsFor log bodies old → EachImage new old.moment (Logs log.file bodies)
images_beside stores log bodies old new honest others run stands = record {
  has = λ c left.
      let from = run.images c left in
      let logs = now_each old old.moment (Logs log.file bodies) honest (omega arith) stands.each from.0 from.1 in
      subst (IsLog log.file bodies) (sym (from.2.others log.file others)) logs;
}

-- and after it the log stands for the same list
pub stands_beside : {B : Type 0} (stores : List (Opened B)) (log : LogState) (bodies : List (List ℕ)) (old new : Disk) → IsHonest old → IsHonest new → OfEach (λ s. s.log.file ≢ log.file) stores → RunBy (SameButStores stores) old new → StandsFor log bodies old → StandsFor log bodies new
stands_beside stores log bodies old new honest honest_new others run stands = record {
  count = stands.count;
  end = stands.end;
  read = subst (IsLog log.file bodies) (sym (run.read.others log.file others)) stands.read;
  each = each_now new (Logs log.file bodies) honest_new (λ c image.
      now_each new old.moment (Logs log.file bodies) honest_new run.follow.later (images_beside stores log bodies old new honest others run stands) c image);
}

-- What is on the disk behind its closed gate stays there too.
pub on_disk_beside : {B : Type 0} (stores : List (Opened B)) (log : LogState) (bodies : List (List ℕ)) (old new : Disk) → IsHonest old → IsHonest new → OfEach (λ s. s.log.file ≢ log.file) stores → RunBy (SameButStores stores) old new → AreOnDisk log bodies old → AreOnDisk log bodies new
on_disk_beside stores log bodies old new honest honest_new others run there = record {
  stands = stands_beside stores log bodies old new honest honest_new others run there.stands;
  read = subst (HasBehind log.file bodies log.staged) (sym (run.read.others log.file others)) there.read;
  each = each_now new Behind honest_new (λ c image. now_each new old.moment Behind honest_new run.follow.later images c image);
}
  where
    Behind : FileSet → Type 0
    Behind files = HasBehind log.file bodies log.staged (file_of files log.file)

    images : EachImage new old.moment Behind
    images = record {
      has = λ c left.
          let from = run.images c left in
          let was = now_each old old.moment Behind honest (omega arith) there.each from.0 from.1 in
          subst (HasBehind log.file bodies log.staged) (sym (from.2.others log.file others)) was;
    }
