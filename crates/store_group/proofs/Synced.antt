-- What a sync makes of stores whose records are written or opened.
use Rattle.std.proofs.Common.{◌≤◌, ◌+◌, List, arith}
use Rattle.process_disk.specs.Disk.{Disk, FileSet, IsHonest, Only}
use Rattle.process_disk.specs.Images.{EachImage, AllAsBefore}
use Rattle.process_disk.proofs.Images.{each_then, others_of_all}
use Rattle.gate_log.proofs.Standing.{stands_still}
use Rattle.gate_log.proofs.StagedImages.{each_still, staged_on_disk, staged_stands}
use Rattle.subsystem_store.specs.Opened.{Opened, Stands}
use Rattle.store_group.specs.Groups.{HasOnDisk, HasStaged, HasWritten, IsOpenAt, OfEach}

-- a store that stands, stands still,
stands_on : {B : Type 0} (s : Opened B) (old new : Disk) → IsHonest old → IsHonest new → AllAsBefore old new → Stands s old → Stands s new
stands_on s old new honest honest_new run stands =
    let k = s.log.file + 1 in
    record {
      bodies = stands.bodies;
      of = stands.of;
      so = stands_still k s.log stands.bodies old new honest honest_new (λ is. absurd (omega (arith, is))) (others_of_all k old new run) stands.so;
    }

module _ {B : Type 0} (stores : List (Opened B)) (old new : Disk) (honest : IsHonest old) (honest_new : IsHonest new) (run : AllAsBefore old new) (only : Only new.files new.may_leave) where
  -- what is written is on the disk,
  pub all_on_disk : OfEach (λ s. HasWritten s old) stores → OfEach (λ s. HasOnDisk s new) stores
  all_on_disk all q s at = record {
    stands = stands_on s old new honest honest_new run (all q s at).stands;
    there = λ some.
        let were = (all q s at).written some in
        record { bodies = were.bodies; of = were.of; so = staged_on_disk s.log were.bodies old new honest_new run only were.so };
  }

  -- and behind opened gates it is in the logs
  pub all_staged : OfEach (λ s. IsOpenAt s old) stores → OfEach (λ s. HasStaged s new) stores
  all_staged all q s at = record {
    none = λ none. stands_on s old new honest honest_new run ((all q s at).none none);
    some = λ some.
        let is = (all q s at).some some in
        record { bodies = is.bodies; of = is.of; so = staged_stands s.log is.bodies old new honest_new run only is.so };
  }

-- over a run, and then one that leaves all as it was, each image has what each has
pub images_then_all : (P : FileSet → Type 0) (start mid new : Disk) → IsHonest mid → start.moment ≤ mid.moment → AllAsBefore mid new → EachImage mid start.moment P → EachImage mid mid.moment P → EachImage new start.moment P
images_then_all P start mid new honest later run so_far now = each_then mid new start.moment P later run.follow so_far (each_still P mid new honest run now)
