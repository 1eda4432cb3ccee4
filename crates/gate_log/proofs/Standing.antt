-- What an open log stands for, for the layers above.
use Rattle.std.proofs.Common.{◌≡◌, ◌≢◌, ◌∙◌, ℕ, List, sym, subst, arith}
use Rattle.process_disk.specs.Disk.{Disk, IsHonest, file_of}
use Rattle.process_disk.specs.Images.{EachImage, OthersAsBefore}
use Rattle.process_disk.proofs.Images.{each_now, now_each}
use Rattle.gate_log.specs.LogFile.{IsLog}
use Rattle.gate_log.specs.Standing.{LogState, Logs, StandsFor, IsOpen}
use Rattle.gate_log.proofs.Reading.{one_list_at_most}

-- a log that stands for a list is open
pub open_of_stands : (log : LogState) (bodies : List (List ℕ)) (disk : Disk) → StandsFor log bodies disk → IsOpen log disk
open_of_stands log bodies disk stands = record { bodies = bodies; stands = stands }

-- it stands for one list at most
pub one_list : (log : LogState) (one two : List (List ℕ)) (disk : Disk) → StandsFor log one disk → StandsFor log two disk → one ≡ two
one_list log one two disk first second = one_list_at_most log.file one two (file_of disk.files log.file) first.read second.read

-- each image of a run that leaves all but another file is the log still,
pub images_still : (q : ℕ) (log : LogState) (bodies : List (List ℕ)) (old new : Disk) → IsHonest old → log.file ≢ q → OthersAsBefore q old new → StandsFor log bodies old → EachImage new old.moment (Logs log.file bodies)
images_still q log bodies old new honest other run stands = record {
  has = λ c left.
      let from = run.images c left in
      let logs = now_each old old.moment (Logs log.file bodies) honest (omega arith) stands.each from.0 from.1 in
      subst (IsLog log.file bodies) (sym (from.2.others log.file other)) logs;
}

-- and after it the log stands for the same list
pub stands_still : (q : ℕ) (log : LogState) (bodies : List (List ℕ)) (old new : Disk) → IsHonest old → IsHonest new → log.file ≢ q → OthersAsBefore q old new → StandsFor log bodies old → StandsFor log bodies new
stands_still q log bodies old new honest honest_new other run stands = record {
  count = stands.count;
  end = stands.end;
  read = subst (IsLog log.file bodies) (sym (run.read.others log.file other)) stands.read;
  each = each_now new (Logs log.file bodies) honest_new (λ c image.
      now_each new old.moment (Logs log.file bodies) honest_new run.follow.later (images_still q log bodies old new honest other run stands) c image);
}

-- whatever is staged, it stands for the same list
pub stands_alike : (log other : LogState) (bodies : List (List ℕ)) (disk : Disk) → other.file ≡ log.file → other.count ≡ log.count → other.end ≡ log.end
    → StandsFor log bodies disk → StandsFor other bodies disk
stands_alike log other bodies disk file count end stands = record {
  count = count ∙ stands.count;
  end = end ∙ stands.end;
  read = subst (λ q. Logs q bodies disk.files) (sym file) stands.read;
  each = subst (λ q. EachImage disk disk.moment (Logs q bodies)) (sym file) stands.each;
}
