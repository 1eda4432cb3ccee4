-- What the writes of several bodies leave of a disk.
use Rattle.std.specs.Prelude.{Result, OnOk}
use Rattle.std.proofs.Common.{◌≡◌, ◌≢◌, ◌⊎◌, ℕ, ◌+◌, ◌<◌, ◌≤◌, List, [], ◌∷◌, ◌++◌, length, drop, Ok, Err, sym, ◌∙◌, ap, subst, arith, length-append}
use Rattle.process_disk.specs.Disk.{FileSet, Disk, IsHonest, TornIn, Only, file_of, put, written}
use Rattle.process_disk.specs.Images.{EachImage, RunBy, AllAsBefore, OthersAsBefore}
use Rattle.process_disk.proofs.Images.{each_now, now_each, each_later}
use Rattle.gate_log.specs.LogFile.{IsLog, end_of}
use Rattle.gate_log.specs.Standing.{LogState, Logs, StandsFor}
use Rattle.gate_log.specs.Staging.{plain_records, with_staged, LogsBeforeOrWithAll, HasBehind, AreWritten, AreOnDisk, IsOpened}
use Rattle.gate_log.proofs.Logs.{records_size-append}
use Rattle.gate_log.proofs.Reading.{most_is}
use Rattle.gate_log.proofs.Appending.{nine_files, file_of_put, images_of_record}
use Rattle.gate_log.proofs.Standing.{stands_still}
use Rattle.gate_log.proofs.Staging.{behind_by_write, behind_torn_gate}

-- what follows from a value, where there is one
pub ok_so : {T E A B : Type 0} (r : Result T E) → (A → B) → OnOk r A → OnOk r B
ok_so (Ok t) so is = so is
ok_so (Err e) so is = tt

-- over a run that leaves all as it was, each image has what each had
pub each_still : (P : FileSet → Type 0) (old new : Disk) → IsHonest old → AllAsBefore old new → EachImage old old.moment P → EachImage new old.moment P
each_still P old new honest run each = record {
  has = λ c left.
      let from = run.images c left in
      subst P (sym from.2) (now_each old old.moment P honest (omega arith) each from.0 from.1);
}

-- what holds of the files that are read, where a crash leaves them alone, holds of each image
pub each_only : (P : FileSet → Type 0) (disk : Disk) → IsHonest disk → Only disk.files disk.may_leave → P disk.files → EachImage disk disk.moment P
each_only P disk honest only read = each_now disk P honest (λ c image. subst P (sym (only.only c image)) read)

-- once written, what is staged stands behind the gate, and the log stands for its list
pub staged_written : (log : LogState) (bodies : List (List ℕ)) (n : ℕ) (old new : Disk) → IsHonest old → IsHonest new → log.file < 9 → log.staged ≢ [] → log.count + length log.staged ≤ 65536 → StandsFor log bodies old
    → RunBy (TornIn log.file (log.end + 1) n) old new → new.files ≡ put old.files log.file (log.end + 1) (drop 1 (plain_records log.staged)) → AreWritten log bodies new
staged_written log bodies n old new honest honest_new below some room stands run is =
    let q = log.file in
    let bytes = drop 1 (plain_records log.staged) in
    let at_end : new.files ≡ put old.files q (end_of bodies + 1) bytes = subst (λ end. new.files ≡ put old.files q (end + 1) bytes) stands.end is in
    let file : file_of new.files q ≡ written (file_of old.files q) (end_of bodies + 1) bytes =
    ap (λ (files : FileSet). file_of files q) at_end ∙ file_of_put old.files q (end_of bodies + 1) bytes (omega (arith, nine_files old honest)) in
    let behind : HasBehind q bodies log.staged (file_of new.files q) = subst (HasBehind q bodies log.staged) (sym file) (behind_by_write q bodies log.staged (file_of old.files q) some stands.read (omega (arith, stands.count, room, most_is))) in
    record {
      stands = record {
        count = stands.count;
        end = stands.end;
        read = behind.shut;
        each = each_now new (Logs q bodies) honest_new (λ c image.
            now_each new old.moment (Logs q bodies) honest_new run.follow.later (images_of_record log bodies n old new honest stands run) c image);
      };
      read = behind;
    }

-- once that is synced, it is on the disk
pub staged_on_disk : (log : LogState) (bodies : List (List ℕ)) (old new : Disk) → IsHonest new → AllAsBefore old new → Only new.files new.may_leave → AreWritten log bodies old → AreOnDisk log bodies new
staged_on_disk log bodies old new honest run only were =
    let q = log.file in
    let behind : HasBehind q bodies log.staged (file_of new.files q) = subst (λ (files : FileSet). HasBehind q bodies log.staged (file_of files q)) (sym run.read) were.read in
    record {
      stands = record {
        count = were.stands.count;
        end = were.stands.end;
        read = behind.shut;
        each = each_only (Logs q bodies) new honest only behind.shut;
      };
      read = behind;
      each = each_only (λ files. HasBehind q bodies log.staged (file_of files q)) new honest only behind;
    }

-- while the gate is written, each image is the log before or with all
pub images_of_opening : (log : LogState) (bodies : List (List ℕ)) (old new : Disk) → IsHonest old → AreOnDisk log bodies old → RunBy (TornIn log.file log.end 1) old new → EachImage new old.moment (LogsBeforeOrWithAll log.file bodies log.staged)
images_of_opening log bodies old new honest are run = record {
  has = λ c left.
      let from = run.images c left in
      let torn = subst (λ end. TornIn log.file end 1 from.0 c) are.stands.end from.2 in
      let behind = now_each old old.moment (λ files. HasBehind log.file bodies log.staged (file_of files log.file)) honest (omega arith) are.each from.0 from.1 in
      behind_torn_gate log.file bodies log.staged (file_of from.0 log.file) (file_of c log.file) behind torn.torn;
}

-- once it is written, a read gives the log of all
pub gate_opened : (log : LogState) (bodies : List (List ℕ)) (old new : Disk) → IsHonest old → IsHonest new → log.file < 9 → AreOnDisk log bodies old → RunBy (TornIn log.file log.end 1) old new
    → new.files ≡ put old.files log.file log.end (1 ∷ []) → IsOpened log bodies new
gate_opened log bodies old new honest honest_new below are run is =
    let q = log.file in
    let P = LogsBeforeOrWithAll q bodies log.staged in
    let at_end : new.files ≡ put old.files q (end_of bodies) (1 ∷ []) = subst (λ end. new.files ≡ put old.files q end (1 ∷ [])) are.stands.end is in
    let file : file_of new.files q ≡ written (file_of old.files q) (end_of bodies) (1 ∷ []) =
    ap (λ (files : FileSet). file_of files q) at_end ∙ file_of_put old.files q (end_of bodies) (1 ∷ []) (omega (arith, nine_files old honest)) in
    record {
      before = (are.stands.count, are.stands.end);
      read = subst (IsLog q (bodies ++ log.staged)) (sym file) (are.read.opens 1 (omega arith));
      each = each_now new P honest_new (λ c image. now_each new old.moment P honest_new run.follow.later (images_of_opening log bodies old new honest are run) c image);
    }

-- once that is synced, the log stands for all
pub staged_stands : (log : LogState) (bodies : List (List ℕ)) (old new : Disk) → IsHonest new → AllAsBefore old new → Only new.files new.may_leave → IsOpened log bodies old → StandsFor (with_staged log) (bodies ++ log.staged) new
staged_stands log bodies old new honest run only is =
    let logs : Logs log.file (bodies ++ log.staged) new.files = subst (Logs log.file (bodies ++ log.staged)) (sym run.read) is.read in
    record {
      count = omega (arith, is.before.0, length-append bodies log.staged);
      end = omega (arith, is.before.1, records_size-append bodies log.staged);
      read = logs;
      each = each_only (Logs log.file (bodies ++ log.staged)) new honest only logs;
    }

-- over a run that leaves all but file k as it was, each image of another file has what each had,
pub each_file_over : (k q : ℕ) (P : List ℕ → Type 0) (old new : Disk) → IsHonest old → q ≢ k → OthersAsBefore k old new → EachImage old old.moment (λ files. P (file_of files q)) → EachImage new old.moment (λ files. P (file_of files q))
each_file_over k q P old new honest other run each = record {
  has = λ c left.
      let from = run.images c left in
      subst P (sym (from.2.others q other)) (now_each old old.moment (λ files. P (file_of files q)) honest (omega arith) each from.0 from.1);
}

-- and has it from then on
pub each_file_still : (k q : ℕ) (P : List ℕ → Type 0) (old new : Disk) → IsHonest old → IsHonest new → q ≢ k → OthersAsBefore k old new → EachImage old old.moment (λ files. P (file_of files q)) → EachImage new new.moment (λ files. P (file_of files q))
each_file_still k q P old new honest honest_new other run each =
    each_later new old.moment new.moment (λ files. P (file_of files q)) honest_new run.follow.later (each_file_over k q P old new honest other run each)

-- so what is written into a log stays so while calls change another file,
pub written_still : (k : ℕ) (log : LogState) (bodies : List (List ℕ)) (old new : Disk) → IsHonest old → IsHonest new → log.file ≢ k → OthersAsBefore k old new → AreWritten log bodies old → AreWritten log bodies new
written_still k log bodies old new honest honest_new other run were = record {
  stands = stands_still k log bodies old new honest honest_new other run were.stands;
  read = subst (HasBehind log.file bodies log.staged) (sym (run.read.others log.file other)) were.read;
}

-- and what is on the disk behind its gate,
pub on_disk_still : (k : ℕ) (log : LogState) (bodies : List (List ℕ)) (old new : Disk) → IsHonest old → IsHonest new → log.file ≢ k → OthersAsBefore k old new → AreOnDisk log bodies old → AreOnDisk log bodies new
on_disk_still k log bodies old new honest honest_new other run are = record {
  stands = stands_still k log bodies old new honest honest_new other run are.stands;
  read = subst (HasBehind log.file bodies log.staged) (sym (run.read.others log.file other)) are.read;
  each = each_file_still k log.file (HasBehind log.file bodies log.staged) old new honest honest_new other run are.each;
}

-- and an opened gate
pub opened_still : (k : ℕ) (log : LogState) (bodies : List (List ℕ)) (old new : Disk) → IsHonest old → IsHonest new → log.file ≢ k → OthersAsBefore k old new → IsOpened log bodies old → IsOpened log bodies new
opened_still k log bodies old new honest honest_new other run is = record {
  before = is.before;
  read = subst (IsLog log.file (bodies ++ log.staged)) (sym (run.read.others log.file other)) is.read;
  each = each_file_still k log.file (λ file. IsLog log.file bodies file ⊎ IsLog log.file (bodies ++ log.staged) file) old new honest honest_new other run is.each;
}
