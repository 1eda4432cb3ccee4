-- What the writes of an append make of a disk.
use Rattle.std.proofs.Common.{◌≡◌, ℕ, ◌+◌, ◌<◌, ◌≤◌, List, [], ◌∷◌, ◌++◌, length, drop, Ok, sym, ◌∙◌, ap, subst, arith, length-append}
use Rattle.std.proofs.lemmas.List.{get_or-set_same}
use Rattle.process_disk.specs.Disk.{FileSet, Disk, IsHonest, TornIn, Only, file_of, put, written}
use Rattle.process_disk.specs.Images.{EachImage, RunBy, AllAsBefore}
use Rattle.process_disk.proofs.Images.{counts_now, each_now, now_each}
use Rattle.gate_log.specs.LogFile.{IsLog, IsVersion, header, end_of, read_log}
use Rattle.gate_log.specs.Standing.{LogState, Logs, StandsFor}
use Rattle.gate_log.proofs.Logs.{length-before}
use Rattle.gate_log.proofs.Reading.{logs_are_read}
use Rattle.gate_log.proofs.Crash.{log_torn_behind, log_of_none}

-- there are nine files
pub nine_files : (disk : Disk) → IsHonest disk → length disk.files ≡ 9
nine_files disk honest = honest.nine disk.moment disk.files (honest.now disk.files honest.read)

-- what a write makes of its file
pub file_of_put : (files : FileSet) (q at : ℕ) (bytes : List ℕ) → q < length files → file_of (put files q at bytes) q ≡ written (file_of files q) at bytes
file_of_put files q at bytes there = get_or-set_same files q (written (file_of files q) at bytes) [] there

-- the closed gate stands within the file
pub gate_within : (q : ℕ) (bodies : List (List ℕ)) (file : List ℕ) → IsLog q bodies file → end_of bodies + 1 ≤ length file
gate_within q bodies file log =
    omega (arith, ap length log.is, length-before log.version q bodies log.opened log.records, length-append log.opened (0 ∷ log.free))

-- each image now is the log
pub image_is_log : (log : LogState) (bodies : List (List ℕ)) (disk : Disk) → IsHonest disk → StandsFor log bodies disk → (d : FileSet) → disk.may_leave d → Logs log.file bodies d
image_is_log log bodies disk honest stands d image = now_each disk disk.moment (Logs log.file bodies) honest (omega arith) stands.each d image

-- while the record is written, each image is the log
pub images_of_record : (log : LogState) (bodies : List (List ℕ)) (n : ℕ) (old mid : Disk) → IsHonest old → StandsFor log bodies old → RunBy (TornIn log.file (log.end + 1) n) old mid
    → EachImage mid old.moment (Logs log.file bodies)
images_of_record log bodies n old mid honest stands run = record {
  has = λ c left.
      let from = run.images c left in
      let torn = subst (λ end. TornIn log.file (end + 1) n from.0 c) stands.end from.2 in
      log_torn_behind log.file bodies n (file_of from.0 log.file) (file_of c log.file) (image_is_log log bodies old honest stands from.0 from.1) torn.torn;
}

-- what is written into an empty file stands for no bodies
pub log_created : (log : LogState) (version q : ℕ) → IsVersion version → (bytes : List ℕ) (old new : Disk) → IsHonest old → IsHonest new → q < 9 → bytes ≡ header version q ++ 0 ∷ [] → new.files ≡ put old.files q 0 bytes → Only new.files new.may_leave
    → log.file ≡ q → log.count ≡ 0 → log.end ≡ 8 → StandsFor log [] new
log_created log version q known bytes old new honest_old honest below of_header is only file_is none at_end =
    let first = subst (λ bs. new.files ≡ put old.files q 0 bs) of_header is in
    let file : file_of new.files q ≡ header version q ++ 0 ∷ drop 9 (file_of old.files q) =
    ap (λ files. file_of files q) first ∙ file_of_put old.files q 0 (header version q ++ 0 ∷ []) (omega (arith, nine_files old honest_old)) in
    let logs : Logs q [] new.files = subst (IsLog q []) (sym file) (log_of_none version q (drop 9 (file_of old.files q)) known) in
    let logs_of : Logs log.file [] new.files = subst (λ k. Logs k [] new.files) (sym file_is) logs in
    record {
      count = none;
      end = at_end;
      read = logs_of;
      each = each_now new (Logs log.file []) honest (λ c image. subst (Logs log.file []) (sym (only.only c image)) logs_of);
    }

-- what is read from a file that is on the disk stands for the list that was read
pub log_opened : (log : LogState) (q : ℕ) (file : List ℕ) (bodies : List (List ℕ)) (synced new : Disk) → IsHonest new → file ≡ file_of synced.files q → read_log q file ≡ Ok bodies
    → Only synced.files synced.may_leave → AllAsBefore synced new → log.file ≡ q → log.count ≡ length bodies → log.end ≡ end_of bodies → StandsFor log bodies new
log_opened log q file bodies synced new honest of_file read only run file_is count end =
    let in_synced : Logs q bodies synced.files = subst (IsLog q bodies) of_file ((logs_are_read q bodies file).1 read) in
    let logs : Logs log.file bodies synced.files = subst (λ k. Logs k bodies synced.files) (sym file_is) in_synced in
    record {
      count = count;
      end = end;
      read = subst (Logs log.file bodies) (sym run.read) logs;
      each = each_now new (Logs log.file bodies) honest (λ c image.
          let from = run.images c (counts_now new honest synced.moment c run.follow.later image) in
          let same : c ≡ synced.files = from.2 ∙ only.only from.0 from.1 in
          subst (Logs log.file bodies) (sym same) logs);
    }
