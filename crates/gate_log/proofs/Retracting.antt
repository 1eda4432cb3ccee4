-- What closing the gate of the first of its last records makes of a log.
use Rattle.std.proofs.Common.{◌≡◌, ◌≢◌, ◌⊎◌, ℕ, ◌+◌, ◌-◌, ◌<◌, ◌≤◌, max, List, [], ◌∷◌, ◌++◌, length, refl, sym, ◌∙◌, ap, subst, arith, append_assoc, length-append}
use Rattle.process_disk.specs.Disk.{Disk, IsHonest, Torn, TornIn, Only, file_of, put, written}
use Rattle.process_disk.specs.Images.{EachImage, RunBy}
use Rattle.process_disk.proofs.Images.{each_now}
use Rattle.gate_log.specs.LogFile.{AreRecords, IsLog, header, end_of, records_size}
use Rattle.gate_log.specs.Standing.{LogState, Logs, StandsFor, without}
use Rattle.gate_log.specs.Staging.{LogsBeforeOrWithAll}
use Rattle.gate_log.proofs.Logs.{length-before, records_size-append}
use Rattle.gate_log.proofs.Crash.{Round, front, back, written_at}
use Rattle.gate_log.proofs.Staging.{behind_log, behind_torn_gate}
use Rattle.gate_log.proofs.Appending.{nine_files, file_of_put, image_is_log}

-- records, taken apart before the first of the last ones and behind its gate
record Apart (bodies last : List (List ℕ)) (opened : List ℕ) : Type 0 where
  before : List ℕ
  gate : ℕ
  tail : List ℕ
  records : AreRecords bodies before
  behind : (gate : ℕ) → 0 < gate → AreRecords last (gate ∷ tail)
  is : opened ≡ before ++ gate ∷ tail

apart : (bodies last : List (List ℕ)) (opened : List ℕ) → last ≢ [] → AreRecords (bodies ++ last) opened → Apart bodies last opened
apart [] [] opened some are = absurd (some refl)
apart [] (body ∷ last) opened some (gate, low, high, rest, is_open, size, is, more) = record {
  before = [];
  gate = gate;
  tail = low ∷ high ∷ body ++ rest;
  records = refl;
  behind = λ other opens. (other, low, high, rest, opens, size, refl, more);
  is = is;
}
apart (first ∷ bodies) last opened some (g, l, h, rest, is_open, size, is, more) =
    let parts = apart bodies last rest some more in
    record {
      before = g ∷ l ∷ h ∷ first ++ parts.before;
      gate = parts.gate;
      tail = parts.tail;
      records = (g, l, h, parts.before, is_open, size, refl, parts.records);
      behind = parts.behind;
      is = is ∙ ap (λ (r : List ℕ). g ∷ l ∷ h ∷ first ++ r) parts.is ∙ sym (append_assoc (g ∷ l ∷ h ∷ first) parts.before (parts.gate ∷ parts.tail));
    }

regroup : (head before behind rest : List ℕ) → head ++ (before ++ behind) ++ rest ≡ (head ++ before) ++ (behind ++ rest)
regroup head before behind rest = simp append_assoc

-- the gate of the first of a log's last records
first_gate : (q : ℕ) (bodies last : List (List ℕ)) (file : List ℕ) (log : IsLog q (bodies ++ last) file) (parts : Apart bodies last log.opened)
    → Round (end_of bodies) (header log.version q ++ parts.before) parts.gate (parts.tail ++ 0 ∷ log.free) file
first_gate q bodies last file log parts = record {
  length_is = length-before log.version q bodies parts.before parts.records;
  is = log.is ∙ ap (λ (o : List ℕ). header log.version q ++ o ++ 0 ∷ log.free) parts.is ∙ regroup (header log.version q) parts.before (parts.gate ∷ parts.tail) (0 ∷ log.free);
}

-- whatever stands in its place, it is the log without the last records or with all of them
pub log_torn_first : (q : ℕ) (bodies last : List (List ℕ)) (file c : List ℕ) → last ≢ [] → IsLog q (bodies ++ last) file → Torn (end_of bodies) 1 file c → IsLog q bodies c ⊎ IsLog q (bodies ++ last) c
log_torn_first q bodies last file c some log torn =
    let parts = apart bodies last log.opened some log.records in
    let end = end_of bodies in
    let before = header log.version q ++ parts.before in
    let after = parts.tail ++ 0 ∷ log.free in
    let round = first_gate q bodies last file log parts in
    let shut = before ++ 0 ∷ after in
    let shut_round : Round end before 0 after shut = record { length_is = round.length_is; is = refl } in
    let size : length shut ≡ length file = omega (arith, ap length round.is, length-append before (0 ∷ after), length-append before (parts.gate ∷ after)) in
    let same : Torn end 1 shut c = record {
      before = torn.before ∙ front end before parts.gate after file round ∙ sym (front end before 0 after shut shut_round);
      after = torn.after ∙ back end before parts.gate after file round ∙ sym (back end before 0 after shut shut_round);
      no_shorter = omega (arith, torn.no_shorter, size);
      no_longer = subst (λ n. length c ≤ max n (end + 1)) (sym size) torn.no_longer;
    } in
    behind_torn_gate q bodies last shut c (behind_log log.version q log.known bodies last parts.before parts.tail log.free shut (omega (arith, log.few, length-append bodies last)) parts.records parts.behind refl) same

-- once it is closed it is the log without them
pub log_retracted : (q : ℕ) (bodies last : List (List ℕ)) (file : List ℕ) → last ≢ [] → IsLog q (bodies ++ last) file → IsLog q bodies (written file (end_of bodies) (0 ∷ []))
log_retracted q bodies last file some log =
    let parts = apart bodies last log.opened some log.records in
    let end = end_of bodies in
    let before = header log.version q ++ parts.before in
    let after = parts.tail ++ 0 ∷ log.free in
    let round = first_gate q bodies last file log parts in
    record {
      few = omega (arith, log.few, length-append bodies last);
      version = log.version;
      known = log.known;
      opened = parts.before;
      records = parts.records;
      free = after;
      is = written_at end before parts.gate after file (0 ∷ []) round ∙ ap (λ (l : List ℕ). before ++ (0 ∷ []) ++ l) (back end before parts.gate after file round) ∙ append_assoc before (0 ∷ []) after;
    }

-- where that gate stands
pub gate_place : (log : LogState) (bodies last : List (List ℕ)) (disk : Disk) (size : ℕ) → records_size last ≡ size → StandsFor log (bodies ++ last) disk → log.end - size ≡ end_of bodies
gate_place log bodies last disk size is stands = omega (arith, stands.end, records_size-append bodies last, is)

-- some records are those of some bodies
pub some_of : (last : List (List ℕ)) (number : ℕ) → length last ≡ number → 1 ≤ number → last ≢ []
some_of last number is some = λ none. omega (arith, is, some, ap length none)

-- while the gate is written, each image is the log without or with the last records
pub images_of_retract : (log : LogState) (bodies last : List (List ℕ)) (at : ℕ) (old new : Disk) → IsHonest old → last ≢ [] → at ≡ end_of bodies → StandsFor log (bodies ++ last) old → RunBy (TornIn log.file at 1) old new
    → EachImage new old.moment (LogsBeforeOrWithAll log.file bodies last)
images_of_retract log bodies last at old new honest some place stands run = record {
  has = λ c left.
      let from = run.images c left in
      let torn = subst (λ a. TornIn log.file a 1 from.0 c) place from.2 in
      log_torn_first log.file bodies last (file_of from.0 log.file) (file_of c log.file) some (image_is_log log (bodies ++ last) old honest stands from.0 from.1) torn.torn;
}

-- once it is closed, the log stands for the list without them
pub last_retracted : (log : LogState) (bodies last : List (List ℕ)) (number size : ℕ) (old new : Disk) → IsHonest old → IsHonest new → log.file < 9 → last ≢ [] → length last ≡ number → records_size last ≡ size → StandsFor log (bodies ++ last) old
    → new.files ≡ put old.files log.file (log.end - size) (0 ∷ []) → Only new.files new.may_leave → StandsFor (without number size log) bodies new
last_retracted log bodies last number size old new honest honest_new below some number_is size_is stands is only =
    let q = log.file in
    let place = gate_place log bodies last old size size_is stands in
    let shut : new.files ≡ put old.files q (end_of bodies) (0 ∷ []) = subst (λ a. new.files ≡ put old.files q a (0 ∷ [])) place is in
    let file : file_of new.files q ≡ written (file_of old.files q) (end_of bodies) (0 ∷ []) =
    ap (λ files. file_of files q) shut ∙ file_of_put old.files q (end_of bodies) (0 ∷ []) (omega (arith, nine_files old honest)) in
    let logs : Logs q bodies new.files = subst (IsLog q bodies) (sym file) (log_retracted q bodies last (file_of old.files q) some stands.read) in
    record {
      count = omega (arith, stands.count, length-append bodies last, number_is);
      end = place;
      read = logs;
      each = each_now new (Logs q bodies) honest_new (λ c image. subst (Logs q bodies) (sym (only.only c image)) logs);
    }
