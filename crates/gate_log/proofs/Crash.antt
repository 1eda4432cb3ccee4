-- What the two writes of an append leave of a log's file.
use Rattle.std.proofs.Common.{◌≡◌, ℕ, ◌+◌, ◌*◌, ◌≤◌, ◌%◌, ◌/◌, List, [], ◌∷◌, ◌++◌, length, take, drop, refl, sym, ◌∙◌, ap, arith, append_assoc, length-append, take-append-drop}
use Rattle.std.proofs.lemmas.List.{take_at, drop_at}
use Rattle.process_disk.specs.Disk.{Torn, written}
use Rattle.gate_log.specs.LogFile.{IsLog, IsVersion, header, end_of, most_records}
use Rattle.gate_log.proofs.Logs.{length-before}

-- the parts of a list round one place
pub record Round (at : ℕ) (before : List ℕ) (x : ℕ) (after list : List ℕ) : Type 0 where
  pub length_is : length before ≡ at
  pub is : list ≡ before ++ x ∷ after

pub front : (at : ℕ) (before : List ℕ) (x : ℕ) (after list : List ℕ) → Round at before x after list → take at list ≡ before
front at before x after list round = ap (take at) round.is ∙ take_at before (x ∷ after) at round.length_is

split_one : (before : List ℕ) (x : ℕ) (after : List ℕ) → before ++ x ∷ after ≡ (before ++ x ∷ []) ++ after
split_one before x after = sym (append_assoc before (x ∷ []) after)

pub through : (at : ℕ) (before : List ℕ) (x : ℕ) (after list : List ℕ) → Round at before x after list → take (at + 1) list ≡ before ++ x ∷ []
through at before x after list round =
    ap (take (at + 1)) (round.is ∙ split_one before x after)
    ∙ take_at (before ++ x ∷ []) after (at + 1) (omega (arith, round.length_is, length-append before (x ∷ [])))

pub back : (at : ℕ) (before : List ℕ) (x : ℕ) (after list : List ℕ) → Round at before x after list → drop (at + 1) list ≡ after
back at before x after list round =
    ap (drop (at + 1)) (round.is ∙ split_one before x after)
    ∙ drop_at (before ++ x ∷ []) after (at + 1) (omega (arith, round.length_is, length-append before (x ∷ [])))

-- a log's closed gate
pub gate_of : (q : ℕ) (bodies : List (List ℕ)) (file : List ℕ) (log : IsLog q bodies file) → Round (end_of bodies) (header log.version q ++ log.opened) 0 log.free file
gate_of q bodies file log = record { length_is = length-before log.version q bodies log.opened log.records; is = log.is }

-- a write behind the closed gate leaves the log
pub log_torn_behind : (q : ℕ) (bodies : List (List ℕ)) (n : ℕ) (file c : List ℕ) → IsLog q bodies file → Torn (end_of bodies + 1) n file c → IsLog q bodies c
log_torn_behind q bodies n file c log torn =
    let before = header log.version q ++ log.opened in
    let end = end_of bodies in
    let same : take (end + 1) c ≡ before ++ 0 ∷ [] = torn.before ∙ through end before 0 log.free file (gate_of q bodies file log) in
    record {
      few = log.few;
      version = log.version;
      known = log.known;
      opened = log.opened;
      records = log.records;
      free = drop (end + 1) c;
      is = sym (take-append-drop (end + 1) c) ∙ ap (λ (l : List ℕ). l ++ drop (end + 1) c) same ∙ append_assoc before (0 ∷ []) (drop (end + 1) c);
    }

-- a length's two bytes are its length
pub two_bytes : (n : ℕ) → n % 256 + 256 * (n / 256) ≡ n
two_bytes n = omega arith

-- the parts of a write at a place that such a list has
pub written_at : (at : ℕ) (before : List ℕ) (x : ℕ) (after list bytes : List ℕ) → Round at before x after list → written list at bytes ≡ before ++ bytes ++ drop (at + length bytes) list
written_at at before x after list bytes round = ap (λ (l : List ℕ). l ++ bytes ++ drop (at + length bytes) list) (front at before x after list round)

-- an empty log in an empty place
pub log_of_none : (version q : ℕ) (rest : List ℕ) → IsVersion version → IsLog q [] (header version q ++ 0 ∷ rest)
log_of_none version q rest known = record { few = most_is; version = version; known = known; opened = []; records = refl; free = rest; is = refl }
  where
    most_is : 0 ≤ most_records
    most_is = omega arith
