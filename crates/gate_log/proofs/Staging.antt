-- What several bodies at once make of a log's file.
use Rattle.std.proofs.Common.{◌≡◌, ◌≢◌, ◌⊎◌, inl, inr, ℕ, ◌+◌, ◌%◌, ◌/◌, ◌<◌, ◌≤◌, List, [], ◌∷◌, ◌++◌, length, take, drop, get_or, refl, sym, ◌∙◌, ap, subst, arith, append_assoc, length-append, take-append-drop}
use Rattle.std.specs.List.{flat_map}
use Rattle.std.proofs.lemmas.List.{drop_more, length-take-le}
use Rattle.std.proofs.lemmas.Bool.{cases_eq}
use Rattle.process_disk.specs.Disk.{Torn, written}
use Rattle.gate_log.specs.LogFile.{AreRecords, IsLog, IsVersion, header, framed, end_of, records_size, most_records}
use Rattle.gate_log.specs.Staging.{plain_records, bodies_or_none, staged_in, HasBehind}
use Rattle.gate_log.proofs.Logs.{length-records, length-before}
use Rattle.gate_log.proofs.Reading.{records_read}
use Rattle.gate_log.proofs.Crash.{Round, back, through, gate_of, written_at, two_bytes}

-- the records of these bodies as a log writes them
abbrev pub plain : List (List ℕ) → List ℕ
plain bodies = flat_map (λ (body : List ℕ). 1 ∷ framed body) bodies

-- they are records,
pub plain_are_records : (bodies : List (List ℕ)) → AreRecords bodies (plain bodies)
plain_are_records [] = refl
plain_are_records (body ∷ bodies) = (1, length body % 256, length body / 256, plain bodies, omega arith, two_bytes (length body), refl, plain_are_records bodies)

-- and so they are behind any open gate
pub records_behind : (gate : ℕ) (body : List ℕ) (bodies : List (List ℕ)) → 0 < gate → AreRecords (body ∷ bodies) (gate ∷ framed body ++ plain bodies)
records_behind gate body bodies is_open = (gate, length body % 256, length body / 256, plain bodies, is_open, two_bytes (length body), refl, plain_are_records bodies)

-- records and more records
pub records-append : (bodies more : List (List ℕ)) (opened behind : List ℕ) → AreRecords bodies opened → AreRecords more behind → AreRecords (bodies ++ more) (opened ++ behind)
records-append [] more opened behind are rest = subst (λ (o : List ℕ). AreRecords more (o ++ behind)) (sym are) rest
records-append (body ∷ bodies) more opened behind (gate, low, high, tail, is_open, size, is, next) rest =
    (gate, low, high, tail ++ behind, is_open, size, ap (λ (o : List ℕ). o ++ behind) is ∙ append_assoc (gate ∷ low ∷ high ∷ body) tail behind, records-append bodies more tail behind next rest)

-- how many bytes they are, with the closed gate behind them
pub plain_size : (bodies : List (List ℕ)) → length (plain_records bodies) ≡ records_size bodies + 1
plain_size bodies = length-append (plain bodies) (0 ∷ []) ∙ ap (λ n. n + 1) (length-records bodies (plain bodies) (plain_are_records bodies))

-- and how many bytes their records are where they stand at the front of a buffer
pub size_of : (bodies : List (List ℕ)) (n : ℕ) (bytes : List ℕ) → length bytes ≡ 65539 → n ≤ 65538 → take (n + 1) bytes ≡ plain_records bodies → n ≡ records_size bodies
size_of bodies n bytes long room are = omega (arith, sym (length-take-le (n + 1) bytes (omega (arith, long, room))) ∙ ap length are ∙ plain_size bodies)

-- there are no more bodies than bytes
pub fewer : (bodies : List (List ℕ)) → length bodies ≤ records_size bodies
fewer [] = omega arith
fewer (body ∷ bodies) = omega (arith, fewer bodies)

-- the bodies are read from their records
pub staged_is : (bodies : List (List ℕ)) → staged_in (plain_records bodies) ≡ bodies
staged_is bodies =
    let few : length bodies ≤ length (plain_records bodies) = omega (arith, fewer bodies, plain_size bodies) in
    ap bodies_or_none (records_read (length (plain_records bodies)) 1 bodies (plain bodies) [] few (plain_are_records bodies))

regroup_shut : (before record' rest : List ℕ) → ((before ++ 0 ∷ []) ++ (record' ++ 0 ∷ [])) ++ rest ≡ before ++ 0 ∷ (record' ++ 0 ∷ rest)
regroup_shut before record' rest = simp append_assoc

regroup_opened : (head opened record' rest : List ℕ) → (head ++ opened) ++ (record' ++ rest) ≡ (head ++ (opened ++ record')) ++ rest
regroup_opened head opened record' rest = simp append_assoc

-- a log with whole records behind its closed gate, of which the first has no gate of its own
pub behind_log : (version q : ℕ) → IsVersion version → (bodies more : List (List ℕ)) (opened tail rest file : List ℕ) → length bodies + length more ≤ most_records → AreRecords bodies opened → ((gate : ℕ) → 0 < gate → AreRecords more (gate ∷ tail))
    → file ≡ (header version q ++ opened) ++ 0 ∷ (tail ++ 0 ∷ rest) → HasBehind q bodies more file
behind_log version q known bodies more opened tail rest file room records behind is =
    let before = header version q ++ opened in
    let after = tail ++ 0 ∷ rest in
    let end = end_of bodies in
    let round : Round end before 0 after file = record { length_is = length-before version q bodies opened records; is = is } in
    record {
      shut = record { few = omega (arith, room); version = version; known = known; opened = opened; records = records; free = after; is = is };
      opens = λ gate is_open. record {
        few = omega (arith, room, length-append bodies more);
        version = version;
        known = known;
        opened = opened ++ gate ∷ tail;
        records = records-append bodies more opened (gate ∷ tail) records (behind gate is_open);
        free = rest;
        is = written_at end before 0 after file (gate ∷ []) round
            ∙ ap (λ (l : List ℕ). before ++ (gate ∷ []) ++ l) (back end before 0 after file round)
            ∙ append_assoc before (gate ∷ []) after
            ∙ regroup_opened (header version q) opened (gate ∷ tail) (0 ∷ rest);
      };
    }

-- what is written behind a log's closed gate stands there
pub behind_by_write : (q : ℕ) (bodies : List (List ℕ)) (more : List (List ℕ)) (file : List ℕ) → more ≢ [] → IsLog q bodies file → length bodies + length more ≤ most_records
    → HasBehind q bodies more (written file (end_of bodies + 1) (drop 1 (plain_records more)))
behind_by_write q bodies [] file some log room = absurd (some refl)
behind_by_write q bodies (body ∷ more) file some log room =
    let tail = framed body ++ plain more in
    let before = header log.version q ++ log.opened in
    let end = end_of bodies in
    let bytes = tail ++ 0 ∷ [] in
    let rest = drop (end + 1 + length bytes) file in
    let is : written file (end + 1) bytes ≡ before ++ 0 ∷ (tail ++ 0 ∷ rest) = ap (λ (l : List ℕ). l ++ bytes ++ rest) (through end before 0 log.free file (gate_of q bodies file log)) ∙ regroup_shut before tail rest in
    behind_log log.version q log.known bodies (body ∷ more) log.opened tail rest (written file (end + 1) bytes) room log.records (λ gate is_open. records_behind gate body more is_open) is

-- a closed gate written over a closed gate changes nothing
shut_again : (q : ℕ) (bodies : List (List ℕ)) (file : List ℕ) → IsLog q bodies file → written file (end_of bodies) (0 ∷ []) ≡ file
shut_again q bodies file log =
    let before = header log.version q ++ log.opened in
    let end = end_of bodies in
    let round = gate_of q bodies file log in
    written_at end before 0 log.free file (0 ∷ []) round
    ∙ ap (λ (l : List ℕ). before ++ (0 ∷ []) ++ l) (back end before 0 log.free file round)
    ∙ append_assoc before (0 ∷ []) log.free
    ∙ sym round.is

-- a file torn at the gate alone has some byte written there
torn_is_written : (end : ℕ) (file c : List ℕ) → end < length file → Torn end 1 file c → c ≡ written file end (get_or c end 0 ∷ [])
torn_is_written end file c within torn =
    let gate = get_or c end 0 in
    let rest : drop end c ≡ gate ∷ drop (end + 1) file = drop_more c end 0 (omega (arith, torn.no_shorter)) ∙ ap (λ (l : List ℕ). gate ∷ l) torn.after in
    sym (take-append-drop end c) ∙ ap (λ (l : List ℕ). l ++ drop end c) torn.before ∙ ap (λ (l : List ℕ). take end file ++ l) rest ∙ sym (append_assoc (take end file) (gate ∷ []) (drop (end + 1) file))

-- whatever stands in the gate's place, it is the log before or with all that stands behind
pub behind_torn_gate : (q : ℕ) (bodies more : List (List ℕ)) (file c : List ℕ) → HasBehind q bodies more file → Torn (end_of bodies) 1 file c → IsLog q bodies c ⊎ IsLog q (bodies ++ more) c
behind_torn_gate q bodies more file c behind torn =
    let end = end_of bodies in
    let round = gate_of q bodies file behind.shut in
    let within : end < length file = omega (arith, ap length round.is, round.length_is, length-append (header behind.shut.version q ++ behind.shut.opened) (0 ∷ behind.shut.free)) in
    let is = torn_is_written end file c within torn in
    let gate = get_or c end 0 in
    elim (cases_eq gate 0) [
      | inl shut ↦ inl (subst (IsLog q bodies) (sym (is ∙ ap (λ (g : ℕ). written file end (g ∷ [])) shut ∙ shut_again q bodies file behind.shut)) behind.shut)
      | inr is_open ↦ inr (subst (IsLog q (bodies ++ more)) (sym is) (behind.opens gate (omega arith)))
    ]
