-- A log's list is what is read from its file.
use Rattle.std.specs.Prelude.{if◌then◌else◌, ◌||◌, nat_le, nat_eq, ◌==◌}
use Rattle.std.specs.List.{starts_with}
use Rattle.std.specs.Cmp.Lexicographic.{same_text, other_text}
use Rattle.std.proofs.Common.{◌≡◌, ◌≢◌, ◌⊎◌, inl, inr, ⊎_elim, ℕ, zero, suc, ◌+◌, ◌-◌, ◌*◌, ◌<◌, ◌≤◌, List, [], ◌∷◌, ◌++◌, length, take, drop, Bool, true, false, Option, Some, None, Result, Ok, Err, refl, sym, ◌∙◌, ap, subst, arith, append_assoc, length-append, take-append-drop}
use Rattle.std.proofs.lemmas.List.{append-nil, take_at, drop_at, length-take-le}
use Rattle.std.proofs.lemmas.Bool.{cases_eq, leb-true, le-leb}
use Rattle.std.proofs.lemmas.Bool.Decides.{nat_tests}
use Rattle.gate_log.specs.LogFile.{AreRecords, IsLog, IsVersion, header, has_header, most_records, after_header, first_body, first_record, is_closed, with_body, none_more, bodies_on, bodies_in, bodies_after, read_log}
use Rattle.gate_log.specs.Laws.{LogsAreRead, OneListAtMost}
use Rattle.gate_log.specs.declared.errors.LogError.{LogError}
use Rattle.gate_log.specs.declared.errors.LogError.TheVariants.{BadRecord}

-- the bodies read so far, in front of those behind
abbrev pub behind : List (List ℕ) → Result (List (List ℕ)) LogError → Result (List (List ℕ)) LogError
behind bodies (Ok more) = Ok (bodies ++ more)
behind bodies (Err e) = Err e

-- the test of a gate
gate_open : (gate : ℕ) → gate ≢ 0 → (gate == 0) ≡ false
gate_open gate is_open = grind (arith, nat_tests)

-- the first record: its bytes, round its body
pub record FirstRecord (bytes body after : List ℕ) : Type 0 where
  pub gate : ℕ
  pub low : ℕ
  pub high : ℕ
  pub is_open : 0 < gate
  pub size : low + 256 * high ≡ length body
  pub is : bytes ≡ gate ∷ low ∷ high ∷ body ++ after

-- so many bytes and the rest, if they are there
abbrev taken_if : Bool → ℕ → List ℕ → Option (List ℕ × List ℕ)
taken_if fits size bytes = let parts : List ℕ × List ℕ = (take size bytes, drop size bytes) in if fits then Some parts else None

-- so many bytes are taken where they are there
first_body_is : (size : ℕ) (bytes body after : List ℕ) → first_body size bytes ≡ Some (body, after) → (size ≡ length body) × (bytes ≡ body ++ after)
first_body_is size bytes body after is = by_test (nat_le size (length bytes)) (leb-true size (length bytes)) is
  where
    by_test : (fits : Bool) → (fits ≡ true → size ≤ length bytes) → taken_if fits size bytes ≡ Some (body, after) → (size ≡ length body) × (bytes ≡ body ++ after)
    by_test true fits is =
        let taken : List ℕ × List ℕ = (take size bytes, drop size bytes) in
        let given : List ℕ × List ℕ = (body, after) in
        let same : taken ≡ given = cc in
        let front : take size bytes ≡ body = ap (λ (p : List ℕ × List ℕ). p.0) same in
        let back : drop size bytes ≡ after = ap (λ (p : List ℕ × List ℕ). p.1) same in
        (sym (length-take-le size bytes (fits refl)) ∙ ap length front, sym (take-append-drop size bytes) ∙ ap (λ (l : List ℕ). l ++ drop size bytes) front ∙ ap (λ (l : List ℕ). body ++ l) back)
    by_test false fits is = absurd cc

-- and are, where they are
first_body_read : (body after : List ℕ) → first_body (length body) (body ++ after) ≡ Some (body, after)
first_body_read body after =
    let fits : nat_le (length body) (length (body ++ after)) ≡ true = le-leb (length body) (length (body ++ after)) (omega (arith, length-append body after)) in
    subst (λ b. taken_if b (length body) (body ++ after) ≡ Some (body, after)) (sym fits)
    (rw (take_at body after (length body) refl, drop_at body after (length body) refl) refl)

-- what is read as the first record stands there
pub first_record_is : (bytes body after : List ℕ) → first_record bytes ≡ Some (body, after) → FirstRecord bytes body after
first_record_is [] body after is = absurd cc
first_record_is (gate ∷ []) body after is = absurd cc
first_record_is (gate ∷ low ∷ []) body after is = absurd cc
first_record_is (gate ∷ low ∷ high ∷ rest) body after is = elim (cases_eq gate 0) [
  | inl shut ↦ absurd (let none : None ≡ Some (body, after) = subst (λ g. first_record (g ∷ low ∷ high ∷ rest) ≡ Some (body, after)) shut is in cc)
  | inr is_open ↦
      let found = subst (λ b. (if b then None else first_body (low + 256 * high) rest) ≡ Some (body, after)) (gate_open gate is_open) is in
      let parts = first_body_is (low + 256 * high) rest body after found in
      record { gate = gate; low = low; high = high; is_open = omega arith; size = parts.0; is = ap (λ (l : List ℕ). gate ∷ low ∷ high ∷ l) parts.1 }
]

-- and what stands there is read
pub first_record_read : (bytes body after : List ℕ) → FirstRecord bytes body after → first_record bytes ≡ Some (body, after)
first_record_read bytes body after first =
    let read : first_body (first.low + 256 * first.high) (body ++ after) ≡ Some (body, after) = subst (λ n. first_body n (body ++ after) ≡ Some (body, after)) (sym first.size) (first_body_read body after) in
    ap first_record first.is
    ∙ subst (λ b. (if b then None else first_body (first.low + 256 * first.high) (body ++ after)) ≡ Some (body, after)) (sym (gate_open first.gate (omega arith))) read

-- where no more is read, a closed gate stands
none_more_is : (n : ℕ) (bytes : List ℕ) (bodies : List (List ℕ)) → none_more n bytes ≡ Ok bodies → (bodies ≡ []) × ((free : List ℕ) × (bytes ≡ 0 ∷ free))
none_more_is n [] bodies is = absurd cc
none_more_is n (gate ∷ rest) bodies is = elim (cases_eq gate 0) [
  | inl shut ↦
      let none : Ok [] ≡ Ok bodies = subst (λ g. none_more n (g ∷ rest) ≡ Ok bodies) shut is in
      (cc, (rest, ap (λ g. g ∷ rest) shut))
  | inr is_open ↦ absurd (let bad : Err (BadRecord n) ≡ Ok bodies = subst (λ b. (if b then Ok [] else Err (BadRecord n)) ≡ Ok bodies) (gate_open gate is_open) is in cc)
]

-- the records that were read, and what follows them
pub record AreRead (room : ℕ) (bodies : List (List ℕ)) (bytes : List ℕ) : Type 0 where
  pub few : length bodies ≤ room
  pub opened : List ℕ
  pub records : AreRecords bodies opened
  pub free : List ℕ
  pub is : bytes ≡ opened ++ 0 ∷ free

read_none : (room n : ℕ) (bytes : List ℕ) (bodies : List (List ℕ)) → none_more n bytes ≡ Ok bodies → AreRead room bodies bytes
read_none room n bytes bodies is =
    let parts = none_more_is n bytes bodies is in
    record {
      few = omega (arith, ap length parts.0);
      opened = [];
      records = subst (λ bs. AreRecords bs []) (sym parts.0) refl;
      free = parts.1.0;
      is = parts.1.1;
    }

read_first : (room : ℕ) (bytes body after : List ℕ) (more bodies : List (List ℕ)) → FirstRecord bytes body after → AreRead room more after → bodies ≡ body ∷ more → AreRead (suc room) bodies bytes
read_first room bytes body after more bodies first read is = record {
  few = omega (arith, ap length is, read.few);
  opened = first.gate ∷ first.low ∷ first.high ∷ body ++ read.opened;
  records = subst (λ bs. AreRecords bs (first.gate ∷ first.low ∷ first.high ∷ body ++ read.opened)) (sym is) (first.gate, first.low, first.high, read.opened, first.is_open, first.size, refl, read.records);
  free = read.free;
  is = first.is ∙ ap (λ (l : List ℕ). first.gate ∷ first.low ∷ first.high ∷ body ++ l) read.is ∙ sym (append_assoc (first.gate ∷ first.low ∷ first.high ∷ body) read.opened (0 ∷ read.free));
}

-- what holds of the rest holds with the first record in front
read_on : (room n : ℕ) (bytes body after : List ℕ) (rest : Result (List (List ℕ)) LogError) (bodies : List (List ℕ)) → ((more : List (List ℕ)) → rest ≡ Ok more → AreRead room more after)
    → first_record bytes ≡ Some (body, after) → with_body body rest ≡ Ok bodies → AreRead (suc room) bodies bytes
read_on room n bytes body after (Ok more) bodies each found is = read_first room bytes body after more bodies (first_record_is bytes body after found) (each more refl) cc
read_on room n bytes body after (Err e) bodies each found is = absurd cc

read_by_first : (room n : ℕ) (bytes : List ℕ) (bodies : List (List ℕ)) (first : Option (List ℕ × List ℕ)) → ((after : List ℕ) (more : List (List ℕ)) → bodies_in room (n + 1) after ≡ Ok more → AreRead room more after)
    → first_record bytes ≡ first → bodies_on (bodies_in room (n + 1)) n bytes first ≡ Ok bodies → AreRead (suc room) bodies bytes
read_by_first room n bytes bodies None each found is = read_none (suc room) n bytes bodies is
read_by_first room n bytes bodies (Some first) each found is = read_on room n bytes first.0 first.1 (bodies_in room (n + 1) first.1) bodies (each first.1) found is

-- the bodies that are read have their records there
pub bodies_are : (room n : ℕ) (bytes : List ℕ) (bodies : List (List ℕ)) → bodies_in room n bytes ≡ Ok bodies → AreRead room bodies bytes
bodies_are zero n bytes bodies is = read_none zero n bytes bodies is
bodies_are (suc room) n bytes bodies is = read_by_first room n bytes bodies (first_record bytes) (λ after more of_rest. bodies_are room (n + 1) after more of_rest) refl is

-- at a closed gate no more is read
read_at_gate : (room n : ℕ) (free : List ℕ) → bodies_in room n (0 ∷ free) ≡ Ok []
read_at_gate zero n free = refl
read_at_gate (suc room) n [] = refl
read_at_gate (suc room) n (a ∷ []) = refl
read_at_gate (suc room) n (a ∷ b ∷ free) = refl

-- the records that stand there are read
pub records_read : (room n : ℕ) (bodies : List (List ℕ)) (opened free : List ℕ) → length bodies ≤ room → AreRecords bodies opened → bodies_in room n (opened ++ 0 ∷ free) ≡ Ok bodies
records_read room n [] opened free few are = ap (λ (o : List ℕ). bodies_in room n (o ++ 0 ∷ free)) are ∙ read_at_gate room n free
records_read zero n (body ∷ bodies) opened free few are = absurd (omega arith)
records_read (suc room) n (body ∷ bodies) opened free few (gate, low, high, rest, is_open, size, is, more) =
    let whole : opened ++ 0 ∷ free ≡ gate ∷ low ∷ high ∷ body ++ (rest ++ 0 ∷ free) = ap (λ (o : List ℕ). o ++ 0 ∷ free) is ∙ append_assoc (gate ∷ low ∷ high ∷ body) rest (0 ∷ free) in
    let first : first_record (opened ++ 0 ∷ free) ≡ Some (body, rest ++ 0 ∷ free) =
    first_record_read (opened ++ 0 ∷ free) body (rest ++ 0 ∷ free) (record { gate = gate; low = low; high = high; is_open = is_open; size = size; is = whole }) in
    ap (bodies_on (bodies_in room (n + 1)) n (opened ++ 0 ∷ free)) first ∙ ap (with_body body) (records_read room (n + 1) bodies rest free (omega (arith, few)) more)

-- the header at a file's front, and what follows it
record HasHeader (q : ℕ) (file rest : List ℕ) : Type 0 where
  version : ℕ
  known : IsVersion version
  is : file ≡ header version q ++ rest

header_at_front : (version q : ℕ) (file rest : List ℕ) → true ≡ starts_with nat_eq file (header version q) → drop 8 file ≡ rest → file ≡ header version q ++ rest
header_at_front version q file rest same back =
    let front : header version q ≡ take 8 file = same_text (header version q) (take 8 file) same in
    sym (take-append-drop 8 file) ∙ ap (λ (l : List ℕ). l ++ drop 8 file) (sym front) ∙ ap (λ (l : List ℕ). header version q ++ l) back

-- a header that is found stands there
header_is : (q : ℕ) (file rest : List ℕ) → after_header q file ≡ Some rest → HasHeader q file rest
header_is q file rest found = by_tests (starts_with nat_eq file (header 2 q)) (starts_with nat_eq file (header 1 q)) refl refl found
  where
    by_tests : (two one : Bool) → two ≡ starts_with nat_eq file (header 2 q) → one ≡ starts_with nat_eq file (header 1 q) → (if two || one then Some (drop 8 file) else None) ≡ Some rest → HasHeader q file rest
    by_tests true one second first is =
        let back : drop 8 file ≡ rest = cc in
        record { version = 2; known = inr refl; is = header_at_front 2 q file rest second back }
    by_tests false true second first is =
        let back : drop 8 file ≡ rest = cc in
        record { version = 1; known = inl refl; is = header_at_front 1 q file rest first back }
    by_tests false false second first is = absurd cc

begins : (version q : ℕ) (rest : List ℕ) → starts_with nat_eq (header version q ++ rest) (header version q) ≡ true
begins version q rest = by_test (starts_with nat_eq (header version q ++ rest) (header version q)) refl
  where
    by_test : (test : Bool) → test ≡ starts_with nat_eq (header version q ++ rest) (header version q) → starts_with nat_eq (header version q ++ rest) (header version q) ≡ true
    by_test true same = sym same
    by_test false same = absurd (other_text (header version q) (take 8 (header version q ++ rest)) same refl)

one_holds : (one two : Bool) → (one ≡ true) ⊎ (two ≡ true) → (one || two) ≡ true
one_holds true two holds = refl
one_holds false two (inl is) = absurd cc
one_holds false two (inr is) = is

-- and one that stands there is found
header_found : (version q : ℕ) (rest : List ℕ) → IsVersion version → after_header q (header version q ++ rest) ≡ Some rest
header_found version q rest known =
    let file = header version q ++ rest in
    let front : (v : ℕ) → version ≡ v → starts_with nat_eq file (header v q) ≡ true = λ v is. subst (λ n. starts_with nat_eq file (header n q) ≡ true) is (begins version q rest) in
    let there : has_header q file ≡ true = one_holds (starts_with nat_eq file (header 2 q)) (starts_with nat_eq file (header 1 q)) (⊎_elim (λ one. inr (front 1 one)) (λ two. inl (front 2 two)) known) in
    ap (λ (b : Bool). if b then Some (drop 8 file) else None) there

-- a list that is read is the list of the log
log_of_read : (q : ℕ) (file : List ℕ) (bodies : List (List ℕ)) → read_log q file ≡ Ok bodies → IsLog q bodies file
log_of_read q file bodies is = by_header (after_header q file) refl is
  where
    by_header : (after : Option (List ℕ)) → after_header q file ≡ after → bodies_after after ≡ Ok bodies → IsLog q bodies file
    by_header None found is = absurd cc
    by_header (Some rest) found is =
        let read = bodies_are most_records 1 rest bodies is in
        let head = header_is q file rest found in
        record {
          few = read.few;
          version = head.version;
          known = head.known;
          opened = read.opened;
          records = read.records;
          free = read.free;
          is = head.is ∙ ap (λ (l : List ℕ). header head.version q ++ l) read.is ∙ sym (append_assoc (header head.version q) read.opened (0 ∷ read.free));
        }

-- and the list of the log is read
read_of_log : (q : ℕ) (file : List ℕ) (bodies : List (List ℕ)) → IsLog q bodies file → read_log q file ≡ Ok bodies
read_of_log q file bodies log =
    let whole : file ≡ header log.version q ++ (log.opened ++ 0 ∷ log.free) = log.is ∙ append_assoc (header log.version q) log.opened (0 ∷ log.free) in
    ap (read_log q) whole ∙ ap bodies_after (header_found log.version q (log.opened ++ 0 ∷ log.free) log.known) ∙ records_read most_records 1 bodies log.opened log.free log.few log.records

pub logs_are_read : LogsAreRead
logs_are_read q bodies file = (read_of_log q file bodies, log_of_read q file bodies)

pub one_list_at_most : OneListAtMost
one_list_at_most q one two file log_of_one log_of_two =
    let first = read_of_log q file one log_of_one in
    let second = read_of_log q file two log_of_two in
    cc

-- one body more in front of what follows
behind_push : (bodies : List (List ℕ)) (body : List ℕ) (rest : Result (List (List ℕ)) LogError) → behind bodies (with_body body rest) ≡ behind (bodies ++ body ∷ []) rest
behind_push bodies body (Ok more) = ap Ok (sym (append_assoc bodies (body ∷ []) more))
behind_push bodies body (Err e) = refl

-- where the first record is read, the rest is read behind it
pub read_one_more : (bodies : List (List ℕ)) (room less n : ℕ) (body bytes after : List ℕ) → first_record bytes ≡ Some (body, after) → room ≡ suc less
    → behind bodies (bodies_in room n bytes) ≡ behind (bodies ++ body ∷ []) (bodies_in less (n + 1) after)
read_one_more bodies room less n body bytes after found is =
    ap (λ r. behind bodies (bodies_in r n bytes)) is ∙ ap (λ first. behind bodies (bodies_on (bodies_in less (n + 1)) n bytes first)) found ∙ behind_push bodies body (bodies_in less (n + 1) after)

-- where none is read, or there is no room for one, nothing more is
pub read_no_more : (room n : ℕ) (bytes : List ℕ) → (room ≡ 0) ⊎ (first_record bytes ≡ None) → bodies_in room n bytes ≡ none_more n bytes
read_no_more zero n bytes why = refl
read_no_more (suc room) n bytes (inl full) = absurd (omega arith)
read_no_more (suc room) n bytes (inr none) = ap (bodies_on (bodies_in room (n + 1)) n bytes) none

behind_none : (rest : Result (List (List ℕ)) LogError) → behind [] rest ≡ rest
behind_none (Ok more) = refl
behind_none (Err e) = refl

-- how many the most records are
pub most_is : most_records ≡ 65536
unfolding most_records
most_is = refl

-- The steps of a reader that has these bodies and has this rest before it: it begins,
pub read_start : (bodies : List (List ℕ)) (bytes : List ℕ) → bodies ≡ [] → behind bodies (bodies_in (most_records - length bodies) (length bodies + 1) bytes) ≡ bodies_in most_records 1 bytes
read_start bodies bytes none =
    let all : most_records - 0 ≡ most_records = omega arith in
    subst (λ bs. behind bs (bodies_in (most_records - length bs) (length bs + 1) bytes) ≡ bodies_in most_records 1 bytes) (sym none)
    (behind_none (bodies_in (most_records - 0) 1 bytes) ∙ ap (λ room. bodies_in room 1 bytes) all)

-- takes one record more,
pub read_step : (bodies new : List (List ℕ)) (body bytes rest after : List ℕ) → length bodies < 65536 → first_record rest ≡ Some (body, after) → new ≡ bodies ++ body ∷ []
    → behind bodies (bodies_in (most_records - length bodies) (length bodies + 1) rest) ≡ bodies_in most_records 1 bytes → behind new (bodies_in (most_records - length new) (length new + 1) after) ≡ bodies_in most_records 1 bytes
read_step bodies new body bytes rest after few found is so_far =
    let count : length new ≡ length bodies + 1 = omega (arith, ap length is, length-append bodies (body ∷ [])) in
    let room : most_records - length bodies ≡ suc (most_records - length new) = omega (arith, most_is, count) in
    let next : behind bodies (bodies_in (most_records - length bodies) (length bodies + 1) rest) ≡ behind (bodies ++ body ∷ []) (bodies_in (most_records - length new) (length bodies + 1 + 1) after) =
    read_one_more bodies (most_records - length bodies) (most_records - length new) (length bodies + 1) body rest after found room in
    ap (λ bs. behind bs (bodies_in (most_records - length new) (length new + 1) after)) is
    ∙ ap (λ n. behind (bodies ++ body ∷ []) (bodies_in (most_records - length new) (n + 1) after)) count
    ∙ sym next ∙ so_far

-- and finds no more.
pub read_stop : (bodies : List (List ℕ)) (bytes rest : List ℕ) → (65536 ≤ length bodies) ⊎ (first_record rest ≡ None)
    → behind bodies (bodies_in (most_records - length bodies) (length bodies + 1) rest) ≡ bodies_in most_records 1 bytes → behind bodies (none_more (length bodies + 1) rest) ≡ bodies_in most_records 1 bytes
read_stop bodies bytes rest why so_far =
    let room = most_records - length bodies in
    let full : 65536 ≤ length bodies → room ≡ 0 = λ all. omega (arith, most_is) in
    let stopped : bodies_in room (length bodies + 1) rest ≡ none_more (length bodies + 1) rest = read_no_more room (length bodies + 1) rest (⊎_elim (λ all. inl (full all)) (λ none. inr none) why) in
    ap (behind bodies) (sym stopped) ∙ so_far

-- there, a closed gate ends the list
pub read_closed : (bodies : List (List ℕ)) (rest : List ℕ) → is_closed rest ≡ true → behind bodies (none_more (length bodies + 1) rest) ≡ Ok bodies
read_closed bodies rest closed =
    ap (λ test. behind bodies (if test then Ok [] else Err (BadRecord (length bodies + 1)))) closed ∙ ap Ok (append-nil bodies)

-- and anything else is a record that isn't whole
pub read_broken : (bodies : List (List ℕ)) (rest : List ℕ) → is_closed rest ≡ false → behind bodies (none_more (length bodies + 1) rest) ≡ Err (BadRecord (length bodies + 1))
read_broken bodies rest broken = ap (λ test. behind bodies (if test then Ok [] else Err (BadRecord (length bodies + 1)))) broken
