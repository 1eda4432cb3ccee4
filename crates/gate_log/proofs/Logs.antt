-- Records, and the files that are logs.
use Rattle.std.proofs.Common.{◌≡◌, ◌≢◌, ℕ, ◌+◌, ◌*◌, ◌-◌, ◌^◌, ◌<◌, ◌≤◌, List, [], ◌∷◌, ◌++◌, length, take, All, refl, sym, ◌∙◌, ap, subst, arith, append_assoc, length-append}
use Rattle.std.proofs.lemmas.List.{append-nil, take_at}
use Rattle.std.proofs.lemmas.List.Elements.{All-head, All-tail, All-take}
use Rattle.gate_log.specs.LogFile.{AreRecords, header, records_size, end_of}
use Rattle.gate_log.specs.Standing.{LogState, CanRetract, CanRetractLast}

-- how many bytes records take
pub length-records : (bodies : List (List ℕ)) (opened : List ℕ) → AreRecords bodies opened → length opened ≡ records_size bodies
length-records [] opened are = ap length are
length-records (body ∷ bodies) opened (gate, low, high, rest, is_open, size, is, more) =
    let tail = length-records bodies rest more in
    omega (arith, ap length is, length-append body rest)

-- how many they take with one more
pub records_size-push : (bodies : List (List ℕ)) (body : List ℕ) → records_size (bodies ++ body ∷ []) ≡ records_size bodies + (3 + length body)
records_size-push [] body = omega arith
records_size-push (first ∷ bodies) body = omega (arith, records_size-push bodies body)

-- one record more at the end
pub records-push : (bodies : List (List ℕ)) (opened : List ℕ) (gate low high : ℕ) (body : List ℕ) → AreRecords bodies opened → 0 < gate → low + 256 * high ≡ length body → AreRecords (bodies ++ body ∷ []) (opened ++ gate ∷ low ∷ high ∷ body)
records-push [] opened gate low high body are is_open size =
    (gate, low, high, [], is_open, size, ap (λ (o : List ℕ). o ++ gate ∷ low ∷ high ∷ body) are ∙ sym (append-nil (gate ∷ low ∷ high ∷ body)), refl)
records-push (first ∷ bodies) opened gate low high body (g, l, h, rest, first_open, first_size, is, more) is_open size =
    (g, l, h, rest ++ gate ∷ low ∷ high ∷ body, first_open, first_size, ap (λ (o : List ℕ). o ++ gate ∷ low ∷ high ∷ body) is ∙ append_assoc (g ∷ l ∷ h ∷ first) rest (gate ∷ low ∷ high ∷ body), records-push bodies rest gate low high body more is_open size)

-- all that stands before the closed gate
pub length-before : (version q : ℕ) (bodies : List (List ℕ)) (opened : List ℕ) → AreRecords bodies opened → length (header version q ++ opened) ≡ end_of bodies
length-before version q bodies opened are = omega (arith, length-records bodies opened are)

-- how many bytes the records of both take
pub records_size-append : (bodies more : List (List ℕ)) → records_size (bodies ++ more) ≡ records_size bodies + records_size more
records_size-append [] more = omega arith
records_size-append (body ∷ bodies) more = omega (arith, records_size-append bodies more)

-- how many bytes records take at most, where no body is longer than fits
pub size_of_short : (bodies : List (List ℕ)) → All (λ body. length body < 2 ^ 16) bodies → records_size bodies ≤ 65538 * length bodies
size_of_short [] short = omega arith
size_of_short (body ∷ bodies) short =
    let Short : List ℕ → Type 0 = λ b. length b < 2 ^ 16 in
    omega (arith, All-head Short body bodies short, size_of_short bodies (All-tail Short body bodies short))

-- some bodies are one at least
pub one_at_least : (bodies : List (List ℕ)) → bodies ≢ [] → 1 ≤ length bodies
one_at_least [] some = absurd (some refl)
one_at_least (body ∷ bodies) some = omega arith

-- of records of so many bytes, the last ones can be retracted where those before them fit
last_of : (log : LogState) (bodies before last : List (List ℕ)) (n size : ℕ) → bodies ≡ before ++ last → last ≢ [] → log.count ≡ n + length bodies → log.end ≡ size + records_size bodies → 8 ≤ size → size ≤ 8 + 65538 * n
    → records_size before ≤ 65538 * length before → CanRetract (length last) (records_size last) log
last_of log bodies before last n size is some count at_end above room fits =
    let number = ap length is ∙ length-append before last in
    let bytes = ap records_size is ∙ records_size-append before last in
    let others : log.count - length last ≡ n + length before = omega (arith, count, number) in
    record {
      some = one_at_least last some;
      there = omega (arith, count, number);
      within = omega (arith, at_end, bytes, above);
      others = omega (arith, at_end, bytes, others, room, fits);
    }

-- so it is with those of bodies that fit
pub last_of_short : (log : LogState) (bodies : List (List ℕ)) → log.count ≡ length bodies → log.end ≡ end_of bodies → All (λ body. length body < 2 ^ 16) bodies → CanRetractLast bodies log
last_of_short log bodies count at_end short = λ before last is some.
    let Short : List ℕ → Type 0 = λ b. length b < 2 ^ 16 in
    let front : take (length before) bodies ≡ before = ap (take (length before)) is ∙ take_at before last (length before) refl in
    last_of log bodies before last 0 8 is some (omega (arith, count)) at_end (omega arith) (omega arith) (size_of_short before (subst (All Short) front (All-take Short (length before) bodies short)))

-- records that take no more than one may fit
fit_together : (bodies : List (List ℕ)) → records_size bodies ≤ 65538 → records_size bodies ≤ 65538 * length bodies
fit_together [] room = omega arith
fit_together (body ∷ bodies) room = omega (arith, room)

-- and with those of bodies that were staged together
pub last_of_staged : (log : LogState) (new : LogState) → new.count ≡ log.count + length log.staged → new.end ≡ log.end + records_size log.staged → 8 ≤ log.end → log.end ≤ 8 + 65538 * log.count → records_size log.staged ≤ 65538
    → CanRetractLast log.staged new
last_of_staged log new count at_end above room small = λ before last is some.
    let bytes = ap records_size is ∙ records_size-append before last in
    last_of new log.staged before last log.count log.end is some count at_end above room (fit_together before (omega (arith, bytes, small)))

-- and that they fit
pub end_with : (bodies : List (List ℕ)) (end count size number : ℕ) → bodies ≢ [] → number ≡ length bodies → size ≤ 65538 → end ≤ 8 + 65538 * count → end + size ≤ 8 + 65538 * (count + number)
end_with [] end count size number some is within room = absurd (some refl)
end_with (body ∷ bodies) end count size number some is within room = omega (arith, is, within, room)
