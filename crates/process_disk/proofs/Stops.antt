-- What a stop leaves of a rack in memory is what a crash then may leave.
use Rattle.std.specs.Prelude.{length, if◌then◌else◌, ◌||◌, ◌&&◌, ◌==◌, nat_lt, nat_le, ◌≢◌, IsTrue}
use Rattle.std.proofs.Common.{◌≡◌, ◌+◌, ◌-◌, ◌<◌, ◌≤◌, ℕ, zero, suc, Bool, true, false, List, [], ◌∷◌, drop, max, refl, sym, ◌∙◌, ap, subst, arith, inl, inr, length-append}
use Rattle.std.proofs.lemmas.Bool.{ltb-true, leb-true, le-leb, eqb-true, cases_eq}
use Rattle.std.proofs.lemmas.List.{get_or-set_same, get_or-set_other, length-set, length-take, length-replicate, drop-drop}
use Rattle.process_disk.specs.Disk.{FileSet, file_of, written, put, TornIn}
use Rattle.process_disk.specs.Memory.{files_after, IsImage, LeftSince, is_placed, are_placed}
use Rattle.process_disk.specs.MemoryLaws.{both, count_after, torn_by_put, length-written}
use Rattle.process_disk.specs.Stop.{from_latest, is_write, is_before, is_through, is_within, kept, unsynced, left_with, left_by}
use Rattle.process_disk.specs.declared.changes.Change.{Change}
use Rattle.process_disk.specs.declared.changes.Change.TheVariants.{Written, Synced}
use Rattle.process_disk.specs.declared.changes.Recorded.{Recorded}

-- as many bytes are left of a write as it had
length-kept : (k fill : ℕ) (bytes : List ℕ) → length (kept k fill bytes) ≡ length bytes
length-kept k fill bytes = simp (length-append, length-take, length-replicate) (omega arith)

-- what is left reads as so many files, none shorter than it reads, and is an image
pub record IsLeft (first : FileSet) (made : List Recorded) (left : FileSet) : Type 0 where
  pub count : length left ≡ length first
  pub longer : (q : ℕ) → length (file_of (files_after first made) q) ≤ length (file_of left q)
  pub image : IsImage first made left

-- how long the file of a write is then
size_put : (files : FileSet) (q at : ℕ) (bytes : List ℕ) → q < length files → at ≤ length (file_of files q) → length (file_of (put files q at bytes) q) ≡ max (length (file_of files q)) (at + length bytes)
size_put files q at bytes there within =
    ap length (get_or-set_same files q (written (file_of files q) at bytes) [] there) ∙ length-written at bytes (file_of files q) within

-- and any other
size_other : (files : FileSet) (q at j : ℕ) (bytes : List ℕ) → j ≢ q → length (file_of (put files q at bytes) j) ≡ length (file_of files j)
size_other files q at j bytes other = ap length (get_or-set_other files q j (written (file_of files q) at bytes) [] other)

-- after one write more no file that is left is shorter than it reads
longer_by_write : (files left : FileSet) (q at : ℕ) (bytes part : List ℕ) → length part ≡ length bytes → length left ≡ length files → q < length files → at ≤ length (file_of files q)
    → ((j : ℕ) → length (file_of files j) ≤ length (file_of left j)) → (j : ℕ) → length (file_of (put files q at bytes) j) ≤ length (file_of (put left q at part) j)
longer_by_write files left q at bytes part size count there within longer j = elim (cases_eq j q) [
  | inl same ↦
      let new = size_put files q at bytes there within in
      let new_left = size_put left q at part (omega (arith, count)) (omega (arith, longer q)) in
      subst (λ k. length (file_of (put files q at bytes) k) ≤ length (file_of (put left q at part) k)) (sym same) (omega (arith, new, new_left, longer q, size))
  | inr other ↦ omega (arith, size_other files q at j bytes other, size_other left q at j part other, longer j)
]

-- one change more
left_by_change : (change : Change) (k fill : ℕ) (first : FileSet) (older : List Recorded) (number : ℕ) (left : FileSet) → length first ≡ 9 → IsTrue (is_placed change (files_after first older)) → IsTrue (are_placed first older)
    → IsLeft first older left → IsLeft first (record { number = number; change = change } ∷ older) (left_with k fill change (files_after first older) left)
left_by_change (Written w) k fill first older number left nine placed older_placed so_far =
    let files = files_after first older in
    let part = kept k fill w.bytes in
    let parts = both (nat_lt w.file 9) (nat_le w.at (length (file_of files w.file))) placed in
    let within : w.at ≤ length (file_of files w.file) = leb-true w.at (length (file_of files w.file)) parts.1 in
    let same : length left ≡ length files = so_far.count ∙ sym (count_after first older) in
    let there : w.file < length files = omega (arith, ltb-true w.file 9 parts.0, count_after first older) in
    let torn = torn_by_put left w.file w.at part (omega (arith, same)) (omega (arith, so_far.longer w.file)) in
    record {
      count = length-set left w.file (written (file_of left w.file) w.at part) ∙ so_far.count;
      longer = longer_by_write files left w.file w.at w.bytes part (length-kept k fill w.bytes) same there within so_far.longer;
      image = (left, so_far.image, subst (λ n. TornIn w.file w.at n left (put left w.file w.at part)) (length-kept k fill w.bytes) torn);
    }
left_by_change Synced k fill first older number left nine placed older_placed so_far = record {
  count = count_after first older;
  longer = λ j. omega arith;
  image = refl;
}

-- what a stop leaves after these changes is an image
pub left_is_image : (keep fill : ℕ) (first : FileSet) (made : List Recorded) → length first ≡ 9 → IsTrue (are_placed first made) → IsLeft first made (left_by keep fill first made)
left_is_image keep fill first [] nine placed = record { count = refl; longer = λ j. omega arith; image = refl }
left_is_image keep fill first (m ∷ older) nine placed =
    let parts = both (is_placed m.change (files_after first older)) (are_placed first older) placed in
    left_by_change m.change (keep - unsynced older) fill first older m.number (left_by keep fill first older) nine parts.0 parts.1 (left_is_image keep fill first older nine parts.1)

-- a list whose end this is
pub record IsEnd (whole part : List Recorded) : Type 0 where
  pub cut : ℕ
  pub is : drop cut whole ≡ part
  pub size : cut + length part ≡ length whole

end_none : (whole : List Recorded) → IsEnd whole whole
end_none whole = record { cut = 0; is = refl; size = omega arith }

end_more : (m : Recorded) (whole part : List Recorded) → IsEnd whole part → IsEnd (m ∷ whole) part
end_more m whole part end = record { cut = suc end.cut; is = end.is; size = omega (arith, end.size) }

pub end_then : (a b c : List Recorded) → IsEnd a b → IsEnd b c → IsEnd a c
end_then a b c one two = record {
  cut = one.cut + two.cut;
  is = sym (drop-drop two.cut one.cut a) ∙ ap (drop two.cut) one.is ∙ two.is;
  size = omega (arith, one.size, two.size);
}

-- what comes up to the newest that passes is the end of all
pub end_latest : (test : Recorded → Bool) (made : List Recorded) → IsEnd made (from_latest test made)
end_latest test [] = end_none []
end_latest test (m ∷ older) =
    elim (test m) as (λ b. IsEnd (m ∷ older) (if b then m ∷ older else from_latest test older)) [
      | true ↦ end_none (m ∷ older)
      | false ↦ end_more m older (from_latest test older) (end_latest test older)
    ]

at_newest : (one two : Bool) (test wider : Recorded → Bool) (m : Recorded) (older : List Recorded) → (IsTrue one → IsTrue two) → IsEnd (from_latest wider older) (from_latest test older)
    → IsEnd (if two then m ∷ older else from_latest wider older) (if one then m ∷ older else from_latest test older)
at_newest true true test wider m older so rest = end_none (m ∷ older)
at_newest true false test wider m older so rest = absurd (let no : false ≡ true = so refl in cc)
at_newest false true test wider m older so rest = end_more m older (from_latest test older) (end_latest test older)
at_newest false false test wider m older so rest = rest

-- and of what comes up to the newest that passes a wider test
pub end_wider : (test wider : Recorded → Bool) → ((m : Recorded) → IsTrue (test m) → IsTrue (wider m)) → (made : List Recorded) → IsEnd (from_latest wider made) (from_latest test made)
end_wider test wider so [] = end_none []
end_wider test wider so (m ∷ older) = at_newest (test m) (wider m) test wider m older (so m) (end_wider test wider so older)

placed_drop : (k : ℕ) (first : FileSet) (made : List Recorded) → IsTrue (are_placed first made) → IsTrue (are_placed first (drop k made))
placed_drop zero first made placed = placed
placed_drop (suc k) first [] placed = placed
placed_drop (suc k) first (m ∷ older) placed = placed_drop k first older (both (is_placed m.change (files_after first older)) (are_placed first older) placed).1

before_so_within : (call : ℕ) (m : Recorded) → IsTrue (is_before call m) → IsTrue (is_within call m)
before_so_within call m before = subst (λ b. IsTrue (b || ((m.number == call) && is_write m.change))) (sym before) refl

within_so_through : (call : ℕ) (m : Recorded) → IsTrue (is_within call m) → IsTrue (is_through call m)
within_so_through call m within = from_parts (nat_lt m.number call) (m.number == call) (is_write m.change) within (λ below. ltb-true m.number call below) (λ same. eqb-true m.number call same)
  where
    through : m.number ≤ call → IsTrue (is_through call m)
    through le = le-leb m.number call le

    from_parts : (below same write : Bool) → IsTrue (below || (same && write)) → (IsTrue below → m.number < call) → (IsTrue same → m.number ≡ call) → IsTrue (is_through call m)
    from_parts true same write within is_below is_same = let below : m.number < call = is_below refl in through (omega arith)
    from_parts false true write within is_below is_same = let same : m.number ≡ call = is_same refl in through (omega arith)
    from_parts false false write within is_below is_same = absurd cc

-- what a stop within a call leaves is what a crash between the call's start and its end may leave
pub left_within : (keep fill call : ℕ) (first : FileSet) (made : List Recorded) → length first ≡ 9 → IsTrue (are_placed first made)
    → LeftSince first (from_latest (is_through call) made) (length (from_latest (is_before call) made)) (left_by keep fill first (from_latest (is_within call) made))
left_within keep fill call first made nine placed =
    let within = from_latest (is_within call) made in
    let all = end_latest (is_within call) made in
    let before = end_wider (is_before call) (is_within call) (before_so_within call) made in
    let through = end_wider (is_within call) (is_through call) (within_so_through call) made in
    let placed_within : IsTrue (are_placed first within) = subst (λ ms. IsTrue (are_placed first ms)) all.is (placed_drop all.cut first made placed) in
    let left = left_is_image keep fill first within nine placed_within in (
      through.cut,
      omega (arith, through.size, before.size),
      subst (λ ms. IsImage first ms (left_by keep fill first within)) (sym through.is) left.image,
    )

-- and it is of as many files as there were
pub left_count : (keep fill call : ℕ) (first : FileSet) (made : List Recorded) → length first ≡ 9 → IsTrue (are_placed first made) → length (left_by keep fill first (from_latest (is_within call) made)) ≡ 9
left_count keep fill call first made nine placed =
    let all = end_latest (is_within call) made in
    (left_is_image keep fill first (from_latest (is_within call) made) nine (subst (λ ms. IsTrue (are_placed first ms)) all.is (placed_drop all.cut first made placed))).count ∙ nine
