-- How the calls of a folder make up whole reads, whole writes and syncs of all files.
use Rattle.std.specs.Prelude.{slice_set, [], ◌≢◌}
use Rattle.std.proofs.Common.{◌≡◌, ◌+◌, ◌-◌, ◌≤◌, ◌<◌, ℕ, List, ◌++◌, length, take, drop, refl, sym, ◌∙◌, ap, subst, arith, inl, inr, ⊎_elim, length-append, append_assoc, take-append-drop}
use Rattle.std.proofs.lemmas.List.{get_or-set_same, length-take-le, length-drop, drop-drop, take_at, drop_at, ext_get_or, set-get_or}
use Rattle.std.proofs.Math.Seq.{take-add, take-take, set-set}
use Rattle.std.proofs.lemmas.Bool.{cases_eq}
use Rattle.process_disk.specs.Disk.{FileSet, Disk, file_of, written, put, TornIn, Only, Looks, Writes, IsHonest}
use Rattle.folder_files.specs.Folder.{IsKept, IsPart}
use Rattle.process_disk.specs.MemoryLaws.{length-written}
use Rattle.process_disk.proofs.Images.{counts_now, torn_none}

-- A call that did nothing.
pub looks_none : (disk : Disk) → Looks disk disk
looks_none disk = record {
  files = refl;
  images = λ c image. image;
  time = record { later = omega arith; nothing_else = λ t c le left. inl left; keeps = λ t c le left. left };
}

-- Two looks make a look.
pub looks_then : (old mid new : Disk) → IsHonest old → Looks old mid → Looks mid new → Looks old new
looks_then old mid new honest one two = record {
  files = two.files ∙ one.files;
  images = λ c image. one.images c (two.images c image);
  time = record {
    later = omega (arith, one.time.later, two.time.later);
    nothing_else = λ t c le left. ⊎_elim
        (λ by_mid. ⊎_elim (λ by_old. inl by_old) (λ mid_now. inl (counts_now old honest t c le (one.images c mid_now))) (one.time.nothing_else t c le by_mid))
        (λ now. inr now)
        (two.time.nothing_else t c (omega (arith, le, one.time.later)) left);
    keeps = λ t c le left. two.time.keeps t c (omega (arith, le, one.time.later)) (one.time.keeps t c le left);
  };
}

-- A look is a write of which nothing came.
pub writes_of_looks : (q at n : ℕ) (old new : Disk) → Looks old new → Writes q at n old new
writes_of_looks q at n old new looks = record {
  torn = subst (TornIn q at n old.files) (sym looks.files) (torn_none q at n old.files);
  images = λ c image. (c, looks.images c image, torn_none q at n c);
  time = looks.time;
}

-- A look and a write make a write.
pub look_then_write : (q at n : ℕ) (old mid new : Disk) → IsHonest old → Looks old mid → Writes q at n mid new → Writes q at n old new
look_then_write q at n old mid new honest one two = record {
  torn = subst (λ fs. TornIn q at n fs new.files) one.files two.torn;
  images = λ c image. let from = two.images c image in (from.0, one.images from.0 from.1, from.2);
  time = record {
    later = omega (arith, one.time.later, two.time.later);
    nothing_else = λ t c le left. ⊎_elim
        (λ by_mid. ⊎_elim (λ by_old. inl by_old) (λ mid_now. inl (counts_now old honest t c le (one.images c mid_now))) (one.time.nothing_else t c le by_mid))
        (λ now. inr now)
        (two.time.nothing_else t c (omega (arith, le, one.time.later)) left);
    keeps = λ t c le left. two.time.keeps t c (omega (arith, le, one.time.later)) (one.time.keeps t c le left);
  };
}

-- the same at a place further to the front
take_less : (a b : ℕ) (xs ys : List ℕ) → a ≤ b → take b xs ≡ take b ys → take a xs ≡ take a ys
take_less a b xs ys le same = sym (take-take a b xs le) ∙ ap (take a) same ∙ take-take a b ys le

-- and at one further to the end
drop_more : (a b : ℕ) (xs ys : List ℕ) → a ≤ b → drop a xs ≡ drop a ys → drop b xs ≡ drop b ys
drop_more a b xs ys le same =
    let sum : b ≡ a + (b - a) = omega (arith, le) in
    rw (sum, ← drop-drop (b - a) a xs, ← drop-drop (b - a) a ys) (ap (drop (b - a)) same)

-- A write within a range, after a write of the range, tears no more than the range.
pub torn_then : (q at n to m : ℕ) (a b c : FileSet) → at ≤ to → to + m ≤ at + n → TornIn q at n a b → TornIn q to m b c → TornIn q at n a c
torn_then q at n to m a b c from up one two = record {
  count = two.count ∙ one.count;
  others = record { others = λ k other. two.others.others k other ∙ one.others.others k other };
  torn = record {
    before = take_less at to (file_of c q) (file_of b q) from two.torn.before ∙ one.torn.before;
    after = drop_more (to + m) (at + n) (file_of c q) (file_of b q) up two.torn.after ∙ one.torn.after;
    no_shorter = omega (arith, one.torn.no_shorter, two.torn.no_shorter);
    no_longer = omega (arith, one.torn.no_longer, two.torn.no_longer, up);
  };
}

-- A write of a range and one within it, which shuts out nothing that a crash might leave, make a write of the range.
pub writes_then : (q at n to m : ℕ) (old mid new : Disk) → at ≤ to → to + m ≤ at + n → ((c : FileSet) → mid.may_leave c → new.may_leave c)
    → Writes q at n old mid → Writes q to m mid new → Writes q at n old new
writes_then q at n to m old mid new from up grows one two = record {
  torn = torn_then q at n to m old.files mid.files new.files from up one.torn two.torn;
  images = λ c image.
      let by_mid = two.images c image in
      let by_old = one.images by_mid.0 by_mid.1 in
      (by_old.0, by_old.1, torn_then q at n to m by_old.0 by_mid.0 c from up by_old.2 by_mid.2);
  time = record {
    later = omega (arith, one.time.later, two.time.later);
    nothing_else = λ t c le left. ⊎_elim
        (λ by_mid. ⊎_elim (λ by_old. inl by_old) (λ mid_now. inr (grows c mid_now)) (one.time.nothing_else t c le by_mid))
        (λ now. inr now)
        (two.time.nothing_else t c (omega (arith, le, one.time.later)) left);
    keeps = λ t c le left. two.time.keeps t c (omega (arith, le, one.time.later)) (one.time.keeps t c le left);
  };
}

-- there are nine files
pub nine_read : (disk : Disk) → IsHonest disk → length disk.files ≡ 9
nine_read disk honest = honest.nine disk.moment disk.files (honest.now disk.files honest.read)

-- Nothing written changes nothing.
pub put_none : (files : FileSet) (q at : ℕ) → at ≤ length (file_of files q) → put files q at [] ≡ files
put_none files q at within =
    let old = file_of files q in
    let same : take at old ++ [] ++ drop (at + 0) old ≡ old = rw append_assoc (let none : at + 0 ≡ at = omega arith in rw none (take-append-drop at old)) in
    ap (slice_set files q) same ∙ set-get_or files q []

-- Bytes and then more bytes behind them are all of them.
pub put_then : (files : FileSet) (q at : ℕ) (one two : List ℕ) → q < length files → at ≤ length (file_of files q)
    → put (put files q at one) q (at + length one) two ≡ put files q at (one ++ two)
put_then files q at one two there within =
    let old = file_of files q in
    let mid = written old at one in
    let front : length (take at old) ≡ at = length-take-le at old within in
    let both : length (take at old ++ one) ≡ at + length one = omega (arith, length-append (take at old) one) in
    let before : take (at + length one) mid ≡ take at old ++ one = take_at (take at old ++ one) (drop (at + length one) old) (at + length one) both in
    let behind : drop (at + length one) mid ≡ drop (at + length one) old = drop_at (take at old ++ one) (drop (at + length one) old) (at + length one) both in
    let rest : drop (at + length one + length two) mid ≡ drop (at + length (one ++ two)) old =
    sym (drop-drop (length two) (at + length one) mid) ∙ ap (drop (length two)) behind ∙ drop-drop (length two) (at + length one) old ∙ ap (λ n. drop n old) (omega (arith, length-append one two)) in
    let is : written mid (at + length one) two ≡ written old at (one ++ two) =
    ap (λ p. p ++ two ++ drop (at + length one + length two) mid) before
    ∙ ap (λ p. (take at old ++ one) ++ two ++ p) rest
    ∙ ap (λ p. p ++ drop (at + length (one ++ two)) old) (append_assoc (take at old) one two) in
    ap (λ f. slice_set (slice_set files q mid) q (written f (at + length one) two)) (get_or-set_same files q mid [] there) ∙ set-set files q mid (written mid (at + length one) two) ∙ ap (slice_set files q) is

-- Of a file that was kept a look keeps it so.
pub kept_by_look : (k : ℕ) (old new : Disk) → Looks old new → IsKept k old → IsKept k new
kept_by_look k old new looks kept c image = kept c (looks.images c image) ∙ ap (λ fs. file_of fs k) (sym looks.files)

-- and a write of another file.
pub kept_by_write : (k q at n : ℕ) (old new : Disk) → k ≢ q → Writes q at n old new → IsKept k old → IsKept k new
kept_by_write k q at n old new other writes kept c image =
    let from = writes.images c image in
    from.2.others.others k other ∙ kept from.0 from.1 ∙ sym (writes.torn.others.others k other)

-- Where each of the nine files is kept, a crash leaves what is read.
pub only_by_kept : (disk : Disk) → IsHonest disk → ((k : ℕ) → k < 9 → IsKept k disk) → Only disk.files disk.may_leave
only_by_kept disk honest each = record {
  only = λ c image.
      let nine : length c ≡ 9 = honest.nine disk.moment c (honest.now c image) in
      ext_get_or [] c disk.files (nine ∙ sym (nine_read disk honest)) (λ k below. each k (omega (arith, nine, below)) c image);
}

-- the first bytes of a file from a place on, so many, stand at the buffer's front
pub record IsReadTo (file buf : List ℕ) (at count : ℕ) : Type 0 where
  pub within : count ≤ length (drop at file)
  pub bytes : take count buf ≡ take count (drop at file)

-- more bytes behind those that were read
pub read_more : (file front rest buf : List ℕ) (at place count more : ℕ) → front ≡ take count buf → length front ≡ count → place ≡ at + count
    → IsReadTo file buf at count → IsPart (drop place file) rest more → IsReadTo file (front ++ rest) at (count + more)
read_more file front rest buf at place count more is size where_is so part =
    let behind : drop place file ≡ drop count (drop at file) = ap (λ n. drop n file) where_is ∙ sym (drop-drop count at file) in
    record {
      within = omega (arith, part.within, so.within, ap length behind, length-drop count (drop at file));
      bytes =
          take-add count more (front ++ rest)
          ∙ ap (λ p. p ++ take more (drop count (front ++ rest))) (take_at front rest count size ∙ is ∙ so.bytes)
          ∙ ap (λ p. take count (drop at file) ++ p) (ap (take more) (drop_at front rest count size) ∙ part.bytes ∙ ap (take more) behind)
          ∙ sym (take-add count more (drop at file));
    }

-- files kept up to a place, and the file at the place
pub kept_further : (disk : Disk) (n : ℕ) → ((k : ℕ) → k < n → IsKept k disk) → IsKept n disk → (k : ℕ) → k < n + 1 → IsKept k disk
kept_further disk n before here k below = elim (cases_eq k n) [
  | inl same ↦ subst (λ j. IsKept j disk) (sym same) here
  | inr other ↦ before k (omega (arith, below, other))
]

-- after the first of some bytes a file reaches to where the next go
pub put_size : (files : FileSet) (q at sent : ℕ) (bytes : List ℕ) → q < length files → at ≤ length (file_of files q) → sent ≤ length bytes
    → at + sent ≤ length (file_of (put files q at (take sent bytes)) q)
put_size files q at sent bytes there within le =
    let part = take sent bytes in
    let size = ap length (get_or-set_same files q (written (file_of files q) at part) [] there) ∙ length-written at part (file_of files q) within in
    omega (arith, size, length-take-le sent bytes le)

-- the first bytes, and more behind them
pub put_more : (files : FileSet) (q at place sent more : ℕ) (bytes rest : List ℕ) → q < length files → at ≤ length (file_of files q) → sent ≤ length bytes
    → place ≡ at + sent → rest ≡ drop sent bytes → put (put files q at (take sent bytes)) q place (take more rest) ≡ put files q at (take (sent + more) bytes)
put_more files q at place sent more bytes rest there within le where_is is =
    let size : at + length (take sent bytes) ≡ place = omega (arith, length-take-le sent bytes le, where_is) in
    ap (λ n. put (put files q at (take sent bytes)) q n (take more rest)) (sym size)
    ∙ put_then files q at (take sent bytes) (take more rest) there within
    ∙ ap (put files q at) (ap (λ xs. take sent bytes ++ take more xs) is ∙ sym (take-add sent more bytes))
