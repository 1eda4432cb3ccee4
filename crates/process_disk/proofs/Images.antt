-- How the words for crashes compose over a list of calls.
use Rattle.std.specs.Prelude.{slice_index_or, []}
use Rattle.std.proofs.Common.{◌≡◌, ◌≤◌, ℕ, refl, sym, ◌∙◌, ap, subst, arith, inl, inr, ⊎_elim}
use Rattle.process_disk.specs.Disk.{FileSet, Disk, Told, Same, SameBut, TornIn, Only, Elapses, Looks, Writes, IsHonest}
use Rattle.process_disk.specs.Images.{EachImage, ImagesFollow, RunBy, OthersAsBefore, AllAsBefore}

-- a rack that tells goes on telling
pub still_told : (old new : Disk) → new.tells ≡ old.tells → Told old → Told new
still_told old new same told = same ∙ told

-- and one that tells has told before
pub told_before : (old new : Disk) → new.tells ≡ old.tells → Told new → Told old
told_before old new same told = sym same ∙ told

-- this moment is one of those since an earlier one
pub counts_now : (disk : Disk) → IsHonest disk → (t : ℕ) (c : FileSet) → t ≤ disk.moment → disk.may_leave c → disk.left_since t c
counts_now disk honest t c le image = honest.earlier t disk.moment c le (honest.now c image)

-- Images follow over one call,
pub follow_call : (old new : Disk) → IsHonest new → Elapses old new → ImagesFollow old new
follow_call old new honest time = record {
  later = time.later;
  nothing_else = λ t c le left. ⊎_elim (λ before. inl before) (λ now. inr (counts_now new honest old.moment c time.later now)) (time.nothing_else t c le left);
  keeps = time.keeps;
}

-- over none,
pub follow_none : (disk : Disk) → ImagesFollow disk disk
follow_none disk = record { later = omega arith; nothing_else = λ t c le left. inl left; keeps = λ t c le left. left }

-- and over one run of calls and another.
pub follow_then : (old mid new : Disk) → IsHonest new → ImagesFollow old mid → ImagesFollow mid new → ImagesFollow old new
follow_then old mid new honest first second = record {
  later = omega (arith, first.later, second.later);
  nothing_else = λ t c le left. ⊎_elim
      (λ by_mid. ⊎_elim (λ by_old. inl by_old) (λ since_old. inr (second.keeps old.moment c first.later since_old)) (first.nothing_else t c le by_mid))
      (λ since_mid. inr (honest.earlier old.moment mid.moment c first.later since_mid))
      (second.nothing_else t c (omega (arith, le, first.later)) left);
  keeps = λ t c le left. second.keeps t c (omega (arith, le, first.later)) (first.keeps t c le left);
}

-- What each image now has, each since now has.
pub each_now : (disk : Disk) (P : FileSet → Type 0) → IsHonest disk → ((c : FileSet) → disk.may_leave c → P c) → EachImage disk disk.moment P
each_now disk P honest each = record { has = λ c left. each c (honest.only_now c left) }

-- What each image since t has, each now has.
pub now_each : (disk : Disk) (t : ℕ) (P : FileSet → Type 0) → IsHonest disk → t ≤ disk.moment → EachImage disk t P → (c : FileSet) → disk.may_leave c → P c
now_each disk t P honest le each c image = each.has c (counts_now disk honest t c le image)

-- What each image since a moment has, each since a later one has.
pub each_later : (disk : Disk) (t u : ℕ) (P : FileSet → Type 0) → IsHonest disk → t ≤ u → EachImage disk t P → EachImage disk u P
each_later disk t u P honest le each = record { has = λ c left. each.has c (honest.earlier t u c le left) }

-- What follows from a property that each image has, each has.
pub each_so : (disk : Disk) (t : ℕ) (P Q : FileSet → Type 0) → ((c : FileSet) → P c → Q c) → EachImage disk t P → EachImage disk t Q
each_so disk t P Q so each = record { has = λ c left. so c (each.has c left) }

-- What each image had by the first, and each since the first has, each has.
pub each_then : (old new : Disk) (t : ℕ) (P : FileSet → Type 0) → t ≤ old.moment → ImagesFollow old new → EachImage old t P → EachImage new old.moment P → EachImage new t P
each_then old new t P le follow first second = record { has = λ c left. ⊎_elim (first.has c) (second.has c) (follow.nothing_else t c le left) }

-- A run of no calls,
pub run_none : (step : FileSet → FileSet → Type 0) (disk : Disk) → ((c : FileSet) → step c c) → IsHonest disk → RunBy step disk disk
run_none step disk same honest = record {
  follow = follow_none disk;
  read = same disk.files;
  images = λ c left. (c, honest.only_now c left, same c);
}

-- a run that is one call, after which what is read and what a crash may leave come by the step,
pub run_call : (step : FileSet → FileSet → Type 0) (old new : Disk) → ((c : FileSet) → step c c) → IsHonest old → IsHonest new → Elapses old new → step old.files new.files
    → ((c : FileSet) → new.may_leave c → (d : FileSet) × old.may_leave d × step d c) → RunBy step old new
run_call step old new same honest_old honest time read images = record {
  follow = follow_call old new honest time;
  read = read;
  images = λ c left. ⊎_elim (λ before. (c, honest_old.only_now c before, same c)) (λ now. images c now) (time.nothing_else old.moment c (omega arith) left);
}

-- a run and another, by steps that together are one,
pub run_then : (first second step : FileSet → FileSet → Type 0) (old mid new : Disk) → ((a b : FileSet) → first a b → step a b) → ((a b c : FileSet) → first a b → second b c → step a c)
    → IsHonest mid → IsHonest new → RunBy first old mid → RunBy second mid new → RunBy step old new
run_then first second step old mid new alone both honest_mid honest one two = record {
  follow = follow_then old mid new honest one.follow two.follow;
  read = both old.files mid.files new.files one.read two.read;
  images = λ c left. ⊎_elim (λ by_mid. let from = one.images c by_mid in (from.0, from.1, alone from.0 c from.2)) (λ since_mid. later c (two.images c since_mid)) (two.follow.nothing_else old.moment c one.follow.later left);
}
  where
    later : (c : FileSet) → (d : FileSet) × mid.may_leave d × second d c → (e : FileSet) × old.may_leave e × step e c
    later c from =
        let before = one.images from.0 (counts_now mid honest_mid old.moment from.0 one.follow.later from.1) in
        (before.0, before.1, both before.0 from.0 c before.2 from.2)

-- and a run by a step that says less.
pub run_so : (step less : FileSet → FileSet → Type 0) (old new : Disk) → ((a b : FileSet) → step a b → less a b) → RunBy step old new → RunBy less old new
run_so step less old new so run = record {
  follow = run.follow;
  read = so old.files new.files run.read;
  images = λ c left. let from = run.images c left in (from.0, from.1, so from.0 c from.2);
}

-- Steps on one file alone make one such step.
pub same_but_then : (q : ℕ) (a b c : FileSet) → SameBut q a b → SameBut q b c → SameBut q a c
same_but_then q a b c one two = record { others = λ k other. two.others k other ∙ one.others k other }

-- where nothing differs, nothing but file q does
pub same_but_same : (q : ℕ) (a b : FileSet) → Same a b → SameBut q a b
same_but_same q a b same = record { others = λ k other. ap (λ fs. slice_index_or fs k []) same }

-- A torn write into file q is a step on it alone,
pub same_but_torn : (q at n : ℕ) (a b : FileSet) → TornIn q at n a b → SameBut q a b
same_but_torn q at n a b torn = torn.others

-- and so is no write.
pub torn_none : (q at n : ℕ) (a : FileSet) → TornIn q at n a a
torn_none q at n a = record {
  count = refl;
  others = record { others = λ k other. refl };
  torn = record { before = refl; after = refl; no_shorter = omega arith; no_longer = omega arith };
}

-- A call that writes nothing is a run that leaves all as it was.
pub run_look : (old new : Disk) → IsHonest old → IsHonest new → Looks old new → AllAsBefore old new
run_look old new honest_old honest looks =
    run_call Same old new (λ c. refl) honest_old honest looks.time looks.files (λ c now. (c, looks.images c now, refl))

-- A write is a run that tears its range.
pub run_write : (q at n : ℕ) (old new : Disk) → IsHonest old → IsHonest new → Writes q at n old new → RunBy (TornIn q at n) old new
run_write q at n old new honest_old honest writes =
    run_call (TornIn q at n) old new (torn_none q at n) honest_old honest writes.time writes.torn writes.images

-- Two runs that leave all as it was are one,
pub all_then : (old mid new : Disk) → IsHonest mid → IsHonest new → AllAsBefore old mid → AllAsBefore mid new → AllAsBefore old new
all_then old mid new honest_mid honest one two =
    run_then Same Same Same old mid new (λ a b same. same) (λ a b c first second. second ∙ first) honest_mid honest one two

-- two that leave all but file q are one,
pub others_then : (q : ℕ) (old mid new : Disk) → IsHonest mid → IsHonest new → OthersAsBefore q old mid → OthersAsBefore q mid new → OthersAsBefore q old new
others_then q old mid new honest_mid honest one two =
    run_then (SameBut q) (SameBut q) (SameBut q) old mid new (λ a b same. same) (same_but_then q) honest_mid honest one two

-- and one that leaves all as it was leaves all but file q.
pub others_of_all : (q : ℕ) (old new : Disk) → AllAsBefore old new → OthersAsBefore q old new
others_of_all q old new run = run_so Same (SameBut q) old new (same_but_same q) run

-- a write leaves all but its file
pub others_of_write : (q at n : ℕ) (old new : Disk) → IsHonest old → IsHonest new → Writes q at n old new → OthersAsBefore q old new
others_of_write q at n old new honest_old honest writes =
    run_so (TornIn q at n) (SameBut q) old new (same_but_torn q at n) (run_write q at n old new honest_old honest writes)

-- Of files that a crash leaves as they read, a run leaves what comes by its step from them.
pub each_of_run : (step : FileSet → FileSet → Type 0) (P : FileSet → Type 0) (old new : Disk) → Only old.files old.may_leave → RunBy step old new → ((c : FileSet) → step old.files c → P c) → EachImage new old.moment P
each_of_run step P old new only run each = record {
  has = λ c left. let from = run.images c left in each c (subst (λ fs. step fs c) (only.only from.0 from.1) from.2);
}
