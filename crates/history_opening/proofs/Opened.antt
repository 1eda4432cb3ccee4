-- Files that were read, and compared with the history of their journal.
use Rattle.std.proofs.Common.{◌≡◌, ⊎_elim, inl, inr, ◌<◌, ◌+◌, ℕ, List, Some, refl, sym, ◌∙◌, ap, subst, arith}
use Rattle.std.specs.Prelude.{Ok}
use Rattle.std.proofs.lemmas.Option.{slice_get_within}
use Rattle.process_disk.specs.Disk.{Disk, FileSet, file_of}
use Rattle.process_disk.specs.Images.{AllAsBefore, EachImage, ImagesFollow}
use Rattle.gate_log.specs.LogFile.{IsLog}
use Rattle.gate_log.specs.Standing.{LogState}
use Rattle.process_journal.specs.Bodies.{journal_bodies}
use Rattle.process_journal.specs.Opened.{IsJournalOf, Stands as JournalStands}
use Rattle.schedule_model.specs.declared.history.History.{History}
use Rattle.commute_table.specs.declared.catalog.Catalog.{Catalog}
use Rattle.subsystem_store.specs.Opened.{Opened}
use Rattle.history_files.specs.Effects.{effects}
use Rattle.history_files.specs.Sound.{IsSound}
use Rattle.history_files.specs.Standing.{AreStores, AtEach}
use Rattle.history_files.proofs.Places.{place_has}
use Rattle.history_opening.specs.declared.faults.BookFault.{BookFault}
use Rattle.history_opening.specs.declared.faults.OpenError.TheVariants.{BookDiffers}
use Rattle.history_opening.specs.Comparing.{book_difference, books_difference}
use Rattle.history_opening.specs.Images.{BecomesSound}
use Rattle.history_opening.specs.Opening.{IsDueToBook, IsReadOf, book_in, difference_in, difference_of_read}
use Rattle.history_opening.proofs.Differing.{DiffersAt, differs_at}

-- the stores are those that these files read as
abbrev pub AreReadFrom : {B : Type 0} → FileSet → List (Opened B) → Type 0
AreReadFrom files stores = AtEach (λ q s. book_in files q ≡ Ok (record { book = s.book; doubt = s.doubt })) stores

-- the difference of a store is that of its file
of_file : {B : Type 0} (c : Catalog) (h : History) (files : FileSet) (q : ℕ) (s : Opened B) → book_in files q ≡ Ok (record { book = s.book; doubt = s.doubt })
    → difference_in c.ops h files q ≡ book_difference (q + 0) (effects c.ops h (q + 0)) s.book s.doubt
of_file c h files q s read =
    let is : q ≡ q + 0 = omega arith in
    ap (difference_of_read (effects c.ops h q) q) read ∙ ap (λ k. book_difference k (effects c.ops h k) s.book s.doubt) is

-- file 0 reads as the journal of the history for which an opened journal stands
pub read_of : (c : Catalog) (h : History) (log : LogState) (old new : Disk) → JournalStands log c h new → log.file ≡ 0 → AllAsBefore old new → IsReadOf c h old.files
read_of c h log old new stands file all =
    (stands.history, subst (IsJournalOf c h) all.read (subst (λ k. IsLog k (journal_bodies c h) (file_of new.files k)) file stands.log.read))

-- so a difference that was found is a refusal that is due
pub due_to_book : {B : Type 0} (c : Catalog) (h : History) (files : FileSet) (stores : List (Opened B)) (fault : BookFault) → AreStores stores → IsReadOf c h files → AreReadFrom files stores
    → books_difference c.ops h 0 stores ≡ Some fault → IsDueToBook files (BookDiffers fault)
due_to_book {B} c h files stores fault are journal read found = record {
  catalog = c;
  history = h;
  journal = journal;
  stores = λ p within. let has = place_has stores p (omega (arith, within, are.eight)) in (record { book = has.0.book; doubt = has.0.doubt }, read p has.0 has.1);
  subsystem = first.place;
  within = here;
  fault = fault;
  is = refl;
  differs = of_file c h files first.place first.store (read first.place first.store first.at) ∙ first.differs;
  earlier = λ p below. let has = place_has stores p (omega (arith, below, here, are.eight)) in of_file c h files p has.0 (read p has.0 has.1) ∙ first.earlier p has.0 below has.1;
}
  where
    first : DiffersAt c.ops h 0 stores fault
    first = differs_at c.ops h 0 stores fault found

    here : first.place < 8
    here = let within = slice_get_within stores first.place first.store first.at in omega (arith, within, are.eight)

-- Files that were read so that each image from then on is sound, and then changed so that each is, became sound.
pub becomes_sound : (c : Catalog) (h : History) (old mid new : Disk) → AllAsBefore old mid → ImagesFollow mid new → EachImage new mid.moment (IsSound c h) → BecomesSound c h old new
becomes_sound c h old mid new all follow each = record {
  moment = mid.moment;
  begun = all.follow.later;
  by_now = follow.later;
  before = λ files left. ⊎_elim (λ by_mid. inl (same files (all.images files by_mid))) (λ since_mid. inr since_mid) (follow.nothing_else old.moment files all.follow.later left);
  each = each;
}
  where
    same : (files : FileSet) → (d : FileSet) × old.may_leave d × (files ≡ d) → old.may_leave files
    same files from = subst old.may_leave (sym from.2) from.1

-- They read as sound files at the start too.
pub sound_at_start : (c : Catalog) (h : History) (old mid : Disk) → AllAsBefore old mid → IsSound c h mid.files → IsSound c h old.files
sound_at_start c h old mid all sound = subst (IsSound c h) all.read sound
