-- Sound files are refused for a fault of the rack or want of memory alone.
use Rattle.std.proofs.Common.{◌≡◌, ◌<◌, ◌⊎◌, inl, inr, ◌+◌, ℕ, List, None, sym, ◌∙◌, ap, subst}
use Rattle.std.specs.Prelude.{Ok}
use Rattle.std.proofs.lemmas.Option.{none-some}
use Rattle.process_disk.specs.Disk.{FileSet, file_of}
use Rattle.schedule_model.specs.declared.history.History.{History}
use Rattle.commute_table.specs.declared.catalog.Catalog.{Catalog}
use Rattle.process_journal.specs.declared.errors.JournalError.{JournalError}
use Rattle.process_journal.specs.declared.errors.JournalError.TheVariants as journal
use Rattle.process_journal.specs.Laws.{IsSameHistory, JournalsAreOpened, OneHistoryAtMost}
use Rattle.subsystem_store.specs.declared.effect.Effect.{Effect}
use Rattle.subsystem_store.specs.declared.errors.StoreError.{StoreError}
use Rattle.subsystem_store.specs.declared.errors.StoreError.TheVariants as store
use Rattle.subsystem_store.specs.Answers.{RefusedAs}
use Rattle.subsystem_store.specs.Laws.{BooksAreReadBack}
use Rattle.subsystem_store.specs.Order.{Book}
use Rattle.history_files.specs.Effects.{effects}
use Rattle.history_files.specs.Sound.{IsBookOf, IsSound, kind_of}
use Rattle.history_files.proofs.PlansOfEffects.{same_effects}
use Rattle.history_opening.specs.declared.faults.OpenError.{OpenError}
use Rattle.history_opening.specs.declared.faults.OpenError.TheVariants.{DiskFault, NoMemory}
use Rattle.history_opening.specs.Laws.{SoundFilesAreOpened}
use Rattle.history_opening.specs.Opening.{IsDueToBook, IsDueToJournal, IsDueToOpening, IsDueToReading, IsDueToStore, IsReadOf, book_in, difference_in, difference_of_read, of_journal_error, of_store_error}
use Rattle.history_opening.proofs.Differing.{same_books}

-- a fault of the rack, or want of memory
abbrev IsFree : OpenError → Type 0
IsFree e = (e ≡ DiskFault) ⊎ (e ≡ NoMemory)

-- a journal's refusal,
journal_free : (e : OpenError) (why : JournalError) → e ≡ of_journal_error why → (why ≡ journal.DiskFault) ⊎ (why ≡ journal.NoMemory) → IsFree e
journal_free e why is (inl fault) = inl (is ∙ ap of_journal_error fault)
journal_free e why is (inr memory) = inr (is ∙ ap of_journal_error memory)

-- and one of a store that was read
store_free : (e : OpenError) (file : ℕ) (why : StoreError) (b : Book) → e ≡ of_store_error file why → RefusedAs (Ok b) why → IsFree e
store_free e file store.DiskFault b is refused = inl is
store_free e file store.BadHeader b is refused = absurd cc
store_free e file (store.BadRecord n) b is refused = absurd cc
store_free e file (store.BadBook n) b is refused = absurd cc
store_free e file store.NoMemory b is refused = inr is

-- a book of sound files is read as it is,
book_read : BooksAreReadBack → (es : List Effect) (q : ℕ) (files : FileSet) (is : IsBookOf es q files) → book_in files q ≡ Ok (record { book = is.book; doubt = is.doubt })
book_read law es q files is = law (kind_of q) (q + 1) is.book is.doubt files is.good is.store

-- and doesn't differ
no_difference_in : BooksAreReadBack → (c : Catalog) (h : History) (files : FileSet) (q : ℕ) → q < 8 → IsSound c h files → difference_in c.ops h files q ≡ None
no_difference_in law c h files q within sound =
    let is = sound.books q within in
    ap (difference_of_read (effects c.ops h q) q) (book_read law (effects c.ops h q) q files is) ∙ same_books q (effects c.ops h q) is.book is.doubt is.counts

-- the history that is read is that one
same_difference : OneHistoryAtMost → (c d : Catalog) (h k : History) (files : FileSet) (q : ℕ) → IsSound c h files → IsReadOf d k files → difference_in d.ops k files q ≡ difference_in c.ops h files q
same_difference law c d h k files q sound read =
    let same : (d ≡ c) × IsSameHistory h k = law c d h k (file_of files 0) sound.history read.0 sound.journal read.1 in
    ap (λ x. difference_in x.ops k files q) same.0 ∙ ap (λ es. difference_of_read es q (book_in files q)) (sym (same_effects c.ops h k q same.1))

pub sound_files_are_opened : JournalsAreOpened → OneHistoryAtMost → BooksAreReadBack → SoundFilesAreOpened
sound_files_are_opened opened one read c h files e sound due = by due
  where
    by_journal : IsDueToJournal files e → IsFree e
    by_journal due = journal_free e due.why due.is (opened c h (file_of files 0) due.why sound.history sound.journal due.refused)

    by_store : IsDueToStore files e → IsFree e
    by_store due =
        let is = sound.books due.subsystem due.within in
        store_free e (due.subsystem + 1) due.why (record { book = is.book; doubt = is.doubt }) due.is
        (subst (λ found. RefusedAs found due.why) (book_read read (effects c.ops h due.subsystem) due.subsystem files is) due.refused)

    by_book : IsDueToBook files e → IsFree e
    by_book due = absurd (none-some due.fault
        (sym (no_difference_in read c h files due.subsystem due.within sound) ∙ sym (same_difference one c due.catalog h due.history files due.subsystem sound due.journal) ∙ due.differs))

    by_reading : IsDueToReading files e → IsFree e
    by_reading (inl journal) = by_journal journal
    by_reading (inr (d, k, read, store)) = by_store store

    by : IsDueToOpening files e → IsFree e
    by (inl memory) = inr memory
    by (inr (inl reading)) = by_reading reading
    by (inr (inr book)) = by_book book
