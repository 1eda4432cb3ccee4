-- Stores that are opened, one after another.
use Rattle.std.proofs.Common.{◌≡◌, ◌<◌, ◌+◌, ℕ, List, [], ◌∷◌, ◌++◌, length, refl, subst, arith}
use Rattle.std.specs.Prelude.{Ok}
use Rattle.process_disk.specs.Disk.{Disk, IsHonest, file_of}
use Rattle.process_disk.specs.Images.{AllAsBefore}
use Rattle.process_disk.proofs.Images.{all_then, others_of_all, run_none}
use Rattle.resource_box.specs.declared.call.Kind.{Kind}
use Rattle.subsystem_store.specs.Opened.{Opened, Stands}
use Rattle.subsystem_store.specs.Order.{Book, read_store}
use Rattle.subsystem_store.specs.Answers.{RefusedAs}
use Rattle.subsystem_store.specs.declared.errors.StoreError.{StoreError}
use Rattle.std.proofs.lemmas.Option.{none-some}
use Rattle.history_files.specs.Sound.{kind_of}
use Rattle.history_files.specs.Standing.{AtEach}
use Rattle.history_files.proofs.Clearing.{each_with}
use Rattle.history_files.proofs.Places.{place_has}
use Rattle.history_files.proofs.StandingStores.{store_still}
use Rattle.history_opening.specs.Opening.{book_in}

-- Some stores were opened since a moment: they stand, they are what was read, and nothing was written.
pub record Read {B : Type 0} (start now : Disk) (stores : List (Opened B)) : Type 0 where
  pub stand : AtEach (λ q s. Stands s now) stores
  pub read : AtEach (λ q s. book_in start.files q ≡ Ok (record { book = s.book; doubt = s.doubt })) stores
  pub all : AllAsBefore start now

-- none yet
pub read_none : {B : Type 0} (disk : Disk) → IsHonest disk → Read {B = B} disk disk []
read_none disk honest = record {
  stand = λ q s at. absurd (none-some s at);
  read = λ q s at. absurd (none-some s at);
  all = run_none _ disk (λ c. refl) honest;
}

-- what is read of the next file, by its kind and as it was at the start
pub read_next : (start now : Disk) (q file : ℕ) (kind : Kind) (b : Book) → AllAsBefore start now → kind ≡ kind_of q → file ≡ q + 1 → read_store kind file (file_of now.files file) ≡ Ok b → book_in start.files q ≡ Ok b
read_next start now q file kind b all is_kind is_file read =
    subst (λ fs. book_in fs q ≡ Ok b) all.read
    (subst (λ k. read_store k (q + 1) (file_of now.files (q + 1)) ≡ Ok b) is_kind (subst (λ n. read_store kind n (file_of now.files n) ≡ Ok b) is_file read))

-- and what is refused of it
pub refused_next : (start now : Disk) (q file : ℕ) (kind : Kind) (why : StoreError) → AllAsBefore start now → kind ≡ kind_of q → file ≡ q + 1 → RefusedAs (read_store kind file (file_of now.files file)) why → RefusedAs (book_in start.files q) why
refused_next start now q file kind why all is_kind is_file refused =
    subst (λ fs. RefusedAs (book_in fs q) why) all.read
    (subst (λ k. RefusedAs (read_store k (q + 1) (file_of now.files (q + 1))) why) is_kind (subst (λ n. RefusedAs (read_store kind n (file_of now.files n)) why) is_file refused))

-- one more, on the next file
pub read_more : {B : Type 0} (start old new : Disk) (stores : List (Opened B)) (s : Opened B) → IsHonest old → IsHonest new → AtEach (λ q s. s.log.file ≡ q + 1) stores
    → Read start old stores → AllAsBefore old new → Stands s new → book_in start.files (length stores) ≡ Ok (record { book = s.book; doubt = s.doubt }) → Read start new (stores ++ s ∷ [])
read_more start old new stores s honest honest_new files read all stands is = record {
  stand = each_with (λ q x. Stands x new) stores s
      (λ q x at. store_still 0 x old new honest honest_new (λ same. absurd (omega (arith, same, files q x at))) (others_of_all 0 old new all) (read.stand q x at))
      stands;
  read = each_with (λ q x. book_in start.files q ≡ Ok (record { book = x.book; doubt = x.doubt })) stores s read.read is;
  all = all_then start old new honest honest_new read.all all;
}

-- those before were read
pub read_earlier : {B : Type 0} (start now : Disk) (stores : List (Opened B)) → Read start now stores → (p : ℕ) → p < length stores → (b : Book) × (book_in start.files p ≡ Ok b)
read_earlier start now stores read p within =
    let has = place_has stores p within in
    (record { book = has.0.book; doubt = has.0.doubt }, read.read p has.0 has.1)
