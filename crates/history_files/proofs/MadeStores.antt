-- Stores that are made of empty files, one after another.
use Rattle.std.proofs.Common.{◌≡◌, ◌<◌, ◌≤◌, ◌+◌, ℕ, List, [], ◌∷◌, ◌++◌, length, ◌∙◌, arith}
use Rattle.process_disk.specs.Disk.{Disk, IsHonest, file_of}
use Rattle.process_disk.specs.Images.{ImagesFollow, OthersAsBefore}
use Rattle.process_disk.proofs.Images.{follow_none, follow_then}
use Rattle.gate_log.specs.Standing.{LogState, StandsFor}
use Rattle.gate_log.proofs.Standing.{stands_still}
use Rattle.subsystem_store.specs.Opened.{Opened, Stands}
use Rattle.std.proofs.lemmas.Option.{slice_get_within, none-some}
use Rattle.std.proofs.lemmas.List.{length-append}
use Rattle.history_files.specs.Standing.{AtEach}
use Rattle.history_files.proofs.Clearing.{each_with}
use Rattle.history_files.proofs.StandingStores.{store_still}

-- Some stores were made since a moment: they stand, the files of the others are empty, and what stood on file 0 stands still.
pub record Made {B : Type 0} (start now : Disk) (stores : List (Opened B)) : Type 0 where
  pub stand : AtEach (λ q s. Stands s now) stores
  pub empty : (k : ℕ) → length stores + 1 ≤ k → k < 9 → file_of now.files k ≡ []
  pub journal : (log : LogState) (bodies : List (List ℕ)) → log.file ≡ 0 → StandsFor log bodies start → StandsFor log bodies now
  pub follow : ImagesFollow start now

-- none yet
pub made_none : {B : Type 0} (disk : Disk) → ((k : ℕ) → 1 ≤ k → k < 9 → file_of disk.files k ≡ []) → Made {B = B} disk disk []
made_none disk empty = record {
  stand = λ q s at. absurd (none-some s at);
  empty = λ k from within. empty k from within;
  journal = λ log bodies zero stands. stands;
  follow = follow_none disk;
}

-- one more, on the next file
pub made_more : {B : Type 0} (start old new : Disk) (stores : List (Opened B)) (s : Opened B) → IsHonest old → IsHonest new → AtEach (λ q s. s.log.file ≡ q + 1) stores
    → Made start old stores → OthersAsBefore (length stores + 1) old new → Stands s new → Made start new (stores ++ s ∷ [])
made_more start old new stores s honest honest_new files made others stands = record {
  stand = each_with (λ q x. Stands x new) stores s
      (λ q x at. store_still (length stores + 1) x old new honest honest_new
      (λ same. absurd (omega (arith, same, files q x at, slice_get_within stores q x at))) others (made.stand q x at))
      stands;
  empty = λ k from within. others.read.others k (λ same. absurd (omega (arith, same, from, length-append stores (s ∷ [])))) ∙ made.empty k (omega (arith, from, length-append stores (s ∷ []))) within;
  journal = λ log bodies zero before. stands_still (length stores + 1) log bodies old new honest honest_new (λ same. absurd (omega (arith, same, zero))) others (made.journal log bodies zero before);
  follow = follow_then start old new honest_new made.follow others.follow;
}

-- images follow over three runs of calls
pub follow_thrice : (old first mid new : Disk) → IsHonest mid → IsHonest new → ImagesFollow old first → ImagesFollow first mid → ImagesFollow mid new → ImagesFollow old new
follow_thrice old first mid new honest_mid honest one two three = follow_then old mid new honest (follow_then old first mid honest_mid one two) three
