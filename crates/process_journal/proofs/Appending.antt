-- What an append makes of a journal.
use Rattle.std.specs.Prelude.{OnOk}
use Rattle.std.proofs.Common.{◌≡◌, ◌++◌, ◌∷◌, [], ℕ, List, map, Result, Ok, Err, sym, ap, ◌∙◌, subst, inl, inr, ⊎_elim}
use Rattle.process_disk.specs.Disk.{Disk, FileSet, file_of}
use Rattle.process_disk.specs.Images.{EachImage}
use Rattle.process_disk.proofs.Images.{each_so}
use Rattle.gate_log.specs.LogFile.{plain_log}
use Rattle.gate_log.specs.Standing.{LogState, Logs, StandsFor, LogsBeforeOrWith}
use Rattle.gate_log.specs.Staging.{LogsBeforeOrWithAll}
use Rattle.schedule_model.specs.declared.history.History.{History}
use Rattle.commute_table.specs.declared.catalog.Catalog.{Catalog}
use Rattle.journal_records.specs.declared.record.Record.{Record}
use Rattle.journal_records.specs.Bytes.{bytes_of}
use Rattle.process_journal.specs.Bodies.{journal_bodies}
use Rattle.process_journal.specs.Journals.{IsHistoryUnder, IsMadeBy, AreMadeBy}
use Rattle.process_journal.specs.Opened.{Stands, IsJournalOfEither}
use Rattle.process_journal.proofs.BodiesPushed.{bodies_made, are_good, bodies_made_all}

-- the bodies of a journal with those of the records that are staged
pub all_bodies : (c : Catalog) (rs : List Record) (h after : History) (staged : List (List ℕ)) → IsHistoryUnder c h → staged ≡ map bytes_of rs → AreMadeBy c rs h after → journal_bodies c h ++ staged ≡ journal_bodies c after
all_bodies c rs h after staged before are made = ap (λ (bs : List (List ℕ)). journal_bodies c h ++ bs) are ∙ sym (bodies_made_all c rs h after before made)

-- a log with the record's bytes stands for the history with it
pub appended : {E : Type 0} (c : Catalog) (r : Record) (h after : History) (result : Result Unit E) (log : LogState) (disk : Disk) → IsHistoryUnder c h → IsMadeBy c r h after → IsHistoryUnder c after
    → OnOk result (StandsFor log (journal_bodies c h ++ bytes_of r ∷ []) disk) → OnOk result (Stands log c after disk)
appended c r h after (Ok unit) log disk before made good stands = record { history = good; log = subst (λ bs. StandsFor log bs disk) (sym (bodies_made c r h after before made)) stands }
appended c r h after (Err e) log disk before made good stands = tt

-- images with or without those bytes are of the history with it or without
pub images_appended : (c : Catalog) (r : Record) (h after : History) (q : ℕ) (disk : Disk) (t : ℕ) → IsHistoryUnder c h → IsMadeBy c r h after → q ≡ 0
    → EachImage disk t (LogsBeforeOrWith q (journal_bodies c h) (bytes_of r)) → EachImage disk t (IsJournalOfEither c h after)
images_appended c r h after q disk t before made own images =
    each_so disk t (LogsBeforeOrWith q (journal_bodies c h) (bytes_of r)) (IsJournalOfEither c h after)
    (λ files. ⊎_elim (λ l. inl (subst (λ k. Logs k (journal_bodies c h) files) own l))
    (λ l. inr (subst (λ bs. Logs 0 bs files) (sym (bodies_made c r h after before made)) (subst (λ k. Logs k (journal_bodies c h ++ bytes_of r ∷ []) files) own l)))) images

-- a file as a journal writes it stays so
pub bytes_appended : {E : Type 0} (version : ℕ) (c : Catalog) (r : Record) (h after : History) (q : ℕ) (result : Result Unit E) (old new : FileSet) → IsHistoryUnder c h → IsMadeBy c r h after → q ≡ 0
    → (file_of old q ≡ plain_log version q (journal_bodies c h) → OnOk result (file_of new q ≡ plain_log version q (journal_bodies c h ++ bytes_of r ∷ [])))
    → file_of old 0 ≡ plain_log version 0 (journal_bodies c h) → OnOk result (file_of new 0 ≡ plain_log version 0 (journal_bodies c after))
bytes_appended version c r h after q (Ok unit) old new before made own written is =
    let at : (k : ℕ) → k ≡ 0 → (file_of old k ≡ plain_log version k (journal_bodies c h) → file_of new k ≡ plain_log version k (journal_bodies c h ++ bytes_of r ∷ [])) → file_of new 0 ≡ plain_log version 0 (journal_bodies c h ++ bytes_of r ∷ []) =
    λ k zero so. subst (λ n. file_of new n ≡ plain_log version n (journal_bodies c h ++ bytes_of r ∷ [])) zero (so (subst (λ n. file_of old n ≡ plain_log version n (journal_bodies c h)) (sym zero) is)) in
    at q own written ∙ ap (plain_log version 0) (sym (bodies_made c r h after before made))
bytes_appended version c r h after q (Err e) old new before made own written is = tt

-- the same of all records that are staged: a log with their bytes stands for the history with all,
pub appended_all : {E : Type 0} (c : Catalog) (rs : List Record) (h after : History) (staged : List (List ℕ)) (result : Result Unit E) (log : LogState) (disk : Disk) → IsHistoryUnder c h → staged ≡ map bytes_of rs → AreMadeBy c rs h after
    → OnOk result (StandsFor log (journal_bodies c h ++ staged) disk) → OnOk result (Stands log c after disk)
appended_all c rs h after staged (Ok unit) log disk before are made stands = record {
  history = are_good c rs h after before made;
  log = subst (λ bs. StandsFor log bs disk) (all_bodies c rs h after staged before are made) stands;
}
appended_all c rs h after staged (Err e) log disk before are made stands = tt

-- images with or without all of them are of the history with all or before,
pub images_appended_all : (c : Catalog) (rs : List Record) (h after : History) (staged : List (List ℕ)) (q : ℕ) (disk : Disk) (t : ℕ) → IsHistoryUnder c h → staged ≡ map bytes_of rs → AreMadeBy c rs h after → q ≡ 0
    → EachImage disk t (LogsBeforeOrWithAll q (journal_bodies c h) staged) → EachImage disk t (IsJournalOfEither c h after)
images_appended_all c rs h after staged q disk t before are made own images =
    each_so disk t (LogsBeforeOrWithAll q (journal_bodies c h) staged) (IsJournalOfEither c h after)
    (λ files. ⊎_elim (λ l. inl (subst (λ k. Logs k (journal_bodies c h) files) own l))
    (λ l. inr (subst (λ bs. Logs 0 bs files) (all_bodies c rs h after staged before are made) (subst (λ k. Logs k (journal_bodies c h ++ staged) files) own l)))) images

-- and a file as a journal writes it stays so
pub bytes_appended_all : {E : Type 0} (version : ℕ) (c : Catalog) (rs : List Record) (h after : History) (staged : List (List ℕ)) (q : ℕ) (result : Result Unit E) (old new : FileSet) → IsHistoryUnder c h → staged ≡ map bytes_of rs → AreMadeBy c rs h after
    → q ≡ 0 → (file_of old q ≡ plain_log version q (journal_bodies c h) → OnOk result (file_of new q ≡ plain_log version q (journal_bodies c h ++ staged)))
    → file_of old 0 ≡ plain_log version 0 (journal_bodies c h) → OnOk result (file_of new 0 ≡ plain_log version 0 (journal_bodies c after))
bytes_appended_all version c rs h after staged q (Ok unit) old new before are made own written is =
    let all = journal_bodies c h ++ staged in
    let at : (k : ℕ) → k ≡ 0 → (file_of old k ≡ plain_log version k (journal_bodies c h) → file_of new k ≡ plain_log version k all) → file_of new 0 ≡ plain_log version 0 all =
    λ k zero so. subst (λ n. file_of new n ≡ plain_log version n all) zero (so (subst (λ n. file_of old n ≡ plain_log version n (journal_bodies c h)) (sym zero) is)) in
    at q own written ∙ ap (plain_log version 0) (all_bodies c rs h after staged before are made)
bytes_appended_all version c rs h after staged q (Err e) old new before are made own written is = tt
