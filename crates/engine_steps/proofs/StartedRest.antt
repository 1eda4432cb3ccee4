-- Files at rest, once the journal has a start.
use Rattle.std.proofs.Common.{◌≡◌, ◌∙◌, ℕ, ◌+◌, [], ◌∷◌, length-append, sym, subst, arith}
use Rattle.process_disk.specs.Disk.{Disk, Told}
use Rattle.process_tree.specs.declared.plan.Plan.{Plan}
use Rattle.schedule_model.specs.declared.event.Event.TheVariants.{Start}
use Rattle.schedule_model.specs.declared.history.History.{History}
use Rattle.commute_table.specs.declared.catalog.Catalog.{Catalog}
use Rattle.subsystem_store.specs.Laws.{IsGoodBook}
use Rattle.subsystem_store.specs.Opened.{Opened}
use Rattle.process_journal.specs.Bodies.{with_start}
use Rattle.process_journal.specs.Journals.{IsHistoryUnder}
use Rattle.history_files.specs.Effects.{effects}
use Rattle.history_files.specs.Laws.{StartsAddNone}
use Rattle.history_files.specs.Sound.{counted}
use Rattle.history_files.specs.Standing.{AtEach, ComeTo, FilesState, Stand}
use Rattle.engine_steps.specs.Engines.{AreAtRest}

module _ {R B : Type 0} (c : Catalog) (h : History) (i : ℕ) (p : Plan) (law : StartsAddNone) (under : IsHistoryUnder c h) (old : FilesState R B) (before : Disk) (rest : AreAtRest c h old before) where
  books_after : AtEach (λ q s. s.book ≡ effects c.ops (with_start h i p) q) old.stores
  books_after q s at = rest.books q s at ∙ sym (law c h i p q under)

  -- the books come to the effects of the history with the start
  pub come_after : ComeTo c.ops (with_start h i p) old.stores
  come_after q s at = subst (λ d. counted (effects c.ops (with_start h i p) q) s.book d ≡ effects c.ops (with_start h i p) q) (sym (rest.none q s at)) (books_after q s at)

  -- and the files are at rest
  pub rest_after : (new : FilesState R B) (disk : Disk) → new.stores ≡ old.stores → new.journal.count ≡ old.journal.count + 1 → (Told disk → Stand c (with_start h i p) new.journal new.stores disk)
      → AreAtRest c (with_start h i p) new disk
  rest_after new disk same one stand =
      let were = rest.count in
      let more = length-append h.events (Start i ∷ []) in
      record {
        count = omega (arith, one, were, more);
        none = subst (AtEach (λ q (s : Opened B). s.doubt ≡ [])) (sym same) rest.none;
        books = subst (AtEach (λ q (s : Opened B). s.book ≡ effects c.ops (with_start h i p) q)) (sym same) books_after;
        good = subst (AtEach (λ q (s : Opened B). IsGoodBook s.kind s.book s.doubt)) (sym same) rest.good;
        stand = stand;
      }
