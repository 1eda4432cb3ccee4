-- What a call leaves of files that were sound for its history at entry, as was whatever a crash would have left.
use Rattle.std.proofs.Common.{◌⊎◌, ◌∙◌, ℕ, List, Option, inl, inr, ap, subst, sym, arith}
use Rattle.process_disk.specs.Disk.{FileSet, IsHonest, Told}
use Rattle.process_disk.specs.Images.{EachImage}
use Rattle.schedule_model.specs.declared.event.Event.{Event}
use Rattle.schedule_model.specs.declared.history.History.{History}
use Rattle.commute_table.specs.declared.catalog.Catalog.{Catalog}
use Rattle.process_core.specs.Cores.{CoreState}
use Rattle.process_journal.specs.Laws.{beginning}
use Rattle.history_files.specs.Sound.{IsSound}
use Rattle.engine_steps.specs.Engines.{full_history}
use Rattle.engine_calls.specs.Acknowledged.{ComeInTurn}
use Rattle.program_words.specs.declared.reading.Command.{Command}
use Rattle.process_top.specs.Worlds.{World}
use Rattle.headline.specs.Headline.{IsAhead, IsAtEntry, IsKeptInTurn, IsLeftAlone, LeavesFiles, LeavesSound, WentOn}
use Rattle.headline.proofs.GoodHistories.{whole_beginning}

module _ {S K R : Type 0} (o : Option Command) (c : Catalog) (h : History) (before after : World S K R) (number : ℕ) (now : CoreState) (came : List (ℕ × List Event))
    (went : WentOn o c h before after now came) (leaves : LeavesFiles o c h before after number now came) (entry : IsAtEntry c h before.files.disk)
    (told : Told after.files.disk) (honest : IsHonest after.files.disk) where
  abbrev Alone : Type 0
  Alone = IsLeftAlone h now came before.files.disk after.files.disk

  abbrev InTurn : Type 0
  InTurn = IsKeptInTurn o c h before after went.opened now came

  abbrev AheadFiles : FileSet → Type 0
  AheadFiles files = (k : History) × IsAhead o before.input after.input c went.opened now k × IsSound c k files

  -- files that were left alone are sound for the history, as are all images since
  alone_sound : Alone → (files : FileSet) → after.files.disk.left_since before.files.disk.moment files → IsSound c h files
  alone_sound alone files left = let from = alone.as_before.images files left in subst (λ fs. IsSound c h fs) (sym from.2) (entry.images from.0 from.1)

  in_turn_by : Alone ⊎ InTurn → InTurn
  in_turn_by (inl alone) = record {
    moment = before.files.disk.moment;
    begun = omega arith;
    by_now = alone.as_before.follow.later;
    before = λ files left. inr left;
    since = subst (λ x. ComeInTurn c (full_history now) AheadFiles after.files.disk h.events before.files.disk.moment x) (sym alone.nothing) (record {
      has = λ files left. inl (subst (λ k. IsSound c k files)
          (whole_beginning c h entry.created.history ∙ ap (λ k. beginning k h.events) (sym alone.still)) (alone_sound alone files left));
    });
  }
  in_turn_by (inr kept) = kept

  abbrev Each : Type 0
  Each = EachImage after.files.disk after.files.disk.moment (IsSound c (full_history now))

  each_by : Alone ⊎ Each → Each
  each_by (inl alone) = record {
    has = λ files left. subst (λ k. IsSound c k files) (sym alone.still)
        (alone_sound alone files (honest.earlier before.files.disk.moment after.files.disk.moment files alone.as_before.follow.later left));
  }
  each_by (inr each) = each

  pub leaves_sound : LeavesSound o c h before after leaves.status went.opened now came
  leaves_sound = record {
    in_turn = in_turn_by went.kept;
    kept = λ well. each_by (leaves.kept well);
    next = λ well.
        let each = each_by (leaves.kept well) in
        record {
          told = told;
          created = each.has after.files.disk.files (honest.now after.files.disk.files honest.read);
          images = λ files may. each.has files (honest.now files may);
        };
  }
