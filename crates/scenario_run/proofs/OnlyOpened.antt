-- Files that were opened for a scenario and left so.
use Rattle.std.proofs.Common.{[], inl, subst, sym, append-nil}
use Rattle.schedule_model.specs.declared.history.History.{History}
use Rattle.commute_table.specs.declared.catalog.Catalog.{Catalog}
use Rattle.history_files.specs.Sound.{IsSound}
use Rattle.engine_calls.specs.Opened.{AreOnlyOpened}
use Rattle.engine_calls.proofs.Beginnings.{OneEach, continues_none, is_beginning}
use Rattle.command_input.specs.FilesLeft.{Files}
use Rattle.scenario_run.specs.Opening.{AreOpenedOn}

-- nothing came since
pub only_opened : (c : Catalog) (h : History) (before after : Files) → OneEach h → AreOpenedOn c h before after → AreOnlyOpened c h before.disk after.disk
only_opened c h before after one_each opened = record {
  came = [];
  events = sym (append-nil h.events);
  started = [];
  plans = sym (append-nil h.plans);
  sound = opened.sound;
  in_turn = λ told. let becomes = opened.becomes told in record {
    moment = becomes.moment;
    begun = becomes.begun;
    by_now = becomes.by_now;
    before = becomes.before;
    since = record { has = λ files left. inl (subst (λ k. IsSound c k files) (is_beginning h h one_each (continues_none h)) (becomes.each.has files left)) };
  };
  read = λ on told. opened.now told;
  each = λ on told. opened.each told;
}
