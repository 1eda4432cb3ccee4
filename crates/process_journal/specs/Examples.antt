-- The worked journal: one process of one step, under a catalog of one operation.
use Rattle.std.specs.Prelude.{◌≡◌, ℕ, true, false, [], ◌∷◌, pos, codes, length, refl}
use Rattle.std.specs.Fmt.{digits}
use Rattle.process_tree.specs.declared.conflicts.Mode.TheVariants.{Never, Key}
use Rattle.process_tree.specs.declared.step.StepKind.TheVariants.{C}
use Rattle.process_tree.specs.declared.block.Tail.{End}
use Rattle.process_tree.specs.declared.plan.Plan.{Plan}
use Rattle.schedule_model.specs.declared.event.Event.TheVariants as events
use Rattle.schedule_model.specs.declared.history.History.{History}
use Rattle.commute_table.specs.declared.op.Verb.TheVariants.{Add}
use Rattle.commute_table.specs.declared.catalog.Catalog.{Catalog}
use Rattle.gate_log.specs.LogFile.{plain_log}
use Rattle.process_journal.specs.Bodies.{journal_bodies, with_event, with_start, no_history}
use Rattle.process_journal.specs.Journals.{is_allowed}

-- the operation `add` on subsystem 0, which conflicts with nothing, in version 1
abbrev pub add_alone : Catalog
add_alone =
    record { version = 1; ops = record { name = codes "add"; subsystem = 0; verb = Add } ∷ []; conflicts = (Never ∷ []) ∷ [] }

-- the same in version 2, where additions of one key conflict
abbrev pub add_by_key : Catalog
add_by_key =
    record { version = 2; ops = record { name = codes "add"; subsystem = 0; verb = Add } ∷ []; conflicts = (Key ∷ []) ∷ [] }

-- process a c x add K 5 end
abbrev pub add_on : ℕ → Plan
add_on key = record {
  name = codes "a";
  tree = record {
    steps =
        record {
          kind = C;
          name = codes "x";
          op = codes "add";
          key = key;
          amount = pos 5;
          tries = 3;
          undo_tries = 3;
          refuse = 0;
          undo_refuse = 0;
        } ∷ [];
    tail = End;
  };
  ops = 0 ∷ [];
}

-- with key 1
abbrev pub one_add : Plan
one_add = add_on 1

-- it starts, does its step and ends
abbrev pub started : History
started = with_start no_history 1 one_add

abbrev pub done : History
done = with_event started (events.Act (record { process = 1; step = 0; op = 0; key = 1; undo = false }))

abbrev pub ended : History
ended = with_event done (events.End 1)

-- the bodies of its journal
bodies : journal_bodies add_alone ended
    ≡ (0 ∷ 1 ∷ 1 ∷ 0 ∷ 3 ∷ 97 ∷ 100 ∷ 100 ∷ 0 ∷ 0 ∷ 0 ∷ [])
    ∷ (1 ∷ 1 ∷ 0 ∷ 0 ∷ 0 ∷ codes "process a c x add 1 5 end\n")
    ∷ (2 ∷ 1 ∷ 0 ∷ 0 ∷ 0 ∷ 0 ∷ 0 ∷ 0 ∷ [])
    ∷ (3 ∷ 1 ∷ 0 ∷ 0 ∷ 0 ∷ [])
    ∷ []
unfolding digits
bodies = refl

-- the file has 76 bytes, and 23 before the start
size : length (plain_log 2 0 (journal_bodies add_alone ended)) ≡ 76
unfolding digits
size = refl

size_at_first : length (plain_log 2 0 (journal_bodies add_alone no_history)) ≡ 23
size_at_first = refl

-- it is allowed,
ended_is_allowed : is_allowed add_alone ended ≡ true
ended_is_allowed = refl

-- and not where a step comes that the process doesn't have, or it ends twice, or a start has number 2
no_second_step : is_allowed add_alone
    (with_event started (events.Act (record { process = 1; step = 1; op = 0; key = 0; undo = false }))) ≡ false
no_second_step = refl

-- or a step comes with a key that isn't its own
no_other_key : is_allowed add_alone
    (with_event started (events.Act (record { process = 1; step = 0; op = 0; key = 2; undo = false }))) ≡ false
no_other_key = refl

no_second_end : is_allowed add_alone (with_event ended (events.End 1)) ≡ false
no_second_end = refl

no_start_of_2 : is_allowed add_alone (with_start no_history 2 one_add) ≡ false
no_start_of_2 = refl

-- a step may be undone, and then the process ends with nothing left
undone_and_ended : is_allowed add_alone
    (with_event (with_event done (events.Act (record { process = 1; step = 0; op = 0; key = 1; undo = true }))) (events.End 1))
    ≡ true
undone_and_ended = refl

-- the setup of the catalog of version 2
setup_of_2 : journal_bodies add_by_key no_history ≡ (0 ∷ 2 ∷ 1 ∷ 0 ∷ 3 ∷ 97 ∷ 100 ∷ 100 ∷ 0 ∷ 0 ∷ 2 ∷ []) ∷ []
setup_of_2 = refl

-- behind the first one's step, a second process does its own on this key, and ends
abbrev pub second_ended : ℕ → History
second_ended key =
    with_event (with_event (with_start done 2 (add_on key))
    (events.Act (record { process = 2; step = 0; op = 0; key = key; undo = false }))) (events.End 2)

-- on another key it may, and on the same one it waits for the first
ends_on_another_key : is_allowed add_by_key (second_ended 2) ≡ true
ends_on_another_key = refl

waits_on_the_same_key : is_allowed add_by_key (second_ended 1) ≡ false
waits_on_the_same_key = refl

-- where additions never conflict it may on the same one
ends_without_conflicts : is_allowed add_alone (second_ended 1) ≡ true
ends_without_conflicts = refl
