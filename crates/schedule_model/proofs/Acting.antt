-- What an event that may come says of its process.
use Rattle.std.proofs.Common.{◌≡◌, ℕ, ◌&&◌, if◌then◌else◌, List}
use Rattle.std.specs.Bool.{IsTrue}
use Rattle.std.proofs.lemmas.Bool.{and_parts}
use Rattle.process_tree.proofs.Entries.{same_access-true}
use Rattle.process_tree.specs.Entries.{access_of}
use Rattle.process_tree.specs.Conflicts.{same_access}
use Rattle.process_tree.specs.declared.entry.Entry.{Entry}
use Rattle.schedule_model.specs.declared.event.Event.{Event}
use Rattle.schedule_model.specs.declared.event.Event.TheVariants.{Act, End}
use Rattle.schedule_model.specs.Course.{Course, access_at}
use Rattle.schedule_model.specs.Conflict.{ConflictRelation}
use Rattle.schedule_model.specs.Histories.{is_active}
use Rattle.schedule_model.specs.Recovery.{backward_entries}
use Rattle.schedule_model.specs.OwnOrder.{keeps_order, goes_on, is_of_last, is_at_end}
use Rattle.schedule_model.specs.Legal.{is_clear, may_come}

module _ (courses : List Course) (h : List Event) where
  -- an entry in own order is of an active process, and has the plan's operation
  pub act_in_order : (e : Entry) → IsTrue (keeps_order courses h (Act e)) → IsTrue (is_active h e.process) × (access_of e ≡ access_at courses e.process e.step)
  act_in_order e keeps =
      let first = and_parts (is_active h e.process && same_access (access_of e) (access_at courses e.process e.step)) (if e.undo then is_of_last (backward_entries courses h e.process) e else goes_on courses h e.process e.step) keeps in
      let parts = and_parts (is_active h e.process) (same_access (access_of e) (access_at courses e.process e.step)) first.0 in
      (parts.0, same_access-true (access_of e) (access_at courses e.process e.step) parts.1)

  -- an end in own order is of an active process at an end
  pub end_in_order : (i : ℕ) → IsTrue (keeps_order courses h (End i)) → IsTrue (is_active h i) × IsTrue (is_at_end courses h i)
  end_in_order i keeps = and_parts (is_active h i) (is_at_end courses h i) keeps

module _ (table : ConflictRelation) (courses : List Course) (h : List Event) where
  pub order_of : (e : Event) → IsTrue (may_come table courses h e) → IsTrue (keeps_order courses h e)
  order_of e may = (and_parts (keeps_order courses h e) (is_clear table courses h e) may).0

  pub clear_of : (e : Event) → IsTrue (may_come table courses h e) → IsTrue (is_clear table courses h e)
  clear_of e may = (and_parts (keeps_order courses h e) (is_clear table courses h e) may).1

  pub act_active : (e : Entry) → IsTrue (may_come table courses h (Act e)) → IsTrue (is_active h e.process)
  act_active e may = (act_in_order courses h e (order_of (Act e) may)).0

  pub end_active : (i : ℕ) → IsTrue (may_come table courses h (End i)) → IsTrue (is_active h i)
  end_active i may = (end_in_order courses h i (order_of (End i) may)).0
