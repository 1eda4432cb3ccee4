-- What is printed of a legal history leads to a serial list.
use Rattle.std.proofs.Common.{◌≡◌, List, flat_map, Some, Result, Ok, Err, IfOk, ap, ◌∙◌}
use Rattle.std.specs.Bool.{IsTrue}
use Rattle.process_tree.specs.declared.entry.Entry.{Entry}
use Rattle.process_tree.specs.declared.plan.Plan.{Plan}
use Rattle.process_tree.specs.Conflicts.{Table, do_conflict}
use Rattle.process_tree.proofs.Tables.{do_conflict-symmetric}
use Rattle.schedule_model.specs.declared.event.Event.{Event}
use Rattle.schedule_model.specs.declared.trace_step.TraceStep.{TraceStep}
use Rattle.schedule_model.specs.Course.{courses_of}
use Rattle.schedule_model.specs.Completion.{completed}
use Rattle.schedule_model.specs.Histories.{acts, ends, net_of}
use Rattle.schedule_model.specs.Laws.{AreGood, Reduces}
use Rattle.schedule_model.specs.Legal.{is_legal}
use Rattle.schedule_model.specs.PrintedTrace.{Trace, printed_trace}
use Rattle.schedule_model.specs.Reduction.{AreReduced, applied_all, is_serial}
use Rattle.schedule_model.proofs.NoConflict.{reducible-legal}
use Rattle.schedule_model.proofs.StandingLaws.{completed-legal}
use Rattle.schedule_model.proofs.ReductionLaws.{reduction-law}

module _ (t : Table) (plans : List Plan) (h : List Event) (good : AreGood plans) (legal : IsTrue (is_legal (do_conflict t) (courses_of plans) h)) where
  abbrev full : List Event
  full = completed (courses_of plans) h

  reduces : Reduces (do_conflict t) full
  reduces =
      let done = completed-legal (do_conflict t) plans (do_conflict-symmetric t) good h legal in
      reduction-law (do_conflict t) (courses_of plans) full (do_conflict-symmetric t) (reducible-legal (courses_of plans) (do_conflict t) full done.0) done.1

  module _ (list serial : List Entry) (steps : List TraceStep) (is : list ≡ acts full) (printed : record { steps = steps; list = serial } ≡ printed_trace (courses_of plans) h) where
    steps_are : steps ≡ (printed_trace (courses_of plans) h).steps
    steps_are = ap (λ (r : Trace). r.steps) printed

    serial_is : serial ≡ (printed_trace (courses_of plans) h).list
    serial_is = ap (λ (r : Trace). r.list) printed

    pub steps_apply : applied_all (do_conflict t) steps list ≡ Some serial
    steps_apply = rw (steps_are, serial_is, is) reduces.applies

    pub chain_leads : AreReduced (do_conflict t) list serial
    chain_leads = rw (serial_is, is) reduces.reduced

    pub list_is_serial : IsTrue (is_serial serial)
    list_is_serial = ap is_serial serial_is ∙ reduces.serial

    pub ends_give_order : serial ≡ flat_map (net_of full) (ends full)
    ends_give_order = serial_is ∙ reduces.nets

-- two facts of an answer that is there give a third
pub if_both : {X E : Type 0} (P Q R : X → Type 0) (o : Result X E) → IfOk o P → IfOk o Q → ((x : X) → P x → Q x → R x) → IfOk o R
if_both P Q R (Ok x) p q follows = follows x p q
if_both P Q R (Err e) p q follows = tt
