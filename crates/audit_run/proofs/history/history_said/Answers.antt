use Rattle.std.proofs.Common.{List, length, subst, sym}
use Rattle.commute_table.specs.declared.op.Op.{Op}
use Rattle.schedule_model.specs.Laws.{IsPlanned}
use Rattle.audit_run.proofs.JournalParts.{journal_planned}
use Rattle.audit_run.proofs.LooserScenarios.{history_in_own_order}
use Rattle.audit_run.proofs.history.history_said.Goals as goal

pub judged_by-requires-clause-planned : goal.judged_by-requires-clause-planned
judged_by-requires-clause-planned c =
    let h = c.args.h.now in
    subst (λ (ops : List Op). IsPlanned (length ops) h.plans h.events) (sym c.in_ok-under.ensures.under.ops) (journal_planned c.args.own h c.requires.history)

pub judged_by-requires-clause-own_order : goal.judged_by-requires-clause-own_order
judged_by-requires-clause-own_order c = history_in_own_order c.args.own c.args.h.now c.requires.history
