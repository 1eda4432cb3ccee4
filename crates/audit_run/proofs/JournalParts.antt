-- What there is to say of the history of a journal, by its parts.
use Rattle.std.specs.List.{Contains}
use Rattle.std.proofs.Common.{ℕ, zero, suc, List, [], ◌∷◌, length, Result, Ok, Err, IfOk, IfErr, inl, inr, refl, subst, arith}
use Rattle.process_tree.specs.Order.{Each}
use Rattle.process_tree.specs.declared.plan.Plan.{Plan}
use Rattle.commute_table.specs.declared.catalog.Catalog.{Catalog}
use Rattle.schedule_model.specs.declared.history.History.{History}
use Rattle.schedule_model.specs.Laws.{IsPlanned}
use Rattle.process_journal.specs.Journals.{IsHistoryUnder}
use Rattle.process_journal.specs.declared.errors.JournalError.TheVariants as journal
use Rattle.process_journal.proofs.GoodPlans.{histories_are_planned}
use Rattle.journal_input.specs.Opening.{journal_test, IsNotOpened, IsOpened}
use Rattle.command_refusals.specs.declared.refusal.Refusal.{Refusal}
use Rattle.command_refusals.specs.declared.refusal.Refusal.TheVariants as refusals
use Rattle.command_refusals.specs.Order.{last_test}
use Rattle.command_refusals.proofs.Orders.{refused_before, refused_behind}
use Rattle.command_input.specs.declared.said.Said.{Said}
use Rattle.command_input.specs.declared.scenario.NoPlans.{NoPlans}
use Rattle.command_input.specs.declared.scenario.NoPlans.TheVariants.{Refused}
use Rattle.command_input.specs.FilesLeft.{Files}
use Rattle.command_input.specs.Inputs.{Input, IsWholeText}
use Rattle.command_input.specs.Scenarios.{refusing, scenario_tests, IsBound, IsNotBound}
use Rattle.command_input.proofs.ScenarioParts.{bound_holds}
use Rattle.audit_text.specs.Copies.{IsGoodFor, IsSound}
use Rattle.audit_run.specs.History.{log_in, IsHistoryAuditDue, IsHistorySaid, IsToldOf}

-- what is so of each that a list contains, is so of its members
each_of : {A : Type 0} (P : A → Type 0) (xs : List A) → ((x : A) → Contains xs x → P x) → Each P xs
each_of P [] has = tt
each_of P (x ∷ xs) has = (has x (zero, omega arith, refl), each_of P xs (λ y among. let within = among.1 in has y (suc among.0, omega (arith, within), among.2)))

-- a planned history is sound as a log
pub planned_sound : (n : ℕ) (h : History) → IsPlanned n h.plans h.events → IsSound n (log_in h)
planned_sound n h planned = record {
  good = each_of (IsGoodFor n) h.plans (λ p among. record { plan = planned.good p among; known = planned.known p among });
  one_each = planned.one_each;
}

-- that of a journal is planned
pub journal_planned : (own : Catalog) (h : History) → IsHistoryUnder own h → IsPlanned (length own.ops) h.plans h.events
journal_planned own h good = subst (λ (n : ℕ). IsPlanned n h.plans h.events) good.catalog.of_all (histories_are_planned own h good)

-- want of memory is no journal opened
pub no_memory : (before after : Files) → IsNotOpened refusals.NoMemory before after
no_memory before after = (journal.NoMemory, refl, λ told. tt, λ is. absurd cc)

module _ (before after : Input) (files files_after : Files) (bytes : List ℕ) (whole : IsWholeText before after bytes) where
  -- what file 0 gives is due
  pub from_file : (c : Catalog) (plans : List Plan) (found : Result Said Refusal) → IsBound bytes c plans
      → IfOk found (λ s. (own : Catalog) × (h : History) × IsOpened own h files files_after × IsHistorySaid c own h s.text.items s.status)
      → IfErr found (λ r. IsNotOpened r files files_after) → IsHistoryAuditDue before after files files_after found
  from_file c plans (Ok s) bound said refused = (
    bytes,
    whole,
    inl (record { catalog = c; plans = plans; own = said.0; history = said.1; bound = bound; opened = said.2; said = said.3 }),
  )
  from_file c plans (Err r) bound said refused =
      inr (bytes, whole, refused_behind (scenario_tests bytes) (λ bound. last_test (refusing (journal_test files files_after))) (Refused r) (c, plans) (bound_holds bytes c plans bound) refused)

  -- and so is what is told where the scenario gives no plans
  pub from_scenario : (none : NoPlans) (found : Result Said Refusal) → IsNotBound bytes none → IsToldOf none found
      → IsHistoryAuditDue before after files files_after found
  from_scenario none (Ok s) refused told =
      (bytes, whole, inr (record { line = told.0; first = subst (IsNotBound bytes) told.1 refused; printed = told.2; ended = told.3 }))
  from_scenario none (Err r) refused told =
      inr (bytes, whole, refused_before (scenario_tests bytes) (λ bound. last_test (refusing (journal_test files files_after))) (Refused r) (subst (IsNotBound bytes) told refused))
