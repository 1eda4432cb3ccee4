-- A restart that is stopped and done again ends with the same completed history.
use Rattle.std.proofs.Common.{◌≡◌, ◌∙◌, ◌≤◌, ℕ, List, [], ◌∷◌, ◌++◌, length, take, suc, length-append, arith, Some, ⊎_elim, refl, ap, subst, sym, append_assoc}
use Rattle.std.proofs.lemmas.List.{take_all}
use Rattle.process_tree.specs.declared.plan.Plan.{Plan}
use Rattle.process_tree.specs.Conflicts.{do_conflict}
use Rattle.schedule_model.specs.declared.event.Event.{Event}
use Rattle.schedule_model.specs.declared.history.History.{History}
use Rattle.schedule_model.specs.Completion.{completed, completion}
use Rattle.schedule_model.specs.Course.{courses_of}
use Rattle.schedule_model.specs.Histories.{starts}
use Rattle.schedule_model.specs.Laws.{IsGood}
use Rattle.schedule_model.proofs.Appends.{starts-append}
use Rattle.schedule_model.proofs.CompletionLaws.{completion-stable}
use Rattle.schedule_model.proofs.NoConflict.{own_order-legal}
use Rattle.reduction_trace.specs.Whole.{completed_history}
use Rattle.commute_table.specs.declared.catalog.Catalog.{Catalog}
use Rattle.process_core.specs.Cores.{CoreState, history_of}
use Rattle.process_journal.specs.Laws.{AreEqualInTurn}
use Rattle.process_journal.proofs.PlansAlike.{same_courses}
use Rattle.engine_steps.specs.Engines.{full_history}
use Rattle.process_top.specs.Worlds.{World}
use Rattle.engine_calls.specs.Acknowledged.{acknowledged, events_of}
use Rattle.program_words.specs.declared.reading.Command.TheVariants.{Restart}
use Rattle.headline.specs.Headline.{HoldsAcknowledged, IsAhead, IsBeginningOf, WentOn}
use Rattle.same_histories.proofs.SameHistories.{same_completed}

-- What goes on from a history on the way to its completed one is completed to the same.
pub on_the_way : (c : Catalog) (h : History) → IsGood (do_conflict c.conflicts) h.plans h.events → (part rest : List Event) → completed_history h ≡ h.events ++ part ++ rest
    → completed (courses_of h.plans) (h.events ++ part) ≡ completed_history h
on_the_way c h good part rest is =
    completion-stable h.plans h.events part rest good.good (own_order-legal (courses_of h.plans) (do_conflict c.conflicts) h.events good.legal) is

-- A history with the same courses, whose events are such, is.
pub agrees : (c : Catalog) (h read : History) → IsGood (do_conflict c.conflicts) h.plans h.events → courses_of read.plans ≡ courses_of h.plans → (part rest : List Event)
    → read.events ≡ h.events ++ part → completed_history h ≡ h.events ++ part ++ rest → completed_history read ≡ completed_history h
agrees c h read good courses part rest events is =
    ap (λ cs. completed cs read.events) courses ∙ ap (λ es. completed (courses_of h.plans) es) events ∙ on_the_way c h good part rest is

module _ {S K R : Type 0} (c : Catalog) (h : History) (good : IsGood (do_conflict c.conflicts) h.plans h.events) (before after : World S K R) (now : CoreState) (came : List (ℕ × List Event))
    (went : WentOn (Some Restart) c h before after now came) where
  abbrev k : History
  k = went.opened

  lengths : (ps qs : List Plan) → AreEqualInTurn ps qs → length ps ≡ length qs
  lengths [] [] e = refl
  lengths [] (q ∷ qs) e = absurd e
  lengths (p ∷ ps) [] e = absurd e
  lengths (p ∷ ps) (q ∷ qs) e = ap suc (lengths ps qs e.1)

  -- the plans stay, and what happened is on the way
  record OnTheWay (j : History) : Type 0 where
    pub plans : (n : ℕ) → length k.plans ≤ n → take n j.plans ≡ k.plans
    pub rest : List Event
    pub toward : completed_history k ≡ j.events ++ rest

  now_on : OnTheWay (full_history now)
  now_on = ⊎_elim
      (λ opened. record {
        plans = λ n many. ap (λ core. take n core.plans) opened ∙ take_all n k.plans many;
        rest = completion (courses_of k.plans) k.events;
        toward = ap (λ core. history_of core ++ completion (courses_of k.plans) k.events) (sym opened);
      })
      (λ going. record {
        plans = λ n many. ap (take n) going.run.plans ∙ take_all n k.plans many;
        rest = going.rest;
        toward = going.toward;
      })
      went.by

  started_enough : (es more : List Event) → es ≡ h.events ++ more → length k.plans ≤ length (starts es)
  started_enough es more is =
      let all = ap (λ x. length (starts x)) is ∙ ap length (starts-append h.events more) in
      let sum = length-append (starts h.events) (starts more) in
      let same = lengths h.plans k.plans went.same.plans in
      let each = good.one_each in
      omega (arith, all, sum, same, each)

  ahead_on : (j : History) → IsAhead (Some Restart) before.input after.input c k now j → OnTheWay j
  ahead_on j next =
      let last = next.event ∷ [] in
      let more = history_of now ++ last in
      record {
        plans = λ n many. ap (λ x. take n x.plans) next.is
            ∙ (ap (take n) (take_all (length (starts more)) k.plans
            (started_enough more (events_of came ++ last) (ap (λ es. es ++ last) went.events ∙ append_assoc h.events (events_of came) last)))
            ∙ take_all n k.plans many);
        rest = next.rest;
        toward = next.toward ∙ (sym (append_assoc (history_of now) last next.rest) ∙ ap (λ x. x.events ++ next.rest) (sym next.is));
      }

  -- So what is read of a stopped restart is completed to the same.
  pub restarts_agree : (moment : ℕ) (read : History) → IsBeginningOf (IsAhead (Some Restart) before.input after.input c k now) now read → HoldsAcknowledged h came moment read
      → completed_history read ≡ completed_history h
  restarts_agree moment read (j, which, rest, is, begun) holds =
      let on : OnTheWay j = ⊎_elim (λ same. subst OnTheWay (sym same) now_on) (ahead_on j) which in
      let part = acknowledged moment came ++ holds.0 in
      let events : read.events ≡ h.events ++ part = holds.1 ∙ append_assoc h.events (acknowledged moment came) holds.0 in
      let enough = started_enough read.events part events in
      agrees c h read good
      (sym (same_courses (take (length (starts read.events)) j.plans) read.plans begun.plans) ∙ (ap courses_of (on.plans (length (starts read.events)) enough) ∙ sym (same_courses h.plans k.plans went.same.plans)))
      part (rest ++ on.rest) events
      (same_completed h k went.same ∙ (on.toward ∙ (ap (λ es. es ++ on.rest) (is ∙ ap (λ es. es ++ rest) events) ∙ append_assoc (h.events ++ part) rest on.rest)))
