-- The first event of a history that may not come, found from the front.
use Rattle.std.proofs.Common.{◌≡◌, ℕ, ◌+◌, false, if◌then◌else◌, List, [], ◌∷◌, ◌++◌, length, Some, sym, ap, ◌∙◌, arith, append-nil, append_assoc, length-append}
use Rattle.std.specs.Bool.{IsTrue}
use Rattle.std.proofs.lemmas.Bool.{and_parts}
use Rattle.process_tree.specs.declared.plan.Plan.{Plan}
use Rattle.process_tree.specs.Conflicts.{Table, do_conflict, operations_in}
use Rattle.schedule_model.specs.declared.event.Event.{Event}
use Rattle.schedule_model.specs.declared.event.Event.TheVariants.{Start, Act, End}
use Rattle.schedule_model.specs.Course.{courses_of}
use Rattle.schedule_model.specs.EachEvent.{EventTest, each_passes, first_failing}
use Rattle.schedule_model.specs.Histories.{starts}
use Rattle.schedule_model.specs.Laws.{IsPlanned}
use Rattle.schedule_model.specs.Legal.{first_illegal, may_come}
use Rattle.schedule_model.proofs.Appends.{starts-append}
use Rattle.history_judging.specs.Keeping.{HasPlan, IsJudged, Tables}

-- an event that fails behind those that pass is the first that fails
first_at : (test : EventTest) (n : ℕ) (before g : List Event) (e : Event) (k : List Event) → IsTrue (each_passes test before g) → test (before ++ g) e ≡ false
    → first_failing test n before (g ++ e ∷ k) ≡ Some (length g + n)
first_at test n before [] e k passed fails =
    ap (λ t. if t then first_failing test (n + 1) (before ++ e ∷ []) k else Some n) (ap (λ b. test b e) (sym (append-nil before)) ∙ fails)
    ∙ ap Some (let same : n ≡ length {A = Event} [] + n = omega arith in same)
first_at test n before (a ∷ g) e k passed fails =
    let parts = and_parts (test before a) (each_passes test (before ++ a ∷ []) g) passed in
    ap (λ t. if t then first_failing test (n + 1) (before ++ a ∷ []) (g ++ e ∷ k) else Some n) parts.0
    ∙ (first_at test (n + 1) (before ++ a ∷ []) g e k parts.1 (ap (λ b. test b e) (append_assoc before (a ∷ []) g) ∙ fails)
    ∙ ap Some (let same : length g + (n + 1) ≡ length (a ∷ g) + n = omega arith in same))

module _ (table : Table) (plans : List Plan) (h past : List Event) (event : Event) (rest : List Event) (t : Tables) (split : h ≡ past ++ event ∷ rest)
    (judged : IsJudged table plans past t) where
  -- the first that may not come, where the history before it was judged
  pub first-there : may_come (do_conflict table) (courses_of plans) past event ≡ false → first_illegal (do_conflict table) (courses_of plans) h ≡ Some (length past + 1)
  first-there fails =
      ap (first_illegal (do_conflict table) (courses_of plans)) split
      ∙ first_at (may_come (do_conflict table) (courses_of plans)) 1 [] past event rest judged.legal fails

  -- there is a plan for a process that starts
  pub plan-there : IsPlanned (operations_in table) plans h → HasPlan plans t event
  plan-there planned = by_event event split
    where
      by_event : (a : Event) → h ≡ past ++ a ∷ rest → HasPlan plans t a
      by_event (Start i) is =
          let all = ap length (ap starts is ∙ starts-append past (Start i ∷ rest)) in
          let long = length-append (starts past) (i ∷ starts rest) in
          let each = planned.one_each in
          let many = judged.kept.started in
          omega arith
      by_event (Act e) is = tt
      by_event (End i) is = tt
