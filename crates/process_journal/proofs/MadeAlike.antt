-- What a record makes of the same history is alike.
use Rattle.std.proofs.Common.{◌≡◌, ◌&&◌, List, [], ◌∷◌, ◌++◌, refl, sym, ap, ◌∙◌}
use Rattle.process_tree.specs.Conflicts.{do_conflict}
use Rattle.process_tree.specs.declared.plan.Plan.{Plan}
use Rattle.process_tree.specs.Form.{AreEqualPlans}
use Rattle.schedule_model.specs.declared.event.Event.TheVariants.{Start, Act, End}
use Rattle.schedule_model.specs.declared.history.History.{History}
use Rattle.schedule_model.specs.Course.{courses_of, op_of, key_of}
use Rattle.schedule_model.specs.Legal.{is_legal}
use Rattle.schedule_model.specs.Limits.{is_within_limits}
use Rattle.commute_table.specs.declared.catalog.Catalog.{Catalog}
use Rattle.journal_records.specs.declared.record.Record.{Record}
use Rattle.journal_records.specs.declared.record.Record.TheVariants as records
use Rattle.process_journal.specs.Bodies.{with_event, with_start}
use Rattle.process_journal.specs.Journals.{is_allowed, IsMadeBy}
use Rattle.process_journal.specs.Reading.{planned, planned_record}
use Rattle.process_journal.specs.Laws.{AreEqualInTurn, IsSameHistory}
use Rattle.process_journal.proofs.PlansAlike.{plans_alike, same_courses}

-- what is allowed asks the courses and the events alone
pub allowed_same : (c : Catalog) (h k : History) → courses_of h.plans ≡ courses_of k.plans → h.events ≡ k.events → is_allowed c h ≡ is_allowed c k
allowed_same c h k courses events =
    ap (λ cs. is_legal (do_conflict c.conflicts) cs h.events && is_within_limits cs h.events) courses
    ∙ ap (λ es. is_legal (do_conflict c.conflicts) (courses_of k.plans) es && is_within_limits (courses_of k.plans) es) events

-- lists of equal plans with one more each
equal_push : (ps qs : List Plan) (p q : Plan) → AreEqualInTurn ps qs → AreEqualPlans p q → AreEqualInTurn (ps ++ p ∷ []) (qs ++ q ∷ [])
equal_push [] [] p q equal one = (one, tt)
equal_push [] (y ∷ qs) p q equal one = absurd equal
equal_push (x ∷ ps) [] p q equal one = absurd equal
equal_push (x ∷ ps) (y ∷ qs) p q equal one = (equal.0, equal_push ps qs p q equal.1 one)

-- What a record makes of a history it makes of the same one too, and both are allowed or neither is.
pub record MadeToo (c : Catalog) (r : Record) (k one : History) : Type 0 where
  pub after : History
  pub made : IsMadeBy c (planned_record k r) k after
  pub alike : is_allowed c after ≡ is_allowed c one

pub made_too : (c : Catalog) (r : Record) (h k one : History) → IsSameHistory h k → IsMadeBy c (planned_record h r) h one → MadeToo c r k one
made_too c (records.Setup catalog) h k one same made = absurd made
made_too c (records.Start i text) h k one same (p, own, is) =
    let equal = equal_push h.plans k.plans p p same.plans (record { name = refl; tree = refl; says = refl; ops = refl }) in
    record {
      after = with_start k i p;
      made = (p, own, refl);
      alike = sym (ap (is_allowed c) is ∙ allowed_same c (with_start h i p) (with_start k i p) (same_courses (h.plans ++ p ∷ []) (k.plans ++ p ∷ []) equal) (ap (λ es. es ++ Start i ∷ []) same.events));
    }
made_too c (records.Act e) h k one same is =
    let courses = same_courses h.plans k.plans same.plans in
    let entry : planned h e ≡ planned k e = ap (λ cs. record { process = e.process; step = e.step; op = op_of cs e.process e.step; key = key_of cs e.process e.step; undo = e.undo }) courses in
    record {
      after = with_event k (Act (planned k e));
      made = refl;
      alike = sym (ap (is_allowed c) is ∙ allowed_same c (with_event h (Act (planned h e))) (with_event k (Act (planned k e))) courses
          (ap (λ es. es ++ Act (planned h e) ∷ []) same.events ∙ ap (λ x. k.events ++ Act x ∷ []) entry));
    }
made_too c (records.End i) h k one same is = record {
  after = with_event k (End i);
  made = refl;
  alike = sym (ap (is_allowed c) is ∙ allowed_same c (with_event h (End i)) (with_event k (End i)) (same_courses h.plans k.plans same.plans) (ap (λ es. es ++ End i ∷ []) same.events));
}

equal_to_itself : (ps : List Plan) → AreEqualInTurn ps ps
equal_to_itself [] = tt
equal_to_itself (p ∷ ps) = (record { name = refl; tree = refl; says = refl; ops = refl }, equal_to_itself ps)

-- two that a record makes of one history are allowed both or neither is
pub made_alike : (c : Catalog) (r : Record) (k one two : History) → IsMadeBy c r k one → IsMadeBy c r k two → is_allowed c one ≡ is_allowed c two
made_alike c (records.Setup catalog) k one two first second = absurd first
made_alike c (records.Start i text) k one two (p, own, is) (q, other, is2) =
    let equal = equal_push k.plans k.plans p q (equal_to_itself k.plans) (plans_alike c text p q own other) in
    ap (is_allowed c) is ∙ allowed_same c (with_start k i p) (with_start k i q) (same_courses (k.plans ++ p ∷ []) (k.plans ++ q ∷ []) equal) refl ∙ sym (ap (is_allowed c) is2)
made_alike c (records.Act e) k one two first second = ap (is_allowed c) (first ∙ sym second)
made_alike c (records.End i) k one two first second = ap (is_allowed c) (first ∙ sym second)
