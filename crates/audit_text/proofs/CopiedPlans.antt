-- What copies of plans have in common with them.
use Rattle.std.proofs.Common.{◌≡◌, ◌∙◌, ◌<◌, ℕ, suc, List, [], ◌∷◌, ◌++◌, length, map, nat_lt, refl, sym, ap, subst, arith, append-nil}
use denote.Ref.{Bor}
use Rattle.std.specs.Bool.{IsTrue}
use Rattle.std.specs.List.{Contains, list_all}
use Rattle.process_tree.specs.Blocks.{Outline, outline}
use Rattle.process_tree.specs.Form.{AreEqualPlans}
use Rattle.process_tree.specs.Making.{outline_fault}
use Rattle.process_tree.specs.Order.{Each}
use Rattle.process_tree.specs.Shape.{Shape}
use Rattle.process_tree.specs.Termination.{IsWellFormed}
use Rattle.process_tree.specs.declared.plan.Plan.{Plan}
use Rattle.schedule_model.specs.Course.{Course, allowance_of, course_of, courses_of}
use Rattle.schedule_model.specs.Histories.{starts}
use Rattle.schedule_model.specs.Laws.{IsPlanned}
use Rattle.schedule_model.specs.declared.history.History.{History}
use Rattle.schedule_model.proofs.Members.{among-from_contains}
use Rattle.schedule_rules.proofs.ListTests.{each-among}
use Rattle.audit_text.specs.Logs.{Log, plans_in}
use Rattle.audit_text.specs.Copies.{AreCopies, IsGoodFor, IsHistoryOf, IsSound}

-- the shape of a tree that says this
abbrev shape_by : Outline → Shape
shape_by o = record { kinds = map (λ s. s.kind) o.steps; paths = o.paths }

-- the course of a plan that says this
abbrev course_by : Outline → List ℕ → Course
course_by o ops = record { shape = shape_by o; ops = ops; keys = map (λ s. s.key) o.steps; allowances = map allowance_of o.steps }

-- equal plans have the same course,
same_course : (p q : Plan) → AreEqualPlans p q → course_of p ≡ course_of q
same_course p q equal = ap (λ o. course_by o p.ops) equal.says ∙ ap (course_by (outline q.tree)) equal.ops

-- and so have equal lists of plans
pub same_courses : (ps qs : List Plan) → AreCopies ps qs → courses_of ps ≡ courses_of qs
same_courses [] [] equal = refl
same_courses [] (q ∷ qs) equal = absurd equal
same_courses (p ∷ ps) [] equal = absurd equal
same_courses (p ∷ ps) (q ∷ qs) equal = ap (λ c. c ∷ courses_of ps) (same_course p q equal.0) ∙ ap (λ cs. course_of q ∷ cs) (same_courses ps qs equal.1)

-- as many
pub same_count : (ps qs : List Plan) → AreCopies ps qs → length ps ≡ length qs
same_count [] [] equal = refl
same_count [] (q ∷ qs) equal = absurd equal
same_count (p ∷ ps) [] equal = absurd equal
same_count (p ∷ ps) (q ∷ qs) equal = ap suc (same_count ps qs equal.1)

-- where none is left to be copied, all are
pub copies_end : (plans all : List Plan) (rest : List (Bor Plan)) → length rest < 1 → ((more : List Plan) → AreCopies more (plans_in rest) → AreCopies (plans ++ more) all) → AreCopies plans all
copies_end plans all [] few copied = subst (λ (ps : List Plan). AreCopies ps all) (append-nil plans) (copied [] tt)
copies_end plans all (r ∷ rest) few copied = absurd (omega arith)

module _ (operations : ℕ) where
  -- a copy of a good plan is good,
  good_copy : (p q : Plan) → AreEqualPlans p q → IsGoodFor operations q → IsGoodFor operations p
  good_copy p q equal good = record {
    plan = record {
      tree = ap outline_fault equal.says ∙ good.plan.tree;
      well_formed = subst (λ (o : Outline). IsWellFormed (shape_by o)) (sym equal.says) good.plan.well_formed;
      operations = ap length equal.ops ∙ (good.plan.operations ∙ ap (λ (o : Outline). length o.steps) (sym equal.says));
    };
    known = subst (λ (ns : List ℕ). IsTrue (list_all (λ a. nat_lt a operations) ns)) (sym equal.ops) good.known;
  }

  -- and so is each copy of good plans
  good_copies : (ps qs : List Plan) → AreCopies ps qs → Each (IsGoodFor operations) qs → Each (IsGoodFor operations) ps
  good_copies [] [] equal good = tt
  good_copies [] (q ∷ qs) equal good = absurd equal
  good_copies (p ∷ ps) [] equal good = absurd equal
  good_copies (p ∷ ps) (q ∷ qs) equal good = (good_copy p q equal.0 good.0, good_copies ps qs equal.1 good.1)

  -- so the history of a log is planned
  pub planned_of : (h : History) (l : Log) → IsHistoryOf h l → IsSound operations l → IsPlanned operations h.plans h.events
  planned_of h l is sound =
      let each = good_copies h.plans l.started is.plans sound.good in
      let one : (p : Plan) → Contains h.plans p → IsGoodFor operations p =
      λ p here. each-among (IsGoodFor operations) p h.plans each (among-from_contains p h.plans here) in
      record {
        good = λ p here. (one p here).plan;
        one_each = same_count h.plans l.started is.plans ∙ (sound.one_each ∙ ap (λ es. length (starts es)) (sym is.events));
        known = λ p here. (one p here).known;
      }
