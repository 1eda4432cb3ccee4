-- A text has one plan under a catalog at most, and equal plans have the same courses.
use Rattle.std.proofs.Common.{◌≡◌, ℕ, List, [], ◌∷◌, Result, Ok, refl, sym, ap, ◌∙◌, map}
use Rattle.process_tree.specs.declared.plan.Plan.{Plan}
use Rattle.process_tree.specs.Blocks.{Outline, outline}
use Rattle.process_tree.specs.Form.{AreEqualPlans}
use Rattle.process_tree.proofs.Forms.{same_outline}
use Rattle.process_text.specs.Words.{words_of}
use Rattle.process_text.specs.Grammar.{process_of}
use Rattle.process_text.proofs.Reprinted.{readings_are_alike}
use Rattle.commute_table.specs.declared.catalog.Catalog.{Catalog}
use Rattle.commute_table.specs.declared.op.Op.{Op}
use Rattle.commute_table.specs.declared.errors.BindError.{BindError}
use Rattle.commute_table.specs.Binding.{numbers_bound}
use Rattle.schedule_model.specs.Course.{Course, allowance_of, course_of, courses_of}
use Rattle.process_journal.specs.Plans.{IsPlanOfText}
use Rattle.process_journal.specs.Laws.{AreEqualInTurn}

-- steps have one list of numbers
one_binding : (ops : List Op) (a b : Outline) (xs ys : List ℕ) → a ≡ b → numbers_bound ops [] a.steps ≡ Ok xs → numbers_bound ops [] b.steps ≡ Ok ys → xs ≡ ys
one_binding ops a b xs ys same one two = by (sym one ∙ ap (λ (o : Outline). numbers_bound ops [] o.steps) same ∙ two)
  where
    by : (let r : Result (List ℕ) BindError = Ok xs in r ≡ Ok ys) → xs ≡ ys
    by e = cc

-- two plans of one text are equal
pub plans_alike : (c : Catalog) (text : List ℕ) (p q : Plan) → IsPlanOfText c text p → IsPlanOfText c text q → AreEqualPlans p q
plans_alike c text p q one two =
    let alike = readings_are_alike (words_of text) (process_of p.name p.tree ∷ []) (process_of q.name q.tree ∷ []) one.own_text.reading two.own_text.reading in
    let says = same_outline p.tree q.tree alike.1 in
    record {
      name = alike.0;
      tree = alike.1;
      says = says;
      ops = one_binding c.ops (outline p.tree) (outline q.tree) p.ops q.ops says one.bound.numbers two.bound.numbers;
    }

-- the course of a plan that says this
abbrev pub course_by : Outline → List ℕ → Course
course_by o ops = record {
  shape = record { kinds = map (λ s. s.kind) o.steps; paths = o.paths };
  ops = ops;
  keys = map (λ s. s.key) o.steps;
  allowances = map allowance_of o.steps;
}

-- equal plans have the same course,
pub same_course : (p q : Plan) → AreEqualPlans p q → course_of p ≡ course_of q
same_course p q equal = ap (λ o. course_by o p.ops) equal.says ∙ ap (course_by (outline q.tree)) equal.ops

-- and so have equal lists of plans
pub same_courses : (ps qs : List Plan) → AreEqualInTurn ps qs → courses_of ps ≡ courses_of qs
same_courses [] [] equal = refl
same_courses [] (q ∷ qs) equal = absurd equal
same_courses (p ∷ ps) [] equal = absurd equal
same_courses (p ∷ ps) (q ∷ qs) equal = ap (λ c. c ∷ courses_of ps) (same_course p q equal.0) ∙ ap (λ cs. course_of q ∷ cs) (same_courses ps qs equal.1)
