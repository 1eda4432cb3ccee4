-- Processes by number: their plans, and how many there may be.
use Rattle.std.proofs.Common.{◌≡◌, ℕ, zero, suc, ◌+◌, ◌-◌, ◌≤◌, ◌<◌, leb, ◌&&◌, List, [], ◌∷◌, ◌++◌, length, map, slice_index_or, refl, ap, ◌∙◌, append-nil, arith}
use Rattle.std.specs.Bool.{IsTrue}
use Rattle.std.proofs.lemmas.Bool.{and_parts, leb-true}
use Rattle.process_tree.specs.declared.plan.Plan.{Plan}
use Rattle.process_tree.specs.Blocks.{numbers_from}
use Rattle.schedule_model.specs.declared.event.Event.{Event}
use Rattle.schedule_model.specs.declared.event.Event.TheVariants.{Start, Act, End}
use Rattle.schedule_model.specs.Course.{Course, course, course_of, courses_of, no_course}
use Rattle.schedule_model.specs.Histories.{active, starts}
use Rattle.schedule_model.specs.Limits.{entries, is_within_limits, limits, most_active, most_entries, most_processes, starts_within}
use Rattle.schedule_model.proofs.Appends.{starts-append}
use Rattle.schedule_model.proofs.Induction.{by_events}

-- the course of the plan at a place
course_at_place : (plans : List Plan) (n : ℕ) (d : Plan) → n < length plans → slice_index_or (map course_of plans) n no_course ≡ course_of (slice_index_or plans n d)
course_at_place [] n d within = absurd (omega arith)
course_at_place (p ∷ plans) zero d within = refl
course_at_place (p ∷ plans) (suc n) d within = course_at_place plans n d (omega arith)

pub course_at : (plans : List Plan) (n : ℕ) (d : Plan) → n < length plans → course (courses_of plans) (n + 1) ≡ course_of (slice_index_or plans n d)
course_at plans n d within = let e : n + 1 - 1 ≡ n = omega arith in ap (λ k. slice_index_or (map course_of plans) k no_course) e ∙ course_at_place plans n d within

-- one number more
pub numbers_more : (a n : ℕ) → numbers_from a (n + 1) ≡ numbers_from a n ++ (a + n) ∷ []
numbers_more a zero = let e : a ≡ a + 0 = omega arith in ap (λ k. k ∷ []) e
numbers_more a (suc n) =
    let e : suc n + 1 ≡ suc (n + 1) = omega arith in
    let f : a + 1 + n ≡ a + suc n = omega arith in
    ap (numbers_from a) e ∙ (ap (λ ns. a ∷ ns) (numbers_more (a + 1) n) ∙ ap (λ k. a ∷ (numbers_from (a + 1) n ++ k ∷ [])) f)

-- no more start than may
few_more : (courses : List Course) (h : List Event) (e : Event) → IsTrue (starts_within limits courses h e) → length (starts h) ≤ most_processes → length (starts (h ++ e ∷ [])) ≤ most_processes
few_more courses h (Start i) within few =
    leb-true (length (starts (h ++ Start i ∷ []))) most_processes
    (and_parts (leb (length (active (h ++ Start i ∷ []))) most_active) (leb (length (starts (h ++ Start i ∷ []))) most_processes)
    (and_parts (leb (length (active (h ++ Start i ∷ []))) most_active && leb (length (starts (h ++ Start i ∷ []))) most_processes) (leb (entries courses (h ++ Start i ∷ [])) most_entries) within).0).1
few_more courses h (Act e) within few = let s = ap length (starts-append h (Act e ∷ []) ∙ append-nil (starts h)) in omega arith
few_more courses h (End i) within few = let s = ap length (starts-append h (End i ∷ []) ∙ append-nil (starts h)) in omega arith

pub few_start : (courses : List Course) (h : List Event) → IsTrue (is_within_limits courses h) → length (starts h) ≤ most_processes
few_start courses h within = by_events (starts_within limits courses) (λ g. length (starts g) ≤ most_processes) (λ g e before may few. few_more courses g e may few) (omega arith) h within
