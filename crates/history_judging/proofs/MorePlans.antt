-- A history that was judged, with plans for more processes.
use Rattle.std.proofs.Common.{◌≡◌, ℕ, ◌-◌, ◌<◌, ◌≤◌, Bool, true, false, not, if◌then◌else◌, List, [], ◌++◌, length, map, sym, refl, ap, ◌∙◌, arith, length-append}
use Rattle.std.specs.Bool.{IsTrue}
use Rattle.std.specs.Prelude.{slice_index_or}
use Rattle.std.proofs.lemmas.Bool.{and_parts}
use Rattle.std.proofs.lemmas.List.{get_or_append_left, length-map, map-append}
use Rattle.process_tree.specs.declared.plan.Plan.{Plan}
use Rattle.process_tree.specs.Conflicts.{Table, do_conflict}
use Rattle.process_tree.specs.Recovery.{forward}
use Rattle.schedule_model.specs.declared.event.Event.{Event}
use Rattle.schedule_model.specs.Course.{Course, course, course_of, courses_of, no_course}
use Rattle.schedule_model.specs.Histories.{active, acts, ends, is_active, is_in, net_steps, of_process, starts}
use Rattle.schedule_model.specs.Limits.{need, still_needed}
use Rattle.schedule_model.specs.Recovery.{owed}
use Rattle.schedule_model.proofs.Active.{is_active-is_in}
use Rattle.schedule_model.proofs.Members.{is_in-among}
use Rattle.schedule_model.proofs.Prefixes.{is_legal-courses, legal-numbered}
use Rattle.history_judging.specs.Keeping.{ArePlans, IsJudged, IsKept, IsRowOf, Tables, row_of}
use Rattle.history_judging.specs.Laws.{MorePlansJudgeAlike}
use Rattle.history_judging.proofs.OneOf.{sum_same}

module _ (table : Table) (plans more : List Plan) (h : List Event) (t : Tables) (judged : IsJudged table plans h t) where
  abbrev cs : List Course
  cs = courses_of plans

  abbrev ds : List Course
  ds = courses_of (plans ++ more)

  same_within : (i : ℕ) → 0 < i → i ≤ length plans → course cs i ≡ course ds i
  same_within i some within =
      sym (get_or_append_left cs (courses_of more) no_course (i - 1) (omega (arith, some, within, length-map plans course_of)))
      ∙ ap (λ es. slice_index_or es (i - 1) no_course) (sym (map-append course_of plans more))

  -- who started has the same course
  same : (i : ℕ) → IsTrue (is_in i (starts h)) → course cs i ≡ course ds i
  same i is =
      let bounds = legal-numbered (do_conflict table) cs h judged.legal i is in
      let low = bounds.0 in
      let high = bounds.1 in
      let enough = judged.enough in
      same_within i (omega arith) (omega arith)

  same_active : (i : ℕ) → IsTrue (is_active h i) → course cs i ≡ course ds i
  same_active i goes = same i (and_parts (is_in i (starts h)) (not (is_in i (ends h))) goes).0

  row_alike : (i : ℕ) → 0 < i → i ≤ length t.processes → IsRowOf ds h i (row_of t.processes i)
  row_alike i some within =
      let was = judged.kept.rows i some within in
      let many = judged.kept.started in
      let enough = judged.enough in
      record {
        active = was.active;
        bound = was.bound;
        needed = was.needed ∙ ap (λ (c : Course). need c - length (of_process i (acts h))) (same_within i some (omega arith));
      }

  owed_alike : (i : ℕ) (a : Bool) → is_active h i ≡ a → (if a then owed cs h i else []) ≡ (if a then owed ds h i else [])
  owed_alike i true goes =
      ap (λ (c : Course). map (λ b. record { process = i; step = b; op = slice_index_or c.ops b 0; key = slice_index_or c.keys b 0; undo = false }) (forward c.shape (net_steps h i))) (same_active i goes)
  owed_alike i false stopped = refl

  kept_alike : IsKept ds h t
  kept_alike = record {
    started = judged.kept.started;
    rows = row_alike;
    net = judged.kept.net;
    owed = λ i. judged.kept.owed i ∙ owed_alike i (is_active h i) refl;
    active = judged.kept.active;
    entries = judged.kept.entries
        ∙ (let sums = sum_same (still_needed cs h) (still_needed ds h) (active h)
        (λ k is. ap (λ (c : Course). need c - length (of_process k (acts h))) (same_active k (sym (is_active-is_in h k) ∙ is_in-among k (active h) is))) in omega arith);
  }

  alike : ArePlans table (plans ++ more) → IsJudged table (plans ++ more) h t
  alike known = record {
    known = known;
    enough = (let enough = judged.enough in omega (arith, length-append plans more));
    legal = sym (is_legal-courses cs ds (do_conflict table) h same) ∙ judged.legal;
    kept = kept_alike;
    net_known = judged.net_known;
    owed_known = judged.owed_known;
  }

pub judged-more : MorePlansJudgeAlike
judged-more table plans more h t known judged = alike table plans more h t judged known
