-- What the verdicts mean.
use Rattle.std.proofs.Common.{◌≡◌, ◌⊎◌, inl, inr, ℕ, suc, ◌-◌, ◌<◌, true, List, [], length, take, get_or, Option, Some, None, is_none, sym, refl, ap, ◌∙◌, subst, arith}
use Rattle.process_tree.specs.declared.entry.Entry.{Entry}
use Rattle.process_tree.specs.Order.{Each}
use Rattle.schedule_model.specs.Reduction.{not_serial}
use Rattle.schedule_model.proofs.Chains.{applied-steps_reduce}
use Rattle.trace_verify.specs.declared.verdict.Verified.{Verified}
use Rattle.trace_verify.specs.declared.verdict.Verified.TheVariants.{NoMemory}
use Rattle.trace_verify.specs.Reports.{Report, Reading, whole, bad_line, reading}
use Rattle.trace_verify.specs.Names.{number_among, step_names, op_names, schedule, conflicts_of}
use Rattle.trace_verify.specs.Verdicts.{Outcome, last_list, refused, outcome, differs_from, difference, compared, of_last, of_outcome, of_reading, verdict}
use Rattle.trace_verify.specs.Laws.{printed, Means, VerdictsMean, AcceptanceIsExact, NumbersAreNames}
use Rattle.trace_verify.proofs.Outcomes.{came-to, comes-to, refused-at}
use Rattle.trace_verify.proofs.PrintedEntries.{named-read, named-number, none-differs, itself-same, differs-at}
use Rattle.trace_verify.proofs.FirstBadLine.{bad-line}
use Rattle.trace_verify.proofs.StepsApplied.{each-kept}
use Rattle.trace_verify.proofs.Tables.{schedule-numbered}

not-out : (o : Option ℕ) → o ≡ None → is_none o ≡ true
not-out o none = ap is_none none

are-numbered : (r : Report) (list : List Entry) → outcome r ≡ last_list list
    → Each (λ e. (e.step < length (step_names r.acts)) × (e.op < length (op_names r.acts))) list
are-numbered r list came =
    each-kept (conflicts_of r) (λ e. (e.step < length (step_names r.acts)) × (e.op < length (op_names r.acts))) (schedule r.acts) list
    (applied-steps_reduce (conflicts_of r) r.steps (schedule r.acts) list (came-to (conflicts_of r) 1 r.steps (schedule r.acts) list came)) (schedule-numbered r.acts)

compared-means : (text : List ℕ) (r : Report) → reading text ≡ whole r → (list : List Entry) → outcome r ≡ last_list list → not_serial list ≡ None
    → (o : Option ℕ) → difference r list ≡ o → Means text (compared o)
compared-means text r is list came serial None same_list =
    let applies = came-to (conflicts_of r) 1 r.steps (schedule r.acts) list came in
    record {
      report = r;
      is_report = is;
      list = list;
      applies = applies;
      reduced = applied-steps_reduce (conflicts_of r) r.steps (schedule r.acts) list applies;
      serial = not-out (not_serial list) serial;
      is_printed = none-differs (step_names r.acts) (op_names r.acts) 1 list r.serial same_list;
    }
compared-means text r is list came serial (Some n) differs =
    let other = differs-at (step_names r.acts) (op_names r.acts) 1 list r.serial n (are-numbered r list came) differs in
    let next : suc (n - 1) ≡ n = omega (arith, other.least) in
    record {
      report = r;
      is_report = is;
      list = list;
      applies = came-to (conflicts_of r) 1 r.steps (schedule r.acts) list came;
      serial = not-out (not_serial list) serial;
      counted = omega (arith, other.least);
      same_before = other.before;
      other = λ e. other.other (ap (λ m. take m (printed r list)) next ∙ (e ∙ sym (ap (λ m. take m r.serial) next)));
    }

last-means : (text : List ℕ) (r : Report) → reading text ≡ whole r → (list : List Entry) → outcome r ≡ last_list list → (o : Option ℕ) → not_serial list ≡ o
    → Means text (of_last o (difference r list))
last-means text r is list came None serial = compared-means text r is list came serial (difference r list) refl
last-means text r is list came (Some n) place =
    record { report = r; is_report = is; list = list; applies = came-to (conflicts_of r) 1 r.steps (schedule r.acts) list came; place = place }

outcome-means : (text : List ℕ) (r : Report) → reading text ≡ whole r → (o : Outcome) → outcome r ≡ o → Means text (of_outcome r o)
outcome-means text r is (last_list list) came = last-means text r is list came (not_serial list) refl
outcome-means text r is (refused k) at =
    let first = refused-at (conflicts_of r) 1 r.steps (schedule r.acts) k at in
    record {
      report = r;
      is_report = is;
      list = first.list;
      before = first.before;
      step = first.step;
      behind = first.behind;
      steps = first.split;
      counted = first.counted;
      applies = first.applies;
      refused = first.none;
    }

reading-means : (text : List ℕ) (o : Reading) → reading text ≡ o → Means text (of_reading o)
reading-means text (whole r) is = outcome-means text r is (outcome r) refl
reading-means text (bad_line n) is = bad-line text n is

pub verdicts_mean : VerdictsMean
verdicts_mean text = reading-means text (reading text) refl

none-out : (o : Option ℕ) → is_none o ≡ true → o ≡ None
none-out None e = refl
none-out (Some n) e = absurd (cc)

pub acceptance_is_exact : AcceptanceIsExact
acceptance_is_exact text it =
    let r = it.report in
    let list = it.list in
    let came = comes-to (conflicts_of r) 1 r.steps (schedule r.acts) list it.applies in
    let same_list : difference r list ≡ None =
    ap (differs_from (step_names r.acts) (op_names r.acts) 1 list) (sym it.is_printed) ∙ itself-same (step_names r.acts) (op_names r.acts) 1 list (are-numbered r list came) in
    ap of_reading it.is_report
    ∙ (ap (of_outcome r) came
    ∙ (ap (λ o. of_last o (difference r list)) (none-out (not_serial list) it.serial)
    ∙ ap compared same_list))

pub numbers_are_names : NumbersAreNames
numbers_are_names names v w there also number =
    let here = named-number names v there in
    let beside = named-number names w also in
    sym (named-read names (number_among names v) v here) ∙ (ap (λ k. get_or names k []) number ∙ named-read names (number_among names w) w beside)

-- what verify answers means what it says
pub answered-means : (text : List ℕ) (v : Verified) → (v ≡ NoMemory) ⊎ (v ≡ verdict text) → Means text v
answered-means text v (inl memory) = subst (Means text) (sym memory) tt
answered-means text v (inr is) = subst (Means text) (sym is) (verdicts_mean text)
