-- The reducibility test is exact, and a legal history passes it wherever it is cut off.
use Rattle.std.proofs.Common.{◌≡◌, false, List, sym, ◌∙◌, subst}
use Rattle.std.specs.Bool.{IsTrue}
use Rattle.process_tree.specs.declared.entry.Entry.{Entry}
use Rattle.schedule_model.specs.Completion.{completed}
use Rattle.schedule_model.specs.Conflict.{ConflictRelation, IsSymmetric}
use Rattle.schedule_model.specs.Course.{courses_of}
use Rattle.schedule_model.specs.Histories.{acts, ends}
use Rattle.schedule_model.specs.Laws.{IsGood}
use Rattle.schedule_model.specs.PrintedTrace.{trace_of}
use Rattle.schedule_model.specs.Reduction.{AreReduced, no_step, step_first, is_serial}
use Rattle.schedule_model.proofs.ReductionLaws.{prefix-reducibility}
use Rattle.dependence_model.specs.Dependence.{is_barred, is_cyclic}
use Rattle.dependence_model.specs.SerialOrder.{serial_list}
use Rattle.dependence_model.specs.Laws.{AreOnce, TestIsExact, LegalIsReducible}
use Rattle.dependence_model.proofs.SerialLists.{serial-is_neither}
use Rattle.dependence_model.proofs.SerialOrders.{serial_list-reached}
use Rattle.dependence_model.proofs.Verdicts.{steps-keep_verdict}

-- what reduces to a serial list is neither barred nor cyclic: each step keeps the verdict
neither-before : (table : ConflictRelation) → IsSymmetric table → {es serial : List Entry} → AreReduced table es serial → AreOnce es → IsTrue (is_serial serial)
    → (is_barred table es ≡ false) × (is_cyclic table es ≡ false)
neither-before table symmetric (no_step {xs = xs}) once is = serial-is_neither table xs once is
neither-before table symmetric (step_first {xs = xs} {ys = ys} one rest) once is =
    let keeps = steps-keep_verdict table xs ys symmetric once one in
    let later = neither-before table symmetric rest keeps.once is in
    (sym keeps.barred ∙ later.0, sym keeps.cyclic ∙ later.1)

pub test-exact : TestIsExact
test-exact table es symmetric once = (
  λ reduces. neither-before table symmetric reduces.1 once reduces.2,
  λ neither. let reached = serial_list-reached table es symmetric once neither.0 neither.1 in (serial_list table es, reached.0, reached.1),
)

pub legal-reducible : LegalIsReducible
legal-reducible table plans h good g rest is =
    let reduces = prefix-reducibility table plans g rest (subst (IsGood table plans) is good) in
    let done = completed (courses_of plans) g in
    ((trace_of (ends done) (acts done)).list, reduces.reduced, reduces.serial)
