-- The laws of dependence, as statements.
use Rattle.std.specs.Prelude.{◌≡◌, ◌↔◌, ℕ, false, not, ◌&&◌, ◌||◌, Bool, List, [], ◌∷◌, IsTrue}
use Rattle.std.specs.List.{list_any}
use Rattle.process_tree.specs.declared.entry.Entry.{Entry}
use Rattle.process_tree.specs.declared.plan.Plan.{Plan}
use Rattle.schedule_model.specs.declared.event.Event.{Event}
use Rattle.schedule_model.specs.Course.{courses_of}
use Rattle.schedule_model.specs.Conflict.{ConflictRelation, IsSymmetric}
use Rattle.schedule_model.specs.Histories.{same_step}
use Rattle.schedule_model.specs.Laws.{AreGood, IsGood}
use Rattle.schedule_model.specs.OwnOrder.{is_in_own_order}
use Rattle.schedule_model.specs.Reduction.{AreReduced, IsReduced, is_serial}
use Rattle.dependence_model.specs.declared.placed.Placed.{Placed}
use Rattle.dependence_model.specs.Dependence.{placed, entries_of, IsLeft, left_of, is_barred, is_cyclic}
use Rattle.dependence_model.specs.SerialOrder.{IsSerialOrder, one_by_one, order_of, serial_list}
use Rattle.dependence_model.specs.Audited.{CanReduce, IsPrefixReducible, completed_schedule}

-- a later entry of the same step, where it isn't that the earlier takes effect and the later takes it back
abbrev pub comes_again : Entry → Entry → Bool
comes_again earlier later = same_step earlier later && (earlier.undo || not later.undo)

-- each step comes at most once, and is undone at most once behind it
abbrev pub AreOnce : List Entry → Type 0
AreOnce [] = Unit
AreOnce (e ∷ es) = (list_any (comes_again e) es ≡ false) × AreOnce es

-- What is left doesn't depend on the order of taking away.
abbrev pub LeftIsUnique : Type 0
LeftIsUnique = (table : ConflictRelation) (es : List Entry) (left other : List Placed) → AreOnce es
    → IsLeft table (placed es) left → IsLeft table (placed es) other → left ≡ other

-- It is what is computed.
abbrev pub LeftIsComputed : Type 0
LeftIsComputed = (table : ConflictRelation) (es : List Entry) → AreOnce es → IsLeft table (placed es) (left_of table es)

-- after has each step once, too, and is barred or cyclic where before is
pub record KeepsVerdict (table : ConflictRelation) (before after : List Entry) : Type 0 where
  pub once : AreOnce after
  pub barred : is_barred table after ≡ is_barred table before
  pub cyclic : is_cyclic table after ≡ is_cyclic table before

-- Each reduction step keeps the verdict.
abbrev pub StepsKeepVerdict : Type 0
StepsKeepVerdict = (table : ConflictRelation) (before after : List Entry) → IsSymmetric table → AreOnce before
    → IsReduced table before after → KeepsVerdict table before after

-- A serial list is neither barred nor cyclic.
abbrev pub SerialIsNeither : Type 0
SerialIsNeither = (table : ConflictRelation) (es : List Entry) → AreOnce es → IsTrue (is_serial es)
    → (is_barred table es ≡ false) × (is_cyclic table es ≡ false)

-- A list that isn't barred can be brought to what is left of it, one process after another, in each serial order of that.
abbrev pub SerialOrdersAreReached : Type 0
SerialOrdersAreReached = (table : ConflictRelation) (es : List Entry) (order : List ℕ) → IsSymmetric table → AreOnce es
    → is_barred table es ≡ false → IsSerialOrder table (left_of table es) order
    → let serial = one_by_one order (entries_of (left_of table es)) in
    AreReduced table es serial × IsTrue (is_serial serial)

-- Where it isn't cyclic either, one is computed.
abbrev pub OrderIsComputed : Type 0
OrderIsComputed = (table : ConflictRelation) (es : List Entry) → is_cyclic table es ≡ false
    → IsSerialOrder table (left_of table es) (order_of table (left_of table es))

-- So exchanges and cancels lead to the computed serial list.
abbrev pub SerialListIsReached : Type 0
SerialListIsReached = (table : ConflictRelation) (es : List Entry) → IsSymmetric table → AreOnce es
    → is_barred table es ≡ false → is_cyclic table es ≡ false
    → AreReduced table es (serial_list table es) × IsTrue (is_serial (serial_list table es))

-- The reducibility test is exact: exchanges and cancels lead to a serial list exactly where it is neither barred nor cyclic.
abbrev pub TestIsExact : Type 0
TestIsExact = (table : ConflictRelation) (es : List Entry) → IsSymmetric table → AreOnce es
    → CanReduce table es ↔ ((is_barred table es ≡ false) × (is_cyclic table es ≡ false))

-- The schedule of the completed history of one in own order has each step once.
abbrev pub SchedulesAreOnce : Type 0
SchedulesAreOnce = (plans : List Plan) (h : List Event) → AreGood plans → IsTrue (is_in_own_order (courses_of plans) h)
    → AreOnce (completed_schedule (courses_of plans) h)

-- A legal history is prefix reducible.
abbrev pub LegalIsReducible : Type 0
LegalIsReducible = (table : ConflictRelation) (plans : List Plan) (h : List Event) → IsGood table plans h
    → IsPrefixReducible table (courses_of plans) h
