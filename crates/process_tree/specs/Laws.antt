-- The laws of trees that everything above stands on.
use Rattle.std.specs.Prelude.{◌≡◌, ◌⊎◌, ℕ, ◌+◌, ◌<◌, ◌≤◌, true, false, List, [], ◌∷◌, ◌++◌, length, None, nat_eq, if◌then◌else◌}
use Rattle.std.specs.List.{starts_with}
use Rattle.process_tree.specs.declared.block.Block.{Block}
use Rattle.process_tree.specs.declared.entry.Entry.{Entry}
use Rattle.process_tree.specs.declared.plan.Plan.{Plan}
use Rattle.process_tree.specs.Entries.{Test, IsSymmetric, conflict, entry_of, undo_of, IsOfStep}
use Rattle.process_tree.specs.Conflicts.{Access, Table, do_conflict, mode_of}
use Rattle.process_tree.specs.Making.{tree_fault}
use Rattle.process_tree.specs.Order.{IsLaidOut, PartsBelow, has}
use Rattle.process_tree.specs.Shape.{Shape, shape_of, kind_of, can_be_refused, can_be_undone, commits, commits_after, is_whole}
use Rattle.process_tree.specs.Shape.{next_steps, goes_on_to, branch_to, fixed_len}
use Rattle.process_tree.specs.Recovery.{backward, forward, class_of, reserved, committing, undoable}
use Rattle.process_tree.specs.Termination.{IsWellFormed}

-- t is the shape of a tree
pub record IsTreeShape (t : Shape) : Type 0 where
  pub root : Block
  pub good : tree_fault root ≡ None
  pub is : t ≡ shape_of root

-- the whole paths of a tree each go upward, and of two that part, the steps of the later one are greater from there on
abbrev pub PathsLieInOrder : Type 0
PathsLieInOrder = (t : Shape) → IsTreeShape t → IsLaidOut (length t.kinds) t.paths

-- two whole paths are equal or part, and from there on each step of the one is below the next step of the other
abbrev pub PathsPart : Type 0
PathsPart =
    (t : Shape) → IsTreeShape t → (p q : List ℕ) → is_whole t p ≡ true → is_whole t q ≡ true →
    (p ≡ q) ⊎ (PartsBelow p q ⊎ PartsBelow q p)

-- each step is on a whole path
abbrev pub EachStepHasAPath : Type 0
EachStepHasAPath = (t : Shape) → IsTreeShape t → (b : ℕ) → b < length t.kinds → goes_on_to t (branch_to t b) b ≡ true

-- a step determines the branch to it
abbrev pub OneBranchToAStep : Type 0
OneBranchToAStep = (t : Shape) → IsTreeShape t → (v : List ℕ) (b : ℕ) → goes_on_to t v b ≡ true → branch_to t b ≡ v

-- a step that goes on from others is one of the process, and greater than each of them
abbrev pub StepsGoUp : Type 0
StepsGoUp = (t : Shape) → IsTreeShape t → (v : List ℕ) (a b : ℕ) → goes_on_to t (v ++ a ∷ []) b ≡ true
    → (a < b) × (b < length t.kinds)

-- no whole path is the beginning of another
abbrev pub WholePathsEnd : Type 0
WholePathsEnd = (t : Shape) → IsTreeShape t → (w : List ℕ) → is_whole t w ≡ true → next_steps t w ≡ []

-- where nothing goes on, the path is whole
abbrev pub EndsAreWhole : Type 0
EndsAreWhole =
    (t : Shape) → IsTreeShape t → (v : List ℕ) (b : ℕ) →
    goes_on_to t v b ≡ true → next_steps t (v ++ b ∷ []) ≡ [] → is_whole t (v ++ b ∷ []) ≡ true

-- b is d, or stands behind it, where d goes on from v
abbrev pub IsInWay : Shape → List ℕ → ℕ → ℕ → Type 0
IsInWay t v d b = starts_with nat_eq (branch_to t b ++ b ∷ []) (v ++ d ∷ []) ≡ true

-- the steps of a way are an interval
abbrev pub WaysAreIntervals : Type 0
WaysAreIntervals =
    (t : Shape) → IsTreeShape t → (v : List ℕ) (d first b last : ℕ) → last < length t.kinds →
    IsInWay t v d first → IsInWay t v d last → first ≤ b → b ≤ last → IsInWay t v d b

-- and so are those of the ways from d to e, where both go on from v: an alternative has more than one way where it begins with a
-- choice
abbrev pub AlternativesAreIntervals : Type 0
AlternativesAreIntervals =
    (t : Shape) → IsTreeShape t → (v : List ℕ) (d e first b last : ℕ) → last < length t.kinds →
    IsInWay t v d first → IsInWay t v e last → first ≤ b → b ≤ last → (f : ℕ) × (d ≤ f) × (f ≤ e) × IsInWay t v f b

-- what the class of a next step says
pub record HasClass (t : Shape) (w : List ℕ) (d : ℕ) : Type 0 where
  -- a reserved step can't be refused, so it uses no outcome in play
  pub reserved_is_not_refused : class_of t w d ≡ reserved → can_be_refused (kind_of t d) ≡ false
  -- and it is a commit point
  pub reserved_commits : class_of t w d ≡ reserved → commits t d ≡ true
  -- where it is next, nothing is left to undo
  pub nothing_to_undo : class_of t w d ≡ reserved → backward t w ≡ []
  -- and it is the first that is owed
  pub owed_first : class_of t w d ≡ reserved → forward t w ≡ d ∷ forward t (w ++ d ∷ [])
  -- a committing step is a commit point
  pub committing_commits : class_of t w d ≡ committing → commits t d ≡ true
  -- the undoable ones are those that are no commit points, and they can be undone
  pub undoable_stays : class_of t w d ≡ undoable → commits t d ≡ false
  pub undoable_is_undone : class_of t w d ≡ undoable → can_be_undone (kind_of t d) ≡ true
  pub undoable_if_stays : commits t d ≡ false → class_of t w d ≡ undoable

-- each next step of a well-formed process is reserved, committing or undoable
abbrev pub NextStepsHaveAClass : Type 0
NextStepsHaveAClass =
    (t : Shape) → IsTreeShape t → IsWellFormed t → (w : List ℕ) (d : ℕ) → goes_on_to t w d ≡ true → HasClass t w d

-- nothing that a well-formed process owes can be refused
abbrev pub OwedStepsAreNotRefused : Type 0
OwedStepsAreNotRefused =
    (t : Shape) → IsTreeShape t → IsWellFormed t → (w : List ℕ) (b : ℕ) → has b (forward t w) ≡ true
    → can_be_refused (kind_of t b) ≡ false

-- a commit point stays one while steps are added
abbrev pub CommitPointsStay : Type 0
CommitPointsStay = (t : Shape) (w v : List ℕ) → fixed_len t w ≤ fixed_len t (w ++ v)

-- a commit point fixes all before it, and another step fixes nothing
abbrev pub CommitPointsGrow : Type 0
CommitPointsGrow =
    (t : Shape) (w : List ℕ) (d : ℕ) →
    fixed_len t (w ++ d ∷ []) ≡ (if commits_after t w d then length w + 1 else fixed_len t w)

-- a pair of operations has one mode
abbrev pub ModesAreSymmetric : Type 0
ModesAreSymmetric = (t : Table) (a b : ℕ) → mode_of t a b ≡ mode_of t b a

-- two accesses conflict in either order or in none
abbrev pub ConflictIsSymmetric : Type 0
ConflictIsSymmetric = (t : Table) (a b : Access) → do_conflict t a b ≡ do_conflict t b a

-- two entries conflict in either order or in none
abbrev pub EntriesConflictBothWays : Type 0
EntriesConflictBothWays = (test : Test) → IsSymmetric test → (a b : Entry) → conflict test a b ≡ conflict test b a

-- entries of one process don't conflict
abbrev pub ConflictIsBetweenProcesses : Type 0
ConflictIsBetweenProcesses = (test : Test) (a b : Entry) → a.process ≡ b.process → conflict test a b ≡ false

-- an entry and its undo conflict with the same entries
abbrev pub UndoConflictsAsItsStep : Type 0
UndoConflictsAsItsStep =
    (test : Test) (a b : Entry) → (conflict test (undo_of a) b ≡ conflict test a b)
    × (conflict test b (undo_of a) ≡ conflict test b a)

-- and so does its step, while it is reserved, pending or running
abbrev pub EntryConflictsAsItsStep : Type 0
EntryConflictsAsItsStep =
    (test : Test) (plan : Plan) (i b : ℕ) (e other : Entry) → IsOfStep plan i b e →
    (conflict test e other ≡ conflict test (entry_of plan i b) other)
    × (conflict test other e ≡ conflict test other (entry_of plan i b))
