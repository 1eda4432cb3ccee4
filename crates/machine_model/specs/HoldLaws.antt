-- What each kept event does to the net, and to what its own process has under way, owes and has to undo, as statements.
use Rattle.std.specs.Prelude.{◌≡◌, ℕ, true, false, not, ◌&&◌, List, [], ◌∷◌, ◌++◌, filter, nat_eq, IsTrue, Option, Some, None}
use Rattle.std.specs.Prelude.{if◌then◌else◌}
use Rattle.process_tree.specs.declared.entry.Entry.{Entry}
use Rattle.process_tree.specs.declared.plan.Plan.{Plan}
use Rattle.process_tree.specs.Recovery.{reserved, committing, undoable}
use Rattle.schedule_model.specs.Course.{Course}
use Rattle.schedule_model.specs.Conflict.{ConflictRelation}
use Rattle.schedule_model.specs.Histories.{active, doing, net, same_step, undoing}
use Rattle.schedule_model.specs.Holdings.{Hold}
use Rattle.schedule_model.specs.Legal.{class_in}
use Rattle.schedule_model.specs.Recovery.{backward_entries, owed, owed_after}
use Rattle.machine_model.specs.declared.kept.Work.{Work}
use Rattle.machine_model.specs.declared.kept.Work.TheVariants.{Forward, Undo, End}
use Rattle.machine_model.specs.declared.kept.Kept.{Kept}
use Rattle.machine_model.specs.declared.kept.Kept.TheVariants.{Start, Hand, Effect, Refuse}
use Rattle.machine_model.specs.Moment.{Moment, Piece, has_begun}
use Rattle.machine_model.specs.Pieces.{piece_of, running_of}
use Rattle.machine_model.specs.State.{entry_by, hold_of, owed_by_work}
use Rattle.machine_model.specs.Advance.{Machine, advance}
use Rattle.machine_model.specs.Runs.{is_run, may_be_kept, now}
use Rattle.machine_model.specs.Laws.{IsSession}
use Rattle.machine_model.specs.PieceLaws.{piece_ended, piece_touched}

-- what work on an entry makes of the net
abbrev pub net_by_work : Work → Entry → List Entry → List Entry
net_by_work Forward x es = es ++ x ∷ []
net_by_work Undo x es = filter (λ e. not (same_step e x)) es
net_by_work End x es = es

-- what an event makes of the net where it is the effect of this piece
abbrev pub net_by_piece : List Course → Kept → List Entry → Option Piece → List Entry
net_by_piece courses k es None = es
net_by_piece courses (Effect n) es (Some p) = net_by_work p.work (doing courses p.process p.step) es
net_by_piece courses k es (Some p) = es

-- The net goes by the effects of pieces: a step is added, the entry of an undone step is taken away.
abbrev pub NetGoesByPieces : Type 0
NetGoesByPieces = (table : ConflictRelation) (s : Machine) (k : Kept)
    → let m = now table s in
    net (advance table s.courses m k).events ≡ net_by_piece s.courses k (net m.events) (piece_ended s.kept k)

-- what process i has under way after an event that hands out this piece or ends it
abbrev pub running_by_piece : Kept → ℕ → Option Piece → Option Piece → Option Piece
running_by_piece k i r None = r
running_by_piece (Hand piece process step work) i r (Some p) = if nat_eq p.process i then Some p else r
running_by_piece (Effect n) i r (Some p) = if nat_eq p.process i then None else r
running_by_piece (Refuse n) i r (Some p) = if nat_eq p.process i then None else r
running_by_piece k i r (Some p) = r

-- What a process has under way goes by its own pieces: a hand puts one under way, an effect and a refusal end it, and where the
-- process begins to complete it stops.
abbrev pub RunningGoesByPieces : Type 0
RunningGoesByPieces = (table : ConflictRelation) (s : Machine) (k : Kept) (i : ℕ) → IsTrue (is_run table s)
    → IsTrue (may_be_kept table s.courses (now table s) k)
    → let m = now table s in
    let after = advance table s.courses m k in
    running_of after i ≡ (if has_begun after i && not (has_begun m i) then None
    else running_by_piece k i (running_of m i) (piece_touched s.kept k))

-- A hand puts the entry of the piece under way and reserves what the piece will make its process owe; all else that the process
-- holds stays. Nothing of it was under way before.
abbrev pub HandsReserve : Type 0
HandsReserve = (table : ConflictRelation) (s : Machine) (n i b : ℕ) (w : Work) → IsTrue (is_run table s)
    → IsTrue (may_be_kept table s.courses (now table s) (Hand n i b w))
    → let m = now table s in
    let before = hold_of s.courses m i in
    (before.running ≡ None) × (hold_of s.courses (advance table s.courses m (Hand n i b w)) i
    ≡ record {
      process = i;
      running = entry_by s.courses i b w;
      reserved = before.reserved ++ owed_by_work s.courses m.events i b w;
      pending = before.pending;
      backward_entries = before.backward_entries;
    })

-- Where a process begins to complete, it stops, owes what its net makes it owe, and has all to undo that can be undone.
abbrev pub BeginningsStop : Type 0
BeginningsStop = (table : ConflictRelation) (s : Machine) (k : Kept) (i : ℕ) → IsTrue (is_run table s)
    → IsTrue (may_be_kept table s.courses (now table s) k)
    → let m = now table s in
    let after = advance table s.courses m k in
    has_begun m i ≡ false → has_begun after i ≡ true
    → hold_of s.courses after i ≡ record {
      process = i;
      running = None;
      reserved = owed s.courses m.events i;
      pending = backward_entries s.courses m.events i;
      backward_entries = backward_entries s.courses m.events i;
    }

-- From then on all that it can undo is pending.
abbrev pub BegunUndoAll : Type 0
BegunUndoAll = (courses : List Course) (m : Moment) (i : ℕ) → has_begun m i ≡ true
    → (hold_of courses m i).pending ≡ (hold_of courses m i).backward_entries

-- the effect of step b of process i, by what the process held and holds
pub record StepTakesEffect (courses : List Course) (m after : Moment) (i b : ℕ) (h g : Hold) : Type 0 where
  -- it was under way, and nothing is
  pub was_running : h.running ≡ Some (doing courses i b)
  pub stopped : g.running ≡ None
  -- an owed step is the first of those reserved, and nothing can be undone, before and after
  pub owed_first : class_in courses m.events i b ≡ reserved → h.reserved ≡ doing courses i b ∷ g.reserved
  pub none_before : class_in courses m.events i b ≡ reserved → h.backward_entries ≡ []
  pub none_after : class_in courses m.events i b ≡ reserved → g.backward_entries ≡ []
  -- a commit point fixes all, and of what was reserved what it makes its process owe stays
  pub fixed : class_in courses m.events i b ≡ committing → g.backward_entries ≡ []
  pub owes_anew : class_in courses m.events i b ≡ committing → g.reserved ≡ owed_after courses m.events i b
  pub was_reserved : class_in courses m.events i b ≡ committing → h.reserved ≡ owed courses m.events i ++ g.reserved
  -- a step that can be undone adds itself to what can be undone, and what is reserved stays
  pub added : class_in courses m.events i b ≡ undoable → g.backward_entries ≡ h.backward_entries ++ doing courses i b ∷ []
  pub still_reserved : class_in courses m.events i b ≡ undoable → g.reserved ≡ h.reserved

-- So it is at the effect of each step.
abbrev pub StepsTakeEffect : Type 0
StepsTakeEffect = (table : ConflictRelation) (plans : List Plan) (s : Machine) (n number i b : ℕ) → IsSession table plans s
    → IsTrue (may_be_kept table s.courses (now table s) (Effect n))
    → piece_of s.kept n ≡ Some (record { number = number; process = i; step = b; work = Forward })
    → let m = now table s in
    let after = advance table s.courses m (Effect n) in
    StepTakesEffect s.courses m after i b (hold_of s.courses m i) (hold_of s.courses after i)

-- the effect of the undo of step b of process i
pub record UndoTakesEffect (courses : List Course) (i b : ℕ) (h g : Hold) : Type 0 where
  -- it was under way, and nothing is
  pub was_running : h.running ≡ Some (undoing (doing courses i b))
  pub stopped : g.running ≡ None
  -- what is reserved stays
  pub still_reserved : g.reserved ≡ h.reserved
  -- the last entry that could be undone is the one that is taken back
  pub last : Entry
  pub is_its : IsTrue (same_step last (undoing (doing courses i b)))
  pub taken_back : h.backward_entries ≡ g.backward_entries ++ last ∷ []

-- So it is at the effect of each undo.
abbrev pub UndosTakeEffect : Type 0
UndosTakeEffect = (table : ConflictRelation) (plans : List Plan) (s : Machine) (n number i b : ℕ) → IsSession table plans s
    → IsTrue (may_be_kept table s.courses (now table s) (Effect n))
    → piece_of s.kept n ≡ Some (record { number = number; process = i; step = b; work = Undo })
    → let m = now table s in
    UndoTakesEffect s.courses i b (hold_of s.courses m i) (hold_of s.courses (advance table s.courses m (Effect n)) i)

-- At the effect of its end a process goes, and nobody else.
abbrev pub EndsGo : Type 0
EndsGo = (table : ConflictRelation) (s : Machine) (n number i b : ℕ)
    → piece_of s.kept n ≡ Some (record { number = number; process = i; step = b; work = End })
    → let m = now table s in
    active (advance table s.courses m (Effect n)).events ≡ filter (λ k. not (nat_eq k i)) (active m.events)

-- A start adds its process behind the active ones, and it holds nothing yet.
abbrev pub StartsHoldNothing : Type 0
StartsHoldNothing = (table : ConflictRelation) (plans : List Plan) (s : Machine) (i : ℕ) → IsSession table plans s
    → IsTrue (may_be_kept table s.courses (now table s) (Start i))
    → let m = now table s in
    let after = advance table s.courses m (Start i) in
    (active after.events ≡ active m.events ++ i ∷ [])
    × (hold_of s.courses after i ≡ record { process = i; running = None; reserved = []; pending = []; backward_entries = [] })
