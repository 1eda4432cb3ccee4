-- What a call keeps may be kept: a session by calls is a run.
use Rattle.std.proofs.Common.{◌≡◌, ℕ, zero, suc, ◌+◌, Bool, true, false, not, cond, eqb, if◌then◌else◌, List, [], ◌∷◌, ◌++◌, append-nil, length, find, Option, Some, None, is_some, is_none, sym, refl, ap, ◌∙◌}
use Rattle.std.specs.Bool.{IsTrue}
use Rattle.std.proofs.lemmas.Option.{none-some, cond_some}
use Rattle.std.proofs.lemmas.Bool.{eq-eqb, eqb-true, and_from, false≢true}
use Rattle.process_tree.specs.declared.play.Outcome.{Outcome}
use Rattle.process_tree.specs.declared.play.Outcome.TheVariants.{Done, Refused}
use Rattle.schedule_model.specs.Course.{Course}
use Rattle.schedule_model.specs.Conflict.{ConflictRelation}
use Rattle.schedule_model.specs.Histories.{active, is_active, is_in, starts}
use Rattle.machine_model.specs.declared.blocked.Blocked.{Blocked}
use Rattle.machine_model.specs.declared.kept.Kept.{Kept}
use Rattle.machine_model.specs.declared.kept.Kept.TheVariants.{Effect, Refuse, Abort, Victim, Restart}
use Rattle.machine_model.specs.declared.kept.Work.{Work}
use Rattle.machine_model.specs.declared.kept.Work.TheVariants.{Forward, Undo, End}
use Rattle.machine_model.specs.declared.replies.PieceState.{PieceState}
use Rattle.machine_model.specs.declared.replies.PieceState.TheVariants.{Out, Dropped, Over}
use Rattle.machine_model.specs.Moment.{Moment, Piece, has_begun, opening_moment}
use Rattle.machine_model.specs.Pieces.{hands, piece_of, dropped_at, running_of, runs, state_of, dropped_or_over}
use Rattle.machine_model.specs.Progress.{same_work}
use Rattle.machine_model.specs.State.{next_of, block_of, is_exhausted, is_free, victim_of}
use Rattle.machine_model.specs.Advance.{Machine, advance, advance_all}
use Rattle.machine_model.specs.Runs.{is_no_end, may_be_kept, is_victim, goes_on_from, is_run, now}
use Rattle.machine_model.specs.Replies.{hand_to, kept_hand, admit_by_tries, admit_by_running, admit_by_active, admit_by_known, admit_reply, piece_unless, abort_by_begun, abort_by_tries, abort_by_active, abort_by_known, none_free_by_active, refused_unless_end, next_reply, piece_of_free, none_free_reply, rotation, victims, victim_then, all_victims, finish_reply, finish_piece, finish_by, out_finish, finish_kept, abort_reply}
use Rattle.machine_model.specs.Calls.{IsNoStart, Call, start, admit, next, finish, abort, complete_all, admit_kept, next_kept, abort_kept, answer, answer_at}
use Rattle.machine_model.specs.CallLaws.{CallsKeepRuns}
use Rattle.machine_model.proofs.Snoc.{goes_on-append, keeping}

pub same_work-itself : (w : Work) → same_work w w ≡ true
same_work-itself Forward = refl
same_work-itself Undo = refl
same_work-itself End = refl

some_same : {X : Type 0} (x y : X) → Some x ≡ Some y → x ≡ y
some_same x y is = (cond_some true x y is).1

-- what is found passes
found_step : {X : Type 0} (p : X → Bool) (x y : X) (xs : List X) (t : Bool) → p x ≡ t → (find p xs ≡ Some y → p y ≡ true) → cond t (Some x) (find p xs) ≡ Some y → p y ≡ true
found_step p x y xs true is rest found = ap p (sym (some_same x y found)) ∙ is
found_step p x y xs false is rest found = rest found

pub find-passes : {X : Type 0} (p : X → Bool) (xs : List X) (y : X) → find p xs ≡ Some y → p y ≡ true
find-passes p [] y found = absurd (none-some y found)
find-passes p (x ∷ xs) y found = found_step p x y xs (p x) refl (find-passes p xs y) found

abbrev is_out : PieceState → Bool
is_out Out = true
is_out (Dropped k) = false
is_out Over = false

-- a piece whose state is out is running
pub out_runs : (t : Bool) (drop : Option ℕ) → (if t then Out else dropped_or_over drop) ≡ Out → t ≡ true
out_runs true drop is = refl
out_runs false None is = absurd (false≢true (ap is_out is))
out_runs false (Some k) is = absurd (false≢true (ap is_out is))

module _ (table : ConflictRelation) (courses : List Course) (m : Moment) where
  -- the next piece of a free process may be handed out
  pub hand-may : (i : ℕ) → is_free table courses m i ≡ true → may_be_kept table courses m (kept_hand (hand_to courses m i)) ≡ true
  hand-may i free = and_from _ _ (and_from _ _ (and_from _ _ (eq-eqb (length (hands m.kept) + 1) (length (hands m.kept) + 1) refl) free) (same_work-itself (next_of courses m i).work)) (eq-eqb (next_of courses m i).step (next_of courses m i).step refl)

  alone : (k : Kept) → may_be_kept table courses m k ≡ true → goes_on_from table courses m (k ∷ []) ≡ true
  alone k may = and_from (may_be_kept table courses m k) true may refl

  -- a request for a piece of one process

  free_from : (i : ℕ) → is_active m.events i ≡ true → is_none (running_of m i) ≡ true → is_exhausted courses m i ≡ false → block_of table courses m i ≡ None → is_free table courses m i ≡ true
  free_from i active idle tries clear = and_from _ _ (and_from _ _ (and_from _ _ active idle) (ap not tries)) (ap is_none clear)

  by_block : (i : ℕ) → is_active m.events i ≡ true → is_none (running_of m i) ≡ true → is_exhausted courses m i ≡ false → (o : Option Blocked) → block_of table courses m i ≡ o
      → goes_on_from table courses m (admit_kept (piece_unless courses m i o)) ≡ true
  by_block i active idle tries None is = alone (kept_hand (hand_to courses m i)) (hand-may i (free_from i active idle tries is))
  by_block i active idle tries (Some b) is = refl

  by_tries : (i : ℕ) → is_active m.events i ≡ true → is_none (running_of m i) ≡ true → (t : Bool) → is_exhausted courses m i ≡ t
      → goes_on_from table courses m (admit_kept (admit_by_tries table courses m i t)) ≡ true
  by_tries i active idle true is = refl
  by_tries i active idle false is = by_block i active idle is (block_of table courses m i) refl

  by_running : (i : ℕ) → is_active m.events i ≡ true → (t : Bool) → is_some (running_of m i) ≡ t
      → goes_on_from table courses m (admit_kept (admit_by_running table courses m i t)) ≡ true
  by_running i active true is = refl
  by_running i active false is = by_tries i active (ap not is) (is_exhausted courses m i) refl

  by_active : (i : ℕ) → (t : Bool) → is_active m.events i ≡ t → goes_on_from table courses m (admit_kept (admit_by_active table courses m i t)) ≡ true
  by_active i true is = by_running i is (is_some (running_of m i)) refl
  by_active i false is = refl

  by_known : (i : ℕ) → (t : Bool) → goes_on_from table courses m (admit_kept (admit_by_known table courses m i t)) ≡ true
  by_known i true = by_active i (is_active m.events i) refl
  by_known i false = refl

  pub admit-kept : (i : ℕ) → goes_on_from table courses m (admit_kept (admit_reply table courses m i)) ≡ true
  admit-kept i = by_known i (is_in i (starts m.events))

  -- a request for any piece, the victims being made

  by_free : (served : ℕ) (o : Option ℕ) → find (is_free table courses m) (rotation m served) ≡ o
      → goes_on_from table courses m (next_kept (piece_of_free courses m (none_free_reply table courses m served) o)) ≡ true
  by_free served (Some i) is = alone (kept_hand (hand_to courses m i)) (hand-may i (find-passes (is_free table courses m) (rotation m served) i is))
  by_free served None is = none_kept (eqb (length (active m.events)) 0) (eqb (length m.out) 0) refl
    where
      none_kept : (a b : Bool) → eqb (length m.out) 0 ≡ b → goes_on_from table courses m (next_kept (none_free_by_active table courses m served a)) ≡ true
      none_kept true b is = refl
      none_kept false true is = rw is refl
      none_kept false false is = rw is refl

  pub next-kept : (served : ℕ) → goes_on_from table courses m (next_kept (next_reply table courses m served)) ≡ true
  next-kept served = by_free served (find (is_free table courses m) (rotation m served)) refl

  -- the end of a piece

  runs_from : (n : ℕ) (p : Piece) → piece_of m.kept n ≡ Some p → runs m p.number ≡ true → runs m n ≡ true
  runs_from n p found is = ap (runs m) (sym (eqb-true p.number n (find-passes (λ q. eqb q.number n) (hands m.kept) p found))) ∙ is

  by_outcome : (n : ℕ) (p : Piece) (outcome : Outcome) → piece_of m.kept n ≡ Some p → runs m p.number ≡ true
      → goes_on_from table courses m (finish_kept n (out_finish table courses m p outcome)) ≡ true
  by_outcome n p Done found runs' = alone (Effect n) (runs_from n p found runs')
  by_outcome n p Refused found runs' = by_end (same_work p.work End) refl
    where
      by_end : (t : Bool) → same_work p.work End ≡ t → goes_on_from table courses m (finish_kept n (refused_unless_end table courses m p t)) ≡ true
      by_end true is = refl
      by_end false is = alone (Refuse n) (and_from (runs m n) _ (runs_from n p found runs') (ap is_no_end found ∙ ap not is))

  by_state : (n : ℕ) (p : Piece) (outcome : Outcome) (state : PieceState) → piece_of m.kept n ≡ Some p → state_of m p.number ≡ state
      → goes_on_from table courses m (finish_kept n (finish_by (out_finish table courses m p outcome) state)) ≡ true
  by_state n p outcome Out found is = by_outcome n p outcome found (out_runs (runs m p.number) (dropped_at m p.number) is)
  by_state n p outcome (Dropped k) found is = refl
  by_state n p outcome Over found is = refl

  by_piece : (n : ℕ) (outcome : Outcome) (o : Option Piece) → piece_of m.kept n ≡ o → goes_on_from table courses m (finish_kept n (finish_piece table courses m outcome o)) ≡ true
  by_piece n outcome None found = refl
  by_piece n outcome (Some p) found = by_state n p outcome (state_of m p.number) found refl

  pub finish-kept : (n : ℕ) (outcome : Outcome) → goes_on_from table courses m (finish_kept n (finish_reply table courses m n outcome)) ≡ true
  finish-kept n outcome = by_piece n outcome (piece_of m.kept n) refl

  -- a request to complete

  begun_kept : (i : ℕ) → is_active m.events i ≡ true → is_exhausted courses m i ≡ false → (t : Bool) → has_begun m i ≡ t
      → goes_on_from table courses m (abort_kept i (abort_by_begun t)) ≡ true
  begun_kept i active tries true is = refl
  begun_kept i active tries false is = alone (Abort i) (and_from _ _ (and_from _ _ active (ap not tries)) (ap not is))

  tries_kept : (i : ℕ) → is_active m.events i ≡ true → (t : Bool) → is_exhausted courses m i ≡ t → goes_on_from table courses m (abort_kept i (abort_by_tries m i t)) ≡ true
  tries_kept i active true is = refl
  tries_kept i active false is = begun_kept i active is (has_begun m i) refl

  active_kept : (i : ℕ) → (t : Bool) → is_active m.events i ≡ t → goes_on_from table courses m (abort_kept i (abort_by_active courses m i t)) ≡ true
  active_kept i true is = tries_kept i is (is_exhausted courses m i) refl
  active_kept i false is = refl

  known_kept : (i : ℕ) → (t : Bool) → goes_on_from table courses m (abort_kept i (abort_by_known courses m i t)) ≡ true
  known_kept i true = active_kept i (is_active m.events i) refl
  known_kept i false = refl

  pub abort-kept : (i : ℕ) → goes_on_from table courses m (abort_kept i (abort_reply courses m i)) ≡ true
  abort-kept i = known_kept i (is_in i (starts m.events))

  -- a request that all complete

  restart_by : (t : Bool) → may_be_kept table courses m Restart ≡ t → goes_on_from table courses m (if t then Restart ∷ [] else []) ≡ true
  restart_by true is = alone Restart is
  restart_by false is = refl

  pub restart-kept : goes_on_from table courses m (if may_be_kept table courses m Restart then Restart ∷ [] else []) ≡ true
  restart-kept = restart_by (may_be_kept table courses m Restart) refl

module _ (table : ConflictRelation) (courses : List Course) where
  -- victims

  victim_kept : (m : Moment) (rest : ℕ → List Kept) → ((i : ℕ) → goes_on_from table courses (advance table courses m (Victim i)) (rest i) ≡ true)
      → (o : Option ℕ) → victim_of table courses m ≡ o → goes_on_from table courses m (victim_then rest o) ≡ true
  victim_kept m rest goes None is = refl
  victim_kept m rest goes (Some i) is = and_from _ _ (ap (is_victim i) is ∙ eq-eqb i i refl) (goes i)

  pub victims-kept : (n : ℕ) (m : Moment) → goes_on_from table courses m (victims n table courses m) ≡ true
  victims-kept zero m = refl
  victims-kept (suc n) m = victim_kept m (λ i. victims n table courses (advance table courses m (Victim i)))
      (λ i. victims-kept n (advance table courses m (Victim i))) (victim_of table courses m) refl

  -- the victims, and then what a request for any piece keeps
  next_all : (m : Moment) (served : ℕ) → goes_on_from table courses m (answer_at table courses m served next).kept ≡ true
  next_all m served =
      let vs = all_victims table courses m in
      goes_on-append table courses m vs (next_kept (next_reply table courses (advance_all table courses m vs) served))
      ∙ and_from (goes_on_from table courses m vs) _ (victims-kept (length (active m.events)) m) (next-kept table courses (advance_all table courses m vs) served)

  -- every call but a start keeps what may be kept
  pub call-kept : (m : Moment) (served : ℕ) (c : Call) → IsNoStart c → goes_on_from table courses m (answer_at table courses m served c).kept ≡ true
  call-kept m served (start c) no_start = absurd no_start
  call-kept m served (admit i) no_start = admit-kept table courses m i
  call-kept m served next no_start = next_all m served
  call-kept m served (finish n outcome) no_start = finish-kept table courses m n outcome
  call-kept m served (abort i) no_start = abort-kept table courses m i
  call-kept m served complete_all no_start = restart-kept table courses m

-- a run stays one by every call but a start, whatever its opening and its plans
pub call-makes_run : (table : ConflictRelation) (s : Machine) (c : Call) → IsNoStart c → IsTrue (is_run table s)
    → IsTrue (is_run table (keeping s (answer table s c).kept))
call-makes_run table s c no_start run =
    goes_on-append table s.courses (opening_moment s.opening) s.kept (answer table s c).kept
    ∙ and_from (is_run table s) _ run (call-kept table s.courses (now table s) s.served c no_start)

pub no_courses : (table : ConflictRelation) (s : Machine) (c : Call) → IsNoStart c → (answer table s c).courses ≡ []
no_courses table s (start c) no_start = absurd no_start
no_courses table s (admit i) no_start = refl
no_courses table s next no_start = refl
no_courses table s (finish n outcome) no_start = refl
no_courses table s (abort i) no_start = refl
no_courses table s complete_all no_start = refl

pub calls_keep_runs : CallsKeepRuns
calls_keep_runs table s c no_start run =
    ap (λ cs. is_run table (record { opening = s.opening; courses = cs; kept = s.kept ++ (answer table s c).kept; served = s.served }))
    (ap (λ cs. s.courses ++ cs) (no_courses table s c no_start) ∙ append-nil s.courses)
    ∙ call-makes_run table s c no_start run
