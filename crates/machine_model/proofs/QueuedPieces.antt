-- What is queued is out or was dropped, and a flush keeps an effect for what runs.
use Rattle.std.proofs.Common.{◌≡◌, ◌⊎◌, inl, inr, ℕ, zero, suc, ◌+◌, Bool, true, false, cond, eqb, List, [], ◌∷◌, ◌++◌, length, filter, map, Option, Some, None, is_some, sym, refl, ap, subst, ◌∙◌, arith}
use Rattle.std.proofs.Math.Bool.{or-false}
use Rattle.std.proofs.lemmas.Bool.{or_parts, or_from, or_cases, eqb-true, eqb-false, ne_eqb, false≢true}
use Rattle.process_tree.specs.Order.{Each}
use Rattle.process_tree.proofs.Every.{Each-weaker, Each-append, Each-both}
use Rattle.schedule_model.specs.Course.{Course}
use Rattle.schedule_model.specs.Conflict.{ConflictRelation}
use Rattle.schedule_model.specs.Histories.{active, is_in}
use Rattle.machine_model.specs.declared.kept.Kept.{Kept}
use Rattle.machine_model.specs.declared.kept.Kept.TheVariants.{Effect, Victim}
use Rattle.machine_model.specs.Moment.{Moment, Piece}
use Rattle.machine_model.specs.Pieces.{is_finished, piece_of, runs}
use Rattle.machine_model.specs.State.{victim_of}
use Rattle.machine_model.specs.Advance.{advance}
use Rattle.machine_model.specs.Runs.{is_run, now}
use Rattle.machine_model.specs.Replies.{Next, finish_kept, chosen, wait, all_ended, stuck, all_victims, victims, victim_then}
use Rattle.machine_model.specs.Calls.{next_kept}
use Rattle.machine_model.specs.Groups.{Targets, Queue, queued, full, refused, over, dropped, no_piece, no_refusal, flush_reply, ended_then, kept_for_ended, queue_kept, queue_adds, queue_reply}
use Rattle.machine_model.specs.Turns.{Board, Turn, nexts, finishes, queues, flushes, says, no_memory, disk_fault, is_closed, AllMaySay, MaySayBy, OpenMaySay, SaysClosed, after_flush, after_finish, after_next, after_queue, after_said, after_turn, after_turns}
use Rattle.machine_model.specs.CallLaws.{FlushesKeepWhatRuns, QueuedAreOutOrDropped}
use Rattle.machine_model.proofs.Counting.{count-some, none-count}
use Rattle.machine_model.proofs.Snoc.{is_finished-append, now-kept}
use Rattle.machine_model.proofs.OverPieces.{over_is_finished}
use Rattle.machine_model.proofs.PieceCounts.{ends_piece, is_number, run-counted}
use Rattle.machine_model.proofs.TidyMoments.{every, piece_of-more}
use Rattle.machine_model.proofs.TurnRuns.{AreDistinct, IsGoodBoard, QueueKeeps, queue-keeps, turn-good}

flush_step : (m : Moment) (p place : ℕ) (ps : List ℕ) (t : Bool) → ((k : ℕ) → kept_for_ended (flush_reply m k ps) ≡ map Effect (filter (runs m) ps))
    → kept_for_ended (ended_then m place p (λ k. flush_reply m k ps) t) ≡ map Effect (cond t (p ∷ filter (runs m) ps) (filter (runs m) ps))
flush_step m p place ps true rest = ap (λ ks. Effect p ∷ ks) (rest (place + 1))
flush_step m p place ps false rest = rest place

flush_from : (m : Moment) (ps : List ℕ) (place : ℕ) → kept_for_ended (flush_reply m place ps) ≡ map Effect (filter (runs m) ps)
flush_from m [] place = refl
flush_from m (p ∷ ps) place = flush_step m p place ps (runs m p) (flush_from m ps)

pub flushes_keep_what_runs : FlushesKeepWhatRuns
flushes_keep_what_runs m group = flush_from m group (length m.events)

-- a piece that was handed out and isn't finished
abbrev pub IsUnfinished : List Kept → ℕ → Type 0
IsUnfinished ks n = (is_some (piece_of ks n) ≡ true) × (is_finished ks n ≡ false)

still_handed : (ks js : List Kept) (n : ℕ) (o : Option Piece) → piece_of ks n ≡ o → is_some o ≡ true → is_some (piece_of (ks ++ js) n) ≡ true
still_handed ks js n None found is = absurd (false≢true is)
still_handed ks js n (Some p) found is = ap is_some (piece_of-more ks js n p found)

-- it stays so by events that don't end it
pub still_unfinished : (ks js : List Kept) (n : ℕ) → is_finished js n ≡ false → IsUnfinished ks n → IsUnfinished (ks ++ js) n
still_unfinished ks js n others is = (still_handed ks js n (piece_of ks n) refl is.0, is_finished-append ks js n ∙ or_from (is_finished ks n) (is_finished js n) is.1 others)

victims_finish : (n : ℕ) (rest : ℕ → List Kept) → ((i : ℕ) → is_finished (rest i) n ≡ false) → (o : Option ℕ) → is_finished (victim_then rest o) n ≡ false
victims_finish n rest none None = refl
victims_finish n rest none (Some i) = none i

no_victim_finishes : (table : ConflictRelation) (courses : List Course) (k : ℕ) (m : Moment) (n : ℕ) → is_finished (victims k table courses m) n ≡ false
no_victim_finishes table courses zero m n = refl
no_victim_finishes table courses (suc k) m n = victims_finish n (λ i. victims k table courses (advance table courses m (Victim i))) (λ i. no_victim_finishes table courses k (advance table courses m (Victim i)) n) (victim_of table courses m)

no_next_finishes : (r : Next) (n : ℕ) → is_finished (next_kept r) n ≡ false
no_next_finishes (chosen d) n = refl
no_next_finishes (wait w) n = refl
no_next_finishes all_ended n = refl
no_next_finishes (stuck i) n = refl

-- each of the group is unfinished
abbrev pub GroupStands : Board → Type 0
GroupStands b = Each (IsUnfinished b.machine.kept) b.group

listed_apart : (n : ℕ) (ns : List ℕ) → is_in n ns ≡ false → Each (λ x. eqb x n ≡ false) ns
listed_apart n [] none = tt
listed_apart n (x ∷ ns) none = let parts = or_parts (eqb n x) (is_in n ns) none in (ne_eqb x n (λ same. eqb-false n x parts.0 (sym same)), listed_apart n ns parts.1)

queue_finishes : (n x : ℕ) (q : Queue) → eqb x n ≡ false → is_finished (queue_kept n q) x ≡ false
queue_finishes n x (refused r) other = or-false (eqb x n) ∙ other
queue_finishes n x queued other = refl
queue_finishes n x full other = refl
queue_finishes n x over other = refl
queue_finishes n x (dropped k) other = refl
queue_finishes n x no_piece other = refl
queue_finishes n x no_refusal other = refl

module _ (table : ConflictRelation) (targets : Targets) where
  grown : (ks js : List Kept) (ns : List ℕ) → Each (λ n. is_finished js n ≡ false) ns → Each (IsUnfinished ks) ns → Each (IsUnfinished (ks ++ js)) ns
  grown ks js ns others each = Each-weaker (λ n. (is_finished js n ≡ false) × IsUnfinished ks n) (IsUnfinished (ks ++ js)) (λ n both. still_unfinished ks js n both.0 both.1) ns (Each-both (λ n. is_finished js n ≡ false) (IsUnfinished ks) ns others each)

  all_apart : (n : ℕ) (q : Queue) (ns : List ℕ) → (queue_kept n q ≡ []) ⊎ (is_in n ns ≡ false) → Each (λ x. is_finished (queue_kept n q) x ≡ false) ns
  all_apart n q ns (inl none) = every (λ x. is_finished (queue_kept n q) x ≡ false) ns (λ x. ap (λ ks. is_finished ks x) none)
  all_apart n q ns (inr new) = Each-weaker (λ x. eqb x n ≡ false) (λ x. is_finished (queue_kept n q) x ≡ false) (λ x other. queue_finishes n x q other) ns (listed_apart n ns new)

  added_by : (b : Board) (n : ℕ) (q : Queue) → is_run table b.machine ≡ true
      → (queue_adds n q ≡ []) ⊎ ((queue_adds n q ≡ n ∷ []) × (runs (now table b.machine) n ≡ true) × (is_some (piece_of (now table b.machine).kept n) ≡ true))
      → Each (IsUnfinished b.machine.kept) (queue_adds n q)
  added_by b n q run (inl none) = subst (Each (IsUnfinished b.machine.kept)) (sym none) tt
  added_by b n q run (inr is) =
      let m = now table b.machine in
      let c = run-counted table b.machine run in
      let unfinished : is_finished m.kept n ≡ false = none-count (ends_piece n) m.kept (let a = count-some (is_number n) m.out is.1 in let o = c.once n in let p = c.parted n in omega arith) in
      subst (Each (IsUnfinished b.machine.kept)) (sym is.0)
      ((ap (λ ks. is_some (piece_of ks n)) (sym (now-kept table b.machine)) ∙ is.2, ap (λ ks. is_finished ks n) (sym (now-kept table b.machine)) ∙ unfinished), tt)

  kept_apart : (n : ℕ) (q : Queue) → Each (λ x. is_finished (queue_kept n q) x ≡ false) (queue_adds n q)
  kept_apart n queued = (refl, tt)
  kept_apart n (refused r) = tt
  kept_apart n full = tt
  kept_apart n over = tt
  kept_apart n (dropped k) = tt
  kept_apart n no_piece = tt
  kept_apart n no_refusal = tt

  queue_stands : (b : Board) (n : ℕ) (q : Queue) → is_run table b.machine ≡ true → QueueKeeps table targets b.machine.courses (now table b.machine) b.group n q → GroupStands b → GroupStands (after_queue b n q)
  queue_stands b n q run keeps stands =
      grown b.machine.kept (queue_kept n q) (b.group ++ queue_adds n q)
      (Each-append (λ x. is_finished (queue_kept n q) x ≡ false) b.group (queue_adds n q) (all_apart n q b.group keeps.apart) (kept_apart n q))
      (Each-append (IsUnfinished b.machine.kept) b.group (queue_adds n q) stands (added_by b n q run keeps.out))

  open_stands : (b : Board) (t : Turn) → OpenMaySay table targets b t → is_run table b.machine ≡ true → GroupStands b → GroupStands (after_turn table b t)
  open_stands b (nexts (says r)) may run stands =
      let m = now table b.machine in
      let vs = all_victims table b.machine.courses m in
      grown b.machine.kept (vs ++ next_kept r) b.group
      (every (λ n. is_finished (vs ++ next_kept r) n ≡ false) b.group (λ n. is_finished-append vs (next_kept r) n ∙ or_from (is_finished vs n) (is_finished (next_kept r) n) (no_victim_finishes table b.machine.courses (length (active m.events)) m n) (no_next_finishes r n))) stands
  open_stands b (nexts no_memory) may run stands = absurd may
  open_stands b (nexts disk_fault) may run stands = absurd may
  open_stands b (nexts (is_closed k)) may run stands = absurd may
  open_stands b (finishes n outcome (says r)) may run stands = subst (Each (IsUnfinished (b.machine.kept ++ finish_kept n r))) (sym may.0) tt
  open_stands b (finishes n outcome no_memory) may run stands = stands
  open_stands b (finishes n outcome disk_fault) may run stands = stands
  open_stands b (finishes n outcome (is_closed k)) may run stands = absurd may
  open_stands b (queues n outcome (says r)) may run stands =
      subst (λ q. GroupStands (after_queue b n q)) (sym may.2)
      (queue_stands b n (queue_reply table targets b.machine.courses (now table b.machine) b.group n may.0) run (queue-keeps table targets b.machine.courses (now table b.machine) b.group n may.0) stands)
  open_stands b (queues n outcome no_memory) may run stands = stands
  open_stands b (queues n outcome disk_fault) may run stands = absurd may
  open_stands b (queues n outcome (is_closed k)) may run stands = absurd may
  open_stands b (flushes (says n)) may run stands = tt
  open_stands b (flushes no_memory) may run stands = absurd may
  open_stands b (flushes disk_fault) may run stands = stands
  open_stands b (flushes (is_closed k)) may run stands = absurd may

  closed_stands : (b : Board) (t : Turn) (k : ℕ) → SaysClosed k t → GroupStands b → GroupStands (after_turn table b t)
  closed_stands b (nexts said) k is stands = subst GroupStands (sym (ap (after_said (after_next table b) b) is)) stands
  closed_stands b (finishes n outcome said) k is stands = subst GroupStands (sym (ap (after_said (after_finish b n) b) is)) stands
  closed_stands b (queues n outcome said) k is stands = subst GroupStands (sym (ap (after_said (after_queue b n) b) is)) stands
  closed_stands b (flushes said) k is stands = subst GroupStands (sym (ap (after_said (after_flush table b) b) is)) stands

  by_closed : (b : Board) (t : Turn) (o : Option ℕ) → MaySayBy table targets b t o → is_run table b.machine ≡ true → GroupStands b → GroupStands (after_turn table b t)
  by_closed b t None may run stands = open_stands b t may run stands
  by_closed b t (Some k) may run stands = closed_stands b t k may stands

  pub turns_stand : (b : Board) (ts : List Turn) → AllMaySay table targets b ts → IsGoodBoard table b → GroupStands b → GroupStands (after_turns table b ts) × IsGoodBoard table (after_turns table b ts)
  turns_stand b [] may good stands = (stands, good)
  turns_stand b (t ∷ ts) may good stands = turns_stand (after_turn table b t) ts may.1 (turn-good table targets b t may.0 good) (by_closed b t b.closed may.0 good.run stands)

listed_has : (P : ℕ → Type 0) (ns : List ℕ) (n : ℕ) → Each P ns → is_in n ns ≡ true → P n
listed_has P [] n each is = absurd (false≢true is)
listed_has P (x ∷ ns) n each is = by_head (or_cases (eqb n x) (is_in n ns) is) (listed_has P ns n each.1)
  where
    by_head : (eqb n x ≡ true) ⊎ (is_in n ns ≡ true) → (is_in n ns ≡ true → P n) → P n
    by_head (inl same) rest = subst P (sym (eqb-true n x same)) each.0
    by_head (inr later) rest = rest later

pub queued_are_out_or_dropped : QueuedAreOutOrDropped
queued_are_out_or_dropped table targets b last ts empty run are n among is =
    let both = turns_stand table targets b ts are.0 (record { run = run; distinct = subst AreDistinct (sym empty) tt }) (subst (Each (IsUnfinished b.machine.kept)) (sym empty) tt) in
    let stands : GroupStands last = subst GroupStands (sym are.1) both.0 in
    let its = listed_has (IsUnfinished last.machine.kept) last.group n stands among in
    let run' : is_run table last.machine ≡ true = ap (λ (x : Board). is_run table x.machine) are.1 ∙ both.1.run in
    false≢true (sym its.1 ∙ (over_is_finished table last.machine n run' its.0).0 is)
