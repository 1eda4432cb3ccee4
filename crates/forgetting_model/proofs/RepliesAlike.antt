-- Forgetting changes no reply.
use Rattle.std.proofs.Common.{◌≡◌, ◌⊎◌, inl, inr, ℕ, ◌+◌, ◌≤◌, Bool, true, false, not, eqb, ltb, leb, ◌&&◌, if◌then◌else◌, List, [], ◌∷◌, ◌++◌, length, map, filter, sym, refl, ap, ◌∙◌}
use Rattle.std.specs.Prelude.{Option, Some, None, find, is_none, is_some, slice_index_or, unwrap_or}
use Rattle.std.specs.Bool.{IsTrue}
use Rattle.std.specs.List.{cons_option, filter_map, slice_get}
use Rattle.std.specs.Option.{option_map}
use Rattle.std.proofs.lemmas.Bool.{and_parts}
use Rattle.std.proofs.lemmas.List.{map-append}
use Rattle.process_tree.specs.Shape.{least, lesser}
use Rattle.process_tree.specs.declared.plan.Plan.{Plan}
use Rattle.schedule_model.specs.declared.event.Event.{Event}
use Rattle.schedule_model.specs.Course.{Course, usual}
use Rattle.schedule_model.specs.Conflict.{ConflictRelation}
use Rattle.schedule_model.specs.Histories.{active, is_active, is_in, starts}
use Rattle.schedule_model.proofs.Active.{is_active-is_in}
use Rattle.schedule_model.proofs.Members.{Among, among-append, among-filter, is_in-among}
use Rattle.machine_model.specs.declared.blocked.Blocked.{Blocked}
use Rattle.machine_model.specs.declared.kept.Work.{Work}
use Rattle.machine_model.specs.declared.kept.Work.TheVariants.{Forward, Undo, End}
use Rattle.machine_model.specs.Advance.{Machine}
use Rattle.machine_model.specs.Laws.{IsSession}
use Rattle.machine_model.specs.Moment.{Moment}
use Rattle.machine_model.specs.Pieces.{hands, running_of}
use Rattle.machine_model.specs.Progress.{Task}
use Rattle.machine_model.specs.Replies.{abort_by_active, abort_by_begun, abort_by_known, abort_by_tries, admit_by_active, admit_by_known, admit_by_running, admit_by_tries, blocked_in_rotation, chosen, exhausted, hand_to, least_exhausted, next_reply, none_free_by_active, none_free_by_running, none_free_reply, piece, piece_of_free, piece_unless, refuse_by, refuse_of, rotation, stuck, wait, waiting_process}
use Rattle.machine_model.specs.Runs.{now}
use Rattle.machine_model.specs.State.{block_of, is_blocked, is_exhausted, is_free, next_of, tried}
use Rattle.forgetting_model.specs.Moments.{IsLeftOf, StandsAlike, renumbered_block, renumbered_piece}
use Rattle.forgetting_model.specs.Remaining.{courses_left, is_open, number_in, number_since}
use Rattle.forgetting_model.specs.Replies.{AnswersAlike, ForgettingChangesNoAnswer, ServesAlike, renumbered_admit, renumbered_blocked, renumbered_handed, renumbered_next}
use Rattle.forgetting_model.proofs.Dropped.{in_kept, starts-of}
use Rattle.forgetting_model.proofs.LeftMoments.{apart, hands-by, order, positive}
use Rattle.forgetting_model.proofs.Mapped.{length-mapped}
use Rattle.forgetting_model.proofs.Mirrored.{AreMirrored, active-left, find-mapped, find-passes, is_active-left, next-left, refusals-left}
use Rattle.forgetting_model.proofs.MirroredBlocks.{filter_each, none_mapped, some_mapped}
use Rattle.forgetting_model.proofs.MomentLaws.{all_legal, are, legal, stands-alike}
use Rattle.forgetting_model.proofs.Renumbered.{is_in-by, starts-by}

told_step : {Z W : Type 0} (g : Z → W) (a : Option W) (b : Option Z) (ws : List W) (zs : List Z) → a ≡ option_map g b → ws ≡ map g zs → cons_option a ws ≡ map g (cons_option b zs)
told_step g a None ws zs same rest = ap (λ o. cons_option o ws) same ∙ rest
told_step g a (Some z) ws zs same rest = ap (λ o. cons_option o ws) same ∙ ap (λ vs. g z ∷ vs) rest

filter_map_each : {X Y Z W : Type 0} (f : X → Y) (q : Y → Option W) (p : X → Option Z) (g : Z → W) (xs : List X) → ((x : X) → Among x xs → q (f x) ≡ option_map g (p x))
    → filter_map q (map f xs) ≡ map g (filter_map p xs)
filter_map_each f q p g [] same = refl
filter_map_each f q p g (x ∷ xs) same =
    told_step g (q (f x)) (p x) (filter_map q (map f xs)) (filter_map p xs) (same x (inl refl)) (filter_map_each f q p g xs (λ y is. same y (inr is)))

first_mapped : {X Y : Type 0} (f : X → Y) (xs : List X) → slice_get (map f xs) 0 ≡ option_map f (slice_get xs 0)
first_mapped f [] = refl
first_mapped f (x ∷ xs) = refl

module _ (table : ConflictRelation) (plans : List Plan) (s : Machine) (h : List Event) (n : Moment) (session : IsSession table plans s) (left : IsLeftOf h (now table s) n) where
  abbrev m : Moment
  m = now table s

  abbrev since : List Course
  since = courses_left s.courses h

  abbrev mir : AreMirrored (number_in h) (apart table s.courses h (legal table plans s h n session left)) (is_open h) s.courses since m n
  mir = are table plans s h n session left

  alike : (k : ℕ) → IsTrue (is_active n.events k) → StandsAlike table s.courses h m n k
  alike k goes = stands-alike table plans s h n session left k goes

  active_alike : (k : ℕ) → is_active m.events (number_in h k) ≡ is_active n.events k
  active_alike k = is_active-left (number_in h) (apart table s.courses h (legal table plans s h n session left)) (is_open h) table s.courses since m n mir k

  actives : active m.events ≡ map (number_in h) (active n.events)
  actives = active-left (number_in h) (apart table s.courses h (legal table plans s h n session left)) (is_open h) table s.courses since m n mir

  started_alike : (k : ℕ) → is_in (number_in h k) (starts m.events) ≡ is_in k (starts n.events)
  started_alike k =
      sym (in_kept (is_open h) (number_in h k) (starts m.events) (mir.stays k))
      ∙ (ap (is_in (number_in h k)) (sym (starts-of (is_open h) m.events) ∙ (ap starts mir.events ∙ starts-by (number_in h) n.events))
      ∙ is_in-by (number_in h) (apart table s.courses h (legal table plans s h n session left)) k (starts n.events))

  count_alike : length (hands m.kept) ≡ length (hands n.kept)
  count_alike = sym (ap length (ap hands left.kept ∙ hands-by (number_since h) m.kept) ∙ length-mapped (renumbered_piece (number_since h)) (hands m.kept))

  module _ (k : ℕ) (goes : IsTrue (is_active n.events k)) where
    next_alike : next_of s.courses m (number_in h k) ≡ next_of since n k
    next_alike = next-left (number_in h) (apart table s.courses h (legal table plans s h n session left)) (is_open h) table s.courses since m n mir k goes

    tried_alike : (t : Task) → tried m (number_in h k) t ≡ tried n k t
    tried_alike t = refusals-left (number_in h) (apart table s.courses h (legal table plans s h n session left)) (is_open h) table s.courses since m n mir k goes t.step t.work

    refuse_alike : (b : ℕ) (w : Work) → refuse_by s.courses (number_in h k) b w ≡ refuse_by since k b w
    refuse_alike b Forward = ap (λ (c : Course). (slice_index_or c.allowances b usual).refuse) (mir.same k goes)
    refuse_alike b Undo = ap (λ (c : Course). (slice_index_or c.allowances b usual).undo_refuse) (mir.same k goes)
    refuse_alike b End = refl

    hand_alike : hand_to s.courses m (number_in h k) ≡ renumbered_handed (number_in h) (hand_to since n k)
    hand_alike =
        ap (λ (t : Task). record {
          piece = record { number = length (hands m.kept) + 1; process = number_in h k; step = t.step; work = t.work };
          tried = tried m (number_in h k) t;
          refuse = refuse_of s.courses (number_in h k) t;
        }) next_alike
        ∙ (ap (λ c. record {
          piece = record { number = c + 1; process = number_in h k; step = (next_of since n k).step; work = (next_of since n k).work };
          tried = tried m (number_in h k) (next_of since n k);
          refuse = refuse_of s.courses (number_in h k) (next_of since n k);
        }) count_alike
        ∙ (ap (λ r. record {
          piece = record { number = length (hands n.kept) + 1; process = number_in h k; step = (next_of since n k).step; work = (next_of since n k).work };
          tried = r;
          refuse = refuse_of s.courses (number_in h k) (next_of since n k);
        }) (tried_alike (next_of since n k))
        ∙ ap (λ r. record {
          piece = record { number = length (hands n.kept) + 1; process = number_in h k; step = (next_of since n k).step; work = (next_of since n k).work };
          tried = tried n k (next_of since n k);
          refuse = r;
        }) (refuse_alike (next_of since n k).step (next_of since n k).work)))

    -- Admit.

    unless_by : (o : Option Blocked) → piece_unless s.courses m (number_in h k) (option_map (renumbered_block (number_in h)) o) ≡ renumbered_admit (number_in h) (piece_unless since n k o)
    unless_by None = ap (λ d. piece d) hand_alike
    unless_by (Some b) = refl

    tries_by : (t : Bool) → admit_by_tries table s.courses m (number_in h k) t ≡ renumbered_admit (number_in h) (admit_by_tries table since n k t)
    tries_by true = ap (λ (t : Task). exhausted t.step) next_alike
    tries_by false = ap (piece_unless s.courses m (number_in h k)) (alike k goes).block ∙ unless_by (block_of table since n k)

    running_by : (t : Bool) → admit_by_running table s.courses m (number_in h k) t ≡ renumbered_admit (number_in h) (admit_by_running table since n k t)
    running_by true = refl
    running_by false = ap (admit_by_tries table s.courses m (number_in h k)) (alike k goes).exhausted ∙ tries_by (is_exhausted since n k)

    admit_goes : admit_by_active table s.courses m (number_in h k) true ≡ renumbered_admit (number_in h) (admit_by_active table since n k true)
    admit_goes =
        ap (admit_by_running table s.courses m (number_in h k)) (ap is_some (alike k goes).running ∙ some_mapped (renumbered_piece (number_in h)) (running_of n k))
        ∙ running_by (is_some (running_of n k))

    -- Abort.

    abort_goes : abort_by_active s.courses m (number_in h k) true ≡ abort_by_active since n k true
    abort_goes = ap (abort_by_tries m (number_in h k)) (alike k goes).exhausted ∙ by_tries (is_exhausted since n k)
      where
        by_tries : (t : Bool) → abort_by_tries m (number_in h k) t ≡ abort_by_tries n k t
        by_tries true = refl
        by_tries false = ap abort_by_begun (mir.begun k goes)

  admit_active : (k : ℕ) (t : Bool) → is_active n.events k ≡ t → admit_by_active table s.courses m (number_in h k) t ≡ renumbered_admit (number_in h) (admit_by_active table since n k t)
  admit_active k true goes = admit_goes k goes
  admit_active k false out = refl

  admit_known : (k : ℕ) (t : Bool) → admit_by_known table s.courses m (number_in h k) t ≡ renumbered_admit (number_in h) (admit_by_known table since n k t)
  admit_known k true = ap (admit_by_active table s.courses m (number_in h k)) (active_alike k) ∙ admit_active k (is_active n.events k) refl
  admit_known k false = refl

  abort_active : (k : ℕ) (t : Bool) → is_active n.events k ≡ t → abort_by_active s.courses m (number_in h k) t ≡ abort_by_active since n k t
  abort_active k true goes = abort_goes k goes
  abort_active k false out = refl

  abort_known : (k : ℕ) (t : Bool) → abort_by_known s.courses m (number_in h k) t ≡ abort_by_known since n k t
  abort_known k true = ap (abort_by_active s.courses m (number_in h k)) (active_alike k) ∙ abort_active k (is_active n.events k) refl
  abort_known k false = refl

  pub answers : (k : ℕ) → AnswersAlike table plans s h n k
  answers k = record {
    admit = ap (admit_by_known table s.courses m (number_in h k)) (started_alike k) ∙ admit_known k (is_in k (starts n.events));
    abort = ap (abort_by_known s.courses m (number_in h k)) (started_alike k) ∙ abort_known k (is_in k (starts n.events));
  }

  -- Any piece.

  free_by : (k : ℕ) (t : Bool) → is_active n.events k ≡ t → is_free table s.courses m (number_in h k) ≡ is_free table since n k
  free_by k true goes = (alike k goes).free
  free_by k false out =
      ap (λ t. t && is_none (running_of m (number_in h k)) && not (is_exhausted s.courses m (number_in h k)) && is_none (block_of table s.courses m (number_in h k))) (active_alike k ∙ out)
      ∙ sym (ap (λ t. t && is_none (running_of n k) && not (is_exhausted since n k) && is_none (block_of table since n k)) out)

  goes_in : (k : ℕ) → Among k (active n.events) → IsTrue (is_active n.events k)
  goes_in k among = sym (is_active-is_in n.events k) ∙ is_in-among k (active n.events) among

  waiting_by : (k : ℕ) → IsTrue (is_active n.events k) → waiting_process table s.courses m (number_in h k) ≡ option_map (renumbered_blocked (number_in h)) (waiting_process table since n k)
  waiting_by k goes =
      ap (λ t. if t && is_blocked table s.courses m (number_in h k) then option_map (λ b. record { process = number_in h k; block = b }) (block_of table s.courses m (number_in h k)) else None)
      (ap is_none (alike k goes).running ∙ none_mapped (renumbered_piece (number_in h)) (running_of n k))
      ∙ (ap (λ t. if is_none (running_of n k) && t then option_map (λ b. record { process = number_in h k; block = b }) (block_of table s.courses m (number_in h k)) else None) (alike k goes).blocked
      ∙ (ap (λ o. if is_none (running_of n k) && is_blocked table since n k then option_map (λ b. record { process = number_in h k; block = b }) o else None) (alike k goes).block
      ∙ by_test (is_none (running_of n k) && is_blocked table since n k) (block_of table since n k)))
    where
      by_test : (t : Bool) (o : Option Blocked) → (if t then option_map (λ b. record { process = number_in h k; block = b }) (option_map (renumbered_block (number_in h)) o) else None)
          ≡ option_map (renumbered_blocked (number_in h)) (if t then option_map (λ b. record { process = k; block = b }) o else None)
      by_test true None = refl
      by_test true (Some b) = refl
      by_test false o = refl

  lesser_step : (x y : ℕ) (a b : Bool) → a ≡ b → (if a then Some (number_in h x) else Some (number_in h y)) ≡ option_map (number_in h) (if b then Some x else Some y)
  lesser_step x y a true same = ap (λ t. if t then Some (number_in h x) else Some (number_in h y)) same
  lesser_step x y a false same = ap (λ t. if t then Some (number_in h x) else Some (number_in h y)) same

  lesser_by : (x : ℕ) (o : Option ℕ) → lesser (number_in h x) (option_map (number_in h) o) ≡ option_map (number_in h) (lesser x o)
  lesser_by x None = refl
  lesser_by x (Some y) = lesser_step x y (ltb (number_in h x) (number_in h y)) (ltb x y) (order table s.courses h (legal table plans s h n session left) x y)

  least_by : (xs : List ℕ) → least (map (number_in h) xs) ≡ option_map (number_in h) (least xs)
  least_by [] = refl
  least_by (x ∷ xs) = ap (lesser (number_in h x)) (least_by xs) ∙ lesser_by x (least xs)

  or_zero : (o : Option ℕ) → unwrap_or (option_map (number_in h) o) 0 ≡ number_in h (unwrap_or o 0)
  or_zero None = refl
  or_zero (Some x) = refl

  stuck_alike : least_exhausted s.courses m ≡ number_in h (least_exhausted since n)
  stuck_alike =
      ap (λ is. unwrap_or (least is) 0)
      (ap (filter (is_exhausted s.courses m)) actives
      ∙ filter_each (number_in h) (is_exhausted s.courses m) (is_exhausted since n) (active n.events) (λ k among. (alike k (goes_in k among)).exhausted))
      ∙ (ap (λ o. unwrap_or o 0) (least_by (filter (is_exhausted since n) (active n.events))) ∙ or_zero (least (filter (is_exhausted since n) (active n.events))))

  positive_in : (k : ℕ) → Among k (active n.events) → 1 ≤ k
  positive_in k among = positive table s.courses h (legal table plans s h n session left) m n left (all_legal table plans s h n session left) k (goes_in k among)

  module _ (served served_since : ℕ) (serves : ServesAlike h served served_since) where
    rotation_alike : rotation m served ≡ map (number_in h) (rotation n served_since)
    rotation_alike =
        ap (λ is. filter (λ i. ltb served i) is ++ filter (λ i. leb i served) is) actives
        ∙ (ap (λ is. is ++ filter (λ i. leb i served) (map (number_in h) (active n.events)))
        (filter_each (number_in h) (λ i. ltb served i) (λ k. ltb served_since k) (active n.events) (λ k among. serves.after k (positive_in k among)))
        ∙ (ap (λ is. map (number_in h) (filter (λ k. ltb served_since k) (active n.events)) ++ is)
        (filter_each (number_in h) (λ i. leb i served) (λ k. leb k served_since) (active n.events) (λ k among. serves.up_to k (positive_in k among)))
        ∙ sym (map-append (number_in h) (filter (λ k. ltb served_since k) (active n.events)) (filter (λ k. leb k served_since) (active n.events)))))

    goes_round : (k : ℕ) → Among k (rotation n served_since) → IsTrue (is_active n.events k)
    goes_round k among = by_part (among-append k (filter (λ k. ltb served_since k) (active n.events)) (filter (λ k. leb k served_since) (active n.events)) among)
      where
        by_part : Among k (filter (λ k. ltb served_since k) (active n.events)) ⊎ Among k (filter (λ k. leb k served_since) (active n.events)) → IsTrue (is_active n.events k)
        by_part (inl later) = goes_in k (among-filter (λ k. ltb served_since k) k (active n.events) later).0
        by_part (inr earlier) = goes_in k (among-filter (λ k. leb k served_since) k (active n.events) earlier).0

    blocked_alike : blocked_in_rotation table s.courses m served ≡ map (renumbered_blocked (number_in h)) (blocked_in_rotation table since n served_since)
    blocked_alike =
        ap (filter_map (waiting_process table s.courses m)) rotation_alike
        ∙ filter_map_each (number_in h) (waiting_process table s.courses m) (waiting_process table since n) (renumbered_blocked (number_in h)) (rotation n served_since) (λ k among. waiting_by k (goes_round k among))

    by_running : (t : Bool) → none_free_by_running table s.courses m served t ≡ renumbered_next (number_in h) (none_free_by_running table since n served_since t)
    by_running true = ap (λ i. stuck i) stuck_alike
    by_running false =
        ap (λ bs. wait (slice_get bs 0)) blocked_alike ∙ ap (λ o. wait o) (first_mapped (renumbered_blocked (number_in h)) (blocked_in_rotation table since n served_since))

    by_active : (t : Bool) → none_free_by_active table s.courses m served t ≡ renumbered_next (number_in h) (none_free_by_active table since n served_since t)
    by_active true = refl
    by_active false =
        ap (λ c. none_free_by_running table s.courses m served (eqb c 0)) (ap length left.out ∙ length-mapped (renumbered_piece (number_in h)) n.out) ∙ by_running (eqb (length n.out) 0)

    none_alike : none_free_reply table s.courses m served ≡ renumbered_next (number_in h) (none_free_reply table since n served_since)
    none_alike =
        ap (λ c. none_free_by_active table s.courses m served (eqb c 0)) (ap length actives ∙ length-mapped (number_in h) (active n.events)) ∙ by_active (eqb (length (active n.events)) 0)

    by_found : (o : Option ℕ) → ((k : ℕ) → o ≡ Some k → IsTrue (is_active n.events k))
        → piece_of_free s.courses m (renumbered_next (number_in h) (none_free_reply table since n served_since)) (option_map (number_in h) o) ≡ renumbered_next (number_in h) (piece_of_free since n (none_free_reply table since n served_since) o)
    by_found None goes = refl
    by_found (Some k) goes = ap (λ d. chosen d) (hand_alike k (goes k refl))

    found_goes : (k : ℕ) → find (is_free table since n) (rotation n served_since) ≡ Some k → IsTrue (is_active n.events k)
    found_goes k is =
        let passes = find-passes (is_free table since n) (rotation n served_since) k is in
        (and_parts (is_active n.events k) (is_none (running_of n k)) (and_parts (is_active n.events k && is_none (running_of n k)) (not (is_exhausted since n k))
        (and_parts ((is_active n.events k && is_none (running_of n k)) && not (is_exhausted since n k)) (is_none (block_of table since n k)) passes).0).0).0

    pub next_replies : next_reply table s.courses m served ≡ renumbered_next (number_in h) (next_reply table since n served_since)
    next_replies =
        ap (λ o. piece_of_free s.courses m (none_free_reply table s.courses m served) o)
        (ap (find (is_free table s.courses m)) rotation_alike ∙ find-mapped (number_in h) (is_free table s.courses m) (is_free table since n) (rotation n served_since) (λ k. free_by k (is_active n.events k) refl))
        ∙ (ap (λ r. piece_of_free s.courses m r (option_map (number_in h) (find (is_free table since n) (rotation n served_since)))) none_alike
        ∙ by_found (find (is_free table since n) (rotation n served_since)) found_goes)

pub forgetting_changes_no_answer : ForgettingChangesNoAnswer
forgetting_changes_no_answer table plans s h n k session left = answers table plans s h n session left k
