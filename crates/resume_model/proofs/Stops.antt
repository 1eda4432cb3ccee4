-- A stop takes nothing back: what it leaves is the moment of before, but for the pieces that were out and the counts of refusals.
use Rattle.std.proofs.Common.{◌≡◌, ◌⊎◌, inl, inr, ℕ, Bool, true, false, not, cond, eqb, ◌&&◌, ◌||◌, List, [], ◌∷◌, ◌++◌, length, map, filter, find, drop, is_some, Option, Some, None, sym, refl, ap, subst, ◌∙◌, arith, append-nil}
use Rattle.std.specs.Bool.{IsTrue}
use Rattle.std.specs.List.{list_all, list_any}
use Rattle.std.specs.Option.{option_map}
use Rattle.std.proofs.lemmas.Bool.{and_from, eq-eqb, eqb-true, false≢true, le-leb}
use Rattle.std.proofs.lemmas.List.{map-append}
use Rattle.std.proofs.lemmas.List.Elements.{filter-append}
use Rattle.process_tree.specs.Order.{Each}
use Rattle.process_tree.specs.declared.entry.Entry.{Entry}
use Rattle.process_tree.specs.declared.plan.Plan.{Plan}
use Rattle.process_tree.specs.Recovery.{forward}
use Rattle.process_tree.specs.Shape.{can_be_refused, first_of, kind_of}
use Rattle.schedule_model.specs.Course.{Course, courses_of, shape}
use Rattle.schedule_model.specs.Conflict.{ConflictRelation, IsSymmetric, conflict}
use Rattle.schedule_model.specs.Histories.{active, is_active, is_in, net, net_of, same_step, starts}
use Rattle.schedule_model.specs.Holdings.{Hold, behind}
use Rattle.schedule_model.specs.Laws.{AreGood}
use Rattle.schedule_model.specs.Legal.{is_legal}
use Rattle.schedule_model.specs.Limits.{is_within_limits}
use Rattle.schedule_model.specs.Recovery.{backward_entries, owed}
use Rattle.schedule_model.proofs.Active.{is_active-is_in}
use Rattle.schedule_model.proofs.Members.{Among, all-from_among, among-append, among-filter, among-map, any-among, is_in-among}
use Rattle.schedule_model.proofs.Started.{among_net_of}
use Rattle.machine_model.specs.declared.kept.Work.{Work}
use Rattle.machine_model.specs.declared.kept.Work.TheVariants.{Forward, Undo, End}
use Rattle.machine_model.specs.Moment.{Beginning, Moment, Piece, RefusedStep, beginning_of, has_begun}
use Rattle.machine_model.specs.Pieces.{hands, is_refusal, refused_pieces}
use Rattle.machine_model.specs.Progress.{Progress, is_only_try, next_task, staying}
use Rattle.machine_model.specs.State.{hold_of, is_pending, pending_of, progress, refused_before, refused_steps}
use Rattle.machine_model.proofs.Counting.{count-map, found-any}
use Rattle.machine_model.proofs.Frames.{same_history, same_progress}
use Rattle.machine_model.proofs.NextInOrder.{OwedIsAhead}
use Rattle.machine_model.proofs.OneOut.{count-filter}
use Rattle.machine_model.proofs.PendingFree.{in_whole}
use Rattle.resume_model.specs.Openings.{Begun, Opening, beginning, opened}
use Rattle.resume_model.specs.Resumed.{begun_of, now_of, refused_for_good, step_of, stopped, was_only_try}
use Rattle.resume_model.specs.Sound.{is_ahead, is_at_most, is_beginning_of, is_closed_behind, is_refusal_of, is_sound}
use Rattle.resume_model.specs.StopLaws.{GoesOnFrom, StopsResume, cause_of}
use Rattle.resume_model.proofs.Standing.{Stands, now-stands}

-- who began is found again
find_begun : (bs : List Beginning) (i : ℕ) → find (λ (b : Beginning). eqb b.process i) (map beginning (map begun_of bs)) ≡ option_map (λ b. beginning (begun_of b)) (find (λ (b : Beginning). eqb b.process i) bs)
find_begun [] i = refl
find_begun (b ∷ bs) i = by_test (eqb b.process i) (find_begun bs i)
  where
    by_test : (t : Bool) → find (λ (x : Beginning). eqb x.process i) (map beginning (map begun_of bs)) ≡ option_map (λ x. beginning (begun_of x)) (find (λ (x : Beginning). eqb x.process i) bs)
        → cond t (Some (beginning (begun_of b))) (find (λ (x : Beginning). eqb x.process i) (map beginning (map begun_of bs))) ≡ option_map (λ x. beginning (begun_of x)) (cond t (Some b) (find (λ (x : Beginning). eqb x.process i) bs))
    by_test true rest = refl
    by_test false rest = rest

some_mapped : (o : Option Beginning) → is_some (option_map (λ b. beginning (begun_of b)) o) ≡ is_some o
some_mapped None = refl
some_mapped (Some b) = refl

cause_mapped : (o : Option Beginning) → option_map (λ (b : Beginning). b.began.cause) (option_map (λ b. beginning (begun_of b)) o) ≡ option_map (λ (b : Beginning). b.began.cause) o
cause_mapped None = refl
cause_mapped (Some b) = refl

-- the step of a piece is listed where the piece is
step_listed : (courses : List Course) (i : ℕ) (p : Piece) (qs : List Piece) (rs : List RefusedStep) (u v w : Bool) → eqb p.process i ≡ v → (v ≡ true → w ≡ u)
    → map (λ (r : RefusedStep). r.step) (filter (λ (r : RefusedStep). eqb r.process i) rs) ≡ map (λ (q : Piece). q.step) qs
    → map (λ (r : RefusedStep). r.step) (filter (λ (r : RefusedStep). eqb r.process i) (cond u (step_of p ∷ rs) rs)) ≡ map (λ (q : Piece). q.step) (cond (v && w) (p ∷ qs) qs)
step_listed courses i p qs rs true true true at same rest = ap (λ t. map (λ (r : RefusedStep). r.step) (cond t (step_of p ∷ filter (λ (r : RefusedStep). eqb r.process i) rs) (filter (λ (r : RefusedStep). eqb r.process i) rs))) at ∙ ap (λ bs. p.step ∷ bs) rest
step_listed courses i p qs rs true true false at same rest = absurd (false≢true (same refl))
step_listed courses i p qs rs true false w at same rest = ap (λ t. map (λ (r : RefusedStep). r.step) (cond t (step_of p ∷ filter (λ (r : RefusedStep). eqb r.process i) rs) (filter (λ (r : RefusedStep). eqb r.process i) rs))) at ∙ rest
step_listed courses i p qs rs false true true at same rest = absurd (false≢true (sym (same refl)))
step_listed courses i p qs rs false true false at same rest = rest
step_listed courses i p qs rs false false w at same rest = rest

mapped_cond : (t : Bool) (p : Piece) (ps : List Piece) → map step_of (cond t (p ∷ ps) ps) ≡ cond t (step_of p ∷ map step_of ps) (map step_of ps)
mapped_cond true p ps = refl
mapped_cond false p ps = refl

steps_listed : (courses : List Course) (i : ℕ) (ps : List Piece) → map (λ (r : RefusedStep). r.step) (filter (λ (r : RefusedStep). eqb r.process i) (map step_of (filter (was_only_try courses) ps)))
    ≡ map (λ (q : Piece). q.step) (filter (λ (q : Piece). eqb q.process i && is_only_try (shape courses i) q.step q.work) ps)
steps_listed courses i [] = refl
steps_listed courses i (p ∷ ps) =
    ap (λ rs. map (λ (r : RefusedStep). r.step) (filter (λ (r : RefusedStep). eqb r.process i) rs)) (mapped_cond (was_only_try courses p) p (filter (was_only_try courses) ps))
    ∙ step_listed courses i p (filter (λ (q : Piece). eqb q.process i && is_only_try (shape courses i) q.step q.work) ps) (map step_of (filter (was_only_try courses) ps)) (was_only_try courses p) (eqb p.process i) (is_only_try (shape courses i) p.step p.work) refl
    (λ is. ap (λ j. is_only_try (shape courses j) p.step p.work) (sym (eqb-true p.process i is))) (steps_listed courses i ps)

-- What is opened after a stop.
module _ (courses : List Course) (m : Moment) where
  abbrev after : Moment
  after = opened (stopped courses m)

  begun_same : (i : ℕ) → has_begun after i ≡ has_begun m i
  begun_same i = ap is_some (find_begun m.beginnings i) ∙ some_mapped (beginning_of m i)

  cause_same : (i : ℕ) → cause_of after i ≡ cause_of m i
  cause_same i = ap (option_map (λ (b : Beginning). b.began.cause)) (find_begun m.beginnings i) ∙ cause_mapped (beginning_of m i)

  refused_same : (i : ℕ) → refused_steps courses after i ≡ refused_steps courses m i
  refused_same i =
      let its : RefusedStep → Bool = λ r. eqb r.process i in
      let new = map step_of (filter (was_only_try courses) (refused_pieces m.kept)) in
      append-nil (map (λ (r : RefusedStep). r.step) (filter its (m.refused ++ new)))
      ∙ (ap (map (λ (r : RefusedStep). r.step)) (filter-append its m.refused new)
      ∙ (map-append (λ (r : RefusedStep). r.step) (filter its m.refused) (filter its new)
      ∙ ap (λ bs. refused_before m i ++ bs) (steps_listed courses i (refused_pieces m.kept))))

  pub progress_same : (i : ℕ) → progress courses after i ≡ progress courses m i
  progress_same i = same_progress courses m after i (same_history m.events i) (refused_same i) (begun_same i)

  pub pending_same : (i : ℕ) → pending_of courses after i ≡ pending_of courses m i
  pending_same i = ap (λ (s : Progress). drop (staying s) (net_of m.events i)) (progress_same i)

  is_pending_same : (e : Entry) → is_pending courses after e ≡ is_pending courses m e
  is_pending_same e = ap (λ es. is_active m.events e.process && list_any (same_step e) es) (pending_same e.process)

  holds_same : (i : ℕ) → hold_of courses after i ≡ record { process = i; running = None; reserved = owed courses m.events i; pending = pending_of courses m i; backward_entries = backward_entries courses m.events i }
  holds_same i =
      ap (λ es. by_parts es (pending_of courses after i)) (append-nil (owed courses m.events i)) ∙ ap (by_parts (owed courses m.events i)) (pending_same i)
    where
      by_parts : List Entry → List Entry → Hold
      by_parts rs ps = record { process = i; running = None; reserved = rs; pending = ps; backward_entries = backward_entries courses m.events i }

  pub goes-on : GoesOnFrom courses m after
  goes-on = record {
    events = refl;
    nothing_runs = refl;
    nothing_kept = refl;
    progress = progress_same;
    cause = cause_same;
    next = λ i. ap next_task (progress_same i);
    pending = pending_same;
    holds = holds_same;
    refused = refused_same;
    untried = λ i b w. refl;
  }

-- what a process owes lies ahead, computed
ahead_to : (s : Progress) → OwedIsAhead s → is_ahead s ≡ true
ahead_to s ahead = by_owed (forward s.shape s.net) refl
  where
    by_owed : (bs : List ℕ) → forward s.shape s.net ≡ bs → is_at_most s.onward (first_of bs) ≡ true
    by_owed [] owes = refl
    by_owed (b ∷ rest) owes = le-leb s.onward b (ahead b rest owes)

each_among : {X : Type 0} (P : X → Type 0) (x : X) (xs : List X) → Each P xs → Among x xs → P x
each_among P x [] each among = absurd among
each_among P x (y ∷ ys) each (inl same) = subst P same each.0
each_among P x (y ∷ ys) each (inr later) = each_among P x ys each.1 later

-- the one try of a step is a step that can be refused
only_try_kind : (courses : List Course) (i b : ℕ) (w : Work) → is_only_try (shape courses i) b w ≡ true → can_be_refused (kind_of (shape courses i) b) ≡ true
only_try_kind courses i b Forward is = is
only_try_kind courses i b Undo is = absurd (false≢true is)
only_try_kind courses i b End is = absurd (false≢true is)

-- What a stop leaves is sound.
module _ (table : ConflictRelation) (symmetric : IsSymmetric table) (plans : List Plan) (good : AreGood plans) (m : Moment) (facts : Stands table symmetric plans good m) where
  abbrev cs : List Course
  cs = courses_of plans

  abbrev o : Opening
  o = stopped (courses_of plans) m

  begun_well : (c : Begun) → Among c (map begun_of m.beginnings) → is_beginning_of o c ≡ true
  begun_well c among =
      let b = among-map begun_of c m.beginnings among in
      let i = b.0.process in
      let has : has_begun m i ≡ true = found-any (λ (x : Beginning). eqb x.process i) m.beginnings ∙ any-among (λ (x : Beginning). eqb x.process i) b.0 m.beginnings b.1 (eq-eqb i i refl) in
      let all = count-filter (λ (d : Begun). eqb d.process i) (map begun_of m.beginnings) in
      let mapped = count-map (λ (d : Begun). eqb d.process i) begun_of m.beginnings in
      let few = facts.once i in
      subst (λ d. is_beginning_of o d ≡ true) b.2
      (and_from (is_in i (starts m.events)) _ (facts.started.begun i has) (le-leb (length (filter (λ (d : Begun). eqb d.process i) (map begun_of m.beginnings))) 1 (omega arith)))

  refused_well : (r : RefusedStep) → is_in r.process (starts m.events) ≡ true → can_be_refused (kind_of (shape cs r.process) r.step) ≡ true → is_refusal_of cs o r ≡ true
  refused_well r started kind =
      and_from (is_in r.process (starts m.events) && can_be_refused (kind_of (shape cs r.process) r.step)) _ (and_from (is_in r.process (starts m.events)) _ started kind)
      (ap is_ahead (progress_same cs m r.process) ∙ ahead_to (progress cs m r.process) (facts.within.own.ahead r.process))

  new_well : (p : Piece) → Among p (filter (was_only_try cs) (refused_pieces m.kept)) → is_refusal_of cs o (step_of p) ≡ true
  new_well p among =
      let tried = among-filter (was_only_try cs) p (refused_pieces m.kept) among in
      let handed = among-filter (λ (q : Piece). list_any (is_refusal q.number) m.kept) p (hands m.kept) tried.0 in
      refused_well (step_of p) (each_among (λ (q : Piece). is_in q.process (starts m.events) ≡ true) p (hands m.kept) facts.pieces.started handed.0) (only_try_kind cs p.process p.step p.work tried.1)

  all_well : (r : RefusedStep) → Among r (refused_for_good cs m) → is_refusal_of cs o r ≡ true
  all_well r among = by_part (among-append r m.refused (map step_of (filter (was_only_try cs) (refused_pieces m.kept))) among)
    where
      by_part : Among r m.refused ⊎ Among r (map step_of (filter (was_only_try cs) (refused_pieces m.kept))) → is_refusal_of cs o r ≡ true
      by_part (inl old) = let its = facts.refusals r old in refused_well r its.0 its.1
      by_part (inr new) = let p = among-map step_of r (filter (was_only_try cs) (refused_pieces m.kept)) new in subst (λ q. is_refusal_of cs o q ≡ true) p.2 (new_well p.0 p.1)

  closed_behind : (i : ℕ) → is_active m.events i ≡ true → (x : Entry) → Among x (pending_of cs m i) → is_closed_behind table cs (opened o) x ≡ true
  closed_behind i goes x pend =
      all-from_among (λ (e : Entry). not (conflict table x e) || is_pending cs (opened o) e) (behind x (net m.events)) (λ e back. by_test e back (conflict table x e) refl)
    where
      its : x.process ≡ i
      its = (among_net_of m.events i x (in_whole x (staying (progress cs m i)) (net_of m.events i) pend)).1

      by_test : (e : Entry) → Among e (behind x (net m.events)) → (t : Bool) → conflict table x e ≡ t → (not t || is_pending cs (opened o) e) ≡ true
      by_test e back false apart = refl
      by_test e back true conflicts =
          is_pending_same cs m e ∙ facts.closed.closed (inl refl) x e (ap (is_active m.events) its ∙ goes) (subst (λ j. Among x (pending_of cs m j)) (sym its) pend) back conflicts

  all_closed : (i : ℕ) → Among i (active m.events) → list_all (is_closed_behind table cs (opened o)) (pending_of cs (opened o) i) ≡ true
  all_closed i among =
      ap (list_all (is_closed_behind table cs (opened o))) (pending_same cs m i)
      ∙ all-from_among (is_closed_behind table cs (opened o)) (pending_of cs m i) (closed_behind i (sym (is_active-is_in m.events i) ∙ is_in-among i (active m.events) among))

  pub stopped-sound : is_sound table cs o ≡ true
  stopped-sound =
      let legal = is_legal table cs m.events in
      let within = is_within_limits cs m.events in
      let begun = list_all (is_beginning_of o) o.begun in
      let refused = list_all (is_refusal_of cs o) o.refused in
      and_from (((legal && within) && begun) && refused) _
      (and_from ((legal && within) && begun) refused
      (and_from (legal && within) begun (and_from legal within facts.legal.legal facts.within.within) (all-from_among (is_beginning_of o) (map begun_of m.beginnings) begun_well))
      (all-from_among (is_refusal_of cs o) (refused_for_good cs m) all_well))
      (all-from_among (λ i. list_all (is_closed_behind table cs (opened o)) (pending_of cs (opened o) i)) (active m.events) all_closed)

pub stops_resume : StopsResume
stops_resume table plans s session = (
  record {
    symmetric = session.symmetric;
    good = session.good;
    courses = session.courses;
    one_each = session.one_each;
    sound = subst (λ xs. IsTrue (is_sound table xs (stopped xs (now_of table s)))) (sym session.courses) (stopped-sound table session.symmetric plans session.good (now_of table s) (now-stands table plans s session));
    run = refl;
  },
  goes-on s.courses (now_of table s),
)
