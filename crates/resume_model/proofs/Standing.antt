-- What stands at each moment of a session that opens at a sound moment.
use Rattle.std.proofs.Common.{◌≡◌, inl, ℕ, ◌≤◌, Bool, true, false, cond, eqb, ◌&&◌, List, [], ◌∷◌, ◌++◌, length, map, filter, Option, Some, None, sym, refl, ap, subst, ◌∙◌, arith}
use Rattle.std.specs.List.{list_any}
use Rattle.std.proofs.lemmas.Bool.{and_parts, eqb-true, leb-true}
use Rattle.process_tree.specs.declared.plan.Plan.{Plan}
use Rattle.process_tree.specs.Shape.{can_be_refused, kind_of}
use Rattle.schedule_model.specs.Course.{Course, courses_of, shape}
use Rattle.schedule_model.specs.Conflict.{ConflictRelation, IsSymmetric}
use Rattle.schedule_model.specs.Histories.{is_in, starts}
use Rattle.schedule_model.specs.Laws.{AreGood}
use Rattle.schedule_model.proofs.Members.{Among, all-among, among-any, among-map}
use Rattle.machine_model.specs.declared.kept.Kept.{Kept}
use Rattle.machine_model.specs.declared.kept.Kept.TheVariants.{Start, Hand, Effect, Refuse, Abort, Victim, Restart}
use Rattle.machine_model.specs.Moment.{Beginning, Moment, Piece, RefusedStep, happened, has_begun, noted}
use Rattle.machine_model.specs.Pieces.{piece_of}
use Rattle.machine_model.specs.State.{progress}
use Rattle.machine_model.specs.Advance.{advance, advance_all, event_of, with_piece}
use Rattle.machine_model.specs.Runs.{goes_on_from, may_be_kept}
use Rattle.machine_model.proofs.Counting.{count, count-map, count-none, count-push, found-any}
use Rattle.machine_model.proofs.CoursesRuns.{starts-stay}
use Rattle.machine_model.proofs.HandsBound.{HandsStand, advance-hands}
use Rattle.machine_model.proofs.HandsSum.{PiecesStand, advance-stand as advance-pieces}
use Rattle.machine_model.proofs.LegalRuns.{LegalFacts, advance-legal}
use Rattle.machine_model.proofs.OneLost.{OneLost, advance-lost}
use Rattle.machine_model.proofs.OneOut.{count-filter}
use Rattle.machine_model.proofs.OwnOrder.{InOwnOrder}
use Rattle.machine_model.proofs.PendingClosed.{ClosedFacts, advance-pending_closed}
use Rattle.machine_model.proofs.RefusedBefore.{refused-stay}
use Rattle.machine_model.proofs.RunInduction.{IsKeptByBeginnings, advance-keeps, entered, goes_on-keeps}
use Rattle.machine_model.proofs.RunsWithin.{Within, advance-within}
use Rattle.resume_model.specs.Openings.{Begun, Opening, beginning, opened}
use Rattle.resume_model.specs.Resumed.{IsResumed, Resumed, now_of}
use Rattle.resume_model.specs.Sound.{is_ahead, is_beginning_of, is_refusal_of, is_sound}
use Rattle.resume_model.proofs.Openings.{SoundParts, opened-closed, opened-legal, opened-own, sound-parts}
use Rattle.resume_model.proofs.Started.{AllStarted, advance-all_started}

-- No event has anybody begin before it is entered.
effect_begun : (courses : List Course) (m : Moment) (o : Option Piece) → (with_piece (λ p. happened m (event_of courses p)) m o).beginnings ≡ m.beginnings
effect_begun courses m None = refl
effect_begun courses m (Some p) = refl

entered_begun : (courses : List Course) (m : Moment) (k : Kept) → (entered courses m k).beginnings ≡ m.beginnings
entered_begun courses m (Start i) = refl
entered_begun courses m (Hand n i b w) = refl
entered_begun courses m (Effect n) = effect_begun courses (noted m (Effect n)) (piece_of (noted m (Effect n)).kept n)
entered_begun courses m (Refuse n) = refl
entered_begun courses m (Abort i) = refl
entered_begun courses m (Victim i) = refl
entered_begun courses m Restart = refl

-- No process begins to complete twice.
abbrev pub BegunOnce : Moment → Type 0
BegunOnce m = (i : ℕ) → count (λ (b : Beginning). eqb b.process i) m.beginnings ≤ 1

beginnings-once : IsKeptByBeginnings BegunOnce
beginnings-once cause m k never once i = by_process (eqb k i) refl
  where
    new : Beginning
    new = record { process = k; began = record { event = length m.kept; cause = cause } }

    by_process : (t : Bool) → eqb k i ≡ t → count (λ (b : Beginning). eqb b.process i) (m.beginnings ++ new ∷ []) ≤ 1
    by_process true is =
        let more = count-push (λ (b : Beginning). eqb b.process i) m.beginnings new in
        let none : list_any (λ (b : Beginning). eqb b.process i) m.beginnings ≡ false = sym (found-any (λ (b : Beginning). eqb b.process i) m.beginnings) ∙ (ap (has_begun m) (sym (eqb-true k i is)) ∙ never) in
        let zero' = count-none (λ (b : Beginning). eqb b.process i) m.beginnings none in
        let one : cond {A = ℕ} (eqb k i) 1 0 ≡ 1 = ap (λ t. cond t 1 0) is in
        omega arith
    by_process false is =
        let more = count-push (λ (b : Beginning). eqb b.process i) m.beginnings new in
        let old = once i in
        let none : cond {A = ℕ} (eqb k i) 1 0 ≡ 0 = ap (λ t. cond t 1 0) is in
        omega arith

advance-once : (table : ConflictRelation) (courses : List Course) (m : Moment) (k : Kept) → BegunOnce m → BegunOnce (advance table courses m k)
advance-once table courses m k once =
    advance-keeps BegunOnce beginnings-once table courses m k
    (λ i. subst (λ bs. count (λ (b : Beginning). eqb b.process i) bs ≤ 1) (sym (entered_begun courses m k)) (once i))

-- Each step that was refused before the opening had one try, and its process has started.
abbrev pub RefusalsBelong : List Course → Moment → Type 0
RefusalsBelong courses m = (r : RefusedStep) → Among r m.refused → (is_in r.process (starts m.events) ≡ true) × (can_be_refused (kind_of (shape courses r.process) r.step) ≡ true)

advance-belonging : (table : ConflictRelation) (courses : List Course) (m : Moment) (k : Kept) → RefusalsBelong courses m → RefusalsBelong courses (advance table courses m k)
advance-belonging table courses m k belong r among =
    let old = belong r (subst (Among r) (refused-stay table courses m k) among) in
    (starts-stay table courses m k r.process old.0, old.1)

module _ (table : ConflictRelation) (symmetric : IsSymmetric table) (plans : List Plan) (good : AreGood plans) where
  abbrev cs : List Course
  cs = courses_of plans

  -- all of it
  pub record Stands (m : Moment) : Type 0 where
    pub legal : LegalFacts table symmetric plans good m
    pub closed : ClosedFacts table symmetric plans good [] m
    pub within : Within table plans good m
    pub hands : HandsStand table plans good m
    pub pieces : PiecesStand table plans good m
    pub lost : OneLost m
    pub started : AllStarted table (courses_of plans) m
    pub once : BegunOnce m
    pub refusals : RefusalsBelong (courses_of plans) m

  pub advance-stands : (m : Moment) (k : Kept) → Stands m → may_be_kept table cs m k ≡ true → Stands (advance table cs m k)
  advance-stands m k facts may = record {
    legal = advance-legal table symmetric plans good m k facts.legal may;
    closed = advance-pending_closed table symmetric plans good [] m k facts.closed may;
    within = advance-within table plans good m k facts.within may;
    hands = advance-hands table plans good m k facts.hands may;
    pieces = advance-pieces table plans good m k facts.pieces may;
    lost = advance-lost table cs m k facts.lost may;
    started = advance-all_started table cs m k facts.started may;
    once = advance-once table cs m k facts.once;
    refusals = advance-belonging table cs m k facts.refusals;
  }

  module _ (o : Opening) (parts : SoundParts table (courses_of plans) o) where
    -- a beginning of this process that the opening has
    its_beginning : (i : ℕ) → list_any (λ (b : Beginning). eqb b.process i) (map beginning o.begun) ≡ true → (c : Begun) × (c.process ≡ i) × (is_beginning_of o c ≡ true)
    its_beginning i some =
        let b = among-any (λ (x : Beginning). eqb x.process i) (map beginning o.begun) some in
        let c = among-map beginning b.0 o.begun b.1 in
        (c.0, ap (λ (x : Beginning). x.process) c.2 ∙ eqb-true b.0.process i b.2, all-among (is_beginning_of o) o.begun parts.begun c.0 c.1)

    begun_started : (i : ℕ) → has_begun (opened o) i ≡ true → is_in i (starts o.history) ≡ true
    begun_started i is =
        let c = its_beginning i (sym (found-any (λ (b : Beginning). eqb b.process i) (map beginning o.begun)) ∙ is) in
        subst (λ j. is_in j (starts o.history) ≡ true) c.1 (and_parts (is_in c.0.process (starts o.history)) _ c.2).0

    begun_once : BegunOnce (opened o)
    begun_once i = by_any (list_any (λ (b : Beginning). eqb b.process i) (map beginning o.begun)) refl
      where
        by_any : (t : Bool) → list_any (λ (b : Beginning). eqb b.process i) (map beginning o.begun) ≡ t → count (λ (b : Beginning). eqb b.process i) (map beginning o.begun) ≤ 1
        by_any false none = let zero' = count-none (λ (b : Beginning). eqb b.process i) (map beginning o.begun) none in omega arith
        by_any true some =
            let c = its_beginning i some in
            let few = leb-true (length (filter (λ (d : Begun). eqb d.process c.0.process) o.begun)) 1 (and_parts (is_in c.0.process (starts o.history)) _ c.2).1 in
            let same = ap (λ j. length (filter (λ (d : Begun). eqb d.process j) o.begun)) c.1 in
            let all = count-filter (λ (d : Begun). eqb d.process i) o.begun in
            let mapped = count-map (λ (b : Beginning). eqb b.process i) beginning o.begun in
            omega arith

    -- at the moment of a sound opening
    pub opened-stands : Stands (opened o)
    opened-stands = record {
      legal = opened-legal table symmetric plans good o parts.legal parts.refused;
      closed = opened-closed table symmetric plans good o parts.legal parts.refused parts.closed;
      within = record { own = own; within = parts.within };
      hands = record {
        counts = record { own = own; no_end = λ i b. refl; stand = λ i open' b w some. absurd (omega arith) };
        within = record { tidy = own.order.tidy; left = tt; within = λ i b w t is. omega arith };
        account = λ i b w. inl (record { all = omega arith }, λ none. refl);
      };
      pieces = record { own = own; started = tt; belong = tt };
      lost = record { out = record { one = λ i. omega arith }; one = λ i. omega arith; none = λ i fresh. refl };
      started = record { pieces = tt; begun = begun_started };
      once = begun_once;
      refusals = λ r among. (and_parts (is_in r.process (starts o.history)) _
          (and_parts (is_in r.process (starts o.history) && can_be_refused (kind_of (shape cs r.process) r.step)) (is_ahead (progress cs (opened o) r.process))
          (all-among (is_refusal_of cs o) o.refused parts.refused r among)).0);
    }
      where
        own : InOwnOrder table plans good (opened o)
        own = opened-own table symmetric plans good o parts.legal parts.refused

-- so it does at each moment of a session
pub now-stands : (table : ConflictRelation) (plans : List Plan) (s : Resumed) (session : IsResumed table plans s) → Stands table session.symmetric plans session.good (now_of table s)
now-stands table plans s session =
    subst (λ xs. Stands table session.symmetric plans session.good (advance_all table xs (opened s.opening) s.kept)) (sym session.courses)
    (goes_on-keeps table (courses_of plans) (Stands table session.symmetric plans session.good) (advance-stands table session.symmetric plans session.good) (opened s.opening) s.kept
    (ap (λ xs. goes_on_from table xs (opened s.opening) s.kept) (sym session.courses) ∙ session.run)
    (opened-stands table session.symmetric plans session.good s.opening (sound-parts table (courses_of plans) s.opening (ap (λ xs. is_sound table xs s.opening) (sym session.courses) ∙ session.sound))))
