-- What stands at the moment of a sound opening.
use Rattle.std.proofs.Common.{◌≡◌, ℕ, ◌≤◌, Bool, true, false, not, eqb, ◌&&◌, ◌||◌, List, [], ◌++◌, map, filter, sym, refl, ap, subst, ◌∙◌, arith}
use Rattle.std.specs.Bool.{IsTrue}
use Rattle.std.specs.List.{list_all, list_any}
use Rattle.std.proofs.lemmas.Bool.{and_parts, eqb-true, false≢true, leb-true}
use Rattle.std.proofs.lemmas.Option.{none-some}
use Rattle.process_tree.specs.declared.entry.Entry.{Entry}
use Rattle.process_tree.specs.declared.plan.Plan.{Plan}
use Rattle.process_tree.specs.Shape.{can_be_refused, first_of, kind_of}
use Rattle.schedule_model.specs.declared.event.Event.{Event}
use Rattle.schedule_model.specs.Course.{Course, courses_of, shape}
use Rattle.schedule_model.specs.Conflict.{ConflictRelation, IsSymmetric, conflict}
use Rattle.schedule_model.specs.Histories.{active, done_steps, is_in, net, starts}
use Rattle.schedule_model.specs.Holdings.{behind}
use Rattle.schedule_model.specs.Laws.{AreGood}
use Rattle.schedule_model.specs.Legal.{is_legal}
use Rattle.schedule_model.specs.Limits.{is_within_limits}
use Rattle.schedule_model.proofs.Active.{is_active-is_in}
use Rattle.schedule_model.proofs.Members.{Among, all-among, among-any, among-is_in, any-among, filter-none}
use Rattle.machine_model.specs.Progress.{Progress, above}
use Rattle.machine_model.specs.Moment.{RefusedStep, opening_moment}
use Rattle.machine_model.specs.State.{is_pending, pending_of, progress}
use Rattle.machine_model.proofs.EndedFree.{EndedFacts, opening-ended_free}
use Rattle.machine_model.proofs.FixedFree.{FixedFacts, opening-fixed_free}
use Rattle.machine_model.proofs.FixingFree.{FixingFree}
use Rattle.machine_model.proofs.LegalRuns.{LegalFacts}
use Rattle.machine_model.proofs.NextInOrder.{OwedIsAhead}
use Rattle.machine_model.proofs.NoCircle.{BuildsOn, CircleFree, opening-circle_free}
use Rattle.machine_model.proofs.OwnOrder.{InOwnOrder, run-own_order}
use Rattle.machine_model.proofs.Paths.{Path, path_by}
use Rattle.machine_model.proofs.PendingClosed.{ClosedFacts}
use Rattle.machine_model.proofs.PendingFree.{PendingFree}
use Rattle.machine_model.proofs.ReservedFree.{ReservedFree, opening-reserved_free}
use Rattle.machine_model.proofs.RunningFree.{RunningFree}
use Rattle.resume_model.specs.Openings.{Opening, opened}
use Rattle.resume_model.specs.Sound.{is_ahead, is_at_most, is_beginning_of, is_closed, is_closed_behind, is_refusal_of, is_sound}

-- The parts of soundness.
pub record SoundParts (table : ConflictRelation) (courses : List Course) (o : Opening) : Type 0 where
  pub legal : IsTrue (is_legal table courses o.history)
  pub within : IsTrue (is_within_limits courses o.history)
  pub begun : list_all (is_beginning_of o) o.begun ≡ true
  pub refused : list_all (is_refusal_of courses o) o.refused ≡ true
  pub closed : is_closed table courses (opened o) ≡ true

pub sound-parts : (table : ConflictRelation) (courses : List Course) (o : Opening) → is_sound table courses o ≡ true → SoundParts table courses o
sound-parts table courses o sound =
    let legal = is_legal table courses o.history in
    let within = is_within_limits courses o.history in
    let begun = list_all (is_beginning_of o) o.begun in
    let refused = list_all (is_refusal_of courses o) o.refused in
    let four = and_parts (((legal && within) && begun) && refused) (is_closed table courses (opened o)) sound in
    let three = and_parts ((legal && within) && begun) refused four.0 in
    let two = and_parts (legal && within) begun three.0 in
    let one = and_parts legal within two.0 in
    record { legal = one.0; within = one.1; begun = two.1; refused = three.1; closed = four.1 }

-- what a process owes lies ahead
pub ahead_from : (s : Progress) → is_ahead s ≡ true → OwedIsAhead s
ahead_from s is b rest owes = leb-true s.onward b (ap (λ bs. is_at_most s.onward (first_of bs)) (sym owes) ∙ is)

-- what stands by the history and the refused steps alone
module _ (table : ConflictRelation) (symmetric : IsSymmetric table) (plans : List Plan) (good : AreGood plans) (o : Opening) (legal : IsTrue (is_legal table (courses_of plans) o.history))
    (refused : list_all (is_refusal_of (courses_of plans) o) o.refused ≡ true) where
  abbrev cs : List Course
  cs = courses_of plans

  abbrev h : List Event
  h = o.history

  pub at_history : InOwnOrder table plans good (opening_moment o.history)
  at_history = run-own_order table plans good (record { opening = o.history; courses = courses_of plans; kept = []; served = 0 }) refl legal refl

  -- by the history alone, where no step of the process was refused
  unrefused_ahead : (i : ℕ) → list_any (λ (r : RefusedStep). eqb r.process i) o.refused ≡ false → OwedIsAhead (progress cs (opened o) i)
  unrefused_ahead i none b rest owes =
      let nothing : filter (λ (r : RefusedStep). eqb r.process i) o.refused ≡ [] = filter-none (λ (r : RefusedStep). eqb r.process i) o.refused (λ r among. fails r among (eqb r.process i) refl) in
      subst (λ rs. above (done_steps o.history i ++ (map (λ (r : RefusedStep). r.step) rs ++ [])) ≤ b) (sym nothing) (at_history.ahead i b rest owes)
    where
      fails : (r : RefusedStep) → Among r o.refused → (t : Bool) → eqb r.process i ≡ t → eqb r.process i ≡ false
      fails r among false is = is
      fails r among true is = absurd (false≢true (sym none ∙ any-among (λ (q : RefusedStep). eqb q.process i) r o.refused among is))

  ahead : (i : ℕ) → OwedIsAhead (progress cs (opened o) i)
  ahead i = by_refused (list_any (λ (r : RefusedStep). eqb r.process i) o.refused) refl
    where
      by_refused : (t : Bool) → list_any (λ (r : RefusedStep). eqb r.process i) o.refused ≡ t → OwedIsAhead (progress cs (opened o) i)
      by_refused true some =
          let r = among-any (λ (r : RefusedStep). eqb r.process i) o.refused some in
          let well = all-among (is_refusal_of cs o) o.refused refused r.0 r.1 in
          let is = (and_parts (is_in r.0.process (starts o.history) && can_be_refused (kind_of (shape cs r.0.process) r.0.step)) (is_ahead (progress cs (opened o) r.0.process)) well).1 in
          subst (λ j. OwedIsAhead (progress cs (opened o) j)) (eqb-true r.0.process i r.2) (ahead_from (progress cs (opened o) r.0.process) is)
      by_refused false none = unrefused_ahead i none

  pub opened-own : InOwnOrder table plans good (opened o)
  opened-own = record {
    order = record {
      tidy = record { counted = record { parted = λ n. refl; once = λ n. omega arith; fresh = λ n late. refl }; one = record { one = λ i. omega arith }; linked = tt };
      next = tt;
    };
    active = tt;
    legal = at_history.legal;
    ahead = ahead;
  }

  opened-reserved : ReservedFree table symmetric plans good (opened o)
  opened-reserved = record { own = opened-own; free = (opening-reserved_free table symmetric plans good h legal at_history).free }

  opened-running : RunningFree table symmetric plans good (opened o)
  opened-running = record { own = opened-own; free = λ i k d e a b. absurd (none-some a.0 a.1) }

  opened-fixing : FixingFree table symmetric plans good (opened o)
  opened-fixing = record { running = opened-running; fixing = λ i k x e f other there at. absurd (none-some f.0 f.1) }

  opened-pending : PendingFree table symmetric plans good (opened o)
  opened-pending = record { reserved = opened-reserved; free = λ i j x e goes pend runs. absurd (none-some runs.0 runs.1) }

  opened-circle : CircleFree table symmetric plans good (opened o)
  opened-circle = record {
    reserved = opened-reserved;
    running = opened-running;
    none = λ i w. (opening-circle_free table symmetric plans good h legal at_history).none i (at_opening i i w);
  }
    where
      same_arrow : (a c : ℕ) → BuildsOn table cs (opened o) a c → BuildsOn table cs (opening_moment h) a c
      same_arrow a c b = record { x = b.x; y = b.y; x_stands = b.x_stands; x_active = b.x_active; from = b.from; to = b.to; conflicts = b.conflicts; y_stands = b.y_stands }

      at_opening : (i k : ℕ) → Path (BuildsOn table cs (opened o)) i k → Path (BuildsOn table cs (opening_moment h)) i k
      at_opening i k w = path_by (BuildsOn table cs (opened o)) (BuildsOn table cs (opening_moment h)) same_arrow i k w

  pub opened-fixed : FixedFacts table symmetric plans good (opened o)
  opened-fixed = record { reserved = opened-reserved; fixing = opened-fixing; free = (opening-fixed_free table symmetric plans good h legal at_history).free }

  pub opened-ended : EndedFacts table symmetric plans good (opened o)
  opened-ended = record { fixing = opened-fixing; free = (opening-ended_free table symmetric plans good h legal at_history).free }

  pub opened-legal : LegalFacts table symmetric plans good (opened o)
  opened-legal = record {
    circle = opened-circle;
    fixing = opened-fixing;
    undone = record { pending = opened-pending; free = λ i p e runs work back. absurd (none-some p runs) };
    legal = legal;
  }

  -- and with closed cascades
  pub opened-closed : is_closed table cs (opened o) ≡ true → ClosedFacts table symmetric plans good [] (opened o)
  opened-closed closed = record {
    pending = opened-pending;
    fixed = opened-fixed;
    ended = opened-ended;
    circle = opened-circle;
    closed = λ rested x e goes pend back conflicts.
        let one = all-among (λ i. list_all (is_closed_behind table cs (opened o)) (pending_of cs (opened o) i)) (active h) closed x.process (among-is_in x.process (active h) (is_active-is_in h x.process ∙ goes)) in
        let two = all-among (is_closed_behind table cs (opened o)) (pending_of cs (opened o) x.process) one x pend in
        let three = all-among (λ (y : Entry). not (conflict table x y) || is_pending cs (opened o) y) (behind x (net h)) two e back in
        sym (ap (λ t. not t || is_pending cs (opened o) e) conflicts) ∙ three;
  }
