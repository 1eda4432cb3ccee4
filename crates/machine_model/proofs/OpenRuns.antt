-- In a session what the open processes hold is enough, and an end drops what its process holds from it.
use Rattle.std.proofs.Common.{◌≡◌, ℕ, Bool, true, false, not, cond, eqb, ◌&&◌, List, [], ◌∷◌, filter, map, Some, sym, refl, ap, subst, ◌∙◌}
use Rattle.std.proofs.lemmas.Bool.{and_from, eq-eqb, ne_eqb, eqb-false, not-true}
use Rattle.std.proofs.lemmas.Option.{same_Some}
use Rattle.process_tree.specs.declared.entry.Entry.{Entry}
use Rattle.process_tree.specs.declared.plan.Plan.{Plan}
use Rattle.schedule_model.specs.Course.{Course, courses_of}
use Rattle.schedule_model.specs.Conflict.{ConflictRelation, no_conflict}
use Rattle.schedule_model.specs.Histories.{active, doing, ends, is_active, is_in, net, net_of, starts}
use Rattle.schedule_model.specs.Holdings.{Hold, active_net, behind}
use Rattle.schedule_model.proofs.Active.{is_in-filter}
use Rattle.schedule_model.proofs.Behind.{among_behind}
use Rattle.schedule_model.proofs.Members.{Among, among-from_contains}
use Rattle.schedule_model.proofs.Orders.{behind-same_step}
use Rattle.schedule_model.proofs.Snoc.{filter_same, filter_twice}
use Rattle.schedule_model.proofs.Started.{among_net_of, net-started}
use Rattle.machine_model.specs.declared.kept.Kept.TheVariants.{Effect}
use Rattle.machine_model.specs.declared.kept.Work.TheVariants.{Undo, End}
use Rattle.machine_model.specs.Progress.{Task, same_task, same_work, staying}
use Rattle.machine_model.specs.Moment.{Moment, Piece}
use Rattle.machine_model.specs.State.{against_task, against_work, hold_of, holdings, next_of, progress}
use Rattle.machine_model.specs.Advance.{Machine, advance}
use Rattle.machine_model.specs.Runs.{now}
use Rattle.machine_model.specs.HoldLaws.{net_by_piece}
use Rattle.machine_model.specs.Pieces.{piece_of}
use Rattle.machine_model.specs.Laws.{IsEndedFree, IsSession, open_only}
use Rattle.machine_model.specs.OpenLaws.{EndsDropHoldings, OpenHoldingsAreEnough, without_process}
use Rattle.machine_model.proofs.EndedFree.{session-ended_free}
use Rattle.machine_model.proofs.HoldChanges.{ends_go}
use Rattle.machine_model.proofs.HoldSteps.{entered-begun, net_goes_by_pieces}
use Rattle.machine_model.proofs.OpenCascade.{open_holdings_drag_alike}
use Rattle.machine_model.proofs.OpenHoldings.{holders-active, open_holdings_block_alike}
use Rattle.machine_model.proofs.OthersStay.{others_stay}
use Rattle.machine_model.proofs.PendingFree.{in_whole}
use Rattle.machine_model.proofs.UndoneFree.{undone_conflicts, undone_next}

-- who started and isn't active has ended
has_ended : (a b : Bool) → a ≡ true → (a && not b) ≡ false → b ≡ true
has_ended true true started over = refl
has_ended true false started over = sym over
has_ended false b started over = absurd (cc)

same_next : (t : Task) → t.work ≡ Undo → same_task (record { work = Undo; step = t.step }) t ≡ true
same_next t is = and_from (same_work Undo t.work) (eqb t.step t.step) (ap (same_work Undo) is) (eq-eqb t.step t.step refl)

-- no ended process stands behind the undo that comes next
undo-ended_free : (table : ConflictRelation) (plans : List Plan) (s : Machine) (session : IsSession table plans s) (i : ℕ) → is_active (now table s).events i ≡ true
    → (next_of (courses_of plans) (now table s) i).work ≡ Undo → IsEndedFree table (now table s) (doing (courses_of plans) i (next_of (courses_of plans) (now table s) i).step)
undo-ended_free table plans s session i active' work e back over =
    let m = now table s in
    let b = (next_of (courses_of plans) m i).step in
    let facts = session-ended_free table plans s session in
    let own = facts.fixing.running.own in
    let u = undone_next table session.symmetric plans session.good m i b own (same_next (next_of (courses_of plans) m i) work) in
    let x = u.entry in
    let same = and_from (eqb i x.process) (eqb b x.step) (eq-eqb i x.process (sym u.process)) (eq-eqb b x.step (sym u.step)) in
    let behind_x = subst (Among e) (behind-same_step (net m.events) (doing (courses_of plans) i b) x same) (among-from_contains e (behind (doing (courses_of plans) i b) (net m.events)) back) in
    let started = net-started no_conflict (courses_of plans) m.events own.legal e (among_behind x e (net m.events) behind_x) in
    undone_conflicts table session.symmetric plans session.good m i b u e
    ∙ facts.free x e (ap (is_active m.events) u.process ∙ active') (has_ended (is_in e.process (starts m.events)) (is_in e.process (ends m.events)) started over)
    (among_net_of m.events i x (in_whole x (staying (progress (courses_of plans) m i)) (net_of m.events i) u.pending)).0 behind_x

pub open_holdings_are_enough : OpenHoldingsAreEnough
open_holdings_are_enough table plans s i session active' =
    let m = now table s in (
      subst (λ (cs : List Course). against_work table cs (open_only (holdings cs m)) m.events i (next_of cs m i).step (next_of cs m i).work ≡ against_task table cs m i (next_of cs m i)) (sym session.courses)
          (open_holdings_block_alike table (courses_of plans) m i active' (undo-ended_free table plans s session i active')),
      open_holdings_drag_alike table s.courses m i active',
    )

-- a filtered list of what is made of numbers is made of the filtered numbers
made_of : (p : ℕ → Bool) (f g : ℕ → Hold) → ((i : ℕ) → (f i).process ≡ i) → (is : List ℕ) → ((i : ℕ) → p i ≡ true → g i ≡ f i) → map g (filter p is) ≡ filter (λ (o : Hold). p o.process) (map f is)
made_of p f g numbers [] same = refl
made_of p f g numbers (i ∷ is) same = by (p i) refl (made_of p f g numbers is same)
  where
    by : (t : Bool) → p i ≡ t → map g (filter p is) ≡ filter (λ (o : Hold). p o.process) (map f is) → map g (filter p (i ∷ is)) ≡ filter (λ (o : Hold). p o.process) (f i ∷ map f is)
    by true at rest =
        ap (λ t. map g (cond t (i ∷ filter p is) (filter p is))) at ∙ (ap (λ h. h ∷ map g (filter p is)) (same i at) ∙ (ap (f i ∷◌) rest
        ∙ sym (ap (λ t. cond t (f i ∷ filter (λ (o : Hold). p o.process) (map f is)) (filter (λ (o : Hold). p o.process) (map f is))) (ap p (numbers i) ∙ at))))
    by false at rest =
        ap (λ t. map g (cond t (i ∷ filter p is) (filter p is))) at ∙ (rest
        ∙ sym (ap (λ t. cond t (f i ∷ filter (λ (o : Hold). p o.process) (map f is)) (filter (λ (o : Hold). p o.process) (map f is))) (ap p (numbers i) ∙ at)))

pub ends_drop_holdings : EndsDropHoldings
ends_drop_holdings table s n number i b run may found = both
  where
    m : Moment
    m = now table s

    after : Moment
    after = advance table s.courses (now table s) (Effect n)

    stays : ℕ → Bool
    stays k = not (eqb k i)

    active_after : active after.events ≡ filter stays (active m.events)
    active_after = ends_go table s n number i b found

    net_after : net after.events ≡ net m.events
    net_after = net_goes_by_pieces table s (Effect n) ∙ ap (net_by_piece s.courses (Effect n) (net m.events)) found

    hold_after : (k : ℕ) → stays k ≡ true → hold_of s.courses after k ≡ hold_of s.courses m k
    hold_after k other =
        let away = λ (q : Piece) (is : piece_of s.kept n ≡ Some q).
        ap (λ (r : Piece). eqb r.process k) (same_Some q (record { number = number; process = i; step = b; work = End }) (sym is ∙ found))
        ∙ ne_eqb i k (λ same. eqb-false k i (not-true (eqb k i) other) (sym same)) in
        (others_stay table s (Effect n) k run may away (entered-begun table s.courses m (Effect n) k)).2

    holds : map (hold_of s.courses after) (active after.events) ≡ filter (λ (o : Hold). stays o.process) (map (hold_of s.courses m) (active m.events))
    holds = ap (map (hold_of s.courses after)) active_after ∙ made_of stays (hold_of s.courses m) (hold_of s.courses after) (λ k. refl) (active m.events) hold_after

    open_net : active_net (holdings s.courses after) ≡ filter (λ (e : Entry). stays e.process) (active_net (holdings s.courses m))
    open_net =
        ap (λ is. filter (λ (e : Entry). is_in e.process is) (net after.events)) (holders-active s.courses after ∙ active_after)
        ∙ ap (filter (λ (e : Entry). is_in e.process (filter stays (active m.events)))) net_after
        ∙ filter_same (λ (e : Entry). is_in e.process (filter stays (active m.events))) (λ (e : Entry). is_in e.process (active m.events) && stays e.process) (net m.events) (λ e. is_in-filter stays e.process (active m.events))
        ∙ sym (filter_twice (λ (e : Entry). is_in e.process (active m.events)) (λ (e : Entry). stays e.process) (net m.events))
        ∙ ap (λ is. filter (λ (e : Entry). stays e.process) (filter (λ (e : Entry). is_in e.process is) (net m.events))) (sym (holders-active s.courses m))

    both : open_only (holdings s.courses after) ≡ without_process i (open_only (holdings s.courses m))
    both =
        ap (λ (es : List Entry). record { net = es; holds = map (hold_of s.courses after) (active after.events) }) open_net
        ∙ ap (λ (os : List Hold). record { net = filter (λ (e : Entry). stays e.process) (active_net (holdings s.courses m)); holds = os }) holds
