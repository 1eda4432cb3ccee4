-- The least of all that stands against a piece, put together of its parts.
use Rattle.std.proofs.Common.{◌≡◌, ℕ, if◌then◌else◌, List, [], ◌∷◌, ◌++◌, map, flat_map, Option, None, sym, ap, ◌∙◌}
use Rattle.std.specs.Prelude.{nat_eq}
use Rattle.std.specs.Option.{option_to_list}
use Rattle.process_tree.specs.declared.entry.Entry.{Entry}
use Rattle.process_tree.specs.declared.plan.Plan.{Plan}
use Rattle.process_tree.specs.Conflicts.{do_conflict}
use Rattle.process_tree.specs.Entries.{entry_of}
use Rattle.process_tree.specs.Recovery.{committing, reserved, undoable}
use Rattle.schedule_model.specs.Blocking.{Clash, Clashes, against, against_end, against_step, in_a_circle, in_front, with_active, with_owed, with_reserved, with_running}
use Rattle.schedule_model.specs.Holdings.{Hold, active_net, all_pending, all_reserved, all_running, behind}
use Rattle.machine_model.specs.declared.blocked.Blocked.{Blocked}
use Rattle.machine_model.specs.declared.blocked.Rule.{Rule}
use Rattle.machine_model.specs.declared.blocked.Rule.TheVariants.{A0, A1, A2, A3, A4, A5}
use Rattle.machine_model.specs.Blocks.{blocks_of, by_rule, least_block}
use Rattle.hold_tables.specs.Kept.{AreTidy}
use Rattle.hold_tables.specs.Tables.{OpenProcess, Tables, hold_in, holdings_of, reserved_of, running_of}
use Rattle.hold_tables.proofs.Reaching.{active_net-is}
use Rattle.hold_tables.proofs.Standing.{net_apart}
use Rattle.admission.specs.Admission.{owed_behind, steps_owed_after}
use Rattle.admission.specs.Least.{least_on, least_over, lesser_of}
use Rattle.admission.specs.Parts.{least_against_owed, least_against_steps, least_fronts, least_of_all, pending_of}
use Rattle.admission.specs.declared.processes.Sought.TheVariants.{Next, Owed}
use Rattle.admission.proofs.Fronts.{fronts-are}
use Rattle.admission.proofs.Order.{least-append, thrice, with_none}
use Rattle.admission.proofs.Over.{on-append, on-flat, over-both, over-map, over-same, rule-append, rule-flat}

-- the least by one rule
abbrev pub least_by : Rule → List Clash → Option Blocked
least_by r clashes = least_block (by_rule r clashes)

-- rule by rule
pub by_rules : (c : Clashes) → least_block (blocks_of c)
    ≡ lesser_of (lesser_of (lesser_of (lesser_of (lesser_of (least_by A0 c.a0) (least_by A1 c.a1)) (least_by A2 c.a2)) (least_by A3 c.a3)) (least_by A4 c.a4)) (least_by A5 c.a5)
by_rules c =
    least-append (by_rule A0 c.a0 ++ by_rule A1 c.a1 ++ by_rule A2 c.a2 ++ by_rule A3 c.a3 ++ by_rule A4 c.a4) (by_rule A5 c.a5)
    ∙ ap (λ o. lesser_of o (least_by A5 c.a5)) (least-append (by_rule A0 c.a0 ++ by_rule A1 c.a1 ++ by_rule A2 c.a2 ++ by_rule A3 c.a3) (by_rule A4 c.a4)
    ∙ ap (λ o. lesser_of o (least_by A4 c.a4)) (least-append (by_rule A0 c.a0 ++ by_rule A1 c.a1 ++ by_rule A2 c.a2) (by_rule A3 c.a3)
    ∙ ap (λ o. lesser_of o (least_by A3 c.a3)) (least-append (by_rule A0 c.a0 ++ by_rule A1 c.a1) (by_rule A2 c.a2)
    ∙ ap (λ o. lesser_of o (least_by A2 c.a2)) (least-append (by_rule A0 c.a0) (by_rule A1 c.a1)))))

module _ (t : Tables) where
  -- of what each process has, process by process
  by_process : (r : Rule) (b : Entry) (h : Hold → List Entry) → least_on (do_conflict t.conflicts) r b (flat_map h (holdings_of t).holds)
      ≡ least_over (λ p. least_on (do_conflict t.conflicts) r b (h (hold_in t.net p))) t.processes
  by_process r b h = on-flat (do_conflict t.conflicts) r b h (map (hold_in t.net) t.processes)
      ∙ over-map (λ o. least_on (do_conflict t.conflicts) r b (h o)) (hold_in t.net) t.processes

  -- what the processes have against the next step beside the net
  pub held-is : (b : Entry) → lesser_of (least_by A0 (with_running (do_conflict t.conflicts) (holdings_of t) b)) (least_by A1 (with_reserved (do_conflict t.conflicts) (holdings_of t) b)) ≡ least_of_all t Next b
  held-is b =
      let c = do_conflict t.conflicts in
      let g = holdings_of t in
      let first : OpenProcess → Option Blocked = λ p. least_on c A0 b (running_of p) in
      let second : OpenProcess → Option Blocked = λ p. least_on c A1 b (reserved_of p) in
      let third : OpenProcess → Option Blocked = λ p. least_on c A1 b (pending_of t.net p) in
      ap (λ o. lesser_of o (least_by A1 (with_reserved c g b))) (by_process A0 b (λ o. option_to_list o.running))
      ∙ ap (lesser_of (least_over first t.processes)) (on-append c A1 b (all_reserved g) (all_pending g)
      ∙ ap (λ o. lesser_of o (least_on c A1 b (all_pending g))) (by_process A1 b (λ o. o.reserved))
      ∙ ap (lesser_of (least_over second t.processes)) (by_process A1 b (λ o. o.pending))
      ∙ over-both second third t.processes)
      ∙ over-both first (λ p. lesser_of (second p) (third p)) t.processes

  -- what they have against a step that would be owed
  held_owed : (s : Entry) → lesser_of (least_on (do_conflict t.conflicts) A4 s (all_running (holdings_of t))) (least_on (do_conflict t.conflicts) A4 s (all_reserved (holdings_of t))) ≡ least_of_all t Owed s
  held_owed s =
      let c = do_conflict t.conflicts in
      let first : OpenProcess → Option Blocked = λ p. least_on c A4 s (running_of p) in
      let second : OpenProcess → Option Blocked = λ p. least_on c A4 s (reserved_of p) in
      ap (λ o. lesser_of o (least_on c A4 s (all_reserved (holdings_of t)))) (by_process A4 s (λ o. option_to_list o.running))
      ∙ ap (lesser_of (least_over first t.processes)) (by_process A4 s (λ o. o.reserved))
      ∙ over-both first second t.processes

  module _ (tidy : AreTidy t) where
    -- the net is of the active processes
    net-is : active_net (holdings_of t) ≡ t.net
    net-is = active_net-is t tidy.of_open

    owed-is : (s : Entry) → least_on (do_conflict t.conflicts) A4 s (active_net (holdings_of t) ++ all_running (holdings_of t) ++ all_reserved (holdings_of t)) ≡ least_against_owed t s
    owed-is s =
        let c = do_conflict t.conflicts in
        let g = holdings_of t in
        on-append c A4 s (active_net g ++ all_running g) (all_reserved g)
        ∙ ap (λ o. lesser_of o (least_on c A4 s (all_reserved g))) (on-append c A4 s (active_net g) (all_running g))
        ∙ thrice (least_on c A4 s (active_net g)) (least_on c A4 s (all_running g)) (least_on c A4 s (all_reserved g))
        ∙ ap (λ es. lesser_of (least_on c A4 s es) (lesser_of (least_on c A4 s (all_running g)) (least_on c A4 s (all_reserved g)))) net-is
        ∙ ap (lesser_of (least_on c A4 s t.net)) (held_owed s)

    -- against the steps that would be owed
    pub all_owed-is : (plan : Plan) (i b : ℕ) → least_by A4 (with_owed (do_conflict t.conflicts) (holdings_of t) (owed_behind plan i b)) ≡ least_against_steps t plan i (steps_owed_after plan b)
    all_owed-is plan i b =
        let c = do_conflict t.conflicts in
        let g = holdings_of t in
        rule-flat A4 (λ s. against c s (active_net g ++ all_running g ++ all_reserved g)) (owed_behind plan i b)
        ∙ over-same (λ s. least_on c A4 s (active_net g ++ all_running g ++ all_reserved g)) (least_against_owed t) (owed_behind plan i b) owed-is
        ∙ over-map (least_against_owed t) (entry_of plan i) (steps_owed_after plan b)

    -- what stands in front of the entries of a process
    pub front-is : (i : ℕ) → least_by A3 (in_front (do_conflict t.conflicts) (holdings_of t) i) ≡ least_fronts (do_conflict t.conflicts) i [] t.net
    front-is i =
        let c = do_conflict t.conflicts in
        ap (λ es. least_by A3 (flat_map (λ x. flat_map (λ y. if nat_eq y.process i then against c y (x ∷ []) else []) (behind x es)) es)) net-is
        ∙ sym (fronts-are c i t.net (net_apart t tidy))

    -- against a step that fixes what its process has done
    pub active-is : (b : Entry) → least_by A3 (with_active (do_conflict t.conflicts) (holdings_of t) b) ≡ lesser_of (least_on (do_conflict t.conflicts) A3 b t.net) (least_fronts (do_conflict t.conflicts) b.process [] t.net)
    active-is b =
        let c = do_conflict t.conflicts in
        let g = holdings_of t in
        rule-append A3 (against c b (active_net g)) (in_front c g b.process)
        ∙ ap (λ es. lesser_of (least_on c A3 b es) (least_by A3 (in_front c g b.process))) net-is
        ∙ ap (lesser_of (least_on c A3 b t.net)) (front-is b.process)

    -- against a reserved step
    pub reserved-is : (b : Entry) (owed : List Entry) → least_block (blocks_of (against_step (do_conflict t.conflicts) (holdings_of t) reserved b owed)) ≡ least_of_all t Next b
    reserved-is b owed = by_rules (against_step (do_conflict t.conflicts) (holdings_of t) reserved b owed) ∙ with_none _ ∙ with_none _ ∙ with_none _ ∙ with_none _ ∙ held-is b

    -- against one that can be undone
    pub undoable-is : (b : Entry) (owed : List Entry) → least_block (blocks_of (against_step (do_conflict t.conflicts) (holdings_of t) undoable b owed))
        ≡ lesser_of (least_of_all t Next b) (least_by A2 (in_a_circle (do_conflict t.conflicts) (holdings_of t) b))
    undoable-is b owed =
        by_rules (against_step (do_conflict t.conflicts) (holdings_of t) undoable b owed) ∙ with_none _ ∙ with_none _ ∙ with_none _
        ∙ ap (λ o. lesser_of o (least_by A2 (in_a_circle (do_conflict t.conflicts) (holdings_of t) b))) (held-is b)

    -- against one that fixes what its process has done
    pub committing-is : (b : Entry) (owed : List Entry) → least_block (blocks_of (against_step (do_conflict t.conflicts) (holdings_of t) committing b owed))
        ≡ lesser_of (least_of_all t Next b) (least_block (by_rule A3 (with_active (do_conflict t.conflicts) (holdings_of t) b) ++ by_rule A4 (with_owed (do_conflict t.conflicts) (holdings_of t) owed)))
    committing-is b owed =
        let c = do_conflict t.conflicts in
        let g = holdings_of t in
        let held = lesser_of (least_by A0 (with_running c g b)) (least_by A1 (with_reserved c g b)) in
        let a3 = least_by A3 (with_active c g b) in
        let a4 = least_by A4 (with_owed c g owed) in
        by_rules (against_step c g committing b owed) ∙ with_none (lesser_of (lesser_of (lesser_of held None) a3) a4)
        ∙ ap (λ o. lesser_of (lesser_of o a3) a4) (with_none held)
        ∙ thrice held a3 a4
        ∙ ap (λ o. lesser_of o (lesser_of a3 a4)) (held-is b)
        ∙ ap (lesser_of (least_of_all t Next b)) (sym (least-append (by_rule A3 (with_active c g b)) (by_rule A4 (with_owed c g owed))))

    -- against an end
    pub end-is : (i : ℕ) → least_block (blocks_of (against_end (do_conflict t.conflicts) (holdings_of t) i)) ≡ least_fronts (do_conflict t.conflicts) i [] t.net
    end-is i = by_rules (against_end (do_conflict t.conflicts) (holdings_of t) i) ∙ with_none _ ∙ with_none _ ∙ front-is i
