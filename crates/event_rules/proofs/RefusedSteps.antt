-- What is known of a step that is refused after a legal history.
use Rattle.std.proofs.Common.{◌≡◌, ⊎_elim, ℕ, ◌-◌, ◌<◌, ◌≤◌, true, false, ltb, ◌&&◌, if◌then◌else◌, List, length, filter, get_or, None, sym, ap, ◌∙◌, subst, arith}
use Rattle.std.specs.Bool.{IsTrue}
use Rattle.std.specs.List.{Contains, flat_map, list_all}
use Rattle.std.proofs.lemmas.Bool.{and_parts, lt-ltb, ltb-true}
use Rattle.std.proofs.lemmas.List.Elements.{All-contains}
use Rattle.process_tree.specs.declared.entry.Entry.{Entry}
use Rattle.process_tree.specs.declared.plan.Plan.{Plan}
use Rattle.process_tree.specs.Blocks.{outline}
use Rattle.process_tree.specs.Conflicts.{Access, Table, do_conflict, operations_in, same_access}
use Rattle.process_tree.specs.Entries.{access_of}
use Rattle.process_tree.specs.Making.{tree_fault}
use Rattle.process_tree.specs.Shape.{goes_on_to, shape_of}
use Rattle.process_tree.proofs.Entries.{same_access-true}
use Rattle.process_tree.proofs.InTurn.{step_within}
use Rattle.schedule_model.specs.declared.event.Event.{Event}
use Rattle.schedule_model.specs.declared.event.Event.TheVariants.{Act}
use Rattle.schedule_model.specs.Conflict.{no_conflict}
use Rattle.schedule_model.specs.Course.{Course, access_at, courses_of, op_of, shape}
use Rattle.schedule_model.specs.Histories.{active, acts, doing, done_steps, is_active, is_in, net, net_steps, starts}
use Rattle.schedule_model.specs.Legal.{is_legal}
use Rattle.schedule_model.specs.OwnOrder.{goes_on, is_of_last}
use Rattle.schedule_model.specs.Recovery.{backward_entries, owed, owed_steps}
use Rattle.schedule_model.proofs.Active.{is_active-is_in}
use Rattle.schedule_model.proofs.Entries.{HasPlansAccess, All-net_acts, acts-of_plans}
use Rattle.schedule_model.proofs.Members.{Among, among-filter, among-flat_map, among-map, contains-from_among, is_in-among}
use Rattle.schedule_model.proofs.NetPaths.{net-branch}
use Rattle.schedule_model.proofs.NoConflict.{legal-from_own_order, own_order-legal}
use Rattle.schedule_rules.specs.Applying.{AreKnown}
use Rattle.schedule_rules.specs.Recovering.{StandsOnBranch, StandsOnBranches}
use Rattle.schedule_rules.proofs.Branches.{course_there}
use Rattle.schedule_rules.proofs.Completing.{started-numbered}
use Rattle.schedule_rules.proofs.ListTests.{each_from}
use Rattle.schedule_rules.proofs.Known.{all_or}
use Rattle.schedule_model.proofs.GoodPlans.{plan_or_none}
use Rattle.history_judging.proofs.KnownSteps.{step_known}
use Rattle.event_rules.specs.Refusing.{IsRefused}

module _ (table : Table) (plans : List Plan) (h : List Event) (e : Entry) (is_step : e.undo ≡ false) (refused : IsRefused table plans h (Act e)) where
  abbrev cs : List Course
  cs = courses_of plans

  abbrev n : ℕ
  n = operations_in table

  abbrev i : ℕ
  i = e.process

  legal' : IsTrue (is_legal no_conflict cs h)
  legal' = legal-from_own_order cs h (own_order-legal cs (do_conflict table) h refused.legal)

  own_parts : IsTrue (is_active h i && same_access (access_of e) (access_at cs i e.step)) × IsTrue (goes_on cs h i e.step)
  own_parts =
      let parts = and_parts (is_active h i && same_access (access_of e) (access_at cs i e.step)) _ refused.order in
      (parts.0, sym (ap (λ u. if u then is_of_last (backward_entries cs h i) e else goes_on cs h i e.step) is_step) ∙ parts.1)

  goes : IsTrue (is_active h i)
  goes = (and_parts (is_active h i) (same_access (access_of e) (access_at cs i e.step)) own_parts.0).0

  access : access_of e ≡ access_at cs i e.step
  access = same_access-true (access_of e) (access_at cs i e.step) (and_parts (is_active h i) (same_access (access_of e) (access_at cs i e.step)) own_parts.0).1

  on : goes_on_to (shape cs i) (net_steps h i) e.step ≡ true
  on = (and_parts (goes_on_to (shape cs i) (net_steps h i) e.step) (list_all (λ d. ltb d e.step) (done_steps h i)) own_parts.1).0

  -- its operation is known
  pub op-known : e.op < n
  op-known = step_known plans n refused.planned.known refused.planned.good i (net_steps h i) e.op e.step (ap (λ (a : Access). a.op) access) on

  some : 0 < n
  some = omega (arith, op-known)

  -- each active process has a plan, and what stands of it goes along a whole path
  stands : (k : ℕ) → IsTrue (is_active h k) → StandsOnBranch plans (net h) k
  stands k is =
      let numbers = started-numbered cs h legal' k (and_parts (is_in k (starts h)) _ is).0 in
      let enough = refused.enough in
      let most = numbers.1 in
      (numbers.0, omega (arith, enough, most), net-branch cs k h legal')

  pub numbers : (0 < i) × (i ≤ length plans)
  numbers = let there = stands i goes in (there.0, there.1)

  pub branches : StandsOnBranches plans (net h) (active h)
  branches = each_from (StandsOnBranch plans (net h)) (active h) (λ k there. stands k (sym (is_active-is_in h k) ∙ is_in-among k (active h) there))

  -- it is a step of its plan
  module _ (p : Plan) (at : p ≡ get_or plans (i - 1) p) where
    pub shape-is : shape cs i ≡ shape_of p.tree
    shape-is = let there = numbers in ap (λ (c : Course). c.shape) (course_there plans (i - 1) p (omega (arith, there.0, there.1)) at)

    pub plan-there : Contains plans p
    plan-there = let there = numbers in (i - 1, omega (arith, there.0, there.1), sym at)

    pub step-there : tree_fault p.tree ≡ None → e.step < length (outline p.tree).steps
    step-there good = step_within p.tree (net_steps h i) e.step good (ap (λ t. goes_on_to t (net_steps h i) e.step) (sym shape-is) ∙ on)

  -- all that is read in a course is known
  read-known : (k b : ℕ) → op_of cs k b < n
  read-known k b =
      ⊎_elim
      (λ none. subst (λ (c : Course). get_or c.ops b 0 < n) (sym none) some)
      (λ found. subst (λ (c : Course). get_or c.ops b 0 < n) (sym found.2) (ltb-true (get_or found.0.ops b 0) n (all_or (λ a. ltb a n) found.0.ops b 0 (refused.planned.known found.0 found.1) (lt-ltb 0 n some))))
      (plan_or_none plans k)

  -- what stands has known operations,
  act-known : (x : Entry) → Among x (net h) → x.op < n
  act-known x is =
      let all = All-net_acts (HasPlansAccess cs) (acts h) (acts-of_plans no_conflict cs h legal') in
      let same = All-contains (HasPlansAccess cs) (net h) x all (contains-from_among x (net h) is) in
      subst (λ a. a < n) (sym (ap (λ (a : Access). a.op) same)) (read-known x.process x.step)

  pub net-known : AreKnown table (filter (λ x. is_active h x.process) (net h))
  net-known =
      each_from (λ (x : Entry). x.op < n) (filter (λ x. is_active h x.process) (net h))
      (λ x there. act-known x (among-filter (λ (x : Entry). is_active h x.process) x (net h) there).0)

  -- and so has what is owed
  pub owed-known : AreKnown table (flat_map (owed cs h) (active h))
  owed-known =
      each_from (λ (x : Entry). x.op < n) (flat_map (owed cs h) (active h))
      (λ x there.
      let found = among-flat_map (owed cs h) x (active h) there in
      let step = among-map (doing cs found.0) x (owed_steps cs h found.0) found.2 in
      subst (λ (y : Entry). y.op < n) step.2 (read-known found.0 step.0))
