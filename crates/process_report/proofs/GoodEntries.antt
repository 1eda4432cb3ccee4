-- What is printed of a legal history has names: its entries are of steps of its processes.
use Rattle.std.proofs.Common.{◌≡◌, inl, inr, ⊎_elim, ℕ, zero, suc, ◌-◌, ◌<◌, ◌≤◌, Bool, true, false, cond, ltb, ◌||◌, nat_eq, nat_le, List, [], ◌∷◌, ◌++◌, length, map, get_or, sym, refl, ap, ◌∙◌, subst, arith, append-nil}
use Rattle.std.specs.Bool.{IsTrue}
use Rattle.std.specs.List.{list_all, list_any, Contains}
use Rattle.std.proofs.lemmas.Bool.{and_parts, eqb-true, leb-true, ltb-true}
use Rattle.std.proofs.lemmas.List.{length-map}
use Rattle.process_tree.specs.Blocks.{outline}
use Rattle.process_tree.specs.Entries.{access_of, keys_of}
use Rattle.process_tree.specs.Name.{is_name}
use Rattle.process_tree.specs.declared.entry.Entry.{Entry}
use Rattle.process_tree.specs.declared.plan.Plan.{Plan}
use Rattle.process_tree.specs.Shape.{goes_on_to}
use Rattle.process_tree.proofs.TreeLaws.{paths_lie_in_order}
use Rattle.process_tree.proofs.InTurn.{goes_within}
use Rattle.commute_table.specs.declared.op.Op.{Op}
use Rattle.commute_table.specs.Operations.{takes, is_good_op}
use Rattle.schedule_model.specs.declared.event.Event.{Event}
use Rattle.schedule_model.specs.declared.event.Event.TheVariants.{Start, Act, End}
use Rattle.schedule_model.specs.Conflict.{ConflictRelation}
use Rattle.schedule_model.specs.Course.{Course, course, course_of, courses_of, no_course, op_of, key_of, access_at, shape}
use Rattle.schedule_model.specs.Histories.{acts, net_acts, net_of, net_steps, done_steps, takes_back}
use Rattle.schedule_model.specs.Laws.{AreGood}
use Rattle.schedule_model.specs.Legal.{is_legal, may_come}
use Rattle.schedule_model.specs.OwnOrder.{goes_on}
use Rattle.schedule_model.proofs.Appends.{acts-append}
use Rattle.schedule_model.proofs.GoodPlans.{good_if_goes_on}
use Rattle.schedule_model.proofs.Induction.{by_legal}
use Rattle.schedule_model.proofs.Members.{Among, among-append, among-right, contains-from_among}
use Rattle.schedule_model.proofs.Rising.{step_goes_on}
use Rattle.schedule_model.proofs.Started.{among_net_of}
use Rattle.schedule_model.proofs.Undoing.{undoes}
use Rattle.trace_verify.specs.declared.form.Form.{Form}
use Rattle.trace_verify.specs.declared.form.Form.TheVariants.{Plain, Keyed}
use Rattle.process_report.specs.Laws.{HaveKeys}
use Rattle.process_report.specs.Names.{process_name, names_in, step_name, op_name}
use Rattle.process_report.proofs.LineForms.{IsKey, IsPrintable}

-- a net entry took effect
pub among-net : (e : Entry) (es : List Entry) → Among e (net_acts es) → Among e es
among-net e [] is = is
among-net e (x ∷ es) is = by (x.undo || list_any (λ f. takes_back f x) es) (among-net e es) is
  where
    by : (t : Bool) → (Among e (net_acts es) → Among e es) → Among e (cond t (net_acts es) (x ∷ net_acts es)) → Among e (x ∷ es)
    by true rest there = inr (rest there)
    by false rest (inl here) = inl here
    by false rest (inr later) = inr (rest later)

-- Each act is of a step of its process.

module _ (table : ConflictRelation) (plans : List Plan) (good : AreGood plans) where
  abbrev cs : List Course
  cs = courses_of plans

  abbrev pub HasStep : Entry → Type 0
  HasStep e = e.step < length (course cs e.process).ops

  abbrev StepsOf : List Event → Type 0
  StepsOf h = (e : Entry) → Among e (acts h) → HasStep e

  forward-step : (h : List Event) (e : Entry) → IsTrue (goes_on cs h e.process e.step) → HasStep e
  forward-step h e goes =
      let i = e.process in
      let on = (and_parts (goes_on_to (shape cs i) (net_steps h i) e.step) (list_all (λ d. ltb d e.step) (done_steps h i)) goes).0 in
      let plan = good_if_goes_on plans i (net_steps h i) e.step good on in
      let less = goes_within (shape cs i) (length (shape cs i).kinds) (net_steps h i) e.step (paths_lie_in_order (shape cs i) plan.tree).within on in
      let many = plan.operations in
      omega (arith, less, many)

  undo-step : (h : List Event) (e : Entry) → IsTrue (is_legal table cs h) → IsTrue (may_come table cs h (Act e)) → e.undo ≡ true → StepsOf h → HasStep e
  undo-step h e legal may undo was =
      let taken = undoes table cs h e legal undo may in
      let there : Among taken.last (net_of h e.process) = subst (Among taken.last) (sym taken.net) (among-right taken.last (net_of (h ++ Act e ∷ []) e.process) (taken.last ∷ []) (inl refl)) in
      let in_net = among_net_of h e.process taken.last there in
      let less = was taken.last (among-net taken.last (acts h) in_net.0) in
      let parts = and_parts (nat_eq taken.last.process e.process) (nat_eq taken.last.step e.step) taken.same in
      subst (λ b. b < length (course cs e.process).ops) (eqb-true taken.last.step e.step parts.1)
      (subst (λ i. taken.last.step < length (course cs i).ops) (eqb-true taken.last.process e.process parts.0) less)

  act-step : (h : List Event) (e : Entry) → IsTrue (is_legal table cs h) → IsTrue (may_come table cs h (Act e)) → StepsOf h → (u : Bool) → e.undo ≡ u → HasStep e
  act-step h e legal may was true is = undo-step h e legal may is was
  act-step h e legal may was false is = forward-step h e (step_goes_on table cs h e is may)

  steps-more : (h : List Event) (a : Event) → IsTrue (is_legal table cs h) → IsTrue (may_come table cs h a) → StepsOf h → StepsOf (h ++ a ∷ [])
  steps-more h (Start k) legal may was e is = was e (subst (Among e) (acts-append h (Start k ∷ []) ∙ append-nil (acts h)) is)
  steps-more h (End k) legal may was e is = was e (subst (Among e) (acts-append h (End k ∷ []) ∙ append-nil (acts h)) is)
  steps-more h (Act a) legal may was e is =
      ⊎_elim (λ before. was e before) (λ now. by_now now) (among-append e (acts h) (a ∷ []) (subst (Among e) (acts-append h (Act a ∷ [])) is))
    where
      by_now : Among e (a ∷ []) → HasStep e
      by_now (inl same) = subst HasStep same (act-step h a legal may was a.undo refl)
      by_now (inr none) = absurd none

  pub acts-have_steps : (h : List Event) → IsTrue (is_legal table cs h) → (e : Entry) → Among e (acts h) → HasStep e
  acts-have_steps h legal = by_legal table cs StepsOf (λ g a before may was. steps-more g a before may was) (λ e is. absurd is) h legal

-- The plan at a place, and what is read of it there.

pub record PlanAt (plans : List Plan) (k : ℕ) : Type 0 where
  pub plan : Plan
  pub there : Among plan plans
  pub name : get_or (map (λ p. p.name) plans) k [] ≡ plan.name
  pub steps : get_or (map names_in plans) k [] ≡ names_in plan
  pub course : get_or (map course_of plans) k no_course ≡ course_of plan

pub plan-at : (plans : List Plan) (k : ℕ) → k < length plans → PlanAt plans k
plan-at [] k less = absurd (omega arith)
plan-at (p ∷ plans) zero less = record { plan = p; there = inl refl; name = refl; steps = refl; course = refl }
plan-at (p ∷ plans) (suc k) less =
    let later = plan-at plans k (omega arith) in
    record { plan = later.plan; there = inr later.there; name = later.name; steps = later.steps; course = later.course }

pub all-at : {X : Type 0} (q : X → Bool) (xs : List X) (k : ℕ) (d : X) → list_all q xs ≡ true → k < length xs → q (get_or xs k d) ≡ true
all-at q [] k d all less = absurd (omega arith)
all-at q (x ∷ xs) zero d all less = (and_parts (q x) (list_all q xs) all).0
all-at q (x ∷ xs) (suc k) d all less = all-at q xs k d (and_parts (q x) (list_all q xs) all).1 (omega arith)

-- an operation of a catalog has a name
pub op-named : (ops : List Op) (n : ℕ) → list_all is_good_op ops ≡ true → n < length ops → is_name (op_name ops n) ≡ true
op-named [] n all less = absurd (omega arith)
op-named (o ∷ ops) zero all less = (and_parts (is_name o.name) (takes o.subsystem o.verb) (and_parts (is_good_op o) (list_all is_good_op ops) all).0).0
op-named (o ∷ ops) (suc n) all less = op-named ops n (and_parts (is_good_op o) (list_all is_good_op ops) all).1 (omega arith)

module _ (plans : List Plan) (ops : List Op) (good : AreGood plans) (known : (p : Plan) → Contains plans p → IsTrue (list_all (λ a. ltb a (length ops)) p.ops))
    (catalog : list_all is_good_op ops ≡ true) (named : (p : Plan) → Among p plans → (is_name p.name ≡ true) × (list_all is_name (names_in p) ≡ true)) where
  -- the name of a process
  pub process-named : (i : ℕ) → 1 ≤ i → i ≤ length plans → is_name (process_name plans i) ≡ true
  process-named i low high =
      let at = plan-at plans (i - 1) (omega (arith, low, high)) in ap is_name at.name ∙ (named at.plan at.there).0

  many-names : (p : Plan) → Contains plans p → length (names_in p) ≡ length p.ops
  many-names p is = length-map (outline p.tree).steps (λ s. s.name) ∙ sym (good p is).operations

  -- the name of a step
  pub step-named : (i b : ℕ) → 1 ≤ i → i ≤ length plans → b < length (course (courses_of plans) i).ops → is_name (step_name plans i b) ≡ true
  step-named i b low high less =
      let at = plan-at plans (i - 1) (omega (arith, low, high)) in
      let many = many-names at.plan (contains-from_among at.plan plans at.there) in
      let count : length (course (courses_of plans) i).ops ≡ length at.plan.ops = ap (λ (c : Course). length c.ops) at.course in
      ap (λ (ns : List (List ℕ)). is_name (get_or ns b [])) at.steps ∙ all-at is_name (names_in at.plan) b [] (named at.plan at.there).1 (omega (arith, less, many, count))

  -- the number of its operation
  pub op-known : (i b : ℕ) → 1 ≤ i → i ≤ length plans → b < length (course (courses_of plans) i).ops → op_of (courses_of plans) i b < length ops
  op-known i b low high less =
      let at = plan-at plans (i - 1) (omega (arith, low, high)) in
      let is = ap (λ (c : Course). get_or c.ops b 0) at.course in
      let count : length (course (courses_of plans) i).ops ≡ length at.plan.ops = ap (λ (c : Course). length c.ops) at.course in
      let within = ltb-true (get_or at.plan.ops b 0) (length ops) (all-at (λ a. ltb a (length ops)) at.plan.ops b 0 (known at.plan (contains-from_among at.plan plans at.there)) (omega (arith, less, count))) in
      subst (λ n. n < length ops) (sym is) within

  -- and its key
  pub key-printable : (form : Form) → HaveKeys form plans → (i b : ℕ) → 1 ≤ i → i ≤ length plans → b < length (course (courses_of plans) i).ops
      → IsKey form (key_of (courses_of plans) i b)
  key-printable Plain have i b low high less = tt
  key-printable Keyed have i b low high less =
      let at = plan-at plans (i - 1) (omega (arith, low, high)) in
      let there = contains-from_among at.plan plans at.there in
      let is = ap (λ (c : Course). get_or c.keys b 0) at.course in
      let count : length (course (courses_of plans) i).ops ≡ length at.plan.ops = ap (λ (c : Course). length c.ops) at.course in
      let many : length (keys_of at.plan.tree) ≡ length at.plan.ops = length-map (outline at.plan.tree).steps (λ s. s.key) ∙ sym (good at.plan there).operations in
      let within = leb-true (get_or (keys_of at.plan.tree) b 0) 4294967295 (all-at (λ k. nat_le k 4294967295) (keys_of at.plan.tree) b 0 (have at.plan there) (omega (arith, less, count, many))) in
      subst (λ n. n ≤ 4294967295) (sym is) within

  -- an entry of a step that there is
  pub entry-named : (form : Form) → HaveKeys form plans → (e : Entry) → 1 ≤ e.process → e.process ≤ length plans → length plans ≤ 4096
      → e.step < length (course (courses_of plans) e.process).ops → access_of e ≡ access_at (courses_of plans) e.process e.step
      → IsPrintable form plans ops e × (e.op < length ops)
  entry-named form have e low high few less is =
      let op_is = ap (λ a. a.op) is in
      let key_is = ap (λ a. a.key) is in
      let op_less = subst (λ n. n < length ops) (sym op_is) (op-known e.process e.step low high less) in (
        record {
          process = omega (arith, high, few);
          step = step-named e.process e.step low high less;
          op = op-named ops e.op catalog op_less;
          key = subst (IsKey form) (sym key_is) (key-printable form have e.process e.step low high less);
        },
        op_less,
      )
