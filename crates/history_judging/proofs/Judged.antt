-- A history that was judged, and the same with one event more.
use Rattle.std.proofs.Common.{◌≡◌, ℕ, ◌<◌, ◌≤◌, Bool, true, false, not, eqb, ltb, if◌then◌else◌, List, [], ◌∷◌, ◌++◌, length, filter, sym, refl, ap, ◌∙◌, subst, arith, append-nil, length-append}
use Rattle.std.specs.Bool.{IsTrue}
use Rattle.std.specs.List.{list_all}
use Rattle.std.proofs.lemmas.Bool.{and_parts}
use Rattle.process_tree.specs.declared.entry.Entry.{Entry}
use Rattle.process_tree.specs.declared.plan.Plan.{Plan}
use Rattle.process_tree.specs.Conflicts.{Table, do_conflict, operations_in, Access}
use Rattle.process_tree.specs.Order.{Each}
use Rattle.process_tree.specs.Shape.{goes_on_to, IsBranch}
use Rattle.process_tree.proofs.Every.{Each-append}
use Rattle.process_tree.proofs.Tables.{do_conflict-symmetric}
use Rattle.schedule_model.specs.declared.event.Event.{Event}
use Rattle.schedule_model.specs.declared.event.Event.TheVariants.{Start, Act, End}
use Rattle.schedule_model.specs.Conflict.{ConflictRelation, IsSymmetric, no_conflict}
use Rattle.schedule_model.specs.Course.{Course, course, courses_of, shape}
use Rattle.schedule_model.specs.Histories.{done_steps, is_active, net, net_steps, same_step, starts}
use Rattle.schedule_model.specs.Legal.{is_legal, may_come}
use Rattle.schedule_model.proofs.Acting.{act_in_order, order_of}
use Rattle.schedule_model.proofs.Appends.{starts-append}
use Rattle.schedule_model.proofs.Induction.{passes-push}
use Rattle.schedule_model.proofs.Members.{Among, among-filter}
use Rattle.schedule_model.proofs.NetPaths.{net-branch}
use Rattle.schedule_model.proofs.NoConflict.{legal-from_own_order, own_order-legal}
use Rattle.schedule_model.proofs.Rising.{step_goes_on}
use Rattle.history_judging.specs.declared.legality.ProcessRow.{ProcessRow}
use Rattle.schedule_rules.specs.Applying.{AreKnown}
use Rattle.history_judging.specs.Judging.{AreReady, comes, kept_after}
use Rattle.history_judging.specs.Keeping.{ArePlans, HasPlan, IsJudged, IsKept, Tables, is_active_in, no_tables, stepped, undone}
use Rattle.schedule_rules.specs.Recovering.{StandsOnBranch}
use Rattle.schedule_rules.specs.Standing.{stands_after}
use Rattle.history_judging.proofs.AfterAct.{kept-step, kept-undo}
use Rattle.history_judging.proofs.AfterEnd.{kept-end}
use Rattle.history_judging.proofs.AfterStart.{kept-start}
use Rattle.history_judging.proofs.KnownSteps.{step_known, owed_with-known}
use Rattle.history_judging.proofs.MayCome.{comes-is}
use Rattle.history_judging.proofs.Tables.{active-is, started-within, own-steps}
use Rattle.schedule_rules.proofs.ListTests.{each-among, each_from}

-- a table is symmetric
pub table-symmetric : (table : Table) → IsSymmetric (do_conflict table)
table-symmetric table a b = do_conflict-symmetric table a b

-- what each of these has, each that a filter lets through has
pub each-filter : {X : Type 0} (P : X → Type 0) (p : X → Bool) (xs : List X) → Each P xs → Each P (filter p xs)
each-filter P p xs each = each_from P (filter p xs) (λ x is. each-among P x xs each (among-filter p x xs is).0)

pub each-stands : (P : Entry → Type 0) (es : List Entry) (e : Entry) → Each P es → (e.undo ≡ false → P e) → Each P (stands_after es e)
each-stands P es e each new = by_undo e.undo refl
  where
    by_undo : (u : Bool) → e.undo ≡ u → Each P (if u then filter (λ f. not (same_step f e)) es else es ++ e ∷ [])
    by_undo true undo = each-filter P (λ f. not (same_step f e)) es each
    by_undo false is_step = Each-append P es (e ∷ []) each (new is_step, tt)

-- nothing was judged yet
judged-none : (table : Table) (plans : List Plan) → ArePlans table plans → IsJudged table plans [] no_tables
judged-none table plans known = record {
  known = known;
  enough = omega arith;
  legal = refl;
  kept = record {
    started = refl;
    rows = λ i some within. absurd (omega arith);
    net = refl;
    owed = λ i. refl;
    active = refl;
    entries = refl;
  };
  net_known = tt;
  owed_known = tt;
}

pub judged-empty : (table : Table) (plans : List Plan) → ArePlans table plans → (rows : List ProcessRow) (net owed : List Entry) → rows ≡ [] → net ≡ [] → owed ≡ []
    → IsJudged table plans [] (record { processes = rows; net = net; owed = owed; active = 0; entries = 0 })
judged-empty table plans known rows net owed one two three =
    subst (λ rs. IsJudged table plans [] (record { processes = rs; net = net; owed = owed; active = 0; entries = 0 })) (sym one)
    (subst (λ es. IsJudged table plans [] (record { processes = []; net = es; owed = owed; active = 0; entries = 0 })) (sym two)
    (subst (λ es. IsJudged table plans [] (record { processes = []; net = []; owed = es; active = 0; entries = 0 })) (sym three) (judged-none table plans known)))

module _ (table : Table) (plans : List Plan) (h : List Event) (t : Tables) (judged : IsJudged table plans h t) where
  abbrev cs : List Course
  cs = courses_of plans

  abbrev rel : ConflictRelation
  rel = do_conflict table

  abbrev n : ℕ
  n = operations_in table

  free : IsTrue (is_legal no_conflict cs h)
  free = legal-from_own_order cs h (own_order-legal cs rel h judged.legal)

  stands : (i : ℕ) → is_active_in t.processes i ≡ true → StandsOnBranch plans t.net i
  stands i is =
      let goes = sym (active-is rel cs h t judged.legal judged.kept i) ∙ is in
      let bounds = started-within rel cs h t judged.legal judged.kept i goes in
      let low = bounds.0 in
      let high = bounds.1 in
      let many = judged.kept.started in
      let enough = judged.enough in
      (low, omega arith, subst (IsBranch (shape cs i)) (sym (own-steps rel cs h t judged.legal judged.kept i goes)) (net-branch cs i h free))

  -- the tables can be judged by
  pub judged-ready : AreReady table plans t
  judged-ready = record {
    known = judged.known;
    stand = stands;
    net_known = judged.net_known;
    owed_known = judged.owed_known;
    numbers = each_from (λ (e : Entry). e.process ≤ length t.processes) t.net
        (λ e is.
        let goes = (among-filter (λ (x : Entry). is_active h x.process) e (net h) (subst (Among e) judged.kept.net is)).1 in
        (started-within rel cs h t judged.legal judged.kept e.process goes).1);
  }

  -- they say which event may come
  pub judged-comes : (event : Event) → comes rel cs t event ≡ may_come rel cs h event
  judged-comes event = comes-is rel (table-symmetric table) plans judged.known.good h t judged.legal judged.kept event

  kept_then : (event : Event) → IsTrue (may_come rel cs h event) → IsKept cs (h ++ event ∷ []) (kept_after cs t event)
  kept_then (Start k) may = kept-start rel cs h t judged.legal judged.kept k may
  kept_then (Act e) may = by_undo e.undo refl
    where
      by_undo : (u : Bool) → e.undo ≡ u → IsKept cs (h ++ Act e ∷ []) (if u then undone e t else stepped (course cs e.process) e t)
      by_undo true undo = kept-undo rel plans judged.known.good h t judged.legal judged.kept e may undo
      by_undo false is_step = kept-step rel plans judged.known.good h t judged.legal judged.kept e may is_step
  kept_then (End k) may = kept-end rel plans judged.known.good h t judged.legal judged.kept k may

  enough_then : (event : Event) → HasPlan plans t event → length (starts (h ++ event ∷ [])) ≤ length plans
  enough_then (Start k) has =
      let more = ap length (starts-append h (Start k ∷ [])) in
      let long = length-append (starts h) (k ∷ []) in
      let many = judged.kept.started in
      omega (arith, has)
  enough_then (Act e) has = subst (λ ks. length ks ≤ length plans) (sym (starts-append h (Act e ∷ []) ∙ append-nil (starts h))) judged.enough
  enough_then (End k) has = subst (λ ks. length ks ≤ length plans) (sym (starts-append h (End k ∷ []) ∙ append-nil (starts h))) judged.enough

  -- a step that may come has an operation of the table
  known_step : (e : Entry) → e.undo ≡ false → IsTrue (may_come rel cs h (Act e)) → e.op < n
  known_step e is_step may =
      let on = step_goes_on rel cs h e is_step may in
      step_known plans n judged.known.known judged.known.good e.process (net_steps h e.process) e.op e.step
      (ap (λ (a : Access). a.op) (act_in_order cs h e (order_of rel cs h (Act e) may)).1)
      (and_parts (goes_on_to (shape cs e.process) (net_steps h e.process) e.step) (list_all (λ d. ltb d e.step) (done_steps h e.process)) on).0

  net_then : (event : Event) → IsTrue (may_come rel cs h event) → AreKnown table (kept_after cs t event).net
  net_then (Start k) may = judged.net_known
  net_then (Act e) may = by_undo e.undo refl
    where
      by_undo : (u : Bool) → e.undo ≡ u → AreKnown table (if u then undone e t else stepped (course cs e.process) e t).net
      by_undo true undo = each-stands (λ (x : Entry). x.op < n) t.net e judged.net_known (λ is_step. known_step e is_step may)
      by_undo false is_step = each-stands (λ (x : Entry). x.op < n) t.net e judged.net_known (λ is_step'. known_step e is_step' may)
  net_then (End k) may = each-filter (λ (x : Entry). x.op < n) (λ x. not (eqb x.process k)) t.net judged.net_known

  owed_then : (event : Event) → IsTrue (may_come rel cs h event) → AreKnown table (kept_after cs t event).owed
  owed_then (Start k) may = judged.owed_known
  owed_then (Act e) may = by_undo e.undo refl
    where
      by_undo : (u : Bool) → e.undo ≡ u → AreKnown table (if u then undone e t else stepped (course cs e.process) e t).owed
      by_undo true undo = judged.owed_known
      by_undo false is_step =
          let less = known_step e is_step may in
          owed_with-known plans n judged.known.known e.process t.net t.owed e judged.owed_known (omega (arith, less))
  owed_then (End k) may = each-filter (λ (x : Entry). x.op < n) (λ x. not (eqb x.process k)) t.owed judged.owed_known

  -- a history with an event that the tables let through is judged, and the tables are then what that event makes of them
  pub judged-after : (event : Event) → HasPlan plans t event → comes rel cs t event ≡ true → IsJudged table plans (h ++ event ∷ []) (kept_after cs t event)
  judged-after event has comes' =
      let may = sym (judged-comes event) ∙ comes' in
      record {
        known = judged.known;
        enough = enough_then event has;
        legal = passes-push (may_come rel cs) h event judged.legal may;
        kept = kept_then event may;
        net_known = net_then event may;
        owed_known = owed_then event may;
      }
