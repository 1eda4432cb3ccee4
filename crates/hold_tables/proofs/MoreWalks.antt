-- Arrows are added to the conflict graph: marks that are extended by them tell where its walks lead.
use Rattle.std.proofs.Common.{◌≡◌, ◌⊎◌, inl, inr, ◌≤◌, ℕ, Bool, true, false, ◌||◌, ◌&&◌, List, [], ◌∷◌, ◌++◌, Some, None, sym, refl, ap, ◌∙◌, subst, append_assoc}
use Rattle.std.specs.Prelude.{nat_eq}
use Rattle.std.specs.List.{list_any}
use Rattle.std.proofs.lemmas.Bool.{or_cases, or_left, or_right}
use Rattle.process_tree.specs.declared.entry.Entry.{Entry}
use Rattle.process_tree.specs.Conflicts.{Table, do_conflict}
use Rattle.schedule_model.specs.Conflict.{ConflictRelation, conflict}
use Rattle.schedule_model.specs.Graph.{Arrow, Walk, one_arrow, and_then}
use Rattle.schedule_model.specs.Holdings.{holders, reaches}
use Rattle.schedule_model.proofs.Walks.{leads-from_walk, walk-from_leads}
use Rattle.hold_tables.specs.Tables.{OpenProcess, Tables, has_number, holdings_of, is_open, numbered}
use Rattle.hold_tables.specs.Changes.{change_numbered, net_after, with_running}
use Rattle.hold_tables.specs.Kept.{AreTidy}
use Rattle.hold_tables.specs.Arrows.{arrows_in}
use Rattle.hold_tables.specs.Places.{place_of}
use Rattle.hold_tables.specs.Walks.{Implies, IsExtended, IsTransitive, TellWalks, arrows_by, arrows_from, arrows_to, step_of, steps_under_way, told}
use Rattle.bit_rows.specs.Cells.{cell}
use Rattle.hold_tables.proofs.Arrows.{any_later}
use Rattle.hold_tables.proofs.Reaching.{graph-is, holder-number, number-holder, same_truth, walk_on}
use Rattle.hold_tables.proofs.SameGraph.{Follows, graph_of, numbers_of, reach_over, split_steps, step_is}
use Rattle.hold_tables.proofs.Tidy.{tables}
use Rattle.hold_tables.proofs.WalksStay.{same_count, same_open, same_places}

module _ (t u : Tables) (tidy_t : AreTidy t) (tidy_u : AreTidy u) (added : Arrow) (same : numbers_of u.processes ≡ numbers_of t.processes)
    (arrows : (i k : ℕ) → arrows_in u i k ≡ (arrows_in t i k || added i k)) (old new : List (List Bool)) (tells : TellWalks t old) (extended : IsExtended u.processes added old new) where
  abbrev led : Arrow
  led i k = reaches (do_conflict u.conflicts) (holdings_of u) i k

  was_open : (k : ℕ) → is_open u k ≡ true → is_open t k ≡ true
  was_open k there = sym (same_open u.processes t.processes same k) ∙ there

  -- what was told is where walks led
  was_told : (i k : ℕ) → is_open u i ≡ true → is_open u k ≡ true → told u.processes old i k ≡ reaches (do_conflict t.conflicts) (holdings_of t) i k
  was_told i k here there =
      ap (λ a. cell old a (place_of k u.processes)) (same_places u.processes t.processes same i) ∙ ap (cell old (place_of i t.processes)) (same_places u.processes t.processes same k)
      ∙ tells.tell i k (was_open i here) (was_open k there)

  -- each arrow stays
  follows : Follows t u
  follows j k there a = (same_open u.processes t.processes same k ∙ there, arrows j k ∙ or_left (arrows_in t j k) (added j k) a)

  led_on : IsTransitive u.processes led
  led_on i j k here mid there first second =
      leads-from_walk (graph_of u) (holders (holdings_of u)) (walk_on (graph_of u) (holders (holdings_of u)) (walk-from_leads (graph_of u) (holders (holdings_of u)) i j first) (walk-from_leads (graph_of u) (holders (holdings_of u)) j k second))

  old_on : IsTransitive u.processes (told u.processes old)
  old_on i j k here mid there first second =
      was_told i k here there
      ∙ leads-from_walk (graph_of t) (holders (holdings_of t)) (walk_on (graph_of t) (holders (holdings_of t))
      (walk-from_leads (graph_of t) (holders (holdings_of t)) i j (sym (was_told i j here mid) ∙ first)) (walk-from_leads (graph_of t) (holders (holdings_of t)) j k (sym (was_told j k mid there) ∙ second)))

  told_led : Implies u.processes (told u.processes new) led
  told_led = extended.least led led_on
      (λ i k here there is. reach_over t u tidy_t tidy_u follows i k (sym (was_told i k here there) ∙ is))
      (λ i k here there a. leads-from_walk (graph_of u) (holders (holdings_of u)) (one_arrow (holder-number k u.net u.processes there) (graph-is u tidy_u i k ∙ arrows i k ∙ or_right (arrows_in t i k) (added i k) a)))

  arrow_told : (i k : ℕ) → is_open u i ≡ true → is_open u k ≡ true → arrows_in u i k ≡ true → told u.processes new i k ≡ true
  arrow_told i k here there a = by (or_cases (arrows_in t i k) (added i k) (sym (arrows i k) ∙ a))
    where
      by : (arrows_in t i k ≡ true) ⊎ (added i k ≡ true) → told u.processes new i k ≡ true
      by (inl was) =
          let led : reaches (do_conflict t.conflicts) (holdings_of t) i k ≡ true = leads-from_walk (graph_of t) (holders (holdings_of t)) (one_arrow (holder-number k t.net t.processes (was_open k there)) (graph-is t tidy_t i k ∙ was)) in
          extended.more i k here there (was_told i k here there ∙ led)
      by (inr more) = extended.has i k here there more

  -- where a walk leads, the marks tell so
  walk_told : {i k : ℕ} → is_open u i ≡ true → Walk (graph_of u) (holders (holdings_of u)) i k → (is_open u k ≡ true) × (told u.processes new i k ≡ true)
  walk_told {i} {k} here (one_arrow among a) =
      let there = number-holder k u.net u.processes among in
      (there, arrow_told i k here there (sym (graph-is u tidy_u i k) ∙ a))
  walk_told {i} {k} here (and_then {j = j} walk among a) =
      let there = number-holder k u.net u.processes among in
      let before = walk_told here walk in (
        there,
        extended.transitive old_on i j k here before.0 there before.1 (arrow_told j k before.0 there (sym (graph-is u tidy_u j k) ∙ a)),
      )

  pub more_tells : TellWalks u new
  more_tells =
      let count = same_count u.processes t.processes same in
      record {
        rows = (extended.count ∙ tells.rows.0 ∙ sym count, subst (λ n. n ≤ 256) (sym count) tells.rows.1);
        tell = λ i k here there. same_truth (told u.processes new i k) (led i k) (told_led i k here there) (λ is. (walk_told here (walk-from_leads (graph_of u) (holders (holdings_of u)) i k is)).1);
      }

or_all : (a b c : Bool) → (a || (b || c)) ≡ ((a || b) || c)
or_all true b c = refl
or_all false b c = refl

pub or_across : (b a f t : Bool) → ((b || a) || (f || t)) ≡ ((b || f) || (a || t))
or_across true a f t = refl
or_across false true true t = refl
or_across false true false t = refl
or_across false false true t = refl
or_across false false false t = refl

or_last : (a b : Bool) → (a || b) ≡ (b || (a || false))
or_last true true = refl
or_last true false = refl
or_last false true = refl
or_last false false = refl

any_more : (p : Entry → Bool) (ys : List Entry) (e : Entry) (zs : List Entry) → list_any p (ys ++ e ∷ zs) ≡ (list_any p (ys ++ zs) || (p e || false))
any_more p [] e zs = or_last (p e) (list_any p zs)
any_more p (y ∷ ys) e zs = ap (p y ||◌) (any_more p ys e zs) ∙ or_all (p y) (list_any p (ys ++ zs)) (p e || false)

module _ (table : ConflictRelation) (i k : ℕ) where
  pub by_more : (x : Entry) (ys : List Entry) (e : Entry) (zs : List Entry) → arrows_by table x (ys ++ e ∷ zs) i k ≡ (arrows_by table x (ys ++ zs) i k || arrows_by table x (e ∷ []) i k)
  by_more x ys e zs =
      ap (nat_eq x.process i &&◌) (any_more (λ y. nat_eq y.process k && conflict table x y) ys e zs)
      ∙ any_later (nat_eq x.process i) (list_any (λ y. nat_eq y.process k && conflict table x y) (ys ++ zs)) ((nat_eq e.process k && conflict table x e) || false)

  -- a step more under way
  pub under_more : (front : List Entry) (e : Entry) (back es : List Entry) → arrows_from table (front ++ e ∷ back) es i k ≡ (arrows_from table (front ++ back) es i k || arrows_to table es e i k)
  under_more front e back [] = refl
  under_more front e back (x ∷ es) =
      ap (λ b. b || arrows_from table (front ++ e ∷ back) es i k) (ap (λ ys. arrows_by table x ys i k) (sym (append_assoc es front (e ∷ back))) ∙ by_more x (es ++ front) e back
      ∙ ap (λ ys. arrows_by table x ys i k || arrows_by table x (e ∷ []) i k) (append_assoc es front back))
      ∙ ap ((arrows_by table x (es ++ (front ++ back)) i k || arrows_by table x (e ∷ []) i k) ||◌) (under_more front e back es)
      ∙ or_across (arrows_by table x (es ++ (front ++ back)) i k) (arrows_by table x (e ∷ []) i k) (arrows_from table (front ++ back) es i k) (arrows_to table es e i k)

  -- a step that was under way is in the net
  pub settled_more : (front : List Entry) (e : Entry) (back es : List Entry)
      → arrows_from table (front ++ back) (es ++ e ∷ []) i k ≡ (arrows_from table (front ++ e ∷ back) es i k || arrows_by table e (front ++ back) i k)
  settled_more front e back [] = or_none (arrows_by table e (front ++ back) i k)
    where
      or_none : (b : Bool) → (b || false) ≡ b
      or_none true = refl
      or_none false = refl
  settled_more front e back (x ∷ es) =
      ap (λ b. b || arrows_from table (front ++ back) (es ++ e ∷ []) i k) here
      ∙ ap (arrows_by table x (es ++ (front ++ e ∷ back)) i k ||◌) (settled_more front e back es)
      ∙ or_all (arrows_by table x (es ++ (front ++ e ∷ back)) i k) (arrows_from table (front ++ e ∷ back) es i k) (arrows_by table e (front ++ back) i k)
    where
      here : arrows_by table x ((es ++ e ∷ []) ++ (front ++ back)) i k ≡ arrows_by table x (es ++ (front ++ e ∷ back)) i k
      here =
          ap (λ ys. arrows_by table x ys i k) (append_assoc es (e ∷ []) (front ++ back)) ∙ by_more x es e (front ++ back)
          ∙ ap (λ ys. arrows_by table x ys i k || arrows_by table x (e ∷ []) i k) (sym (append_assoc es front back)) ∙ sym (by_more x (es ++ front) e back)
          ∙ ap (λ ys. arrows_by table x ys i k) (append_assoc es front (e ∷ back))

module _ (i : ℕ) (table : Table) (net : List Entry) (rows : List OpenProcess) (e : Entry) (has : has_number i rows ≡ true) where
  -- the arrows once a step came under way where nothing was
  pub run_more : (numbered i rows).running ≡ None → e.undo ≡ false → (j k : ℕ)
      → arrows_in (tables table net (change_numbered (with_running (Some e)) i rows)) j k ≡ (arrows_in (tables table net rows) j k || arrows_to (do_conflict table) net e j k)
  run_more idle forward j k =
      let split = split_steps i rows has in
      ap (λ es. arrows_from (do_conflict table) es net j k) (split.now (Some e) ∙ ap (λ es. split.front ++ (es ++ split.back)) (step_is e forward))
      ∙ under_more (do_conflict table) j k split.front e split.back net
      ∙ ap (λ es. arrows_from (do_conflict table) es net j k || arrows_to (do_conflict table) net e j k) (sym (split.was ∙ ap (λ o. split.front ++ (step_of o ++ split.back)) idle))

  -- and once a step took effect
  pub effect_more : (numbered i rows).running ≡ Some e → e.undo ≡ false → (j k : ℕ)
      → arrows_in (tables table (net_after i (Some e) net) (change_numbered (with_running None) i rows)) j k
      ≡ (arrows_in (tables table net rows) j k || arrows_by (do_conflict table) e (steps_under_way (change_numbered (with_running None) i rows)) j k)
  effect_more under forward j k =
      let split = split_steps i rows has in
      let after = change_numbered (with_running None) i rows in
      let now : steps_under_way after ≡ split.front ++ split.back = split.now None in
      let was : steps_under_way rows ≡ split.front ++ e ∷ split.back = split.was ∙ ap (λ o. split.front ++ (step_of o ++ split.back)) under ∙ ap (λ es. split.front ++ (es ++ split.back)) (step_is e forward) in
      let settled : net_after i (Some e) net ≡ net ++ e ∷ [] = rw forward refl in
      ap (λ es. arrows_from (do_conflict table) (steps_under_way after) es j k) settled
      ∙ ap (λ es. arrows_from (do_conflict table) es (net ++ e ∷ []) j k) now
      ∙ settled_more (do_conflict table) j k split.front e split.back net
      ∙ ap (λ es. arrows_from (do_conflict table) es net j k || arrows_by (do_conflict table) e (split.front ++ split.back) j k) (sym was)
      ∙ ap (λ es. arrows_from (do_conflict table) (steps_under_way rows) net j k || arrows_by (do_conflict table) e es j k) (sym now)
