-- Holdings whose processes have other numbers: what stands against a piece goes along.
use Rattle.std.proofs.Common.{◌≡◌, ℕ, zero, suc, Bool, true, false, not, cond, eqb, ◌&&◌, ◌||◌, if◌then◌else◌, List, [], ◌∷◌, ◌++◌, length, map, filter, sym, refl, ap, ◌∙◌}
use Rattle.std.specs.Prelude.{Option, Some, None}
use Rattle.std.specs.List.{flat_map, list_any}
use Rattle.std.specs.Option.{option_map, option_to_list}
use Rattle.std.proofs.lemmas.List.{map-append}
use Rattle.process_tree.specs.Recovery.{StepClass, reserved, committing, undoable}
use Rattle.process_tree.specs.declared.entry.Entry.{Entry}
use Rattle.schedule_model.specs.Conflict.{ConflictRelation, conflict}
use Rattle.schedule_model.specs.Graph.{Arrow, leads, reached, spread, spread_by}
use Rattle.schedule_model.specs.Histories.{is_in, same_step}
use Rattle.schedule_model.specs.Holdings.{Hold, Holdings, active_net, all_pending, all_reserved, all_running, arrow, behind, holders, reaches, running_steps}
use Rattle.schedule_model.specs.Blocking.{Clash, Clashes, against, against_end, against_step, against_undo, all_clashes, in_a_circle, in_front, with_active, with_owed, with_reserved, with_running}
use Rattle.forgetting_model.specs.Remaining.{renumbered_entry}
use Rattle.forgetting_model.proofs.Mapped.{any-mapped, filter-mapped, flat-mapped, length-mapped, map-mapped}
use Rattle.forgetting_model.proofs.Renumbered.{AreApart, conflict-by, is_in-by, same_step-by}

-- Walks.

module _ (f : ℕ → ℕ) (apart : AreApart f) (a b : Arrow) (same : (j k : ℕ) → a (f j) (f k) ≡ b j k) where
  pub spread-by : (all set : List ℕ) → spread a (map f all) (map f set) ≡ map f (spread b all set)
  spread-by all set =
      filter-mapped f (λ k. is_in k (map f set) || list_any (λ j. a j k) (map f set)) (λ k. is_in k set || list_any (λ j. b j k) set) all
      (λ k. ap (λ t. t || list_any (λ j. a j (f k)) (map f set)) (is_in-by f apart k set)
      ∙ ap (λ t. is_in k set || t) (any-mapped f (λ j. a j (f k)) (λ j. b j k) set (λ j. same j k)))

  pub spread_by-by : (n : ℕ) (all set : List ℕ) → spread_by n a (map f all) (map f set) ≡ map f (spread_by n b all set)
  spread_by-by zero all set = refl
  spread_by-by (suc n) all set = ap (spread a (map f all)) (spread_by-by n all set) ∙ spread-by all (spread_by n b all set)

  pub reached-by : (all set : List ℕ) → reached a (map f all) (map f set) ≡ map f (reached b all set)
  reached-by all set = ap (λ n. spread_by n a (map f all) (map f set)) (length-mapped f all) ∙ spread_by-by (length all) all set

  pub leads-by : (all : List ℕ) (i k : ℕ) → leads a (map f all) (f i) (f k) ≡ leads b all i k
  leads-by all i k =
      ap (λ set. is_in (f k) (reached a (map f all) set)) (filter-mapped f (a (f i)) (b i) all (λ j. same i j))
      ∙ (ap (is_in (f k)) (reached-by all (filter (b i) all)) ∙ is_in-by f apart k (reached b all (filter (b i) all)))

module _ (number : ℕ → ℕ) where
  abbrev pub hold_by : Hold → Hold
  hold_by o = record {
    process = number o.process;
    running = option_map (renumbered_entry number) o.running;
    reserved = map (renumbered_entry number) o.reserved;
    pending = map (renumbered_entry number) o.pending;
    backward_entries = map (renumbered_entry number) o.backward_entries;
  }

  abbrev pub holdings_by : Holdings → Holdings
  holdings_by g = record { net = map (renumbered_entry number) g.net; holds = map hold_by g.holds }

  abbrev pub clash_by : Clash → Clash
  clash_by c = record { own = renumbered_entry number c.own; other = renumbered_entry number c.other }

  abbrev pub clashes_by : Clashes → Clashes
  clashes_by c = record { a0 = map clash_by c.a0; a1 = map clash_by c.a1; a2 = map clash_by c.a2; a3 = map clash_by c.a3; a4 = map clash_by c.a4; a5 = map clash_by c.a5 }

  pub all_clashes-by : (c : Clashes) → all_clashes (clashes_by c) ≡ map clash_by (all_clashes c)
  all_clashes-by c =
      ap (λ xs. xs ++ map clash_by c.a2 ++ map clash_by c.a3 ++ map clash_by c.a4 ++ map clash_by c.a5) (sym (map-append clash_by c.a0 c.a1))
      ∙ (ap (λ xs. xs ++ map clash_by c.a3 ++ map clash_by c.a4 ++ map clash_by c.a5) (sym (map-append clash_by (c.a0 ++ c.a1) c.a2))
      ∙ (ap (λ xs. xs ++ map clash_by c.a4 ++ map clash_by c.a5) (sym (map-append clash_by (c.a0 ++ c.a1 ++ c.a2) c.a3))
      ∙ (ap (λ xs. xs ++ map clash_by c.a5) (sym (map-append clash_by (c.a0 ++ c.a1 ++ c.a2 ++ c.a3) c.a4))
      ∙ sym (map-append clash_by (c.a0 ++ c.a1 ++ c.a2 ++ c.a3 ++ c.a4) c.a5))))

module _ (number : ℕ → ℕ) (apart : AreApart number) (table : ConflictRelation) where
  abbrev ent : Entry → Entry
  ent = renumbered_entry number

  behind_step : (x e : Entry) (es : List Entry) (ys : List Entry) (a b : Bool) → a ≡ b → ys ≡ map ent (behind x es) → cond a (map ent es) ys ≡ map ent (cond b es (behind x es))
  behind_step x e es ys a true same is = ap (λ t. cond t (map ent es) ys) same
  behind_step x e es ys a false same is = ap (λ t. cond t (map ent es) ys) same ∙ is

  pub behind-by : (x : Entry) (es : List Entry) → behind (renumbered_entry number x) (map (renumbered_entry number) es) ≡ map (renumbered_entry number) (behind x es)
  behind-by x [] = refl
  behind-by x (e ∷ es) = behind_step x e es (behind (ent x) (map ent es)) (same_step (ent x) (ent e)) (same_step x e) (same_step-by number apart x e) (behind-by x es)

  pub against-by : (b : Entry) (others : List Entry) → against table (renumbered_entry number b) (map (renumbered_entry number) others) ≡ map (clash_by number) (against table b others)
  against-by b others =
      ap (map (λ x. record { own = ent b; other = x })) (filter-mapped ent (conflict table (ent b)) (conflict table b) others (λ x. conflict-by number apart table b x))
      ∙ map-mapped ent (λ x. record { own = ent b; other = x }) (λ x. record { own = b; other = x }) (clash_by number) (filter (conflict table b) others) (λ x. refl)

  module _ (g : Holdings) where
    abbrev G : Holdings
    G = holdings_by number g

    pub holders-by : holders (holdings_by number g) ≡ map number (holders g)
    holders-by = map-mapped (hold_by number) (λ (o : Hold). o.process) (λ (o : Hold). o.process) number g.holds (λ o. refl)

    pub active_net-by : active_net (holdings_by number g) ≡ map (renumbered_entry number) (active_net g)
    active_net-by =
        filter-mapped ent (λ (e : Entry). is_in e.process (holders G)) (λ (e : Entry). is_in e.process (holders g)) g.net
        (λ e. ap (is_in (number e.process)) holders-by ∙ is_in-by number apart e.process (holders g))

    one_running : (r : Option Entry) → option_to_list (option_map ent r) ≡ map ent (option_to_list r)
    one_running None = refl
    one_running (Some e) = refl

    pub all_running-by : all_running (holdings_by number g) ≡ map (renumbered_entry number) (all_running g)
    all_running-by = flat-mapped (hold_by number) (λ (o : Hold). option_to_list o.running) (λ (o : Hold). option_to_list o.running) ent g.holds (λ o. one_running o.running)

    pub all_reserved-by : all_reserved (holdings_by number g) ≡ map (renumbered_entry number) (all_reserved g)
    all_reserved-by = flat-mapped (hold_by number) (λ (o : Hold). o.reserved) (λ (o : Hold). o.reserved) ent g.holds (λ o. refl)

    pub all_pending-by : all_pending (holdings_by number g) ≡ map (renumbered_entry number) (all_pending g)
    all_pending-by = flat-mapped (hold_by number) (λ (o : Hold). o.pending) (λ (o : Hold). o.pending) ent g.holds (λ o. refl)

    pub running_steps-by : running_steps (holdings_by number g) ≡ map (renumbered_entry number) (running_steps g)
    running_steps-by = ap (filter (λ (e : Entry). not e.undo)) all_running-by ∙ filter-mapped ent (λ (e : Entry). not e.undo) (λ (e : Entry). not e.undo) (all_running g) (λ e. refl)

    -- what stands behind or is under way
    behind_or_running : (x : Entry) → behind (ent x) (active_net G) ++ running_steps G ≡ map ent (behind x (active_net g) ++ running_steps g)
    behind_or_running x =
        ap (λ es. behind (ent x) es ++ running_steps G) active_net-by
        ∙ (ap (λ es. es ++ running_steps G) (behind-by x (active_net g))
        ∙ (ap (λ es. map ent (behind x (active_net g)) ++ es) running_steps-by ∙ sym (map-append ent (behind x (active_net g)) (running_steps g))))

    pub arrow-by : (k i : ℕ) → arrow table (holdings_by number g) (number k) (number i) ≡ arrow table g k i
    arrow-by k i =
        ap (list_any (λ (x : Entry). eqb x.process (number k) && list_any (λ (y : Entry). eqb y.process (number i) && conflict table x y) (behind x (active_net G) ++ running_steps G))) active_net-by
        ∙ any-mapped ent (λ (x : Entry). eqb x.process (number k) && list_any (λ (y : Entry). eqb y.process (number i) && conflict table x y) (behind x (active_net G) ++ running_steps G))
        (λ (x : Entry). eqb x.process k && list_any (λ (y : Entry). eqb y.process i && conflict table x y) (behind x (active_net g) ++ running_steps g)) (active_net g)
        (λ x. ap (λ t. t && list_any (λ (y : Entry). eqb y.process (number i) && conflict table (ent x) y) (behind (ent x) (active_net G) ++ running_steps G)) (apart x.process k)
        ∙ ap (λ t. eqb x.process k && t)
        (ap (list_any (λ (y : Entry). eqb y.process (number i) && conflict table (ent x) y)) (behind_or_running x)
        ∙ any-mapped ent (λ (y : Entry). eqb y.process (number i) && conflict table (ent x) y) (λ (y : Entry). eqb y.process i && conflict table x y) (behind x (active_net g) ++ running_steps g)
        (λ y. ap (λ t. t && conflict table (ent x) (ent y)) (apart y.process i) ∙ ap (λ t. eqb y.process i && t) (conflict-by number apart table x y))))

    pub reaches-by : (k i : ℕ) → reaches table (holdings_by number g) (number k) (number i) ≡ reaches table g k i
    reaches-by k i =
        ap (λ is. leads (arrow table G) is (number k) (number i)) holders-by
        ∙ leads-by number apart (arrow table G) (arrow table g) arrow-by (holders g) k i

    -- Each rule.

    pub running_by : (b : Entry) → with_running table (holdings_by number g) (renumbered_entry number b) ≡ map (clash_by number) (with_running table g b)
    running_by b = ap (against table (ent b)) all_running-by ∙ against-by b (all_running g)

    pub reserved_by : (b : Entry) → with_reserved table (holdings_by number g) (renumbered_entry number b) ≡ map (clash_by number) (with_reserved table g b)
    reserved_by b =
        ap (λ es. against table (ent b) (es ++ all_pending G)) all_reserved-by
        ∙ (ap (λ es. against table (ent b) (map ent (all_reserved g) ++ es)) all_pending-by
        ∙ (ap (against table (ent b)) (sym (map-append ent (all_reserved g) (all_pending g))) ∙ against-by b (all_reserved g ++ all_pending g)))

    pub circle_by : (b : Entry) → in_a_circle table (holdings_by number g) (renumbered_entry number b) ≡ map (clash_by number) (in_a_circle table g b)
    circle_by b =
        ap (filter (λ (c : Clash). reaches table G (number b.process) c.other.process)) (ap (against table (ent b)) active_net-by ∙ against-by b (active_net g))
        ∙ filter-mapped (clash_by number) (λ (c : Clash). reaches table G (number b.process) c.other.process) (λ (c : Clash). reaches table g b.process c.other.process) (against table b (active_net g))
        (λ c. reaches-by b.process c.other.process)

    one_in_front : (i : ℕ) (x y : Entry) (a b : Bool) → a ≡ b → (if a then against table (ent y) (ent x ∷ []) else []) ≡ map (clash_by number) (if b then against table y (x ∷ []) else [])
    one_in_front i x y a true same = ap (λ t. if t then against table (ent y) (ent x ∷ []) else []) same ∙ against-by y (x ∷ [])
    one_in_front i x y a false same = ap (λ t. if t then against table (ent y) (ent x ∷ []) else []) same

    all_in_front : (i : ℕ) (x : Entry) (es : List Entry) → flat_map (λ (y : Entry). if eqb y.process (number i) then against table y (ent x ∷ []) else []) (map ent es)
        ≡ map (clash_by number) (flat_map (λ (y : Entry). if eqb y.process i then against table y (x ∷ []) else []) es)
    all_in_front i x es =
        flat-mapped ent (λ (y : Entry). if eqb y.process (number i) then against table y (ent x ∷ []) else []) (λ (y : Entry). if eqb y.process i then against table y (x ∷ []) else []) (clash_by number) es
        (λ y. one_in_front i x y (eqb (number y.process) (number i)) (eqb y.process i) (apart y.process i))

    pub front_by : (i : ℕ) → in_front table (holdings_by number g) (number i) ≡ map (clash_by number) (in_front table g i)
    front_by i =
        ap (λ es. flat_map (λ x. flat_map (λ (y : Entry). if eqb y.process (number i) then against table y (x ∷ []) else []) (behind x es)) es) active_net-by
        ∙ flat-mapped ent (λ x. flat_map (λ (y : Entry). if eqb y.process (number i) then against table y (x ∷ []) else []) (behind x (map ent (active_net g))))
        (λ x. flat_map (λ (y : Entry). if eqb y.process i then against table y (x ∷ []) else []) (behind x (active_net g))) (clash_by number) (active_net g)
        (λ x. ap (flat_map (λ (y : Entry). if eqb y.process (number i) then against table y (ent x ∷ []) else [])) (behind-by x (active_net g)) ∙ all_in_front i x (behind x (active_net g)))

    pub active_by : (b : Entry) → with_active table (holdings_by number g) (renumbered_entry number b) ≡ map (clash_by number) (with_active table g b)
    active_by b =
        ap (λ cs. cs ++ in_front table G (number b.process)) (ap (against table (ent b)) active_net-by ∙ against-by b (active_net g))
        ∙ (ap (λ cs. map (clash_by number) (against table b (active_net g)) ++ cs) (front_by b.process)
        ∙ sym (map-append (clash_by number) (against table b (active_net g)) (in_front table g b.process)))

    all_three : active_net G ++ all_running G ++ all_reserved G ≡ map ent (active_net g ++ all_running g ++ all_reserved g)
    all_three =
        ap (λ es. es ++ all_running G ++ all_reserved G) active_net-by
        ∙ (ap (λ es. map ent (active_net g) ++ es ++ all_reserved G) all_running-by
        ∙ (ap (λ es. map ent (active_net g) ++ map ent (all_running g) ++ es) all_reserved-by
        ∙ (ap (λ es. es ++ map ent (all_reserved g)) (sym (map-append ent (active_net g) (all_running g)))
        ∙ sym (map-append ent (active_net g ++ all_running g) (all_reserved g)))))

    pub owed_by : (owed : List Entry) → with_owed table (holdings_by number g) (map (renumbered_entry number) owed) ≡ map (clash_by number) (with_owed table g owed)
    owed_by owed =
        ap (λ es. flat_map (λ s. against table s es) (map ent owed)) all_three
        ∙ flat-mapped ent (λ s. against table s (map ent (active_net g ++ all_running g ++ all_reserved g))) (λ s. against table s (active_net g ++ all_running g ++ all_reserved g)) (clash_by number) owed
        (λ s. against-by s (active_net g ++ all_running g ++ all_reserved g))

    -- What stands against a step, an undo and an end.

    pub against_step-by : (class : StepClass) (b : Entry) (owed : List Entry)
        → against_step table (holdings_by number g) class (renumbered_entry number b) (map (renumbered_entry number) owed) ≡ clashes_by number (against_step table g class b owed)
    against_step-by reserved b owed =
        ap (λ cs. record { a0 = cs; a1 = with_reserved table G (ent b); a2 = []; a3 = []; a4 = []; a5 = [] }) (running_by b)
        ∙ ap (λ cs. record { a0 = map (clash_by number) (with_running table g b); a1 = cs; a2 = []; a3 = []; a4 = []; a5 = [] }) (reserved_by b)
    against_step-by undoable b owed =
        ap (λ cs. record { a0 = cs; a1 = with_reserved table G (ent b); a2 = in_a_circle table G (ent b); a3 = []; a4 = []; a5 = [] }) (running_by b)
        ∙ (ap (λ cs. record { a0 = map (clash_by number) (with_running table g b); a1 = cs; a2 = in_a_circle table G (ent b); a3 = []; a4 = []; a5 = [] }) (reserved_by b)
        ∙ ap (λ cs. record { a0 = map (clash_by number) (with_running table g b); a1 = map (clash_by number) (with_reserved table g b); a2 = cs; a3 = []; a4 = []; a5 = [] }) (circle_by b))
    against_step-by committing b owed =
        ap (λ cs. record { a0 = cs; a1 = with_reserved table G (ent b); a2 = []; a3 = with_active table G (ent b); a4 = with_owed table G (map ent owed); a5 = [] }) (running_by b)
        ∙ (ap (λ cs. record { a0 = map (clash_by number) (with_running table g b); a1 = cs; a2 = []; a3 = with_active table G (ent b); a4 = with_owed table G (map ent owed); a5 = [] }) (reserved_by b)
        ∙ (ap (λ cs. record { a0 = map (clash_by number) (with_running table g b); a1 = map (clash_by number) (with_reserved table g b); a2 = []; a3 = cs; a4 = with_owed table G (map ent owed); a5 = [] }) (active_by b)
        ∙ ap (λ cs. record { a0 = map (clash_by number) (with_running table g b); a1 = map (clash_by number) (with_reserved table g b); a2 = []; a3 = map (clash_by number) (with_active table g b); a4 = cs; a5 = [] }) (owed_by owed)))

    pub against_undo-by : (x : Entry) → against_undo table (holdings_by number g) (renumbered_entry number x) ≡ clashes_by number (against_undo table g x)
    against_undo-by x =
        ap (λ cs. record { a0 = []; a1 = []; a2 = []; a3 = []; a4 = []; a5 = cs }) (ap (against table (ent x)) (behind-by x g.net) ∙ against-by x (behind x g.net))

    pub against_end-by : (i : ℕ) → against_end table (holdings_by number g) (number i) ≡ clashes_by number (against_end table g i)
    against_end-by i = ap (λ cs. record { a0 = []; a1 = []; a2 = []; a3 = cs; a4 = []; a5 = [] }) (front_by i)
