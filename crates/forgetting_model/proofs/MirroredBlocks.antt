-- What blocks a process, who is a victim, and who goes back together, where the processes have other numbers.
use Rattle.std.proofs.Common.{◌≡◌, inl, inr, ℕ, Bool, true, false, not, cond, eqb, ltb, ◌&&◌, ◌||◌, if◌then◌else◌, List, [], ◌∷◌, ◌++◌, length, map, filter, sym, refl, ap, ◌∙◌}
use Rattle.std.specs.Prelude.{Option, Some, None, is_none, is_some}
use Rattle.std.specs.Bool.{IsTrue}
use Rattle.std.specs.List.{list_all, list_any}
use Rattle.std.specs.Option.{option_map}
use Rattle.std.proofs.lemmas.List.{map-append}
use Rattle.process_tree.specs.Shape.{greater, greatest}
use Rattle.process_tree.specs.declared.entry.Entry.{Entry}
use Rattle.schedule_model.specs.Course.{Course}
use Rattle.schedule_model.specs.Conflict.{ConflictRelation, conflict}
use Rattle.schedule_model.specs.Histories.{active, is_active}
use Rattle.schedule_model.specs.Graph.{reached}
use Rattle.schedule_model.specs.Holdings.{Hold, Holdings, behind, holders, running_steps}
use Rattle.schedule_model.specs.Blocking.{Clash, Clashes}
use Rattle.schedule_model.proofs.Active.{is_active-is_in}
use Rattle.schedule_model.proofs.Members.{Among, is_in-among}
use Rattle.machine_model.specs.declared.blocked.Blocked.{Blocked}
use Rattle.machine_model.specs.declared.blocked.Rule.{Rule}
use Rattle.machine_model.specs.declared.blocked.Rule.TheVariants.{A0, A1, A2, A3, A4, A5}
use Rattle.machine_model.specs.Blocks.{blocks_of, by_rule, is_less, least_block, less_then, lesser, rule_number}
use Rattle.machine_model.specs.Cascade.{backward_of, builds_on, cascade, drags, takes_back_all}
use Rattle.machine_model.specs.Laws.{open_only}
use Rattle.machine_model.specs.Moment.{Moment, has_begun}
use Rattle.machine_model.specs.Pieces.{running_of}
use Rattle.machine_model.specs.State.{against_task, against_work, block_of, holdings, is_blocked, is_exhausted, is_free, is_stalled, next_of, pending_of, victim_of}
use Rattle.machine_model.specs.Advance.{cascade_of}
use Rattle.machine_model.proofs.OpenCascade.{open_holdings_drag_alike}
use Rattle.forgetting_model.specs.Moments.{renumbered_block, renumbered_piece}
use Rattle.forgetting_model.specs.Remaining.{renumbered_entry}
use Rattle.forgetting_model.proofs.HeldBy.{behind-by, clash_by, clashes_by, hold_by, holders-by, holdings_by, reached-by, running_steps-by}
use Rattle.forgetting_model.proofs.Mapped.{any-mapped, flat-mapped, length-mapped, map-mapped}
use Rattle.forgetting_model.proofs.Mirrored.{AreMirrored, active-left, exhausted-left, holdings-left, is_active-left, next-left, pending-left, running-left, work-left}
use Rattle.forgetting_model.proofs.Renumbered.{AreApart, conflict-by}

-- other numbers stand in the same order
abbrev pub AreOrdered : (ℕ → ℕ) → Type 0
AreOrdered number = (a b : ℕ) → ltb (number a) (number b) ≡ ltb a b

-- Lists of which each element goes along.

module _ {X Y : Type 0} (f : X → Y) where
  filter_step : (x : X) (xs : List X) (ys : List Y) (a b : Bool) → a ≡ b → ys ≡ map f xs → cond a (f x ∷ ys) ys ≡ map f (cond b (x ∷ xs) xs)
  filter_step x xs ys a true same e = ap (λ t. cond t (f x ∷ ys) ys) same ∙ ap (λ zs. f x ∷ zs) e
  filter_step x xs ys a false same e = ap (λ t. cond t (f x ∷ ys) ys) same ∙ e

  pub filter_each : (q : Y → Bool) (p : X → Bool) (xs : List X) → ((x : X) → Among x xs → q (f x) ≡ p x) → filter q (map f xs) ≡ map f (filter p xs)
  filter_each q p [] same = refl
  filter_each q p (x ∷ xs) same = filter_step x (filter p xs) (filter q (map f xs)) (q (f x)) (p x) (same x (inl refl)) (filter_each q p xs (λ y is. same y (inr is)))

  all_each : (q : Y → Bool) (p : X → Bool) (xs : List X) → ((x : X) → Among x xs → q (f x) ≡ p x) → list_all q (map f xs) ≡ list_all p xs
  all_each q p [] same = refl
  all_each q p (x ∷ xs) same = ap (λ t. t && list_all q (map f xs)) (same x (inl refl)) ∙ ap (λ t. p x && t) (all_each q p xs (λ y is. same y (inr is)))

  pub some_mapped : (r : Option X) → is_some (option_map f r) ≡ is_some r
  some_mapped None = refl
  some_mapped (Some x) = refl

  pub none_mapped : (r : Option X) → is_none (option_map f r) ≡ is_none r
  none_mapped None = refl
  none_mapped (Some x) = refl

module _ (number : ℕ → ℕ) (apart : AreApart number) (order : AreOrdered number) where
  abbrev blk : Blocked → Blocked
  blk = renumbered_block number

  -- Blocks.

  rule_by : (rule : Rule) (cs : List Clash) → by_rule rule (map (clash_by number) cs) ≡ map blk (by_rule rule cs)
  rule_by rule cs =
      map-mapped (clash_by number) (λ (c : Clash). record { on = c.other.process; other = c.other.step; own = c.own.step; rule = rule })
      (λ (c : Clash). record { on = c.other.process; other = c.other.step; own = c.own.step; rule = rule }) blk cs (λ c. refl)

  abbrev R : Rule → List Clash → List Blocked
  R = by_rule

  pub blocks-by : (c : Clashes) → blocks_of (clashes_by number c) ≡ map (renumbered_block number) (blocks_of c)
  blocks-by c =
      ap (λ xs. xs ++ R A1 (map (clash_by number) c.a1) ++ R A2 (map (clash_by number) c.a2) ++ R A3 (map (clash_by number) c.a3) ++ R A4 (map (clash_by number) c.a4) ++ R A5 (map (clash_by number) c.a5)) (rule_by A0 c.a0)
      ∙ (ap (λ xs. map blk (R A0 c.a0) ++ xs ++ R A2 (map (clash_by number) c.a2) ++ R A3 (map (clash_by number) c.a3) ++ R A4 (map (clash_by number) c.a4) ++ R A5 (map (clash_by number) c.a5)) (rule_by A1 c.a1)
      ∙ (ap (λ xs. xs ++ R A2 (map (clash_by number) c.a2) ++ R A3 (map (clash_by number) c.a3) ++ R A4 (map (clash_by number) c.a4) ++ R A5 (map (clash_by number) c.a5)) (sym (map-append blk (R A0 c.a0) (R A1 c.a1)))
      ∙ (ap (λ xs. map blk (R A0 c.a0 ++ R A1 c.a1) ++ xs ++ R A3 (map (clash_by number) c.a3) ++ R A4 (map (clash_by number) c.a4) ++ R A5 (map (clash_by number) c.a5)) (rule_by A2 c.a2)
      ∙ (ap (λ xs. xs ++ R A3 (map (clash_by number) c.a3) ++ R A4 (map (clash_by number) c.a4) ++ R A5 (map (clash_by number) c.a5)) (sym (map-append blk (R A0 c.a0 ++ R A1 c.a1) (R A2 c.a2)))
      ∙ (ap (λ xs. map blk (R A0 c.a0 ++ R A1 c.a1 ++ R A2 c.a2) ++ xs ++ R A4 (map (clash_by number) c.a4) ++ R A5 (map (clash_by number) c.a5)) (rule_by A3 c.a3)
      ∙ (ap (λ xs. xs ++ R A4 (map (clash_by number) c.a4) ++ R A5 (map (clash_by number) c.a5)) (sym (map-append blk (R A0 c.a0 ++ R A1 c.a1 ++ R A2 c.a2) (R A3 c.a3)))
      ∙ (ap (λ xs. map blk (R A0 c.a0 ++ R A1 c.a1 ++ R A2 c.a2 ++ R A3 c.a3) ++ xs ++ R A5 (map (clash_by number) c.a5)) (rule_by A4 c.a4)
      ∙ (ap (λ xs. xs ++ R A5 (map (clash_by number) c.a5)) (sym (map-append blk (R A0 c.a0 ++ R A1 c.a1 ++ R A2 c.a2 ++ R A3 c.a3) (R A4 c.a4)))
      ∙ (ap (λ xs. map blk (R A0 c.a0 ++ R A1 c.a1 ++ R A2 c.a2 ++ R A3 c.a3 ++ R A4 c.a4) ++ xs) (rule_by A5 c.a5)
      ∙ sym (map-append blk (R A0 c.a0 ++ R A1 c.a1 ++ R A2 c.a2 ++ R A3 c.a3 ++ R A4 c.a4) (R A5 c.a5)))))))))))

  less-by : (a b : Blocked) → is_less (renumbered_block number a) (renumbered_block number b) ≡ is_less a b
  less-by a b =
      ap (λ t. t || (eqb (number a.on) (number b.on) && less_then a.other b.other (less_then a.own b.own (ltb (rule_number a.rule) (rule_number b.rule))))) (order a.on b.on)
      ∙ ap (λ t. ltb a.on b.on || (t && less_then a.other b.other (less_then a.own b.own (ltb (rule_number a.rule) (rule_number b.rule))))) (apart a.on b.on)

  lesser_step : (b c : Blocked) (s t : Bool) → s ≡ t → (if s then Some (blk c) else Some (blk b)) ≡ option_map blk (if t then Some c else Some b)
  lesser_step b c s true same = ap (λ t. if t then Some (blk c) else Some (blk b)) same
  lesser_step b c s false same = ap (λ t. if t then Some (blk c) else Some (blk b)) same

  lesser-by : (b : Blocked) (r : Option Blocked) → lesser (blk b) (option_map blk r) ≡ option_map blk (lesser b r)
  lesser-by b None = refl
  lesser-by b (Some c) = lesser_step b c (is_less (blk c) (blk b)) (is_less c b) (less-by c b)

  pub least_block-by : (bs : List Blocked) → least_block (map (renumbered_block number) bs) ≡ option_map (renumbered_block number) (least_block bs)
  least_block-by [] = refl
  least_block-by (b ∷ bs) = ap (lesser (blk b)) (least_block-by bs) ∙ lesser-by b (least_block bs)

  -- The greatest of some.

  greater_step : (x y : ℕ) (s t : Bool) → s ≡ t → (if s then Some (number x) else Some (number y)) ≡ option_map number (if t then Some x else Some y)
  greater_step x y s true same = ap (λ t. if t then Some (number x) else Some (number y)) same
  greater_step x y s false same = ap (λ t. if t then Some (number x) else Some (number y)) same

  greater-by : (x : ℕ) (r : Option ℕ) → greater (number x) (option_map number r) ≡ option_map number (greater x r)
  greater-by x None = refl
  greater-by x (Some y) = greater_step x y (ltb (number y) (number x)) (ltb y x) (order y x)

  pub greatest-by : (xs : List ℕ) → greatest (map number xs) ≡ option_map number (greatest xs)
  greatest-by [] = refl
  greatest-by (x ∷ xs) = ap (greater (number x)) (greatest-by xs) ∙ greater-by x (greatest xs)

  -- Cascades.

  module _ (table : ConflictRelation) (g : Holdings) where
    abbrev ent : Entry → Entry
    ent = renumbered_entry number

    one_backward : (k : ℕ) (o : Hold) (s t : Bool) → s ≡ t → (if s then map ent o.backward_entries else []) ≡ map ent (if t then o.backward_entries else [])
    one_backward k o s true same = ap (λ t. if t then map ent o.backward_entries else []) same
    one_backward k o s false same = ap (λ t. if t then map ent o.backward_entries else []) same

    backward_of-by : (k : ℕ) → backward_of (holdings_by number g) (number k) ≡ map ent (backward_of g k)
    backward_of-by k =
        flat-mapped (hold_by number) (λ (o : Hold). if eqb o.process (number k) then o.backward_entries else []) (λ (o : Hold). if eqb o.process k then o.backward_entries else []) ent g.holds
        (λ o. one_backward k o (eqb (number o.process) (number k)) (eqb o.process k) (apart o.process k))

    takes_step : (j : ℕ) (entries : List Entry) (s t : Bool) → s ≡ t → (if s then map ent entries else backward_of (holdings_by number g) (number j)) ≡ map ent (if t then entries else backward_of g j)
    takes_step j entries s true same = ap (λ t. if t then map ent entries else backward_of (holdings_by number g) (number j)) same
    takes_step j entries s false same = ap (λ t. if t then map ent entries else backward_of (holdings_by number g) (number j)) same ∙ backward_of-by j

    takes-by : (root : ℕ) (entries : List Entry) (j : ℕ) → takes_back_all (holdings_by number g) (number root) (map ent entries) (number j) ≡ map ent (takes_back_all g root entries j)
    takes-by root entries j = takes_step j entries (eqb (number j) (number root)) (eqb j root) (apart j root)

    behind_or_running : (x : Entry) → behind (ent x) (map ent g.net) ++ running_steps (holdings_by number g) ≡ map ent (behind x g.net ++ running_steps g)
    behind_or_running x =
        ap (λ es. es ++ running_steps (holdings_by number g)) (behind-by number apart table x g.net)
        ∙ (ap (λ es. map ent (behind x g.net) ++ es) (running_steps-by number apart table g) ∙ sym (map-append ent (behind x g.net) (running_steps g)))

    builds-by : (entries : List Entry) (k : ℕ) → builds_on table (holdings_by number g) (map ent entries) (number k) ≡ builds_on table g entries k
    builds-by entries k =
        any-mapped ent (λ (x : Entry). list_any (λ (y : Entry). eqb y.process (number k) && conflict table x y) (behind x (map ent g.net) ++ running_steps (holdings_by number g)))
        (λ (x : Entry). list_any (λ (y : Entry). eqb y.process k && conflict table x y) (behind x g.net ++ running_steps g)) entries
        (λ x. ap (list_any (λ (y : Entry). eqb y.process (number k) && conflict table (ent x) y)) (behind_or_running x)
        ∙ any-mapped ent (λ (y : Entry). eqb y.process (number k) && conflict table (ent x) y) (λ (y : Entry). eqb y.process k && conflict table x y) (behind x g.net ++ running_steps g)
        (λ y. ap (λ t. t && conflict table (ent x) (ent y)) (apart y.process k) ∙ ap (λ t. eqb y.process k && t) (conflict-by number apart table x y)))

    drags-by : (root : ℕ) (entries : List Entry) (j k : ℕ) → drags table (holdings_by number g) (number root) (map ent entries) (number j) (number k) ≡ drags table g root entries j k
    drags-by root entries j k =
        ap (λ es. builds_on table (holdings_by number g) es (number k)) (takes-by root entries j) ∙ builds-by (takes_back_all g root entries j) k

    pub cascade-by : (root : ℕ) (entries : List Entry) → cascade table (holdings_by number g) (number root) (map (renumbered_entry number) entries) ≡ map number (cascade table g root entries)
    cascade-by root entries =
        ap (λ is. reached (drags table (holdings_by number g) (number root) (map ent entries)) is (number root ∷ [])) (holders-by number apart table g)
        ∙ reached-by number apart (drags table (holdings_by number g) (number root) (map ent entries)) (drags table g root entries) (drags-by root entries) (holders g) (root ∷ [])

-- The moments.

module _ (number : ℕ → ℕ) (apart : AreApart number) (order : AreOrdered number) (keep : ℕ → Bool) (table : ConflictRelation) (courses since : List Course) (m n : Moment)
    (are : AreMirrored number apart keep courses since m n) where
  -- what the open processes hold is enough to tell what blocks the next piece of process i
  abbrev pub OpenIsEnough : List Course → Moment → ℕ → Type 0
  OpenIsEnough cs o i = against_work table cs (open_only (holdings cs o)) o.events i (next_of cs o i).step (next_of cs o i).work ≡ against_task table cs o i (next_of cs o i)

  module _ (k : ℕ) (goes : IsTrue (is_active n.events k)) where
    pub cascade-left : cascade_of table courses m (number k) ≡ map number (cascade_of table since n k)
    cascade-left =
        sym (open_holdings_drag_alike table courses m (number k) (is_active-left number apart keep table courses since m n are k ∙ goes))
        ∙ (ap (λ g. cascade table g (number k) (pending_of courses m (number k))) (holdings-left number apart keep table courses since m n are)
        ∙ (ap (cascade table (holdings_by number (open_only (holdings since n))) (number k)) (pending-left number apart keep table courses since m n are k goes)
        ∙ (cascade-by number apart order table (open_only (holdings since n)) k (pending_of since n k)
        ∙ ap (map number) (open_holdings_drag_alike table since n k goes))))

    module _ (enough : OpenIsEnough courses m (number k)) (enough_since : OpenIsEnough since n k) where
      against-left : against_task table courses m (number k) (next_of courses m (number k)) ≡ clashes_by number (against_task table since n k (next_of since n k))
      against-left =
          sym enough
          ∙ (ap (λ g. against_work table courses g m.events (number k) (next_of courses m (number k)).step (next_of courses m (number k)).work) (holdings-left number apart keep table courses since m n are)
          ∙ (ap (λ t. against_work table courses (holdings_by number (open_only (holdings since n))) m.events (number k) t.step t.work) (next-left number apart keep table courses since m n are k goes)
          ∙ (work-left number apart keep table courses since m n are k goes (open_only (holdings since n)) (next_of since n k).step (next_of since n k).work
          ∙ ap (clashes_by number) enough_since)))

      pub block-left : block_of table courses m (number k) ≡ option_map (renumbered_block number) (block_of table since n k)
      block-left =
          ap (λ c. least_block (blocks_of c)) against-left
          ∙ (ap least_block (blocks-by number apart order (against_task table since n k (next_of since n k))) ∙ least_block-by number apart order (blocks_of (against_task table since n k (next_of since n k))))

      pub blocked-left : is_blocked table courses m (number k) ≡ is_blocked table since n k
      blocked-left =
          ap (λ t. not t && is_some (block_of table courses m (number k))) (exhausted-left number apart keep table courses since m n are k goes)
          ∙ ap (λ t. not (is_exhausted since n k) && t) (ap is_some block-left ∙ some_mapped (renumbered_block number) (block_of table since n k))

      pub free-left : is_free table courses m (number k) ≡ is_free table since n k
      free-left =
          ap (λ t. t && is_none (running_of m (number k)) && not (is_exhausted courses m (number k)) && is_none (block_of table courses m (number k))) (is_active-left number apart keep table courses since m n are k)
          ∙ (ap (λ t. is_active n.events k && t && not (is_exhausted courses m (number k)) && is_none (block_of table courses m (number k)))
          (ap is_none (running-left number apart keep table courses since m n are k) ∙ none_mapped (renumbered_piece number) (running_of n k))
          ∙ (ap (λ t. is_active n.events k && is_none (running_of n k) && not t && is_none (block_of table courses m (number k))) (exhausted-left number apart keep table courses since m n are k goes)
          ∙ ap (λ t. is_active n.events k && is_none (running_of n k) && not (is_exhausted since n k) && t) (ap is_none block-left ∙ none_mapped (renumbered_block number) (block_of table since n k))))

  module _ (enough : (k : ℕ) → IsTrue (is_active n.events k) → OpenIsEnough courses m (number k)) (enough_since : (k : ℕ) → IsTrue (is_active n.events k) → OpenIsEnough since n k) where
    goes_in : (k : ℕ) → Among k (active n.events) → IsTrue (is_active n.events k)
    goes_in k among = sym (is_active-is_in n.events k) ∙ is_in-among k (active n.events) among

    blocked_in : (k : ℕ) → Among k (active n.events) → is_blocked table courses m (number k) ≡ is_blocked table since n k
    blocked_in k among = blocked-left k (goes_in k among) (enough k (goes_in k among)) (enough_since k (goes_in k among))

    exhausted_in : (k : ℕ) → Among k (active n.events) → is_exhausted courses m (number k) ≡ is_exhausted since n k
    exhausted_in k among = exhausted-left number apart keep table courses since m n are k (goes_in k among)

    pub stalled-left : is_stalled table courses m ≡ is_stalled table since n
    stalled-left =
        ap (λ t. eqb t 0 && list_all (λ i. is_exhausted courses m i || is_blocked table courses m i) (active m.events)) (ap length are.out ∙ length-mapped (renumbered_piece number) n.out)
        ∙ ap (λ t. eqb (length n.out) 0 && t)
        (ap (list_all (λ i. is_exhausted courses m i || is_blocked table courses m i)) (active-left number apart keep table courses since m n are)
        ∙ all_each number (λ i. is_exhausted courses m i || is_blocked table courses m i) (λ k. is_exhausted since n k || is_blocked table since n k) (active n.events)
        (λ k among. ap (λ t. t || is_blocked table courses m (number k)) (exhausted_in k among) ∙ ap (λ t. is_exhausted since n k || t) (blocked_in k among)))

    victims_left : filter (λ i. is_blocked table courses m i && not (has_begun m i)) (active m.events) ≡ map number (filter (λ k. is_blocked table since n k && not (has_begun n k)) (active n.events))
    victims_left =
        ap (filter (λ i. is_blocked table courses m i && not (has_begun m i))) (active-left number apart keep table courses since m n are)
        ∙ filter_each number (λ i. is_blocked table courses m i && not (has_begun m i)) (λ k. is_blocked table since n k && not (has_begun n k)) (active n.events)
        (λ k among. ap (λ t. t && not (has_begun m (number k))) (blocked_in k among) ∙ ap (λ t. is_blocked table since n k && not t) (are.begun k (goes_in k among)))

    victim_step : (xs : List ℕ) (s t : Bool) → s ≡ t → (if s then greatest (map number xs) else None) ≡ option_map number (if t then greatest xs else None)
    victim_step xs s true same = ap (λ t. if t then greatest (map number xs) else None) same ∙ greatest-by number apart order xs
    victim_step xs s false same = ap (λ t. if t then greatest (map number xs) else None) same

    pub victim-left : victim_of table courses m ≡ option_map number (victim_of table since n)
    victim-left =
        ap (λ is. if is_stalled table courses m then greatest is else None) victims_left
        ∙ victim_step (filter (λ k. is_blocked table since n k && not (has_begun n k)) (active n.events)) (is_stalled table courses m) (is_stalled table since n) stalled-left
