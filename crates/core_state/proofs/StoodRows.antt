-- With one entry more that stands, the tables are those of the longer list.
use Rattle.std.proofs.Common.{◌≡◌, ℕ, ◌+◌, ◌≤◌, Bool, true, false, eqb, if◌then◌else◌, ◌||◌, List, [], ◌∷◌, ◌++◌, length, map, filter, take, slice_index_or, Some, None, sym, refl, ap, ◌∙◌, append-nil, length-append, arith}
use Rattle.std.proofs.lemmas.Bool.{eqb-true, eq-eqb, ne_eqb, or_left, or_right, false≢true}
use Rattle.std.proofs.lemmas.List.{length-map, map-append, take-append-le}
use Rattle.std.proofs.lemmas.List.Elements.{filter-append}
use Rattle.process_tree.specs.declared.entry.Entry.{Entry}
use Rattle.process_tree.specs.declared.plan.Plan.{Plan}
use Rattle.process_tree.specs.Conflicts.{Table}
use Rattle.process_tree.specs.Recovery.{forward}
use Rattle.process_tree.specs.Shape.{Shape, branch_to, commits, fixed_len, shape_of, last_after, commits_after}
use Rattle.process_tree.proofs.Fixed.{fixed_more, fixed_le, commits_there}
use Rattle.schedule_model.specs.Course.{Course, course, course_of, shape}
use Rattle.schedule_model.specs.Histories.{doing, is_in, of_process, steps_of}
use Rattle.schedule_model.proofs.Snoc.{of_process-append}
use Rattle.instance_state.proofs.Lists.{take_all}
use Rattle.machine_model.proofs.RunningNext.{flipped}
use Rattle.machine_model.proofs.OpenHoldings.{filter-kept}
use Rattle.machine_model.proofs.TidyMoments.{every}
use Rattle.hold_tables.specs.Tables.{OpenProcess, Tables, has_number, is_open, kept_of}
use Rattle.hold_tables.specs.Changes.{all_fixed, change_numbered, changed, net_after, run, took_effect, with_fixed, with_reserved, with_running, without_last}
use Rattle.core_state.specs.OpenTables.{planned_behind, planned_of, row_at, planned_step, stood, tables_at}
use Rattle.core_state.proofs.RowChanges.{run_row}

-- no number stands twice
abbrev pub Apart : List ℕ → Type 0
Apart [] = Unit {0}
Apart (i ∷ is) = (is_in i is ≡ false) × Apart is

-- two changes of one row are one
pub changed_twice : (f g : OpenProcess → OpenProcess) (i : ℕ) (rows : List OpenProcess) → ((r : OpenProcess) → (f r).process ≡ r.process)
    → change_numbered g i (change_numbered f i rows) ≡ change_numbered (λ r. g (f r)) i rows
changed_twice f g i [] keeps = refl
changed_twice f g i (r ∷ rows) keeps = by_first (eqb r.process i) refl (changed_twice f g i rows keeps)
  where
    by_first : (t : Bool) → eqb r.process i ≡ t → change_numbered g i (change_numbered f i rows) ≡ change_numbered (λ x. g (f x)) i rows
        → change_numbered g i (if t then f r ∷ rows else r ∷ change_numbered f i rows) ≡ (if t then g (f r) ∷ rows else r ∷ change_numbered (λ x. g (f x)) i rows)
    by_first true is later = ap (λ t. if t then g (f r) ∷ rows else f r ∷ change_numbered g i rows) (ap (λ k. eqb k i) (keeps r) ∙ is)
    by_first false is later = ap (λ t. if t then g r ∷ change_numbered f i rows else r ∷ change_numbered g i (change_numbered f i rows)) is ∙ ap (λ xs. r ∷ xs) later

pub same_rows : (g h : ℕ → OpenProcess) (is : List ℕ) → ((k : ℕ) → is_in k is ≡ true → g k ≡ h k) → map g is ≡ map h is
same_rows g h [] same = refl
same_rows g h (k ∷ is) same = ap (λ x. x ∷ map g is) (same k (ap (λ t. t || is_in k is) (eq-eqb k k refl))) ∙ ap (λ xs. h k ∷ xs) (same_rows g h is (λ j among. same j (or_in (eqb j k) (is_in j is) among)))
  where
    or_in : (a b : Bool) → b ≡ true → (a || b) ≡ true
    or_in true b is' = refl
    or_in false b is' = is'

-- a change of the row of process i, where the rows of the others stay
pub rows_changed : (f : OpenProcess → OpenProcess) (g h : ℕ → OpenProcess) (i : ℕ) (is : List ℕ) → Apart is → ((k : ℕ) → (g k).process ≡ k)
    → f (g i) ≡ h i → ((k : ℕ) → eqb k i ≡ false → g k ≡ h k) → is_in i is ≡ true → change_numbered f i (map g is) ≡ map h is
rows_changed f g h i [] apart named its others among = absurd (false≢true among)
rows_changed f g h i (k ∷ is) apart named its others among = by_first (eqb k i) refl (rows_changed f g h i is apart.1 named its others)
  where
    flip : (t : Bool) → eqb k i ≡ false → eqb i k ≡ t → eqb i k ≡ false
    flip false other is' = is'
    flip true other is' = absurd (false≢true (sym other ∙ eq-eqb k i (sym (eqb-true i k is'))))

    not_here : (j : ℕ) → eqb k i ≡ true → is_in j is ≡ true → (t : Bool) → eqb j i ≡ t → eqb j i ≡ false
    not_here j here among' false at = at
    not_here j here among' true at = absurd (false≢true (sym apart.0 ∙ (ap (λ x. is_in x is) (eqb-true k i here ∙ sym (eqb-true j i at)) ∙ among')))

    by_first : (t : Bool) → eqb k i ≡ t → (is_in i is ≡ true → change_numbered f i (map g is) ≡ map h is) → change_numbered f i (g k ∷ map g is) ≡ h k ∷ map h is
    by_first true here later =
        ap (λ t. if t then f (g k) ∷ map g is else g k ∷ change_numbered f i (map g is)) (ap (λ x. eqb x i) (named k) ∙ here)
        ∙ (ap (λ x. f (g x) ∷ map g is) (eqb-true k i here) ∙ (ap (λ x. x ∷ map g is) its ∙ (ap (λ x. h x ∷ map g is) (sym (eqb-true k i here))
        ∙ ap (λ xs. h k ∷ xs) (same_rows g h is (λ j among'. others j (not_here j here among' (eqb j i) refl))))))
    by_first false there later =
        ap (λ t. if t then f (g k) ∷ map g is else g k ∷ change_numbered f i (map g is)) (ap (λ x. eqb x i) (named k) ∙ there)
        ∙ (ap (λ x. x ∷ change_numbered f i (map g is)) (others k there) ∙ ap (λ xs. h k ∷ xs) (later (sym (ap (λ t. t || is_in i is) (flip (eqb i k) there refl)) ∙ among)))

-- Of the steps of one process.
module _ (t : Shape) (w : List ℕ) (b : ℕ) where
  -- a step that doesn't commit makes nothing be owed
  pub owes_same : commits_after t w b ≡ false → forward t (w ++ b ∷ []) ≡ forward t w
  owes_same other =
      let fixed = fixed_more t w b ∙ ap (λ c. if c then length w + 1 else fixed_len t w) other in
      ap (λ n. if eqb n 0 then [] else last_after t (take n (w ++ b ∷ []))) fixed
      ∙ ap (λ v. if eqb (fixed_len t w) 0 then [] else last_after t v) (take-append-le (fixed_len t w) w (b ∷ []) (fixed_le t w))

  -- a commit point makes owe what follows it
  pub owes_behind : commits_after t w b ≡ true → forward t (w ++ b ∷ []) ≡ last_after t (w ++ b ∷ [])
  owes_behind fixes =
      let fixed = fixed_more t w b ∙ ap (λ c. if c then length w + 1 else fixed_len t w) fixes in
      let whole = length-append w (b ∷ []) in
      let all : fixed_len t (w ++ b ∷ []) ≡ length (w ++ b ∷ []) = omega arith in
      ap (λ n. if eqb n 0 then [] else last_after t (take n (w ++ b ∷ []))) all
      ∙ (ap (λ v. if eqb (length (w ++ b ∷ [])) 0 then [] else last_after t v) (take_all (w ++ b ∷ []) (length (w ++ b ∷ [])) (omega arith)) ∙ some (length (w ++ b ∷ [])) (omega arith))
    where
      some : (n : ℕ) → 1 ≤ n → (if eqb n 0 then [] else last_after t (w ++ b ∷ [])) ≡ last_after t (w ++ b ∷ [])
      some n least = ap (λ c. if c then [] else last_after t (w ++ b ∷ [])) (ne_eqb n 0 (λ same. omega arith))

module _ (conflicts : Table) (courses : List Course) (is : List ℕ) (es : List Entry) (e : Entry) (p : Plan) (apart : Apart is) (among : is_in e.process is ≡ true)
    (plan : course courses e.process ≡ course_of p) (forward' : e.undo ≡ false) (on : branch_to (shape courses e.process) e.step ≡ steps_of (of_process e.process es)) where
  abbrev t : Tables
  t = tables_at conflicts courses is es

  abbrev i : ℕ
  i = e.process

  abbrev w : List ℕ
  w = steps_of (of_process e.process es)

  abbrev s : Shape
  s = shape courses e.process

  -- whoever is listed is open
  open_at : (ks : List ℕ) → is_in i ks ≡ true → has_number i (map (row_at courses es) ks) ≡ true
  open_at [] among' = absurd (false≢true among')
  open_at (k ∷ ks) among' = by_first (eqb i k) refl among' (open_at ks)
    where
      by_first : (c : Bool) → eqb i k ≡ c → (c || is_in i ks) ≡ true → (is_in i ks ≡ true → has_number i (map (row_at courses es) ks) ≡ true) → (eqb k i || has_number i (map (row_at courses es) ks)) ≡ true
      by_first true at listed later = or_left (eqb k i) (has_number i (map (row_at courses es) ks)) (eq-eqb k i (sym (eqb-true i k at)))
      by_first false at listed later = or_right (eqb k i) (has_number i (map (row_at courses es) ks)) (later listed)

  pub is_open_at : is_open t i ≡ true
  is_open_at = open_at is among

  -- it comes last
  net_is : net_after i (kept_of (run e t) i).running t.net ≡ filter (λ (x : Entry). is_in x.process is) (es ++ e ∷ [])
  net_is =
      ap (λ (r : OpenProcess). net_after i r.running t.net) (run_row e t is_open_at)
      ∙ (ap (λ u. if u then without_last i t.net else t.net ++ e ∷ []) forward'
      ∙ sym (filter-append (λ (x : Entry). is_in x.process is) es (e ∷ []) ∙ ap (λ c. t.net ++ (if c then e ∷ [] else [])) among))

  -- its entries
  own_more : of_process i (es ++ e ∷ []) ≡ of_process i es ++ e ∷ []
  own_more = of_process-append i es (e ∷ []) ∙ ap (λ c. of_process i es ++ (if c then e ∷ [] else [])) (eq-eqb i i refl)

  own_listed : of_process i (filter (λ (x : Entry). is_in x.process is) (es ++ e ∷ [])) ≡ of_process i (es ++ e ∷ [])
  own_listed = filter-kept (λ (x : Entry). eqb x.process i) (λ x. is_in x.process is) (es ++ e ∷ [])
      (every (λ (x : Entry). is_in x.process is ≡ false → eqb x.process i ≡ false) (es ++ e ∷ []) (λ x out. other x (eqb x.process i) out refl))
    where
      other : (x : Entry) (c : Bool) → is_in x.process is ≡ false → eqb x.process i ≡ c → eqb x.process i ≡ false
      other x false out at = at
      other x true out at = absurd (false≢true (sym out ∙ (ap (λ k. is_in k is) (eqb-true x.process i at) ∙ among)))

  own_count : length (of_process i (filter (λ (x : Entry). is_in x.process is) (es ++ e ∷ []))) ≡ length w + 1
  own_count =
      let a = ap length (own_listed ∙ own_more) in
      let b = length-append (of_process i es) (e ∷ []) in
      let c = length-map (of_process i es) (λ (x : Entry). x.step) in
      omega arith

  steps_more : steps_of (of_process i (es ++ e ∷ [])) ≡ w ++ e.step ∷ []
  steps_more = ap steps_of own_more ∙ map-append (λ (x : Entry). x.step) (of_process i es) (e ∷ [])

  -- the rows of others stay
  others_stay : (k : ℕ) → eqb k i ≡ false → row_at courses es k ≡ row_at courses (es ++ e ∷ []) k
  others_stay k other =
      let same : of_process k (es ++ e ∷ []) ≡ of_process k es =
      of_process-append k es (e ∷ []) ∙ (ap (λ c. of_process k es ++ (if c then e ∷ [] else [])) (flipped k i other) ∙ append-nil (of_process k es)) in
      ap (λ (xs : List Entry). record { process = k; steps = length (shape courses k).kinds; running = None; reserved = planned_of (map (doing courses k) (forward (shape courses k) (steps_of xs))); fixed = fixed_len (shape courses k) (steps_of xs); pending = 0 }) (sym same)

  -- its row, by what it owes and how many are fixed
  abbrev own_row : List (ℕ × ℕ × ℕ) → ℕ → OpenProcess
  own_row planned n = record { process = e.process; steps = length (shape courses e.process).kinds; running = None; reserved = planned; fixed = n; pending = 0 }

  own_after : row_at courses (es ++ e ∷ []) i ≡ own_row (planned_of (map (doing courses i) (forward s (w ++ e.step ∷ [])))) (fixed_len s (w ++ e.step ∷ []))
  own_after = ap (λ v. own_row (planned_of (map (doing courses i) (forward s v))) (fixed_len s v)) steps_more

  same_shape : s ≡ shape_of p.tree
  same_shape = ap (λ (c : Course). c.shape) plan

  abbrev effect_row : OpenProcess → OpenProcess
  effect_row r = with_running None (with_running (Some e) r)

  -- with another step
  leaving : commits (shape_of p.tree) e.step ≡ false → stood p e t ≡ tables_at conflicts courses is (es ++ e ∷ [])
  leaving none =
      let own : commits_after s w e.step ≡ false = commits_there s w e.step on ∙ (ap (λ x. commits x e.step) same_shape ∙ none) in
      let fixed = fixed_more s w e.step ∙ ap (λ c. if c then length w + 1 else fixed_len s w) own in
      let row : row_at courses es i ≡ row_at courses (es ++ e ∷ []) i =
      sym (own_after ∙ (ap (λ bs. own_row (planned_of (map (doing courses i) bs)) (fixed_len s (w ++ e.step ∷ []))) (owes_same s w e.step own) ∙ ap (own_row (planned_of (map (doing courses i) (forward s w)))) fixed)) in
      ap (λ c. if c then changed (with_reserved (planned_behind p e.step)) i (all_fixed i (took_effect i (run e t))) else took_effect i (run e t)) none
      ∙ (ap (λ ns. record { conflicts = conflicts; net = ns; processes = change_numbered (with_running None) i (change_numbered (with_running (Some e)) i (map (row_at courses es) is)) }) net_is
      ∙ ap (λ rs. record { conflicts = conflicts; net = filter (λ (x : Entry). is_in x.process is) (es ++ e ∷ []); processes = rs })
      (changed_twice (with_running (Some e)) (with_running None) i (map (row_at courses es) is) (λ r. refl)
      ∙ rows_changed effect_row (row_at courses es) (row_at courses (es ++ e ∷ [])) i is apart (λ k. refl) row others_stay among))

  planned_same : (bs : List ℕ) → planned_of (map (doing courses i) bs) ≡ map (planned_step p) bs
  planned_same [] = refl
  planned_same (b ∷ bs) = ap (λ (c : Course). (b, slice_index_or c.ops b 0, slice_index_or c.keys b 0) ∷ planned_of (map (doing courses i) bs)) plan ∙ ap (λ ps. planned_step p b ∷ ps) (planned_same bs)

  -- with a commit point
  fixing : commits (shape_of p.tree) e.step ≡ true → stood p e t ≡ tables_at conflicts courses is (es ++ e ∷ [])
  fixing fixes =
      let own : commits_after s w e.step ≡ true = commits_there s w e.step on ∙ (ap (λ x. commits x e.step) same_shape ∙ fixes) in
      let after = took_effect i (run e t) in
      let n = length (of_process i (filter (λ (x : Entry). is_in x.process is) (es ++ e ∷ []))) in
      let fixed : n ≡ fixed_len s (w ++ e.step ∷ []) = own_count ∙ sym (fixed_more s w e.step ∙ ap (λ c. if c then length w + 1 else fixed_len s w) own) in
      let planned : planned_behind p e.step ≡ planned_of (map (doing courses i) (forward s (w ++ e.step ∷ []))) =
      sym (planned_same (forward s (w ++ e.step ∷ [])) ∙ ap (map (planned_step p))
      (owes_behind s w e.step own ∙ (ap (λ v. last_after s (v ++ e.step ∷ [])) (sym on) ∙ ap (λ x. last_after x (branch_to x e.step ++ e.step ∷ [])) same_shape))) in
      let row : with_reserved (planned_behind p e.step) (with_fixed n (effect_row (row_at courses es i))) ≡ row_at courses (es ++ e ∷ []) i =
      ap (λ ps. own_row ps n) planned ∙ (ap (own_row (planned_of (map (doing courses i) (forward s (w ++ e.step ∷ []))))) fixed ∙ sym own_after) in
      let rows = map (row_at courses es) is in
      ap (λ c. if c then changed (with_reserved (planned_behind p e.step)) i (all_fixed i after) else after) fixes
      ∙ (ap (λ ns. record { conflicts = conflicts; net = ns; processes = change_numbered (with_reserved (planned_behind p e.step)) i (change_numbered (with_fixed (length (of_process i ns))) i (change_numbered (with_running None) i (change_numbered (with_running (Some e)) i rows))) }) net_is
      ∙ ap (λ rs. record { conflicts = conflicts; net = filter (λ (x : Entry). is_in x.process is) (es ++ e ∷ []); processes = rs })
      (ap (λ rs. change_numbered (with_reserved (planned_behind p e.step)) i (change_numbered (with_fixed n) i rs)) (changed_twice (with_running (Some e)) (with_running None) i rows (λ r. refl))
      ∙ (ap (change_numbered (with_reserved (planned_behind p e.step)) i) (changed_twice effect_row (with_fixed n) i rows (λ r. refl))
      ∙ (changed_twice (λ r. with_fixed n (effect_row r)) (with_reserved (planned_behind p e.step)) i rows (λ r. refl)
      ∙ rows_changed (λ r. with_reserved (planned_behind p e.step) (with_fixed n (effect_row r))) (row_at courses es) (row_at courses (es ++ e ∷ [])) i is apart (λ k. refl) row others_stay among))))

  pub stood_is : stood p e t ≡ tables_at conflicts courses is (es ++ e ∷ [])
  stood_is = by_kind (commits (shape_of p.tree) e.step) refl
    where
      by_kind : (c : Bool) → commits (shape_of p.tree) e.step ≡ c → stood p e t ≡ tables_at conflicts courses is (es ++ e ∷ [])
      by_kind true is' = fixing is'
      by_kind false is' = leaving is'
