-- The last pending entry is the last net entry whose process has something to undo.
use Rattle.std.proofs.Common.{◌≡◌, ℕ, zero, suc, ◌+◌, ◌<◌, Bool, true, false, not, eqb, ◌&&◌, if◌then◌else◌, List, [], ◌∷◌, ◌++◌, length, map, filter, take, drop, slice_index_or, Option, Some, None, sym, refl, ap, ◌∙◌, add-one, append-nil, append_assoc, arith}
use Rattle.std.specs.List.{list_any}
use Rattle.std.proofs.Math.Seq.{take-suc}
use Rattle.std.proofs.lemmas.Bool.{eqb-true, eq-eqb, false≢true, ne_eqb}
use Rattle.std.proofs.lemmas.List.{map-append}
use Rattle.std.proofs.lemmas.List.Elements.{filter-append}
use Rattle.std.proofs.lemmas.Option.{none-some}
use Rattle.process_tree.specs.declared.entry.Entry.{Entry}
use Rattle.process_tree.specs.Conflicts.{Table}
use Rattle.process_tree.specs.Order.{Each}
use Rattle.process_tree.specs.Shape.{last_of}
use Rattle.process_tree.proofs.Every.{Each-weaker}
use Rattle.schedule_model.specs.Course.{Course}
use Rattle.schedule_model.specs.Histories.{active, is_active, is_in, net, net_of, of_process, same_step}
use Rattle.schedule_model.specs.Holdings.{holders}
use Rattle.schedule_model.proofs.Behind.{same_step-itself}
use Rattle.schedule_model.proofs.Snoc.{of_process-append}
use Rattle.machine_model.specs.Moment.{Moment}
use Rattle.machine_model.specs.Progress.{staying}
use Rattle.machine_model.specs.State.{holdings, is_pending, pending_of, progress, undo_next}
use Rattle.machine_model.proofs.LastElements.{any_last, last_of-push, none_pass}
use Rattle.machine_model.proofs.OpenHoldings.{holders-active, holds-active}
use Rattle.hold_tables.specs.Tables.{Tables, kept_of}
use Rattle.core_state.specs.OpenTables.{last_pending, row_of, tables_of}
use Rattle.core_state.proofs.MayStand.{numbered_map}

-- the last of a list, or else this
abbrev or_this : ℕ → Option ℕ → Option ℕ
or_this x None = Some x
or_this x (Some k) = Some k

or_twice : (x y : ℕ) (o : Option ℕ) → or_this x (or_this y o) ≡ or_this y o
or_twice x y None = refl
or_twice x y (Some k) = refl

last_cons : (x : ℕ) (xs : List ℕ) → last_of (x ∷ xs) ≡ or_this x (last_of xs)
last_cons x [] = refl
last_cons x (y ∷ xs) = let rest = last_cons y xs in rest ∙ (sym (or_twice x y (last_of xs)) ∙ ap (or_this x) (sym rest))

-- the process of the last of these entries that passes
abbrev last_by : (Entry → Bool) → List Entry → Option ℕ
last_by p es = last_of (map (λ (e : Entry). e.process) (filter p es))

last_step : (p : Entry → Bool) (x : Entry) (es : List Entry) (t : Bool) → p x ≡ t → last_by p (x ∷ es) ≡ (if t then or_this x.process (last_by p es) else last_by p es)
last_step p x es true is = ap (λ t. last_of (map (λ (e : Entry). e.process) (if t then x ∷ filter p es else filter p es))) is ∙ last_cons x.process (map (λ (e : Entry). e.process) (filter p es))
last_step p x es false is = ap (λ t. last_of (map (λ (e : Entry). e.process) (if t then x ∷ filter p es else filter p es))) is

or_some : (x k : ℕ) (t : Bool) → (if t then or_this x (Some k) else Some k) ≡ Some k
or_some x k true = refl
or_some x k false = refl

none_last : (es : List Entry) → last_of (map (λ (e : Entry). e.process) es) ≡ None → es ≡ []
none_last [] is = refl
none_last (e ∷ es) is = absurd (some (last_of (map (λ (x : Entry). x.process) es)) (sym (last_cons e.process (map (λ (x : Entry). x.process) es)) ∙ is))
  where
    some : (o : Option ℕ) → or_this e.process o ≡ None → ⊥
    some None is' = none-some e.process (sym is')
    some (Some k) is' = none-some k (sym is')

-- two tests have their last at one process where they agree on each entry behind which none passes
module _ (p q : Entry → Bool) (all : List Entry) (here : (front : List Entry) (x : Entry) (rest : List Entry) → all ≡ front ++ x ∷ rest → Each (λ y. q y ≡ false) rest → p x ≡ q x) where
  same_last : (front rest : List Entry) → all ≡ front ++ rest → last_by p rest ≡ last_by q rest
  same_last front [] is = refl
  same_last front (x ∷ rest) is = by_rest (last_by q rest) refl (same_last (front ++ x ∷ []) rest (is ∙ sym (append_assoc front (x ∷ []) rest)))
    where
      by_rest : (o : Option ℕ) → last_by q rest ≡ o → last_by p rest ≡ last_by q rest → last_by p (x ∷ rest) ≡ last_by q (x ∷ rest)
      by_rest (Some k) at same =
          last_step p x rest (p x) refl ∙ (ap (λ o. if p x then or_this x.process o else o) (same ∙ at) ∙ (or_some x.process k (p x)
          ∙ sym (last_step q x rest (q x) refl ∙ (ap (λ o. if q x then or_this x.process o else o) at ∙ or_some x.process k (q x)))))
      by_rest None at same =
          last_step p x rest (p x) refl ∙ (ap (λ t. if t then or_this x.process (last_by p rest) else last_by p rest) (here front x rest is (none_pass q rest (none_last (filter q rest) at)))
          ∙ (ap (λ o. if q x then or_this x.process o else o) same ∙ sym (last_step q x rest (q x) refl)))

no_more : (k : ℕ) (y : Entry) (ys : List Entry) → drop k [] ≡ y ∷ ys → ⊥
no_more zero y ys is = let many = ap length is in omega arith
no_more (suc k) y ys is = let many = ap length is in omega arith

-- the last of a list is among those behind a place, where there are any
last_stays : (p : Entry → Bool) (k : ℕ) (xs : List Entry) (x y : Entry) (ys : List Entry) → p x ≡ true → drop k (xs ++ x ∷ []) ≡ y ∷ ys → list_any p (drop k (xs ++ x ∷ [])) ≡ true
last_stays p zero xs x y ys is at = any_last p xs x is
last_stays p (suc k) [] x y ys is at = absurd (no_more k y ys at)
last_stays p (suc k) (w ∷ xs) x y ys is at = last_stays p k xs x y ys is at

none_of : (p : Entry → Bool) (es : List Entry) → Each (λ e. p e ≡ false) es → filter p es ≡ []
none_of p [] each = refl
none_of p (e ∷ es) each = ap (λ t. if t then e ∷ filter p es else filter p es) each.0 ∙ none_of p es each.1

are_some : (n : ℕ) → not (eqb (suc n) 0) ≡ true
are_some n = ap not (ne_eqb (suc n) 0 (λ none. omega arith))

module _ (courses : List Course) (m : Moment) where
  -- process i is active and has something to undo
  abbrev has_pending : ℕ → Bool
  has_pending i = is_active m.events i && not (eqb (length (pending_of courses m i)) 0)

  module _ (front : List Entry) (x : Entry) (rest : List Entry) (is : net m.events ≡ front ++ x ∷ rest) (none : Each (λ (y : Entry). has_pending y.process ≡ false) rest) where
    -- it is the last one of its process
    its_last : has_pending x.process ≡ true → net_of m.events x.process ≡ of_process x.process front ++ x ∷ []
    its_last has =
        ap (of_process x.process) is ∙ (of_process-append x.process front (x ∷ rest)
        ∙ ap (λ es. of_process x.process front ++ es) (ap (λ t. if t then x ∷ of_process x.process rest else of_process x.process rest) (eq-eqb x.process x.process refl)
        ∙ ap (λ es. x ∷ es) (none_of (λ (e : Entry). eqb e.process x.process) rest (Each-weaker (λ (y : Entry). has_pending y.process ≡ false) (λ y. eqb y.process x.process ≡ false) (λ y not'. other y not' (eqb y.process x.process) refl) rest none))))
      where
        other : (y : Entry) → has_pending y.process ≡ false → (t : Bool) → eqb y.process x.process ≡ t → eqb y.process x.process ≡ false
        other y not' false at = at
        other y not' true at = absurd (false≢true (sym not' ∙ (ap has_pending (eqb-true y.process x.process at) ∙ has)))

    by_pending : (ps : List Entry) → pending_of courses m x.process ≡ ps → is_active m.events x.process ≡ true → list_any (same_step x) (pending_of courses m x.process) ≡ not (eqb (length (pending_of courses m x.process)) 0)
    by_pending [] at active' = ap (λ ps. list_any (same_step x) ps) at ∙ sym (ap (λ (ps : List Entry). not (eqb (length ps) 0)) at)
    by_pending (y ∷ ys) at active' =
        let has : has_pending x.process ≡ true = ap (λ t. t && not (eqb (length (pending_of courses m x.process)) 0)) active' ∙ (ap (λ (ps : List Entry). not (eqb (length ps) 0)) at ∙ are_some (length ys)) in
        let last = its_last has in
        let k = staying (progress courses m x.process) in
        ap (λ es. list_any (same_step x) (drop k es)) last
        ∙ (last_stays (same_step x) k (of_process x.process front) x y ys (same_step-itself x) (ap (drop k) (sym last) ∙ at)
        ∙ sym (ap (λ (ps : List Entry). not (eqb (length ps) 0)) at ∙ are_some (length ys)))

    -- it is pending exactly where its process has something to undo
    pending_here : (t : Bool) → is_active m.events x.process ≡ t → is_pending courses m x ≡ has_pending x.process
    pending_here true active' =
        ap (λ t. t && list_any (same_step x) (pending_of courses m x.process)) active'
        ∙ (by_pending (pending_of courses m x.process) refl active' ∙ sym (ap (λ t. t && not (eqb (length (pending_of courses m x.process)) 0)) active'))
    pending_here false passive =
        ap (λ t. t && list_any (same_step x) (pending_of courses m x.process)) passive ∙ sym (ap (λ t. t && not (eqb (length (pending_of courses m x.process)) 0)) passive)

  undo_next_is : undo_next courses m ≡ last_by (λ (e : Entry). has_pending e.process) (net m.events)
  undo_next_is =
      same_last (is_pending courses m) (λ (e : Entry). has_pending e.process) (net m.events) (λ front x rest is none. pending_here front x rest is none (is_active m.events x.process) refl) [] (net m.events) refl

  module _ (conflicts : Table) where
    abbrev listed : Entry → Bool
    listed e = is_in e.process (holders (holdings courses m))

    abbrev in_row : Entry → Bool
    in_row e = not (eqb (kept_of (tables_of conflicts courses m) e.process).pending 0)

    -- the rows tell it of the active processes
    in_tables : (e : Entry) (t : Bool) → listed e ≡ t → has_pending e.process ≡ (if t then in_row e else false)
    in_tables e true is =
        ap (λ t. t && not (eqb (length (pending_of courses m e.process)) 0)) (sym (holds-active courses m e.process) ∙ is)
        ∙ sym (ap (λ r. not (eqb r.pending 0)) (numbered_map (row_of courses m) e.process (active m.events) (λ k. refl) (ap (is_in e.process) (sym (holders-active courses m)) ∙ is)))
    in_tables e false is = ap (λ t. t && not (eqb (length (pending_of courses m e.process)) 0)) (sym (holds-active courses m e.process) ∙ is)

    rows_tell : (es : List Entry) → filter (λ (e : Entry). has_pending e.process) es ≡ filter in_row (filter listed es)
    rows_tell [] = refl
    rows_tell (e ∷ es) = by_listed (listed e) refl (rows_tell es)
      where
        by_listed : (t : Bool) → listed e ≡ t → filter (λ (x : Entry). has_pending x.process) es ≡ filter in_row (filter listed es)
            → filter (λ (x : Entry). has_pending x.process) (e ∷ es) ≡ filter in_row (filter listed (e ∷ es))
        by_listed true is same =
            ap (λ t. if t then e ∷ filter (λ (x : Entry). has_pending x.process) es else filter (λ (x : Entry). has_pending x.process) es) (in_tables e true is)
            ∙ (ap (λ ys. if in_row e then e ∷ ys else ys) same ∙ sym (ap (λ t. filter in_row (if t then e ∷ filter listed es else filter listed es)) is))
        by_listed false is same =
            ap (λ t. if t then e ∷ filter (λ (x : Entry). has_pending x.process) es else filter (λ (x : Entry). has_pending x.process) es) (in_tables e false is)
            ∙ (same ∙ sym (ap (λ t. filter in_row (if t then e ∷ filter listed es else filter listed es)) is))

    -- so the tables tell whose undo comes next
    pub undo_in_tables : undo_next courses m ≡ last_pending (tables_of conflicts courses m) (tables_of conflicts courses m).net
    undo_in_tables = undo_next_is ∙ ap (λ es. last_of (map (λ (e : Entry). e.process) es)) (rows_tell (net m.events))

-- one entry at the end
module _ (t : Tables) (es : List Entry) (n : ℕ) (e : Entry) (within : n < length es) (at : e ≡ slice_index_or es n e) where
  longer : take (n + 1) es ≡ take n es ++ e ∷ []
  longer = ap (λ k. take k es) (add-one n) ∙ (take-suc es n e within ∙ ap (λ x. take n es ++ x ∷ []) (sym at))

  told : (c : Bool) → not (eqb (kept_of t e.process).pending 0) ≡ c → last_pending t (take (n + 1) es) ≡ (if c then Some e.process else last_pending t (take n es))
  told c is =
      let p : Entry → Bool = λ (x : Entry). not (eqb (kept_of t x.process).pending 0) in
      ap (last_pending t) longer ∙ (ap (λ xs. last_of (map (λ (x : Entry). x.process) xs)) (filter-append p (take n es) (e ∷ []))
      ∙ (ap (λ b. last_of (map (λ (x : Entry). x.process) (filter p (take n es) ++ (if b then e ∷ [] else [])))) is ∙ by_end c))
    where
      by_end : (b : Bool) → last_of (map (λ (x : Entry). x.process) (filter (λ (x : Entry). not (eqb (kept_of t x.process).pending 0)) (take n es) ++ (if b then e ∷ [] else []))) ≡ (if b then Some e.process else last_pending t (take n es))
      by_end true = ap last_of (map-append (λ (x : Entry). x.process) (filter (λ (x : Entry). not (eqb (kept_of t x.process).pending 0)) (take n es)) (e ∷ []))
          ∙ last_of-push (map (λ (x : Entry). x.process) (filter (λ (x : Entry). not (eqb (kept_of t x.process).pending 0)) (take n es))) e.process
      by_end false = ap (λ xs. last_of (map (λ (x : Entry). x.process) xs)) (append-nil (filter (λ (x : Entry). not (eqb (kept_of t x.process).pending 0)) (take n es)))

  pub found_last : ((kept_of t e.process).pending ≡ 0 → ⊥) → last_pending t (take (n + 1) es) ≡ Some e.process
  found_last some = told true (ap not (ne_eqb (kept_of t e.process).pending 0 some))

  pub passed_last : (kept_of t e.process).pending ≡ 0 → last_pending t (take (n + 1) es) ≡ last_pending t (take n es)
  passed_last none = told false (ap not (eq-eqb (kept_of t e.process).pending 0 none))
