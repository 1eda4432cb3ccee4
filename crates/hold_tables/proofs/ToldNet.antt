-- What the rows of net entries tell stays true as the tables change.
use Rattle.std.proofs.Common.{◌≡◌, ◌≢◌, ◌⊎◌, inl, inr, ◌<◌, ℕ, zero, suc, Bool, true, false, ◌||◌, ◌&&◌, if◌then◌else◌, List, [], ◌∷◌, ◌++◌, length, take, Some, None, IfSome, sym, refl, ap, ◌∙◌, subst, arith, get_or-set_same, get_or-set_other}
use Rattle.std.specs.Prelude.{nat_eq, nat_lt, slice_index_or, slice_set}
use Rattle.std.proofs.lemmas.Bool.{eq-eqb, eqb-true, eqb-false, false≢true, ltb-false, ltb-true, or_cases, or_left, or_right}
use Rattle.std.proofs.lemmas.List.{get_or_past, length-set, take_all}
use Rattle.std.proofs.lemmas.List.Folds.{list_any-append}
use Rattle.process_tree.specs.declared.entry.Entry.{Entry}
use Rattle.process_tree.specs.Conflicts.{Table}
use Rattle.process_tree.specs.Order.{Each}
use Rattle.schedule_model.specs.Histories.{of_process}
use Rattle.bit_rows.specs.Cells.{cell}
use Rattle.hold_tables.specs.Changes.{can_come, with_running}
use Rattle.hold_tables.specs.Kept.{AreTidy, IsKnown, IsTidy, are_numbered}
use Rattle.hold_tables.specs.Operations.{IsColumnTaken, IsToldAt, KeepOps, TellRows, has_row, net_ops, ops_of, row_of}
use Rattle.hold_tables.specs.Places.{place_of}
use Rattle.hold_tables.specs.Tables.{OpenProcess, Tables, has_number, holds_nothing, numbered}
use Rattle.hold_tables.proofs.BesideRows.{each_row}
use Rattle.hold_tables.proofs.Opening.{none_of_closed, other_processes, others, same_of_others}
use Rattle.hold_tables.proofs.OthersSame.{SameElsewhere}
use Rattle.hold_tables.proofs.Effects.{few_own}
use Rattle.hold_tables.proofs.Entries.{one_more}
use Rattle.hold_tables.proofs.LastAway.{none_own}
use Rattle.hold_tables.proofs.Places.{at_place, each_place, place-is}
use Rattle.hold_tables.proofs.Tidy.{each_numbered, tables}
use Rattle.hold_tables.proofs.Told.{each-filter, known_entries, less_told, more_told, nobody, rows_told, same_there}

none_first : {A : Type 0} (xs : List A) → take 0 xs ≡ []
none_first [] = refl
none_first (x ∷ xs) = refl

net_nobody : (net : List Entry) → net_ops net nobody ≡ []
net_nobody net = ap ops_of (none_first (of_process 0 net))

-- a change that leaves what a process has there leaves what is told
pub rows_kept : (g : OpenProcess → List ℕ) (rows : List OpenProcess) (at : ℕ) (x before : OpenProcess) (bits : List (List Bool)) → at < length rows → before ≡ slice_index_or rows at before → g x ≡ g before
    → TellRows g rows bits → TellRows g (slice_set rows at x) bits
rows_kept g rows at x before bits within was same tells = record { count = tells.count; tell = λ k p. tells.tell k p ∙ by k p (nat_eq p at) refl }
  where
    by : (k p : ℕ) (t : Bool) → nat_eq p at ≡ t → has_row k (g (slice_index_or rows p nobody)) ≡ has_row k (g (slice_index_or (slice_set rows at x) p nobody))
    by k p true is =
        let here = eqb-true p at is in
        ap (λ n. has_row k (g (slice_index_or rows n nobody))) here
        ∙ ap (λ r. has_row k (g r)) (same_there rows at before within ∙ sym was) ∙ ap (has_row k) (sym same)
        ∙ ap (λ r. has_row k (g r)) (sym (get_or-set_same rows at x nobody within))
        ∙ ap (λ n. has_row k (g (slice_index_or (slice_set rows at x) n nobody))) (sym here)
    by k p false is = ap (λ r. has_row k (g r)) (sym (get_or-set_other rows at p x nobody (eqb-false p at is)))

-- the net of the others stays
pub net_elsewhere : (i : ℕ) (net after : List Entry) (rows : List OpenProcess) → are_numbered rows ≡ true → SameElsewhere i net after
    → (p : ℕ) → p ≢ place_of i rows → net_ops after (slice_index_or rows p nobody) ≡ net_ops net (slice_index_or rows p nobody)
net_elsewhere i net after rows once same p other = by (nat_lt p (length rows)) (nat_eq (slice_index_or rows p nobody).process i) refl refl
  where
    by : (s t : Bool) → nat_lt p (length rows) ≡ s → nat_eq (slice_index_or rows p nobody).process i ≡ t
        → net_ops after (slice_index_or rows p nobody) ≡ net_ops net (slice_index_or rows p nobody)
    by s false there is = ap (λ es. ops_of (take (slice_index_or rows p nobody).steps es)) (same (slice_index_or rows p nobody).process is)
    by true true there is = absurd (other (place-is i rows p nobody once (ltb-true p (length rows) there) (eqb-true (slice_index_or rows p nobody).process i is)))
    by false true there is = rw (get_or_past rows p nobody (ltb-false p (length rows) there)) (net_nobody after ∙ sym (net_nobody net))

-- no process has more net entries than its plan has steps
whole_net : (table : Table) (net : List Entry) (r : OpenProcess) → IsTidy table net r → net_ops net r ≡ ops_of (of_process r.process net)
whole_net table net r tidy = ap ops_of (take_all r.steps (of_process r.process net) (few_own table (of_process r.process net) r tidy))

pub whole_at : (table : Table) (net : List Entry) (rows : List OpenProcess) (at : ℕ) (x : OpenProcess) → at < length rows → Each (IsTidy table net) (slice_set rows at x)
    → net_ops net x ≡ ops_of (of_process x.process net)
whole_at table net rows at x within each =
    whole_net table net x
    (subst (IsTidy table net) (get_or-set_same rows at x nobody within)
    (each_place (IsTidy table net) (slice_set rows at x) at nobody (let same = length-set rows at x in omega (arith, same, within)) each))

-- a step more of the process at a place
pub net_done : (table : Table) (net : List Entry) (rows : List OpenProcess) (at : ℕ) (x before : OpenProcess) (e : Entry) (old new : List (List Bool)) → at < length rows
    → before ≡ slice_index_or rows at before → x ≡ with_running None before → e.process ≡ before.process → Each (IsTidy table net) rows → Each (IsTidy table (net ++ e ∷ [])) (slice_set rows at x)
    → TellRows (net_ops net) rows old → length new ≡ 257 → ((k p : ℕ) → cell new k p ≡ ((nat_eq p at && nat_eq (row_of e.op) k) || cell old k p))
    → ((p : ℕ) → p ≢ at → net_ops (net ++ e ∷ []) (slice_index_or rows p nobody) ≡ net_ops net (slice_index_or rows p nobody)) → TellRows (net_ops (net ++ e ∷ [])) (slice_set rows at x) new
net_done table net rows at x before e old new within was is own each after tells count adds same =
    rows_told (net_ops net) (net_ops (net ++ e ∷ [])) rows at x old new within tells (record { count = count ∙ sym tells.count; tell = λ k p. adds k p ∙ by k p (nat_eq p at) refl }) same
  where
    there : net_ops net (slice_index_or rows at nobody) ≡ ops_of (of_process before.process net)
    there =
        ap (net_ops net) (same_there rows at before within ∙ sym was)
        ∙ whole_net table net before (subst (IsTidy table net) (same_there rows at before within ∙ sym was) (each_place (IsTidy table net) rows at nobody within each))

    now : net_ops (net ++ e ∷ []) x ≡ ops_of (of_process before.process net ++ e ∷ [])
    now =
        whole_at table (net ++ e ∷ []) rows at x within after
        ∙ ap (λ (r : OpenProcess). ops_of (of_process r.process (net ++ e ∷ []))) is ∙ ap ops_of (one_more before.process net e own)

    ops-append : (xs : List Entry) → ops_of (xs ++ e ∷ []) ≡ ops_of xs ++ e.op ∷ []
    ops-append [] = refl
    ops-append (y ∷ xs) = ap (y.op ∷◌) (ops-append xs)

    swapped : (a b : Bool) → (a || b) ≡ (b || (a || false))
    swapped true true = refl
    swapped true false = refl
    swapped false true = refl
    swapped false false = refl

    by : (k p : ℕ) (t : Bool) → nat_eq p at ≡ t → ((t && nat_eq (row_of e.op) k) || cell old k p) ≡ (if t then has_row k (net_ops (net ++ e ∷ []) x) else cell old k p)
    by k p true here =
        ap (nat_eq (row_of e.op) k ||◌) (tells.tell k p ∙ ap (λ n. has_row k (net_ops net (slice_index_or rows n nobody))) (eqb-true p at here) ∙ ap (has_row k) there)
        ∙ swapped (nat_eq (row_of e.op) k) (has_row k (ops_of (of_process before.process net)))
        ∙ sym (ap (has_row k) (now ∙ ops-append (of_process before.process net)) ∙ list_any-append (λ (op : ℕ). nat_eq (row_of op) k) (ops_of (of_process before.process net)) (e.op ∷ []))
    by k p false here = refl

-- one less
pub net_undone : (table : Table) (net after lent : List Entry) (rows : List OpenProcess) (at : ℕ) (x : OpenProcess) (i : ℕ) (old new : List (List Bool)) → at < length rows → lent ≡ after → x.process ≡ i
    → Each (IsTidy table after) (slice_set rows at x) → TellRows (net_ops net) rows old → IsToldAt at (ops_of (of_process i lent)) old new
    → ((p : ℕ) → p ≢ at → net_ops after (slice_index_or rows p nobody) ≡ net_ops net (slice_index_or rows p nobody)) → TellRows (net_ops after) (slice_set rows at x) new
net_undone table net after lent rows at x i old new within lent_is own each tells told same =
    rows_told (net_ops net) (net_ops after) rows at x old new within tells
    (subst (λ ops. IsToldAt at ops old new)
    (ap (λ (es : List Entry). ops_of (of_process i es)) lent_is ∙ ap (λ n. ops_of (of_process n after)) (sym own) ∙ sym (whole_at table after rows at x within each)) told) same

-- one opens, and one is dropped
pub net_opened : (i steps : ℕ) (table : Table) (net : List Entry) (rows : List OpenProcess) (bits : List (List Bool)) → has_number i rows ≡ false → AreTidy (tables table net rows)
    → TellRows (net_ops net) rows bits → TellRows (net_ops net) (rows ++ holds_nothing i steps ∷ []) bits
net_opened i steps table net rows bits closed tidy tells =
    more_told (net_ops net) rows i steps bits (ap (λ es. ops_of (take steps es)) (none_own i net (none_of_closed i rows net closed tidy.of_open)) ∙ no_steps steps ∙ sym (net_nobody net)) tells
  where
    no_steps : (n : ℕ) → ops_of (take n []) ≡ []
    no_steps zero = refl
    no_steps (suc n) = refl

pub net_dropped : (i : ℕ) (net : List Entry) (rows : List OpenProcess) (old new : List (List Bool)) → are_numbered rows ≡ true → has_number i rows ≡ true → TellRows (net_ops net) rows old
    → IsColumnTaken (place_of i rows) old new → TellRows (net_ops (others i net)) (other_processes i rows) new
net_dropped i net rows old new once has tells taken =
    less_told (net_ops net) (net_ops (others i net)) i rows old new once has tells taken (net_elsewhere i net (others i net) rows once (λ k other. same_of_others i k net other))

-- an operation of the net is one of an open process
op_of_open : (rows : List OpenProcess) (k : ℕ) (net : List Entry) → Each (λ e. has_number e.process rows ≡ true) net → has_row k (ops_of net) ≡ true
    → (i : ℕ) × (has_number i rows ≡ true) × (has_row k (ops_of (of_process i net)) ≡ true)
op_of_open rows k [] each is = absurd (false≢true is)
op_of_open rows k (e ∷ net) each is = by (or_cases (nat_eq (row_of e.op) k) (has_row k (ops_of net)) is) (op_of_open rows k net each.1)
  where
    still : (i : ℕ) (b : Bool) → has_row k (ops_of (of_process i net)) ≡ true → has_row k (ops_of (if b then e ∷ of_process i net else of_process i net)) ≡ true
    still i true there = or_right (nat_eq (row_of e.op) k) (has_row k (ops_of (of_process i net))) there
    still i false there = there

    by : (nat_eq (row_of e.op) k ≡ true) ⊎ (has_row k (ops_of net) ≡ true) → (has_row k (ops_of net) ≡ true → (i : ℕ) × (has_number i rows ≡ true) × (has_row k (ops_of (of_process i net)) ≡ true))
        → (i : ℕ) × (has_number i rows ≡ true) × (has_row k (ops_of (of_process i (e ∷ net))) ≡ true)
    by (inl here) rest = (
      e.process,
      each.0,
      ap (λ b. has_row k (ops_of (if b then e ∷ of_process e.process net else of_process e.process net))) (eq-eqb e.process e.process refl)
          ∙ or_left (nat_eq (row_of e.op) k) (has_row k (ops_of (of_process e.process net))) here,
    )
    by (inr later) rest = let (i, has, there) = rest later in (i, has, still i (nat_eq e.process i) there)

each-take : {A : Type 0} (P : A → Type 0) (n : ℕ) (xs : List A) → Each P xs → Each P (take n xs)
each-take P zero [] each = tt
each-take P zero (x ∷ xs) each = tt
each-take P (suc n) [] each = tt
each-take P (suc n) (x ∷ xs) each = (each.0, each-take P n xs each.1)

-- so the rows have all operations of the net, and others of none
pub net_kept : (t : Tables) → AreTidy t → (bits : List (List Bool)) → TellRows (net_ops t.net) t.processes bits → KeepOps t.conflicts (ops_of t.net) bits
net_kept t tidy bits tells = record {
  count = tells.count;
  covers = λ k is.
      let (i, has, there) = op_of_open t.processes k t.net tidy.of_open is in
      let own = each_numbered (IsTidy t.conflicts t.net) i t.processes has tidy.tidy in
      let row = at_place i t.processes nobody has in (
        place_of i t.processes,
        tells.tell k (place_of i t.processes) ∙ ap (λ r. has_row k (net_ops t.net r)) row
            ∙ ap (has_row k) (whole_net t.conflicts t.net (numbered i t.processes) own.0) ∙ ap (λ n. has_row k (ops_of (of_process n t.net))) own.1 ∙ there,
      );
  known = λ k p is.
      each_row t.conflicts k (net_ops t.net (slice_index_or t.processes p nobody))
      (known_entries t.conflicts (take (slice_index_or t.processes p nobody).steps (of_process (slice_index_or t.processes p nobody).process t.net))
      (each-take (IsKnown t.conflicts) (slice_index_or t.processes p nobody).steps (of_process (slice_index_or t.processes p nobody).process t.net)
      (each-filter (IsKnown t.conflicts) (λ e. nat_eq e.process (slice_index_or t.processes p nobody).process) t.net tidy.known)))
      (sym (tells.tell k p) ∙ is);
}

-- over what was lent
pub net_kept_of : (table : Table) (net lent : List Entry) (rows : List OpenProcess) (bits : List (List Bool)) → AreTidy (tables table net rows) → TellRows (net_ops net) rows bits → lent ≡ net
    → KeepOps table (ops_of lent) bits
net_kept_of table net lent rows bits tidy tells same = subst (λ (es : List Entry). KeepOps table (ops_of es) bits) (sym same) (net_kept (tables table net rows) tidy bits tells)

-- what is under way in a process is its own
pub own_running : (i : ℕ) (table : Table) (net : List Entry) (rows : List OpenProcess) (e : Entry) → AreTidy (tables table net rows) → has_number i rows ≡ true → (numbered i rows).running ≡ Some e
    → e.process ≡ (numbered i rows).process
own_running i table net rows e tidy has under =
    let (own, is_own) = each_numbered (IsTidy table net) i rows has tidy.tidy in
    let r = numbered i rows in
    (subst (λ o. IfSome o (λ (x : Entry). (x.process ≡ r.process) × (can_come (of_process r.process net) r x ≡ true) × IsKnown table x)) under own.running).0
