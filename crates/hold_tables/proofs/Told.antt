-- What the rows of bits tell stays true as the tables change.
use Rattle.std.proofs.Common.{◌≡◌, ◌≢◌, ◌<◌, ◌≤◌, ◌-◌, ℕ, zero, suc, Bool, true, false, not, ◌||◌, ◌&&◌, if◌then◌else◌, List, [], ◌∷◌, ◌++◌, length, drop, map, Option, Some, None, IfSome, sym, refl, ap, ◌∙◌, subst, arith, get_or-set_same, get_or-set_other}
use Rattle.std.specs.Prelude.{nat_eq, nat_lt, filter, slice_index_or, slice_set}
use Rattle.std.specs.Option.{option_to_list}
use Rattle.std.specs.List.{list_any}
use Rattle.std.proofs.lemmas.Bool.{eq-eqb, eqb-true, eqb-false, ltb-false, ltb-true, ne_eqb}
use Rattle.std.proofs.lemmas.List.{get_or_past}
use Rattle.std.proofs.lemmas.List.Folds.{list_any-append}
use Rattle.std.proofs.Math.Seq.{drop-length}
use Rattle.process_tree.specs.declared.entry.Entry.{Entry}
use Rattle.process_tree.specs.Conflicts.{Table, operations_in}
use Rattle.process_tree.specs.Order.{Each}
use Rattle.schedule_model.specs.Histories.{of_process}
use Rattle.schedule_model.proofs.Legal.{both-right}
use Rattle.bit_rows.specs.Cells.{cell, place_before}
use Rattle.bit_rows.proofs.Cells.{before_above, before_below}
use Rattle.hold_tables.specs.declared.operations.Beside.{Beside}
use Rattle.hold_tables.specs.Changes.{can_come}
use Rattle.hold_tables.specs.Kept.{AreKnown, AreTidy, IsKnown, IsTidy, are_numbered}
use Rattle.hold_tables.specs.Operations.{AddsAt, AreHolders, AreKnownRows, HasRows, IsColumnTaken, IsProcessTaken, IsSetAt, IsToldAt, TellBeside, TellRows, has_row, is_held_at, may_hold, ops_beside, ops_of, pending_ops, reserved_ops, row_of, running_ops}
use Rattle.hold_tables.specs.Places.{place_of}
use Rattle.hold_tables.specs.Tables.{OpenProcess, Tables, has_number, holds_nothing, lasts, numbered}
use Rattle.hold_tables.specs.Slots.{TellWho}
use Rattle.hold_tables.proofs.BesideRows.{each_row, held_ops}
use Rattle.hold_tables.proofs.DroppedWalks.{before_suc, none_behind, none_dropped}
use Rattle.hold_tables.proofs.Opening.{other_processes, others, same_of_others}
use Rattle.hold_tables.proofs.OthersSame.{SameElsewhere}
use Rattle.hold_tables.proofs.Entries.{none_more}
use Rattle.hold_tables.proofs.Places.{each_place, place-is}
use Rattle.hold_tables.proofs.Tidy.{each_numbered, tables}

-- where there is no process, nothing is held
abbrev pub nobody : OpenProcess
nobody = holds_nothing 0 0

none_last : {A : Type 0} (xs : List A) → lasts 0 xs ≡ []
none_last xs = let all : length xs - 0 ≡ length xs = omega arith in ap (λ n. drop n xs) all ∙ drop-length xs

pub none_pending : (net : List Entry) (i steps : ℕ) → pending_ops net (holds_nothing i steps) ≡ []
none_pending net i steps = ap ops_of (none_last (of_process i net))

-- what a process at each place has is told, if it is told of one and stays told of the others
pub rows_told : (f g : OpenProcess → List ℕ) (rows : List OpenProcess) (at : ℕ) (x : OpenProcess) (old new : List (List Bool)) → at < length rows → TellRows f rows old → IsToldAt at (g x) old new
    → ((p : ℕ) → p ≢ at → g (slice_index_or rows p nobody) ≡ f (slice_index_or rows p nobody)) → TellRows g (slice_set rows at x) new
rows_told f g rows at x old new within tells told same = record { count = told.count ∙ tells.count; tell = λ k p. told.tell k p ∙ by k p (nat_eq p at) refl }
  where
    by : (k p : ℕ) (t : Bool) → nat_eq p at ≡ t → (if t then has_row k (g x) else cell old k p) ≡ has_row k (g (slice_index_or (slice_set rows at x) p nobody))
    by k p true is = ap (λ r. has_row k (g r)) (sym (get_or-set_same rows at x nobody within) ∙ ap (λ n. slice_index_or (slice_set rows at x) n nobody) (sym (eqb-true p at is)))
    by k p false is =
        let other = eqb-false p at is in
        tells.tell k p ∙ ap (has_row k) (sym (same p other)) ∙ ap (λ r. has_row k (g r)) (sym (get_or-set_other rows at p x nobody other))

pub same_there : (rows : List OpenProcess) (p : ℕ) (d : OpenProcess) → p < length rows → slice_index_or rows p nobody ≡ slice_index_or rows p d
same_there [] p d within = absurd (omega (arith, within))
same_there (r ∷ rows) zero d within = refl
same_there (r ∷ rows) (suc p) d within = same_there rows p d (omega (arith, within))

-- what a process has is set at its place
pub set_there : (f : OpenProcess → List ℕ) (rows : List OpenProcess) (at : ℕ) (before : OpenProcess) (bits : List (List Bool)) → at < length rows → before ≡ slice_index_or rows at before
    → TellRows f rows bits → IsSetAt at (f before) bits
set_there f rows at before bits within was tells k = tells.tell k at ∙ ap (λ r. has_row k (f r)) (same_there rows at before within ∙ sym was)

-- where it has the same as before, that is told at its place
pub stays_told : (f : OpenProcess → List ℕ) (rows : List OpenProcess) (at : ℕ) (before : OpenProcess) (ops : List ℕ) (bits : List (List Bool)) → at < length rows
    → before ≡ slice_index_or rows at before → ops ≡ f before → TellRows f rows bits → IsToldAt at ops bits bits
stays_told f rows at before ops bits within was same tells = record { count = refl; tell = λ k p. by k p (nat_eq p at) refl }
  where
    by : (k p : ℕ) (t : Bool) → nat_eq p at ≡ t → cell bits k p ≡ (if t then has_row k ops else cell bits k p)
    by k p true is = ap (cell bits k) (eqb-true p at is) ∙ set_there f rows at before bits within was tells k ∙ ap (has_row k) (sym same)
    by k p false is = refl

-- what is set there once nothing is, is all that is told
pub told_anew : (at : ℕ) (ops : List ℕ) (old between new : List (List Bool)) → IsToldAt at [] old between → length new ≡ length between → AddsAt at ops between new → IsToldAt at ops old new
told_anew at ops old between new none count adds = record { count = count ∙ none.count; tell = λ k p. adds k p ∙ ap ((nat_eq p at && has_row k ops) ||◌) (none.tell k p) ∙ by (nat_eq p at) (has_row k ops) (cell old k p) }
  where
    by : (here has was : Bool) → ((here && has) || (if here then false else was)) ≡ (if here then has else was)
    by true true was = refl
    by true false was = refl
    by false has was = refl

-- so the three are told, each of them anew or as it was
pub beside_told : (net after : List Entry) (rows : List OpenProcess) (at : ℕ) (x : OpenProcess) (old new : Beside) → at < length rows → TellBeside net rows old
    → IsToldAt at (running_ops x) old.running new.running → IsToldAt at (pending_ops after x) old.pending new.pending → IsToldAt at (reserved_ops x) old.reserved new.reserved
    → ((p : ℕ) → p ≢ at → pending_ops after (slice_index_or rows p nobody) ≡ pending_ops net (slice_index_or rows p nobody)) → TellBeside after (slice_set rows at x) new
beside_told net after rows at x old new within tells running pending reserved same = record {
  running = rows_told running_ops running_ops rows at x old.running new.running within tells.running running (λ p other. refl);
  pending = rows_told (pending_ops net) (pending_ops after) rows at x old.pending new.pending within tells.pending pending same;
  reserved = rows_told reserved_ops reserved_ops rows at x old.reserved new.reserved within tells.reserved reserved (λ p other. refl);
}

-- what is to be undone is told over what was lent
pub pending_lent : (after lent : List Entry) (rows : List OpenProcess) (at : ℕ) (x row : OpenProcess) (old new : List (List Bool)) → at < length rows → lent ≡ after
    → row ≡ slice_index_or (slice_set rows at x) at row → IsToldAt at (pending_ops lent row) old new → IsToldAt at (pending_ops after x) old new
pending_lent after lent rows at x row old new within lent_is row_is told =
    subst (λ ops. IsToldAt at ops old new) (ap (λ es. pending_ops es row) lent_is ∙ ap (pending_ops after) (row_is ∙ get_or-set_same rows at x row within)) told

-- it is told of as many operations that are the same
pub told_by : (at : ℕ) (a b : List ℕ) (old new : List (List Bool)) → a ≡ b → IsToldAt at b old new → IsToldAt at a old new
told_by at a b old new same told = subst (λ ops. IsToldAt at ops old new) (sym same) told

-- what was under way is set
pub running_set : (rows : List OpenProcess) (at : ℕ) (before : OpenProcess) (bits : List (List Bool)) (o : Option Entry) → at < length rows → before ≡ slice_index_or rows at before
    → TellRows running_ops rows bits → before.running ≡ o → IsSetAt at (ops_of (option_to_list o)) bits
running_set rows at before bits o within was tells is = subst (λ o. IsSetAt at (ops_of (option_to_list o)) bits) is (set_there running_ops rows at before bits within was tells)

-- so the steps that were reserved are set
pub steps_set : (rows : List OpenProcess) (at : ℕ) (before : OpenProcess) (bits : List (List Bool)) (steps : List (ℕ × ℕ × ℕ)) → at < length rows → before ≡ slice_index_or rows at before
    → TellRows reserved_ops rows bits → steps ≡ before.reserved → IsSetAt at (map (λ (step : ℕ × ℕ × ℕ). step.1) steps) bits
steps_set rows at before bits steps within was tells is =
    subst (λ ops. IsSetAt at ops bits) (ap (map (λ (step : ℕ × ℕ × ℕ). step.1)) (sym is)) (set_there reserved_ops rows at before bits within was tells)

-- what is told at a place is set there
pub told_there : (at : ℕ) (ops : List ℕ) (old new : List (List Bool)) → IsToldAt at ops old new → IsSetAt at ops new
told_there at ops old new told k = told.tell k at ∙ ap (λ b. if b then has_row k ops else cell old k at) (eq-eqb at at refl)

-- what is told last there is told
pub told_over : (at : ℕ) (a b : List ℕ) (old between new : List (List Bool)) → IsToldAt at a old between → IsToldAt at b between new → IsToldAt at b old new
told_over at a b old between new first last = record { count = last.count ∙ first.count; tell = λ k p. last.tell k p ∙ by k p (nat_eq p at) refl }
  where
    by : (k p : ℕ) (t : Bool) → nat_eq p at ≡ t → (if t then has_row k b else cell between k p) ≡ (if t then has_row k b else cell old k p)
    by k p true is = refl
    by k p false is = first.tell k p ∙ ap (λ t. if t then has_row k a else cell old k p) is

-- where nothing was to be undone, nothing is set
pub none_set : (net : List Entry) (rows : List OpenProcess) (at : ℕ) (before : OpenProcess) (bits : List (List Bool)) → at < length rows → before ≡ slice_index_or rows at before
    → TellRows (pending_ops net) rows bits → before.pending ≡ 0 → IsSetAt at [] bits
none_set net rows at before bits within was tells none k =
    set_there (pending_ops net) rows at before bits within was tells k
    ∙ ap (has_row k) (ap (λ n. ops_of (lasts n (of_process before.process net))) none ∙ ap ops_of (none_last (of_process before.process net)))

-- a place among the rows that were lent
pub place_within : (lent rows : List OpenProcess) (at : ℕ) → lent ≡ rows → at < length lent → at < length rows
place_within lent rows at same within = subst (λ (rs : List OpenProcess). at < length rs) same within

pub place_small : (lent rows : List OpenProcess) (at : ℕ) → lent ≡ rows → at < length lent → length rows ≤ 256 → at < 256
place_small lent rows at same within few = let there = place_within lent rows at same within in omega (arith, there, few)

-- what the net has of the others to undo stays as the net changes for one process
pub pending_elsewhere : (i : ℕ) (net after : List Entry) (rows : List OpenProcess) → are_numbered rows ≡ true → SameElsewhere i net after
    → (p : ℕ) → p ≢ place_of i rows → pending_ops after (slice_index_or rows p nobody) ≡ pending_ops net (slice_index_or rows p nobody)
pending_elsewhere i net after rows once same p other = by (nat_lt p (length rows)) (nat_eq (slice_index_or rows p nobody).process i) refl refl
  where
    by : (s t : Bool) → nat_lt p (length rows) ≡ s → nat_eq (slice_index_or rows p nobody).process i ≡ t
        → pending_ops after (slice_index_or rows p nobody) ≡ pending_ops net (slice_index_or rows p nobody)
    by s false there is = ap (λ es. ops_of (lasts (slice_index_or rows p nobody).pending es)) (same (slice_index_or rows p nobody).process is)
    by true true there is = absurd (other (place-is i rows p nobody once (ltb-true p (length rows) there) (eqb-true (slice_index_or rows p nobody).process i is)))
    by false true there is = rw (get_or_past rows p nobody (ltb-false p (length rows) there)) (none_pending after 0 0 ∙ sym (none_pending net 0 0))

-- so it does as a step of the process takes effect
pub step_elsewhere : (i : ℕ) (table : Table) (net : List Entry) (rows : List OpenProcess) (e : Entry) → AreTidy (tables table net rows) → has_number i rows ≡ true → (numbered i rows).running ≡ Some e
    → SameElsewhere i net (net ++ e ∷ [])
step_elsewhere i table net rows e tidy has under k other =
    let (own, is_own) = each_numbered (IsTidy table net) i rows has tidy.tidy in
    let r = numbered i rows in
    let run = subst (λ o. IfSome o (λ (x : Entry). (x.process ≡ r.process) × (can_come (of_process r.process net) r x ≡ true) × IsKnown table x)) under own.running in
    none_more k net e (ne_eqb e.process k (λ is. eqb-false k i other (sym is ∙ run.0 ∙ is_own)))

-- a process opens at the end
row_more : (rows : List OpenProcess) (i steps p : ℕ) (f : OpenProcess → List ℕ) → f (holds_nothing i steps) ≡ f nobody
    → f (slice_index_or (rows ++ holds_nothing i steps ∷ []) p nobody) ≡ f (slice_index_or rows p nobody)
row_more [] i steps zero f none = none
row_more [] i steps (suc p) f none = refl
row_more (r ∷ rows) i steps zero f none = refl
row_more (r ∷ rows) i steps (suc p) f none = row_more rows i steps p f none

pub more_told : (f : OpenProcess → List ℕ) (rows : List OpenProcess) (i steps : ℕ) (bits : List (List Bool)) → f (holds_nothing i steps) ≡ f nobody → TellRows f rows bits
    → TellRows f (rows ++ holds_nothing i steps ∷ []) bits
more_told f rows i steps bits none tells = record { count = tells.count; tell = λ k p. tells.tell k p ∙ ap (has_row k) (sym (row_more rows i steps p f none)) }

pub opened_told : (net : List Entry) (rows : List OpenProcess) (i steps : ℕ) (b : Beside) → TellBeside net rows b → TellBeside net (rows ++ holds_nothing i steps ∷ []) b
opened_told net rows i steps b tells = record {
  running = more_told running_ops rows i steps b.running refl tells.running;
  pending = more_told (pending_ops net) rows i steps b.pending (none_pending net i steps ∙ sym (none_pending net 0 0)) tells.pending;
  reserved = more_told reserved_ops rows i steps b.reserved refl tells.reserved;
}

-- one is dropped, and those behind it move up
dropped_at : (i : ℕ) (rows : List OpenProcess) (p : ℕ) → are_numbered rows ≡ true → has_number i rows ≡ true
    → slice_index_or (other_processes i rows) p nobody ≡ slice_index_or rows (place_before (place_of i rows) p) nobody
dropped_at i [] p once has = absurd cc
dropped_at i (r ∷ rows) p once has = by (nat_eq r.process i) refl (λ q. dropped_at i rows q (both-right (not (has_number r.process rows)) (are_numbered rows) once))
  where
    kept : (q : ℕ) → ((n : ℕ) → slice_index_or (other_processes i rows) n nobody ≡ slice_index_or rows (place_before (place_of i rows) n) nobody)
        → slice_index_or (r ∷ other_processes i rows) q nobody ≡ slice_index_or (r ∷ rows) (place_before (suc (place_of i rows)) q) nobody
    kept zero rest = sym (ap (λ n. slice_index_or (r ∷ rows) n nobody) (before_below (suc (place_of i rows)) 0 (omega arith)))
    kept (suc q) rest = rest q ∙ sym (ap (λ n. slice_index_or (r ∷ rows) n nobody) (before_suc (place_of i rows) q))

    by : (b : Bool) → nat_eq r.process i ≡ b → ((q : ℕ) → has_number i rows ≡ true → slice_index_or (other_processes i rows) q nobody ≡ slice_index_or rows (place_before (place_of i rows) q) nobody)
        → slice_index_or (other_processes i (r ∷ rows)) p nobody ≡ slice_index_or (r ∷ rows) (place_before (place_of i (r ∷ rows)) p) nobody
    by true is rest =
        let up : place_before 0 p ≡ suc p = before_above 0 p (omega arith) ∙ (let next : p ≡ p = refl in omega arith) in
        ap (λ b. slice_index_or (if not b then r ∷ other_processes i rows else other_processes i rows) p nobody) is
        ∙ ap (λ rs. slice_index_or rs p nobody) (none_dropped i rows (none_behind i r rows once is))
        ∙ sym (ap (λ n. slice_index_or (r ∷ rows) n nobody) up)
        ∙ sym (ap (λ b. slice_index_or (r ∷ rows) (place_before (if b then 0 else suc (place_of i rows)) p) nobody) is)
    by false is rest =
        ap (λ b. slice_index_or (if not b then r ∷ other_processes i rows else other_processes i rows) p nobody) is
        ∙ kept p (λ q. rest q (subst (λ b. (b || has_number i rows) ≡ true) is has))
        ∙ sym (ap (λ b. slice_index_or (r ∷ rows) (place_before (if b then 0 else suc (place_of i rows)) p) nobody) is)

pub less_told : (f g : OpenProcess → List ℕ) (i : ℕ) (rows : List OpenProcess) (old new : List (List Bool)) → are_numbered rows ≡ true → has_number i rows ≡ true → TellRows f rows old
    → IsColumnTaken (place_of i rows) old new → ((p : ℕ) → p ≢ place_of i rows → g (slice_index_or rows p nobody) ≡ f (slice_index_or rows p nobody)) → TellRows g (other_processes i rows) new
less_told f g i rows old new once has tells taken same = record {
  count = taken.count ∙ tells.count;
  tell = λ k p.
      taken.tell k p ∙ tells.tell k (place_before (place_of i rows) p) ∙ ap (has_row k) (sym (same (place_before (place_of i rows) p) (elsewhere p)))
      ∙ ap (λ r. has_row k (g r)) (sym (dropped_at i rows p once has));
}
  where
    elsewhere : (p : ℕ) → place_before (place_of i rows) p ≢ place_of i rows
    elsewhere p is = by (nat_lt p (place_of i rows)) refl
      where
        by : (t : Bool) → nat_lt p (place_of i rows) ≡ t → ⊥
        by true test = let less = ltb-true p (place_of i rows) test in let here = sym (before_below (place_of i rows) p less) ∙ is in omega (arith, less, here)
        by false test = let past = ltb-false p (place_of i rows) test in let here = sym (before_above (place_of i rows) p past) ∙ is in omega (arith, past, here)

pub dropped_told : (i : ℕ) (net : List Entry) (rows : List OpenProcess) (old new : Beside) → are_numbered rows ≡ true → has_number i rows ≡ true → TellBeside net rows old
    → IsProcessTaken (place_of i rows) old new → TellBeside (others i net) (other_processes i rows) new
dropped_told i net rows old new once has tells taken = record {
  running = less_told running_ops running_ops i rows old.running new.running once has tells.running taken.running (λ p other. refl);
  pending = less_told (pending_ops net) (pending_ops (others i net)) i rows old.pending new.pending once has tells.pending taken.pending
      (pending_elsewhere i net (others i net) rows once (λ k other. same_of_others i k net other));
  reserved = less_told reserved_ops reserved_ops i rows old.reserved new.reserved once has tells.reserved taken.reserved (λ p other. refl);
}

-- there are as many rows as are wanted
pub has_rows : (net : List Entry) (rows : List OpenProcess) (b : Beside) → TellBeside net rows b → HasRows b
has_rows net rows b tells = record { running = tells.running.count; pending = tells.pending.count; reserved = tells.reserved.count }

-- what is held at a place is of the operations there
pub held_told : (net : List Entry) (rows : List OpenProcess) (b : Beside) → TellBeside net rows b → (p k : ℕ) → is_held_at b k p ≡ has_row k (ops_beside net (slice_index_or rows p nobody))
held_told net rows b tells p k =
    let r = slice_index_or rows p nobody in
    let test = λ (op : ℕ). nat_eq (row_of op) k in
    rw (tells.running.tell k p, tells.pending.tell k p, tells.reserved.tell k p)
    (sym (list_any-append test (running_ops r) (pending_ops net r ++ reserved_ops r) ∙ ap (list_any test (running_ops r) ||◌) (list_any-append test (pending_ops net r) (reserved_ops r))))

each-append : {A : Type 0} (P : A → Type 0) (xs ys : List A) → Each P xs → Each P ys → Each P (xs ++ ys)
each-append P [] ys first second = second
each-append P (x ∷ xs) ys first second = (first.0, each-append P xs ys first.1 second)

each-drop : {A : Type 0} (P : A → Type 0) (n : ℕ) (xs : List A) → Each P xs → Each P (drop n xs)
each-drop P zero [] each = each
each-drop P zero (x ∷ xs) each = each
each-drop P (suc n) [] each = each
each-drop P (suc n) (x ∷ xs) each = each-drop P n xs each.1

pub each-filter : {A : Type 0} (P : A → Type 0) (test : A → Bool) (xs : List A) → Each P xs → Each P (filter test xs)
each-filter P test [] each = each
each-filter P test (x ∷ xs) each = by (test x) (each-filter P test xs each.1)
  where
    by : (b : Bool) → Each P (filter test xs) → Each P (if b then x ∷ filter test xs else filter test xs)
    by true rest = (each.0, rest)
    by false rest = rest

pub known_entries : (table : Table) (es : List Entry) → Each (IsKnown table) es → Each (λ op. op < operations_in table) (ops_of es)
known_entries table [] each = tt
known_entries table (e ∷ es) each = (each.0, known_entries table es each.1)

known_steps : (table : Table) (steps : List (ℕ × ℕ × ℕ)) → AreKnown table steps → Each (λ op. op < operations_in table) (map (λ step. step.1) steps)
known_steps table [] each = tt
known_steps table (s ∷ steps) each = (each.0, known_steps table steps each.1)

known_under_way : (table : Table) (es : List Entry) (r : OpenProcess) (o : Option Entry) → IfSome o (λ e. (e.process ≡ r.process) × (can_come es r e ≡ true) × IsKnown table e) → Each (λ op. op < operations_in table) (ops_of (option_to_list o))
known_under_way table es r None is = tt
known_under_way table es r (Some e) is = (is.2, tt)

known_row : (table : Table) (net : List Entry) (r : OpenProcess) → Each (IsKnown table) net → IsTidy table net r → Each (λ op. op < operations_in table) (ops_beside net r)
known_row table net r each tidy =
    let P : ℕ → Type 0 = λ op. op < operations_in table in
    let es = of_process r.process net in
    each-append P (running_ops r) (pending_ops net r ++ reserved_ops r) (known_under_way table es r r.running tidy.running)
    (each-append P (pending_ops net r) (reserved_ops r)
    (known_entries table (lasts r.pending es) (each-drop (IsKnown table) (length es - r.pending) es (each-filter (IsKnown table) (λ e. nat_eq e.process r.process) net each)))
    (known_steps table r.reserved tidy.reserved))

known_nobody : (table : Table) (net : List Entry) → Each (λ op. op < operations_in table) (ops_beside net nobody)
known_nobody table net = subst (λ ops. Each (λ op. op < operations_in table) (ops ++ [])) (sym (none_pending net 0 0)) tt

-- so each row in which something is held is of an operation of the table
pub known_rows : (t : Tables) → AreTidy t → (b : Beside) → TellBeside t.net t.processes b → AreKnownRows t.conflicts b
known_rows t tidy b tells k p is =
    each_row t.conflicts k (ops_beside t.net (slice_index_or t.processes p nobody)) (by (nat_lt p (length t.processes)) refl) (sym (held_told t.net t.processes b tells p k) ∙ is)
  where
    by : (s : Bool) → nat_lt p (length t.processes) ≡ s → Each (λ op. op < operations_in t.conflicts) (ops_beside t.net (slice_index_or t.processes p nobody))
    by true there = known_row t.conflicts t.net (slice_index_or t.processes p nobody) tidy.known (each_place (IsTidy t.conflicts t.net) t.processes p nobody (ltb-true p (length t.processes) there) tidy.tidy)
    by false there = rw (get_or_past t.processes p nobody (ltb-false p (length t.processes) there)) (known_nobody t.conflicts t.net)

-- the rows of what may be against an operation tell who may hold something against it
pub who_told : (t : Tables) (b : Beside) → TellBeside t.net t.processes b → (op : ℕ) (who : List Bool) → AreHolders t.conflicts b op who → (u : Tables) → t ≡ u → TellWho u op who
who_told t b tells op who holders u same = subst (λ (x : Tables). TellWho x op who) same told
  where
    told : TellWho t op who
    told p d within =
        held_ops t.conflicts op b who holders p (ops_beside t.net (slice_index_or t.processes p nobody)) (held_told t.net t.processes b tells p)
        ∙ ap (may_hold t op) (same_there t.processes p d within)
