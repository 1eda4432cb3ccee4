-- What took effect: the tables that stand with one entry more or less.
use Rattle.std.proofs.Common.{◌≡◌, ℕ, ◌+◌, ◌-◌, ◌≤◌, ◌<◌, Bool, true, false, not, List, [], ◌∷◌, ◌++◌, length, Option, Some, None, sym, refl, ap, ◌∙◌, subst, arith}
use Rattle.std.specs.Prelude.{IfSome, nat_lt, if◌then◌else◌}
use Rattle.std.proofs.lemmas.Bool.{eqb-false, ne_eqb, not-true, ltb-true}
use Rattle.process_tree.specs.declared.entry.Entry.{Entry}
use Rattle.process_tree.specs.Conflicts.{Table}
use Rattle.schedule_model.specs.Histories.{is_in, of_process}
use Rattle.schedule_model.proofs.Legal.{both-left, both-right}
use Rattle.hold_tables.specs.Tables.{Tables, OpenProcess, has_number, lasts, numbered}
use Rattle.hold_tables.specs.Changes.{can_come, change_numbered, has_entry, is_new_step, net_after, steps_of, took_effect, undoes, undoes_last, with_fixed, with_running, without_last}
use Rattle.hold_tables.specs.Kept.{IsKnown, IsTidy, IsTidyAmong, Stands, room_for_all}
use Rattle.hold_tables.proofs.Tidy.{KeepsPlan, tables, each_entry, each_numbered, numbered_stay, numbers_stay, room_stays}
use Rattle.hold_tables.proofs.Entries.{each_more, few, init, length_more, none_more, one_more, steps_once}
use Rattle.hold_tables.proofs.LastAway.{count_init, each_init, each_without, has-some, once_init, one_less, other_without, own_without}
use Rattle.hold_tables.proofs.OthersSame.{SameElsewhere, each_shift, room_shift}

-- what is said of an option is said of what it holds
held : (P : Entry → Type 0) (o : Option Entry) (e : Entry) → o ≡ Some e → IfSome o P → P e
held P o e is said = let of : IfSome (Some e) P = subst (λ (o : Option Entry). IfSome o P) is said in of

by_undo : (b : Bool) (u f : Bool) → (if b then u else f) ≡ true → b ≡ false → f ≡ true
by_undo b u f is forward = subst (λ b. (if b then u else f) ≡ true) forward is

by_undo_true : (b : Bool) (u f : Bool) → (if b then u else f) ≡ true → b ≡ true → u ≡ true
by_undo_true b u f is undo = subst (λ b. (if b then u else f) ≡ true) undo is

-- a step that comes under way is new, and within the plan
new_step : (es : List Entry) (r : OpenProcess) (e : Entry) → e.undo ≡ false → can_come es r e ≡ true → (e.step < r.steps) × (is_in e.step (steps_of es) ≡ false)
new_step es r e forward can =
    let is = by_undo e.undo (undoes_last e es r.fixed) (is_new_step e es r.steps) can forward in
    let new = is_in e.step (steps_of es) in
    (ltb-true e.step r.steps (both-left (nat_lt e.step r.steps) (not new) is), not-true new (both-right (nat_lt e.step r.steps) (not new) is))

-- a process stays tidy as its step takes effect
tidy_step : (table : Table) (es : List Entry) (r : OpenProcess) (e : Entry) → e.undo ≡ false → r.running ≡ Some e → IsTidyAmong table es r
    → IsTidyAmong table (es ++ e ∷ []) (with_running None r)
tidy_step table es r e forward under tidy =
    let run = held (λ e. (e.process ≡ r.process) × (can_come es r e ≡ true) × IsKnown table e) r.running e under tidy.running in
    let new = new_step es r e forward run.1 in
    let longer : length (es ++ e ∷ []) ≡ length es + 1 = length_more es e in
    let fixed = tidy.fixed in
    record {
      within = each_more (λ e. e.step < r.steps) es e tidy.within new.0;
      once = steps_once es e tidy.once new.1;
      fixed = omega (arith, longer, fixed);
      running = tt;
      reserved = tidy.reserved;
      fits = tidy.fits;
      small = tidy.small;
    }

-- an undo that comes under way is of an entry more than are fixed
some_to_undo : (es : List Entry) (r : OpenProcess) (e : Entry) → e.undo ≡ true → can_come es r e ≡ true → r.fixed < length es
some_to_undo es r e undo can =
    let is = by_undo_true e.undo (undoes_last e es r.fixed) (is_new_step e es r.steps) can undo in
    ltb-true r.fixed (length es) (both-left (nat_lt r.fixed (length es)) (is_in e.step (steps_of (lasts 1 es))) is)

-- a process stays tidy as its undo takes effect
tidy_undo : (table : Table) (es : List Entry) (r : OpenProcess) (e : Entry) → e.undo ≡ true → r.running ≡ Some e → IsTidyAmong table es r
    → IsTidyAmong table (init es) (with_running None r)
tidy_undo table es r e undo under tidy =
    let run = held (λ e. (e.process ≡ r.process) × (can_come es r e ≡ true) × IsKnown table e) r.running e under tidy.running in
    let some = some_to_undo es r e undo run.1 in
    let less = count_init es in
    record {
      within = each_init (λ e. e.step < r.steps) es tidy.within;
      once = once_init es tidy.once;
      fixed = omega (arith, some, less);
      running = tt;
      reserved = tidy.reserved;
      fits = tidy.fits;
      small = tidy.small;
    }

keeps : KeepsPlan (with_running None)
keeps r = (refl, refl)

-- a step of process i took effect: the net has room for it, and the tables stand
pub step_stands : (i : ℕ) (table : Table) (net : List Entry) (rows : List OpenProcess) (capacity : ℕ) (e : Entry) → e.undo ≡ false → has_number i rows ≡ true
    → (numbered i rows).running ≡ Some e → Stands table net rows capacity
    → (length net < capacity) × Stands table (net ++ e ∷ []) (change_numbered (with_running None) i rows) capacity
step_stands i table net rows capacity e forward has under (tidy, room) =
    let (own, is_own) = each_numbered (IsTidy table net) i rows has tidy.tidy in
    let r = numbered i rows in
    let es = of_process r.process net in
    let run = held (λ e. (e.process ≡ r.process) × (can_come es r e ≡ true) × IsKnown table e) r.running e under own.running in
    let is_i : e.process ≡ i = run.0 ∙ is_own in
    let same : SameElsewhere i net (net ++ e ∷ []) = λ k other. none_more k net e (ne_eqb e.process k (λ is. eqb-false k i other (sym is ∙ is_i))) in
    let mine : of_process r.process (net ++ e ∷ []) ≡ es ++ e ∷ [] = one_more r.process net e run.0 in
    let now = tidy_step table es r e forward under own in
    let shift = room_shift i net (net ++ e ∷ []) rows tidy.numbered has same in
    let few_now = few r.steps (es ++ e ∷ []) now.within now.once in
    let longer = length_more net e in
    let longer_own : length (of_process r.process (net ++ e ∷ [])) ≡ length es + 1 = ap length mine ∙ length_more es e in
    let longer_es = length_more es e in
    let total : length (net ++ e ∷ []) + room_for_all (net ++ e ∷ []) rows ≤ capacity = omega (arith, shift, few_now, longer, longer_own, longer_es, room) in
    let stands : Stands table (net ++ e ∷ []) (change_numbered (with_running None) i rows) capacity = (
      record {
        numbered = numbered_stay (with_running None) i rows keeps ∙ tidy.numbered;
        of_open = each_more (λ e. has_number e.process (change_numbered (with_running None) i rows) ≡ true) net e
            (each_entry net (λ e is. numbers_stay (with_running None) i e.process rows keeps ∙ is) tidy.of_open)
            (numbers_stay (with_running None) i e.process rows keeps ∙ subst (λ k. has_number k rows ≡ true) (sym is_i) has);
        known = each_more (IsKnown table) net e tidy.known run.2;
        tidy = each_shift (IsTidy table net) (IsTidy table (net ++ e ∷ [])) (with_running None) i rows tidy.numbered
            (λ r other is. subst (λ es. IsTidyAmong table es r) (sym (same r.process other)) is)
            (λ is. subst (λ es. IsTidyAmong table es (with_running None r)) (sym mine) now) tidy.tidy;
      },
      subst (λ n. length (net ++ e ∷ []) + n ≤ capacity) (sym (room_stays (with_running None) i (net ++ e ∷ []) rows keeps)) total,
    ) in
    (omega (arith, shift, few_now, longer_own, longer_es, room), stands)

-- an undo of process i took effect, and the tables stand
pub undo_stands : (i : ℕ) (table : Table) (net : List Entry) (rows : List OpenProcess) (capacity : ℕ) (e : Entry) → e.undo ≡ true → has_number i rows ≡ true
    → (numbered i rows).running ≡ Some e → Stands table net rows capacity
    → Stands table (without_last i net) (change_numbered (with_running None) i rows) capacity
undo_stands i table net rows capacity e undo has under (tidy, room) =
    let (own, is_own) = each_numbered (IsTidy table net) i rows has tidy.tidy in
    let r = numbered i rows in
    let es = of_process r.process net in
    let after = without_last i net in
    let run = held (λ e. (e.process ≡ r.process) × (can_come es r e ≡ true) × IsKnown table e) r.running e under own.running in
    let some = some_to_undo es r e undo run.1 in
    let some_i : 0 < length (of_process i net) = subst (λ k. 0 < length (of_process k net)) is_own (omega (arith, some)) in
    let less = one_less i net (has-some i net some_i (has_entry i net) refl) in
    let same : SameElsewhere i net after = λ k other. other_without i k net other in
    let mine : of_process r.process after ≡ init es = subst (λ k. of_process k after ≡ init (of_process k net)) (sym is_own) (own_without i net) in
    let now = tidy_undo table es r e undo under own in
    let shift = room_shift i net after rows tidy.numbered has same in
    let less_own : length (of_process r.process after) ≡ length es - 1 = ap length mine ∙ count_init es in
    let total : length after + room_for_all after rows ≤ capacity = omega (arith, shift, less, less_own, some, room) in (
      record {
        numbered = numbered_stay (with_running None) i rows keeps ∙ tidy.numbered;
        of_open = each_without (λ e. has_number e.process (change_numbered (with_running None) i rows) ≡ true) i net
            (each_entry net (λ e is. numbers_stay (with_running None) i e.process rows keeps ∙ is) tidy.of_open);
        known = each_without (IsKnown table) i net tidy.known;
        tidy = each_shift (IsTidy table net) (IsTidy table after) (with_running None) i rows tidy.numbered
            (λ r other is. subst (λ es. IsTidyAmong table es r) (sym (same r.process other)) is)
            (λ is. subst (λ es. IsTidyAmong table es (with_running None r)) (sym mine) now) tidy.tidy;
      },
      subst (λ n. length after + n ≤ capacity) (sym (room_stays (with_running None) i after rows keeps)) total,
    )

-- what is under way in process i took effect, and the tables stand
pub effect_stands : (i : ℕ) (table : Table) (net : List Entry) (rows : List OpenProcess) (capacity : ℕ) (e : Entry) → has_number i rows ≡ true
    → (numbered i rows).running ≡ Some e → Stands table net rows capacity
    → Stands table (net_after i (Some e) net) (change_numbered (with_running None) i rows) capacity
effect_stands i table net rows capacity e has under stands = by e.undo refl
  where
    by : (b : Bool) → e.undo ≡ b → Stands table (net_after i (Some e) net) (change_numbered (with_running None) i rows) capacity
    by true is = subst (λ b. Stands table (if b then without_last i net else net ++ e ∷ []) (change_numbered (with_running None) i rows) capacity) (sym is) (undo_stands i table net rows capacity e is has under stands)
    by false is = subst (λ b. Stands table (if b then without_last i net else net ++ e ∷ []) (change_numbered (with_running None) i rows) capacity) (sym is) (step_stands i table net rows capacity e is has under stands).1

-- and they are those after the effect
pub effect_returned : (i : ℕ) (table : Table) (net : List Entry) (rows : List OpenProcess) (e : Entry) (after : List Entry) (changed : List OpenProcess) (t : Tables)
    → tables table net rows ≡ t → (numbered i rows).running ≡ Some e → after ≡ net_after i (Some e) net → changed ≡ change_numbered (with_running None) i rows
    → tables table after changed ≡ took_effect i t
effect_returned i table net rows e after changed t view under after_is changed_is =
    ap (λ es. tables table es changed) (after_is ∙ ap (λ o. net_after i o net) (sym under)) ∙ ap (tables table (net_after i (numbered i rows).running net)) changed_is ∙ ap (took_effect i) view

-- a process stays tidy as all its entries are fixed while no undo is under way
fixed_running : (table : Table) (es : List Entry) (r : OpenProcess) (n : ℕ) (o : Option Entry) → undoes o ≡ false
    → IfSome o (λ e. (e.process ≡ r.process) × (can_come es r e ≡ true) × IsKnown table e)
    → IfSome o (λ e. (e.process ≡ r.process) × (can_come es (with_fixed n r) e ≡ true) × IsKnown table e)
fixed_running table es r n None forward is = tt
fixed_running table es r n (Some e) forward is =
    let new = by_undo e.undo (undoes_last e es r.fixed) (is_new_step e es r.steps) is.1 forward in
    (is.0, subst (λ b. (if b then undoes_last e es n else is_new_step e es r.steps) ≡ true) (sym forward) new, is.2)

pub tidy_fixed : (table : Table) (es : List Entry) (r : OpenProcess) → undoes r.running ≡ false → IsTidyAmong table es r → IsTidyAmong table es (with_fixed (length es) r)
tidy_fixed table es r forward tidy = record {
  within = tidy.within;
  once = tidy.once;
  fixed = omega arith;
  running = fixed_running table es r (length es) r.running forward tidy.running;
  reserved = tidy.reserved;
  fits = tidy.fits;
  small = tidy.small;
}

-- a process has no more entries than steps
pub few_own : (table : Table) (es : List Entry) (r : OpenProcess) → IsTidyAmong table es r → length es ≤ r.steps
few_own table es r tidy = few r.steps es tidy.within tidy.once
