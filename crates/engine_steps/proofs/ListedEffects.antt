-- What is listed of a group of events, place by place.
use Rattle.std.proofs.Common.{◌≡◌, ◌≢◌, ◌⊎◌, inl, inr, ◌∙◌, ◌≤◌, ◌<◌, ◌+◌, eqb, ℕ, zero, suc, Bool, true, false, cond, List, [], ◌∷◌, ◌++◌, append_assoc, append-nil, length, length-append, refl, sym, ap, subst, arith}
use Rattle.std.specs.Prelude.{slice_index_or, slice_set}
use Rattle.std.proofs.lemmas.Bool.{cases_eq, eq-eqb, eqb-false, ne_eqb}
use Rattle.std.proofs.lemmas.Bool.Decides.{leb_tells}
use Rattle.process_tree.specs.declared.entry.Entry.{Entry}
use Rattle.process_tree.specs.declared.plan.Plan.{Plan}
use Rattle.commute_table.specs.declared.op.Op.{Op}
use Rattle.schedule_model.specs.declared.event.Event.{Event}
use Rattle.schedule_model.specs.declared.event.Event.TheVariants.{Start, Act, End}
use Rattle.schedule_model.specs.declared.history.History.{History}
use Rattle.schedule_model.specs.Histories.{acts}
use Rattle.schedule_model.specs.Limits.{most_active}
use Rattle.subsystem_store.specs.declared.effect.Effect.{Effect}
use Rattle.store_group.specs.Events.{effects_for}
use Rattle.history_files.specs.Effects.{effect_of, effects_from, subsystem_of}
use Rattle.history_files.specs.NextGroups.{next_effects}
use Rattle.engine_steps.specs.Listing.{AreNone, ListsEach, listed_from, next_group, subsystems}

-- with another list in one place, that is there,
pub set_here : (group : List (List Effect)) (n : ℕ) (es : List Effect) → n < length group → effects_for (slice_set group n es) n ≡ es
set_here [] n es within = absurd (omega (arith, within))
set_here (x ∷ group) zero es within = refl
set_here (x ∷ group) (suc n) es within = set_here group n es (omega (arith, within))

-- and the others are in theirs
pub set_else : (group : List (List Effect)) (n q : ℕ) (es : List Effect) → q ≢ n → effects_for (slice_set group n es) q ≡ effects_for group q
set_else [] n q es other = refl
set_else (x ∷ group) zero zero es other = absurd (other refl)
set_else (x ∷ group) zero (suc q) es other = refl
set_else (x ∷ group) (suc n) zero es other = refl
set_else (x ∷ group) (suc n) (suc q) es other = set_else group n q es (λ is. other (ap suc is))

-- and there are as many
pub length_set : (group : List (List Effect)) (n : ℕ) (es : List Effect) → length (slice_set group n es) ≡ length group
length_set [] n es = refl
length_set (x ∷ group) zero es = refl
length_set (x ∷ group) (suc n) es = ap suc (length_set group n es)

-- a place is beyond a number or below it
pub beyond_or_below : (n q : ℕ) → (n ≤ q) ⊎ (q < n)
beyond_or_below n q = by (leb_tells n q)
  where
    by : {b : Bool} → ((b ≡ true) × (n ≤ q)) ⊎ ((b ≡ false) × (q < n)) → (n ≤ q) ⊎ (q < n)
    by (inl high) = inl high.1
    by (inr low) = inr low.1

-- a place beyond the list has no effect
pub none_beyond : (group : List (List Effect)) (q : ℕ) → length group ≤ q → effects_for group q ≡ []
none_beyond [] q high = refl
none_beyond (x ∷ group) zero high = absurd (omega (arith, high))
none_beyond (x ∷ group) (suc q) high = none_beyond group q (omega (arith, high))

-- what is found at a place, whatever is said of none there
pub found_at : (group : List (List Effect)) (n : ℕ) (x : List Effect) → n < length group → x ≡ slice_index_or group n x → x ≡ effects_for group n
found_at [] n x within is = absurd (omega (arith, within))
found_at (y ∷ group) zero x within is = is
found_at (y ∷ group) (suc n) x within is = found_at group n x (omega (arith, within)) is

-- the lists below a place are empty, with one more
pub one_more_cleared : (group : List (List Effect)) (n : ℕ) (es : List Effect) → n < length group → es ≡ [] → ((q : ℕ) → q < n → effects_for group q ≡ []) → (q : ℕ) → q < n + 1
    → effects_for (slice_set group n es) q ≡ []
one_more_cleared group n es within none before q low = by (cases_eq q n)
  where
    by : (q ≡ n) ⊎ (q ≡ n → ⊥) → effects_for (slice_set group n es) q ≡ []
    by (inl same) = subst (λ k. effects_for (slice_set group n es) k ≡ []) (sym same) (set_here group n es within ∙ none)
    by (inr other) = set_else group n q es other ∙ before q (below q n low other)
      where
        below : (q n : ℕ) → q < n + 1 → q ≢ n → q < n
        below q n low other = omega (arith, low, other)

-- so all are, once each place was come to
pub all_cleared : (group : List (List Effect)) (n : ℕ) → length group ≤ n → ((q : ℕ) → q < n → effects_for group q ≡ []) → AreNone group
all_cleared group n all before q = by (beyond_or_below n q)
  where
    by : (n ≤ q) ⊎ (q < n) → effects_for group q ≡ []
    by (inl high) = none_beyond group q (omega (arith, all, high))
    by (inr low) = before q low

-- What is kept while events are listed: with those to come each place comes to all, and has room for them.
pub record IsListedSoFar (ops : List Op) (plans : List Plan) (first : ℕ) (all : List Event) (number : ℕ) (rest : List Event) (group : List (List Effect)) : Type 0 where
  pub lists : (q : ℕ) → q < subsystems → effects_for group q ++ effects_from ops plans q number (acts rest) ≡ effects_from ops plans q first (acts all)
  pub room : (q : ℕ) → length (effects_for group q) + length rest ≤ most_active

pub none_listed : (ops : List Op) (plans : List Plan) (first : ℕ) (all : List Event) (group : List (List Effect)) → AreNone group → length all ≤ most_active → IsListedSoFar ops plans first all first all group
none_listed ops plans first all group none few = record {
  lists = λ q low. ap (λ es. es ++ effects_from ops plans q first (acts all)) (none q);
  room = λ q. let empty = ap (λ es. length {A = Effect} es) (none q) in omega (arith, empty, few);
}

-- an event that is no act changes nothing
pub none_more_listed : (ops : List Op) (plans : List Plan) (first : ℕ) (all : List Event) (number : ℕ) (event : Event) (rest : List Event) (group : List (List Effect)) → ((e : Entry) → event ≢ Act e)
    → IsListedSoFar ops plans first all number (event ∷ rest) group → IsListedSoFar ops plans first all number rest group
none_more_listed ops plans first all number (Start i) rest group no_act was = record { lists = was.lists; room = λ q. let room = was.room q in omega (arith, room) }
none_more_listed ops plans first all number (End i) rest group no_act was = record { lists = was.lists; room = λ q. let room = was.room q in omega (arith, room) }
none_more_listed ops plans first all number (Act e) rest group no_act was = absurd (no_act e refl)

-- an act comes behind the others at its subsystem
pub one_more_listed : (ops : List Op) (plans : List Plan) (first : ℕ) (all : List Event) (number : ℕ) (e : Entry) (rest : List Event) (group : List (List Effect)) (n : ℕ) (old new : List Effect)
    → n ≡ subsystem_of ops e.op → n < length group → old ≡ effects_for group n → new ≡ old ++ effect_of ops plans number e ∷ []
    → IsListedSoFar ops plans first all number (Act e ∷ rest) group → IsListedSoFar ops plans first all (number + 1) rest (slice_set group n new)
one_more_listed ops plans first all number e rest group n old new place within was_there is was = record { lists = lists; room = room }
  where
    x : Effect
    x = effect_of ops plans number e

    there : effects_for (slice_set group n new) n ≡ effects_for group n ++ x ∷ []
    there = set_here group n new within ∙ is ∙ ap (λ es. es ++ x ∷ []) was_there

    lists : (q : ℕ) → q < subsystems → effects_for (slice_set group n new) q ++ effects_from ops plans q (number + 1) (acts rest) ≡ effects_from ops plans q first (acts all)
    lists q low = by (cases_eq q n)
      where
        tail : List Effect
        tail = effects_from ops plans q (number + 1) (acts rest)

        by : (q ≡ n) ⊎ (q ≡ n → ⊥) → effects_for (slice_set group n new) q ++ tail ≡ effects_from ops plans q first (acts all)
        by (inl same) =
            ap (λ es. es ++ tail) (subst (λ k. effects_for (slice_set group n new) k ≡ effects_for group k ++ x ∷ []) (sym same) there)
            ∙ append_assoc (effects_for group q) (x ∷ []) tail
            ∙ ap (λ b. effects_for group q ++ cond b (x ∷ tail) tail) (sym (eq-eqb (subsystem_of ops e.op) q (sym place ∙ sym same)))
            ∙ was.lists q low
        by (inr other) =
            ap (λ es. es ++ tail) (set_else group n q new other)
            ∙ ap (λ b. effects_for group q ++ cond b (x ∷ tail) tail) (sym (ne_eqb (subsystem_of ops e.op) q (λ same. other (sym same ∙ sym place))))
            ∙ was.lists q low

    room : (q : ℕ) → length (effects_for (slice_set group n new) q) + length rest ≤ most_active
    room q = by (cases_eq q n)
      where
        by : (q ≡ n) ⊎ (q ≡ n → ⊥) → length (effects_for (slice_set group n new) q) + length rest ≤ most_active
        by (inl same) =
            let now = ap (λ es. length {A = Effect} es) (subst (λ k. effects_for (slice_set group n new) k ≡ effects_for group k ++ x ∷ []) (sym same) there) in
            let more = length-append (effects_for group q) (x ∷ []) in
            let before = was.room q in
            omega (arith, now, more, before)
        by (inr other) =
            let now = ap (λ es. length {A = Effect} es) (set_else group n q new other) in
            let before = was.room q in
            omega (arith, now, before)

-- in the end all is listed
pub all_listed : (ops : List Op) (plans : List Plan) (first : ℕ) (all : List Event) (number : ℕ) (rest : List Event) (group : List (List Effect)) → rest ≡ []
    → IsListedSoFar ops plans first all number rest group → ListsEach ops plans first (acts all) group
all_listed ops plans first all number rest group none was q low =
    sym (append-nil (effects_for group q)) ∙ ap (λ es. effects_for group q ++ effects_from ops plans q number (acts es)) (sym none) ∙ was.lists q low

-- there are no more acts than events
pub fewer_acts : (es : List Event) → length (acts es) ≤ length es
fewer_acts [] = omega arith
fewer_acts (Start i ∷ es) = let less = fewer_acts es in omega (arith, less)
fewer_acts (Act x ∷ es) = let less = fewer_acts es in omega (arith, less)
fewer_acts (End i ∷ es) = let less = fewer_acts es in omega (arith, less)

-- a list of as many places is what a function lists there
pub as_listed : (group : List (List Effect)) (on : ℕ → List Effect) (q k : ℕ) → length group ≡ k → ((n : ℕ) → n < k → effects_for group n ≡ on (q + n)) → group ≡ listed_from on q k
as_listed [] on q zero count each = refl
as_listed [] on q (suc k) count each = absurd (omega (arith, count))
as_listed (x ∷ group) on q zero count each = absurd (omega (arith, count))
as_listed (x ∷ group) on q (suc k) count each =
    ap (λ y. y ∷ group) (each 0 (omega arith) ∙ ap on (omega arith))
    ∙ ap (λ ys. on q ∷ ys) (as_listed group on (q + 1) k (omega (arith, count)) (λ n low. each (suc n) (omega (arith, low)) ∙ ap on (omega arith)))

-- and at each of the places it is what the function lists
pub listed_at : (on : ℕ → List Effect) (q k n : ℕ) → n < k → effects_for (listed_from on q k) n ≡ on (q + n)
listed_at on q zero n low = absurd (omega (arith, low))
listed_at on q (suc k) zero low = ap on (omega arith)
listed_at on q (suc k) (suc n) low = listed_at on (q + 1) k n (omega (arith, low)) ∙ ap on (omega arith)

pub length_listed : (on : ℕ → List Effect) (q k : ℕ) → length (listed_from on q k) ≡ k
length_listed on q zero = refl
length_listed on q (suc k) = ap suc (length_listed on (q + 1) k)

-- so it is the next group that is listed,
pub listed_is : (ops : List Op) (h : History) (events : List Event) (group : List (List Effect)) → length group ≡ subsystems
    → ListsEach ops h.plans (length (acts h.events)) (acts events) group → group ≡ next_group ops h events
unfolding next_group
listed_is ops h events group count lists = as_listed group (λ q. next_effects ops h q events) 0 subsystems count (λ q low. lists q low ∙ ap (λ k. next_effects ops h k events) (omega arith))

-- which has the next effects at each place
pub next_at : (ops : List Op) (h : History) (events : List Event) (q : ℕ) → q < subsystems → effects_for (next_group ops h events) q ≡ next_effects ops h q events
unfolding next_group
next_at ops h events q low = listed_at (λ k. next_effects ops h k events) 0 subsystems q low ∙ ap (λ k. next_effects ops h k events) (omega arith)

pub length_next : (ops : List Op) (h : History) (events : List Event) → length (next_group ops h events) ≡ subsystems
unfolding next_group
length_next ops h events = length_listed (λ q. next_effects ops h q events) 0 subsystems
