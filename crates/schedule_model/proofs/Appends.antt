-- What a history says that goes on: each definition of one history after another.
use Rattle.std.proofs.Common.{◌≡◌, ℕ, Bool, true, false, not, cond, eqb, ◌||◌, List, [], ◌∷◌, ◌++◌, filter, refl, ap}
use Rattle.std.specs.List.{list_any}
use Rattle.std.proofs.lemmas.List.{map-append}
use Rattle.std.proofs.lemmas.List.Elements.{filter-append}
use Rattle.std.proofs.lemmas.List.Folds.{list_any-append}
use Rattle.process_tree.specs.declared.entry.Entry.{Entry}
use Rattle.schedule_model.specs.declared.event.Event.{Event}
use Rattle.schedule_model.specs.declared.event.Event.TheVariants.{Start, Act, End}
use Rattle.schedule_model.specs.Histories.{acts, starts, ends, net_acts, net, takes_back, is_in, active, done_steps}

pub acts-append : (g k : List Event) → acts (g ++ k) ≡ acts g ++ acts k
acts-append [] k = refl
acts-append (Start i ∷ g) k = acts-append g k
acts-append (Act e ∷ g) k = ap (λ es. e ∷ es) (acts-append g k)
acts-append (End i ∷ g) k = acts-append g k

pub starts-append : (g k : List Event) → starts (g ++ k) ≡ starts g ++ starts k
starts-append [] k = refl
starts-append (Start i ∷ g) k = ap (λ is. i ∷ is) (starts-append g k)
starts-append (Act e ∷ g) k = starts-append g k
starts-append (End i ∷ g) k = starts-append g k

pub ends-append : (g k : List Event) → ends (g ++ k) ≡ ends g ++ ends k
ends-append [] k = refl
ends-append (Start i ∷ g) k = ends-append g k
ends-append (Act e ∷ g) k = ends-append g k
ends-append (End i ∷ g) k = ap (λ is. i ∷ is) (ends-append g k)

-- one of these takes e back
abbrev pub is_taken_back : List Entry → Entry → Bool
is_taken_back fs e = list_any (λ f. takes_back f e) fs

-- the entries that none of these takes back
abbrev pub kept_by : List Entry → List Entry → List Entry
kept_by fs es = filter (λ e. not (is_taken_back fs e)) es

net-step : (x : Entry) (xs ys ns ms : List Entry) (u a b : Bool) → is_taken_back ys x ≡ b → ms ≡ kept_by ys ns ++ net_acts ys
    → cond (u || (a || b)) ms (x ∷ ms) ≡ kept_by ys (cond (u || a) ns (x ∷ ns)) ++ net_acts ys
net-step x xs ys ns ms true a b same e = e
net-step x xs ys ns ms false true b same e = e
net-step x xs ys ns ms false false true same e = rw same e
net-step x xs ys ns ms false false false same e = rw same (ap (λ es. x ∷ es) e)

-- of the first net those entries stay that nothing later takes back
pub net_acts-append : (xs ys : List Entry) → net_acts (xs ++ ys) ≡ kept_by ys (net_acts xs) ++ net_acts ys
net_acts-append [] ys = refl
net_acts-append (x ∷ xs) ys = rw (list_any-append (λ f. takes_back f x) xs ys) (net-step x xs ys (net_acts xs) (net_acts (xs ++ ys)) x.undo (is_taken_back xs x) (is_taken_back ys x) refl (net_acts-append xs ys))

pub net-append : (g k : List Event) → net (g ++ k) ≡ kept_by (acts k) (net g) ++ net k
net-append g k = rw (acts-append g k) (net_acts-append (acts g) (acts k))

-- a test of a number by two lists
pub is_in-append : (i : ℕ) (xs ys : List ℕ) → is_in i (xs ++ ys) ≡ (is_in i xs || is_in i ys)
is_in-append i xs ys = list_any-append (eqb i) xs ys

-- who is active after more events: who was and didn't end, and who started since
pub active-append : (g k : List Event)
    → active (g ++ k) ≡ filter (λ i. not (is_in i (ends (g ++ k)))) (starts g) ++ filter (λ i. not (is_in i (ends (g ++ k)))) (starts k)
active-append g k = rw (starts-append g k) (filter-append (λ i. not (is_in i (ends (g ++ k)))) (starts g) (starts k))

pub done_steps-append : (g k : List Event) (i : ℕ) → done_steps (g ++ k) i ≡ done_steps g i ++ done_steps k i
done_steps-append g k i = rw (acts-append g k, filter-append (λ (e : Entry). not e.undo) (acts g) (acts k), filter-append (λ (e : Entry). eqb e.process i) (filter (λ (e : Entry). not e.undo) (acts g)) (filter (λ (e : Entry). not e.undo) (acts k)))
    (map-append (λ (e : Entry). e.step) (filter (λ (e : Entry). eqb e.process i) (filter (λ (e : Entry). not e.undo) (acts g))) (filter (λ (e : Entry). eqb e.process i) (filter (λ (e : Entry). not e.undo) (acts k))))
