-- An event of another process leaves all that is said of a process alone.
use Rattle.std.proofs.Common.{◌≡◌, ℕ, false, not, eqb, ltb, ◌&&◌, ◌||◌, List, [], ◌∷◌, ◌++◌, refl, ap, ◌∙◌, append-nil}
use Rattle.std.specs.List.{list_all}
use Rattle.std.proofs.Math.Bool.{or-false}
use Rattle.process_tree.specs.Shape.{goes_on_to, is_end}
use Rattle.schedule_model.specs.declared.event.Event.{Event}
use Rattle.schedule_model.specs.declared.event.Event.TheVariants.{Start, Act, End}
use Rattle.schedule_model.specs.Course.{Course, shape}
use Rattle.schedule_model.specs.Histories.{ends, is_active, is_in, net_of, net_steps, done_steps, starts, steps_of}
use Rattle.schedule_model.specs.Recovery.{backward_entries, owed}
use Rattle.schedule_model.specs.OwnOrder.{goes_on, is_at_end}
use Rattle.schedule_model.proofs.Appends.{starts-append, ends-append, is_in-append, done_steps-append}
use Rattle.schedule_model.proofs.Conflicts.{same_either_way}
use Rattle.schedule_model.proofs.Snoc.{net_of-other, net_of-start, net_of-end, backward_entries-by_net, owed-by_net, is_active-do}
use Rattle.schedule_model.proofs.FewActs.{done_other}

-- the process that an event is of
abbrev pub process_of : Event → ℕ
process_of (Start i) = i
process_of (Act e) = e.process
process_of (End i) = i

-- what is said of process i is the same after as before
pub record Stays (courses : List Course) (h after : List Event) (i : ℕ) : Type 0 where
  pub active : is_active after i ≡ is_active h i
  pub net : net_of after i ≡ net_of h i
  pub done : done_steps after i ≡ done_steps h i
  pub backward : backward_entries courses after i ≡ backward_entries courses h i
  pub owes : owed courses after i ≡ owed courses h i
  pub goes : (b : ℕ) → goes_on courses after i b ≡ goes_on courses h i b
  pub at_end : is_at_end courses after i ≡ is_at_end courses h i

module _ (courses : List Course) (h after : List Event) (i : ℕ) where
  stays-by : is_active after i ≡ is_active h i → net_of after i ≡ net_of h i → done_steps after i ≡ done_steps h i → Stays courses h after i
  stays-by active net done = record {
    active = active;
    net = net;
    done = done;
    backward = backward_entries-by_net courses after h i net;
    owes = owed-by_net courses after h i net;
    goes = λ b. ap (λ es. goes_on_to (shape courses i) (steps_of es) b && list_all (λ d. ltb d b) (done_steps after i)) net
        ∙ ap (λ ds. goes_on_to (shape courses i) (net_steps h i) b && list_all (λ d. ltb d b) ds) done;
    at_end = ap (λ es. is_end (shape courses i) (steps_of es)) net;
  }

-- one number more that isn't i
not_listed : (i k : ℕ) (is : List ℕ) → eqb k i ≡ false → is_in i (is ++ k ∷ []) ≡ is_in i is
not_listed i k is other =
    is_in-append i is (k ∷ [])
    ∙ (ap (λ t. is_in i is || (t || false)) (same_either_way k i false other) ∙ or-false (is_in i is))

-- an event of another process leaves process i
pub frame : (courses : List Course) (h : List Event) (e : Event) (i : ℕ) → eqb (process_of e) i ≡ false → Stays courses h (h ++ e ∷ []) i
frame courses h (Start k) i other =
    stays-by courses h (h ++ Start k ∷ []) i
    (ap (λ is. is_in i is && not (is_in i (ends (h ++ Start k ∷ [])))) (starts-append h (Start k ∷ []))
    ∙ (ap (λ t. t && not (is_in i (ends (h ++ Start k ∷ [])))) (not_listed i k (starts h) other)
    ∙ ap (λ is. is_in i (starts h) && not (is_in i is)) (ends-append h (Start k ∷ []) ∙ append-nil (ends h))))
    (net_of-start h k i) (done_steps-append h (Start k ∷ []) i ∙ append-nil (done_steps h i))
frame courses h (Act e) i other =
    stays-by courses h (h ++ Act e ∷ []) i (is_active-do h e i) (net_of-other h e i other) (done_other courses i h e other e.undo refl)
frame courses h (End k) i other =
    stays-by courses h (h ++ End k ∷ []) i
    (ap (λ is. is_in i is && not (is_in i (ends (h ++ End k ∷ [])))) (starts-append h (End k ∷ []) ∙ append-nil (starts h))
    ∙ ap (λ t. is_in i (starts h) && not t) (ap (is_in i) (ends-append h (End k ∷ [])) ∙ not_listed i k (ends h) other))
    (net_of-end h k i) (done_steps-append h (End k ∷ []) i ∙ append-nil (done_steps h i))
