-- What a step does to the recovery of its process, by its class.
use Rattle.std.proofs.Common.{◌≡◌, ℕ, true, List, [], ◌∷◌, ◌++◌, map, length, drop, zero, suc, sym, refl, ap, ◌∙◌, arith}
use Rattle.std.specs.List.{list_all}
use Rattle.std.specs.Prelude.{nat_lt}
use Rattle.std.proofs.lemmas.Bool.{and_parts}
use Rattle.process_tree.specs.declared.entry.Entry.{Entry}
use Rattle.process_tree.specs.Shape.{Shape, commits, commits_after, fixed_len, goes_on_to}
use Rattle.process_tree.specs.Recovery.{reserved, forward}
use Rattle.process_tree.specs.Laws.{HasClass}
use Rattle.process_tree.proofs.TreeLaws.{next_steps_have_a_class, paths_lie_in_order}
use Rattle.process_tree.proofs.InTurn.{arrive_on}
use Rattle.process_tree.proofs.Fixed.{commits_there}
use Rattle.process_tree.proofs.Onward.{branch_from}
use Rattle.schedule_model.specs.declared.event.Event.{Event}
use Rattle.schedule_model.specs.declared.event.Event.TheVariants.{Act}
use Rattle.schedule_model.specs.Course.{Course, courses_of, shape}
use Rattle.schedule_model.specs.Histories.{doing, net_of, net_steps, done_steps, steps_of}
use Rattle.schedule_model.specs.Legal.{class_in}
use Rattle.schedule_model.specs.Laws.{ClassFacts, ClassFactsHold}
use Rattle.schedule_model.proofs.GoodPlans.{HasGoodPlan, good_if_goes_on}
use Rattle.schedule_model.proofs.Recoveries.{backward_entries-commit, backward_entries-do, owed-do, net_steps-do}
use Rattle.schedule_model.proofs.Undoing.{owed-stays}

-- entries have no tail where their steps have none
no_tail : (es : List Entry) (n : ℕ) → drop n (steps_of es) ≡ [] → drop n es ≡ []
no_tail [] zero none = refl
no_tail [] (suc n) none = refl
no_tail (e ∷ es) zero none = let l = ap length none in absurd (omega arith)
no_tail (e ∷ es) (suc n) none = no_tail es n none

module _ (courses : List Course) (h : List Event) (i b : ℕ) (plan : HasGoodPlan courses i) (on : goes_on_to (shape courses i) (net_steps h i) b ≡ true) where
  abbrev t : Shape
  t = shape courses i

  abbrev after : List Event
  after = h ++ Act (doing courses i b) ∷ []

  class : HasClass t (net_steps h i) b
  class = next_steps_have_a_class t plan.tree plan.well_formed (net_steps h i) b on

  there : commits_after t (net_steps h i) b ≡ commits t b
  there = let laid = paths_lie_in_order t plan.tree in commits_there t (net_steps h i) b (branch_from t (net_steps h i) b laid.in_order laid.rising on)

  pub reserved_commits : class_in courses h i b ≡ reserved → commits_after t (net_steps h i) b ≡ true
  reserved_commits is = there ∙ class.reserved_commits is

  pub facts : ClassFacts courses h after i b
  facts = record {
    reserved_before = λ is. no_tail (net_of h i) (fixed_len t (net_steps h i)) (class.nothing_to_undo is);
    reserved_after = λ is. backward_entries-commit courses h (doing courses i b) refl (reserved_commits is);
    reserved_owes = λ is. ap (map (doing courses i)) (class.owed_first is)
        ∙ ap (λ w. doing courses i b ∷ map (doing courses i) (forward t w)) (sym (net_steps-do h (doing courses i b) refl));
    reserved_succeeds = class.reserved_is_not_refused;
    reserved_without_outcome = λ is.
        let laid = paths_lie_in_order t plan.tree in
        arrive_on t (length t.kinds) (net_steps h i) b refl laid.rising laid.within on (class.reserved_is_not_refused is);
    committing_after = λ is. backward_entries-commit courses h (doing courses i b) refl (there ∙ class.committing_commits is);
    committing_owes = λ is. owed-do courses h (doing courses i b) refl;
    undoable_after = λ is. backward_entries-do courses h (doing courses i b) refl (there ∙ class.undoable_stays is);
    undoable_owes = λ is. owed-stays courses h (doing courses i b) refl (there ∙ class.undoable_stays is);
  }

pub class-facts : ClassFactsHold
class-facts plans h i b good goes =
    let on = (and_parts (goes_on_to (shape (courses_of plans) i) (net_steps h i) b) (list_all (λ d. nat_lt d b) (done_steps h i)) goes).0 in
    facts (courses_of plans) h i b (good_if_goes_on plans i (net_steps h i) b good on) on
