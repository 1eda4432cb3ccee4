-- Each net entry of a legal history has the access that the course of its process gives it.
use Rattle.std.proofs.Common.{◌≡◌, ◌⊎◌, inl, inr, Bool, true, false, not, List, [], ◌∷◌, ◌++◌, refl, subst}
use Rattle.std.specs.Bool.{IsTrue}
use Rattle.process_tree.specs.Entries.{access_of}
use Rattle.process_tree.specs.declared.entry.Entry.{Entry}
use Rattle.schedule_model.specs.declared.event.Event.{Event}
use Rattle.schedule_model.specs.declared.event.Event.TheVariants.{Start, Act, End}
use Rattle.schedule_model.specs.Course.{Course, access_at}
use Rattle.schedule_model.specs.Conflict.{ConflictRelation}
use Rattle.schedule_model.specs.Histories.{net, same_step}
use Rattle.schedule_model.specs.Legal.{is_legal, may_come}
use Rattle.schedule_model.proofs.Acting.{act_in_order, order_of}
use Rattle.schedule_model.proofs.Induction.{by_legal}
use Rattle.schedule_model.proofs.Members.{Among, among-append, among-filter}
use Rattle.schedule_model.proofs.Snoc.{net-do, net-end, net-start, net-undo}

module _ (table : ConflictRelation) (courses : List Course) where
  abbrev pub AccessKnown : List Event → Type 0
  AccessKnown h = (x : Entry) → Among x (net h) → access_of x ≡ access_at courses x.process x.step

  act_known : (h : List Event) (e : Entry) (u : Bool) → e.undo ≡ u → IsTrue (may_come table courses h (Act e)) → AccessKnown h → AccessKnown (h ++ Act e ∷ [])
  act_known h e true undo may known x stands = known x (among-filter (λ f. not (same_step f e)) x (net h) (subst (Among x) (net-undo h e undo) stands)).0
  act_known h e false is_step may known x stands = by_part (among-append x (net h) (e ∷ []) (subst (Among x) (net-do h e is_step) stands))
    where
      by_part : Among x (net h) ⊎ Among x (e ∷ []) → access_of x ≡ access_at courses x.process x.step
      by_part (inl was) = known x was
      by_part (inr (inl now)) = subst (λ (f : Entry). access_of f ≡ access_at courses f.process f.step) now (act_in_order courses h e (order_of table courses h (Act e) may)).1
      by_part (inr (inr none)) = absurd none

  more_known : (h : List Event) (e : Event) → IsTrue (may_come table courses h e) → AccessKnown h → AccessKnown (h ++ e ∷ [])
  more_known h (Start i) may known x stands = known x (subst (Among x) (net-start h i) stands)
  more_known h (Act e) may known x stands = act_known h e e.undo refl may known x stands
  more_known h (End i) may known x stands = known x (subst (Among x) (net-end h i) stands)

  pub net-access : (h : List Event) → IsTrue (is_legal table courses h) → AccessKnown h
  net-access h legal = by_legal table courses AccessKnown (λ g e before may known. more_known g e may known) (λ x none. absurd none) h legal
