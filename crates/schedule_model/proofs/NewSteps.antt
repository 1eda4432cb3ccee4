-- A step that may come is of none of the steps that stand.
use Rattle.std.proofs.Common.{◌≡◌, false, not, List, [], ◌∷◌, ◌++◌, ◌∙◌, subst}
use Rattle.std.specs.Bool.{IsTrue}
use Rattle.std.proofs.lemmas.Bool.{not-true}
use Rattle.process_tree.specs.declared.entry.Entry.{Entry}
use Rattle.schedule_model.specs.declared.event.Event.{Event}
use Rattle.schedule_model.specs.declared.event.Event.TheVariants.{Act}
use Rattle.schedule_model.specs.Course.{Course}
use Rattle.schedule_model.specs.Conflict.{ConflictRelation}
use Rattle.schedule_model.specs.Histories.{net, same_step}
use Rattle.schedule_model.specs.Legal.{may_come, is_legal}
use Rattle.schedule_model.proofs.Members.{not_any, all-among}
use Rattle.schedule_model.proofs.Behind.{has_step, same_step-symmetric}
use Rattle.schedule_model.proofs.Snoc.{net-do}
use Rattle.schedule_model.proofs.Induction.{passes-push}
use Rattle.schedule_model.proofs.Apart.{Apart, Apart-last, net-apart}

module _ (table : ConflictRelation) (courses : List Course) (h : List Event) (legal : IsTrue (is_legal table courses h)) (e : Entry) (is_step : e.undo ≡ false)
    (may : IsTrue (may_come table courses h (Act e))) where
  pub step-is_new : has_step e (net h) ≡ false
  step-is_new =
      let apart = subst Apart (net-do h e is_step) (net-apart table courses (h ++ Act e ∷ []) (passes-push (may_come table courses) h (Act e) legal may)) in
      let all = Apart-last (net h) e apart in
      not_any (same_step e) (net h) (λ x is. same_step-symmetric e x ∙ not-true (same_step x e) (all-among (λ f. not (same_step f e)) (net h) all x is))
