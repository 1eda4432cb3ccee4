-- Legal histories that go on.
use Rattle.std.proofs.Common.{◌≡◌, Bool, true, false, ◌&&◌, List, [], ◌∷◌, ◌++◌, refl, rules}
use Rattle.std.specs.Bool.{IsTrue}
use Rattle.schedule_model.specs.declared.event.Event.{Event}
use Rattle.schedule_model.specs.Course.{Course}
use Rattle.schedule_model.specs.Conflict.{ConflictRelation}
use Rattle.schedule_model.specs.Legal.{may_come, goes_legally, is_legal}
use Rattle.schedule_model.proofs.Induction.{each_passes-append, each_passes-prefix, each_passes-push}

pub both-left : (a b : Bool) → IsTrue (a && b) → IsTrue a
both-left true b is = refl
both-left false b is = is

pub both-right : (a b : Bool) → IsTrue (a && b) → IsTrue b
both-right true b is = is
both-right false b is = absurd (search (rules, is))

module _ (table : ConflictRelation) (courses : List Course) where
  -- a history goes legally where its beginning does, and the rest after that
  pub goes_legally-append : (before g k : List Event) → goes_legally table courses before (g ++ k)
      ≡ (goes_legally table courses before g && goes_legally table courses (before ++ g) k)
  goes_legally-append = each_passes-append (may_come table courses)

  -- each beginning of a legal history is legal
  pub is_legal-prefix : (g k : List Event) → IsTrue (is_legal table courses (g ++ k)) → IsTrue (is_legal table courses g)
  is_legal-prefix = each_passes-prefix (may_come table courses)

  -- a history with one event more is legal where it was and the event may come
  pub is_legal-push : (h : List Event) (e : Event) → is_legal table courses (h ++ e ∷ []) ≡ (is_legal table courses h && may_come table courses h e)
  is_legal-push = each_passes-push (may_come table courses)
