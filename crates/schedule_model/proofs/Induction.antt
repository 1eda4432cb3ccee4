-- One principle for all that is said of a history by one test for each event: what holds of no events, and is kept by each
-- event that passes, holds of the history.
use Rattle.std.proofs.Common.{◌≡◌, ℕ, ◌+◌, Bool, true, false, cond, ◌&&◌, List, [], ◌∷◌, ◌++◌, length, Some, None, sym, refl, ap, ◌∙◌, subst, arith, append-nil, append_assoc}
use Rattle.std.proofs.Math.Bool.{and-true}
use Rattle.std.specs.Bool.{IsTrue}
use Rattle.std.proofs.lemmas.Bool.{and_parts, and_from}
use Rattle.schedule_model.specs.declared.event.Event.{Event}
use Rattle.schedule_model.specs.Course.{Course}
use Rattle.schedule_model.specs.Conflict.{ConflictRelation}
use Rattle.schedule_model.specs.EachEvent.{EventTest, each_passes, first_failing}
use Rattle.schedule_model.specs.OwnOrder.{keeps_order, is_in_own_order}
use Rattle.schedule_model.specs.Legal.{may_come, is_legal, keeps_and_ends_clear, is_reducible}

and_assoc : (a b c : Bool) → (a && (b && c)) ≡ ((a && b) && c)
and_assoc true b c = refl
and_assoc false b c = refl

module _ (test : EventTest) where
  -- all pass where a beginning does, and the rest after that
  pub each_passes-append : (before g k : List Event) → each_passes test before (g ++ k) ≡ (each_passes test before g && each_passes test (before ++ g) k)
  each_passes-append before [] k = ap (λ b. each_passes test b k) (sym (append-nil before))
  each_passes-append before (e ∷ g) k =
      ap (λ b. test before e && b) (each_passes-append (before ++ e ∷ []) g k)
      ∙ (ap (λ b. test before e && (each_passes test (before ++ e ∷ []) g && each_passes test b k)) (append_assoc before (e ∷ []) g)
      ∙ and_assoc (test before e) (each_passes test (before ++ e ∷ []) g) (each_passes test (before ++ (e ∷ g)) k))

  pub each_passes-prefix : (g k : List Event) → IsTrue (each_passes test [] (g ++ k)) → IsTrue (each_passes test [] g)
  each_passes-prefix g k is = (and_parts (each_passes test [] g) (each_passes test g k) (sym (each_passes-append [] g k) ∙ is)).0

  -- one event more is one test more
  pub each_passes-push : (h : List Event) (e : Event) → each_passes test [] (h ++ e ∷ []) ≡ (each_passes test [] h && test h e)
  each_passes-push h e = each_passes-append [] h (e ∷ []) ∙ ap (λ b. each_passes test [] h && b) (and-true (test h e))

  pub passes-push : (h : List Event) (e : Event) → IsTrue (each_passes test [] h) → IsTrue (test h e) → IsTrue (each_passes test [] (h ++ e ∷ []))
  passes-push h e all passes = each_passes-push h e ∙ and_from (each_passes test [] h) (test h e) all passes

  module _ (P : List Event → Type 0) (kept : (h : List Event) (e : Event) → IsTrue (each_passes test [] h) → IsTrue (test h e) → P h → P (h ++ e ∷ [])) where
    pub kept_from : (before h : List Event) → IsTrue (each_passes test [] before) → IsTrue (each_passes test before h) → P before → P (before ++ h)
    kept_from before [] passed all has = subst P (sym (append-nil before)) has
    kept_from before (e ∷ h) passed all has =
        let parts = and_parts (test before e) (each_passes test (before ++ e ∷ []) h) all in
        subst P (append_assoc before (e ∷ []) h)
        (kept_from (before ++ e ∷ []) h (passes-push before e passed parts.0) parts.1 (kept before e passed parts.0 has))

    pub by_events : P [] → (h : List Event) → IsTrue (each_passes test [] h) → P h
    by_events nothing h all = kept_from [] h refl all nothing

  -- The first that doesn't pass.

  none_by : (n : ℕ) (before h : List Event) (e : Event) (t : Bool) → test before e ≡ t
      → (first_failing test (n + 1) (before ++ e ∷ []) h ≡ None → IsTrue (each_passes test (before ++ e ∷ []) h))
      → first_failing test n before (e ∷ h) ≡ None → IsTrue (each_passes test before (e ∷ h))
  none_by n before h e true is rest none =
      and_from (test before e) (each_passes test (before ++ e ∷ []) h) is
      (rest (sym (ap (λ t. cond t (first_failing test (n + 1) (before ++ e ∷ []) h) (Some n)) is) ∙ none))
  none_by n before h e false is rest none =
      let some : Some n ≡ None = sym (ap (λ t. cond t (first_failing test (n + 1) (before ++ e ∷ []) h) (Some n)) is) ∙ none in absurd (cc)

  pub first_failing-none : (n : ℕ) (before h : List Event) → first_failing test n before h ≡ None → IsTrue (each_passes test before h)
  first_failing-none n before [] none = refl
  first_failing-none n before (e ∷ h) none = none_by n before h e (test before e) refl (first_failing-none (n + 1) (before ++ e ∷ []) h) none

  pub first_failing-all : (n : ℕ) (before h : List Event) → IsTrue (each_passes test before h) → first_failing test n before h ≡ None
  first_failing-all n before [] all = refl
  first_failing-all n before (e ∷ h) all =
      let parts = and_parts (test before e) (each_passes test (before ++ e ∷ []) h) all in
      ap (λ t. cond t (first_failing test (n + 1) (before ++ e ∷ []) h) (Some n)) parts.0
      ∙ first_failing-all (n + 1) (before ++ e ∷ []) h parts.1

  -- the first event that fails, and those before it, which pass
  abbrev pub Fails : ℕ → List Event → List Event → ℕ → Type 0
  Fails n before h m = (g : List Event) × (e : Event) × (k : List Event) × (h ≡ g ++ e ∷ k) × (m ≡ length g + n)
      × IsTrue (each_passes test before g) × (test (before ++ g) e ≡ false)

  one_later : (n : ℕ) (before : List Event) (e : Event) (h : List Event) (m : ℕ) → IsTrue (test before e) → Fails (n + 1) (before ++ e ∷ []) h m → Fails n before (e ∷ h) m
  one_later n before e h m passes f = (
    e ∷ f.0,
    f.1,
    f.2,
    ap (λ es. e ∷ es) f.3,
    (let at = f.4 in omega arith),
    and_from (test before e) (each_passes test (before ++ e ∷ []) f.0) passes f.5,
    ap (λ b. test b f.1) (sym (append_assoc before (e ∷ []) f.0)) ∙ f.6,
  )

  some_by : (n : ℕ) (before h : List Event) (e : Event) (m : ℕ) (t : Bool) → test before e ≡ t
      → (first_failing test (n + 1) (before ++ e ∷ []) h ≡ Some m → Fails (n + 1) (before ++ e ∷ []) h m)
      → first_failing test n before (e ∷ h) ≡ Some m → Fails n before (e ∷ h) m
  some_by n before h e m true is rest some =
      one_later n before e h m is (rest (sym (ap (λ t. cond t (first_failing test (n + 1) (before ++ e ∷ []) h) (Some n)) is) ∙ some))
  some_by n before h e m false is rest some =
      let at : Some n ≡ Some m = sym (ap (λ t. cond t (first_failing test (n + 1) (before ++ e ∷ []) h) (Some n)) is) ∙ some in
      ([], e, h, refl, (let same : n ≡ m = cc in omega arith), refl, ap (λ b. test b e) (append-nil before) ∙ is)

  pub first_failing-some : (n : ℕ) (before h : List Event) (m : ℕ) → first_failing test n before h ≡ Some m → Fails n before h m
  first_failing-some n before [] m some = let none : None ≡ Some m = some in absurd (cc)
  first_failing-some n before (e ∷ h) m some = some_by n before h e m (test before e) refl (first_failing-some (n + 1) (before ++ e ∷ []) h m) some

-- what passes one test at each event passes another, where that follows
pub passes-other : (test other : EventTest) → ((h : List Event) (e : Event) → IsTrue (test h e) → IsTrue (other h e))
    → (h : List Event) → IsTrue (each_passes test [] h) → IsTrue (each_passes other [] h)
passes-other test other follows h all =
    by_events test (λ g. IsTrue (each_passes other [] g)) (λ g e passed passes has. passes-push other g e has (follows g e passes)) refl h all

-- The same of the three tests that histories are made by.

-- what holds of no events and is kept by each event that may come holds of each legal history
pub by_legal : (table : ConflictRelation) (courses : List Course) (P : List Event → Type 0)
    → ((h : List Event) (e : Event) → IsTrue (is_legal table courses h) → IsTrue (may_come table courses h e) → P h → P (h ++ e ∷ []))
    → P [] → (h : List Event) → IsTrue (is_legal table courses h) → P h
by_legal table courses P kept nothing h legal = by_events (may_come table courses) P kept nothing h legal

-- of each reducible history
pub by_reducible : (table : ConflictRelation) (courses : List Course) (P : List Event → Type 0)
    → ((h : List Event) (e : Event) → IsTrue (is_reducible table courses h) → IsTrue (keeps_and_ends_clear table courses h e) → P h → P (h ++ e ∷ []))
    → P [] → (h : List Event) → IsTrue (is_reducible table courses h) → P h
by_reducible table courses P kept nothing h reducible = by_events (keeps_and_ends_clear table courses) P kept nothing h reducible

-- of each history in own order
pub by_own_order : (courses : List Course) (P : List Event → Type 0)
    → ((h : List Event) (e : Event) → IsTrue (is_in_own_order courses h) → IsTrue (keeps_order courses h e) → P h → P (h ++ e ∷ []))
    → P [] → (h : List Event) → IsTrue (is_in_own_order courses h) → P h
by_own_order courses P kept nothing h own = by_events (keeps_order courses) P kept nothing h own
