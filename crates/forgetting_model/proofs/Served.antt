-- Who was served is, since, as many as have numbers up to his and go on.
use Rattle.std.proofs.Common.{◌≡◌, inl, ℕ, zero, suc, ◌+◌, ◌-◌, ◌<◌, ◌≤◌, Bool, true, false, not, cond, ltb, leb, List, [], ◌∷◌, length, filter, sym, refl, ap, ◌∙◌, arith}
use Rattle.std.specs.Bool.{IsTrue}
use Rattle.std.specs.List.{list_all}
use Rattle.std.proofs.lemmas.Bool.{le-leb, leb-false, leb-true, lt-leb, lt-ltb, ltb-false, ltb-true}
use Rattle.schedule_model.specs.declared.event.Event.{Event}
use Rattle.schedule_model.specs.Course.{Course}
use Rattle.schedule_model.specs.Conflict.{ConflictRelation}
use Rattle.schedule_model.specs.Histories.{active, starts}
use Rattle.schedule_model.specs.Legal.{is_legal}
use Rattle.schedule_model.proofs.Members.{all-among, filter-none}
use Rattle.forgetting_model.specs.Remaining.{carried_at, number_in}
use Rattle.forgetting_model.specs.Replies.{EachIsServedAlike, ServesAlike, served_since}
use Rattle.forgetting_model.proofs.Lives.{active-carried}
use Rattle.forgetting_model.proofs.Numbers.{AreCarried, carried-above, carried_rest}

ltb_alike : (a b c d : ℕ) → (a < b → c < d) → (c < d → a < b) → ltb a b ≡ ltb c d
ltb_alike a b c d there back = by_test (ltb a b) refl (ltb c d) refl
  where
    by_test : (s : Bool) → ltb a b ≡ s → (t : Bool) → ltb c d ≡ t → ltb a b ≡ ltb c d
    by_test true less t is = less ∙ sym (lt-ltb c d (there (ltb-true a b less)))
    by_test false more true is = lt-ltb a b (back (ltb-true c d is)) ∙ sym is
    by_test false more false is = more ∙ sym is

leb_not : (a b : ℕ) → leb a b ≡ not (ltb b a)
leb_not a b = by_test (ltb b a) refl
  where
    by_test : (t : Bool) → ltb b a ≡ t → leb a b ≡ not t
    by_test true less = lt-leb a b (ltb-true b a less)
    by_test false more = le-leb a b (ltb-false b a more)

module _ (before served : ℕ) where
  abbrev up_to : List ℕ → ℕ
  up_to cs = length (filter (λ i. leb i served) cs)

  none_up_to : (c : ℕ) (cs : List ℕ) → IsTrue (list_all (λ y. ltb c y) cs) → served < c → up_to cs ≡ 0
  none_up_to c cs above less =
      ap length (filter-none (λ i. leb i served) cs (λ i among. lt-leb i served (let more = ltb-true c i (all-among (λ y. ltb c y) cs above i among) in omega arith)))

  after_step : (c k : ℕ) (cs : List ℕ) → AreCarried before (c ∷ cs) → (t : Bool) → leb c served ≡ t
      → ((k : ℕ) → ltb served (carried_at cs before k) ≡ ltb (up_to cs + (served - before)) (suc k))
      → ltb served (carried_at (c ∷ cs) before k) ≡ ltb (length (cond t (c ∷ filter (λ i. leb i served) cs) (filter (λ i. leb i served) cs)) + (served - before)) (suc k)
  after_step c zero cs are true low rest =
      let less = leb-true c served low in
      ltb_alike served c (suc (up_to cs) + (served - before)) 1 (λ more. absurd (omega arith)) (λ more. absurd (omega arith))
  after_step c (suc k) cs are true low rest =
      rest k ∙ ltb_alike (up_to cs + (served - before)) (suc k) (suc (up_to cs) + (served - before)) (suc (suc k)) (λ less. omega arith) (λ less. omega arith)
  after_step c zero cs are false high rest =
      let more = leb-false c served high in
      let none = none_up_to c cs are.rising.0 more in
      let top = are.high c (inl refl) in
      ltb_alike served c (up_to cs + (served - before)) 1 (λ less. omega arith) (λ less. omega arith)
  after_step c (suc k) cs are false high rest =
      let more = leb-false c served high in
      let none = none_up_to c cs are.rising.0 more in
      let top = are.high c (inl refl) in
      let above = carried-above before c k cs are.rising.0 top in
      ltb_alike served (carried_at cs before k) (up_to cs + (served - before)) (suc (suc k)) (λ less. omega arith) (λ less. omega arith)

  after_carried : (cs : List ℕ) → AreCarried before cs → (k : ℕ) → ltb served (carried_at cs before k) ≡ ltb (up_to cs + (served - before)) (suc k)
  after_carried [] are k = ltb_alike served (before + suc k) (0 + (served - before)) (suc k) (λ less. omega arith) (λ less. omega arith)
  after_carried (c ∷ cs) are k = after_step c k cs are (leb c served) refl (after_carried cs (carried_rest before c cs are))

module _ (table : ConflictRelation) (courses : List Course) (h : List Event) (legal : IsTrue (is_legal table courses h)) (served : ℕ) where
  later : (k : ℕ) → 1 ≤ k → ltb served (number_in h k) ≡ ltb (served_since h served) k
  later zero some = absurd (omega arith)
  later (suc k) some = after_carried (length (starts h)) served (active h) (active-carried table courses h legal) k

  pub serves_alike : ServesAlike h served (served_since h served)
  serves_alike = record {
    after = later;
    up_to = λ k some. leb_not (number_in h k) served ∙ (ap not (later k some) ∙ sym (leb_not k (served_since h served)));
  }

pub each_is_served_alike : EachIsServedAlike
each_is_served_alike table courses h served legal = serves_alike table courses h legal served
