-- The victims of a core, as they are kept one after another.
use Rattle.std.proofs.Common.{◌≡◌, ℕ, suc, false, find, is_some, ◌≤◌, ◌<◌, true, not, List, [], ◌∷◌, length, Option, Some, None, sym, refl, ap, subst, ◌∙◌, append_assoc, append-nil, arith}
use Rattle.std.specs.Option.{option_map}
use Rattle.std.proofs.lemmas.Bool.{eq-eqb, false≢true}
use Rattle.schedule_model.specs.Histories.{active}
use Rattle.schedule_model.proofs.Counts.{length_filter-most}
use Rattle.machine_model.specs.declared.kept.Kept.{Kept}
use Rattle.machine_model.specs.declared.kept.Kept.TheVariants.{Victim}
use Rattle.machine_model.specs.Advance.{advance}
use Rattle.machine_model.specs.Moment.{Moment, has_begun}
use Rattle.machine_model.specs.Replies.{Handed, all_victims, hand_to, rotation, victim_then, victims}
use Rattle.machine_model.specs.Runs.{is_victim, may_be_kept}
use Rattle.machine_model.specs.State.{is_free, victim_of}
use Rattle.machine_model.proofs.Snoc.{now-push}
use Rattle.machine_model.proofs.Victims.{not_begun, victim-active, victim-fewer, victims-same}
use Rattle.core_state.specs.Cores.{CoreState, courses_in, machine_of, moment_of, relation}
use Rattle.process_core.specs.Handing.{with_all, with_kept}
use Rattle.process_core.proofs.Stalls.{free_victim}

-- a core once its victims are made
abbrev pub with_victims : CoreState → CoreState
with_victims v = with_all v (all_victims (relation v) (courses_in v) (moment_of v))

-- where nothing is mapped there is nothing
pub none_mapped : {X : Type 0} (g : ℕ → X) (o : Option ℕ) → is_some (option_map g o) ≡ false → o ≡ None
none_mapped g None is = refl
none_mapped g (Some i) is = absurd (false≢true (sym is))

module _ (v : CoreState) where
  abbrev m : Moment
  m = moment_of v

  abbrev many : ℕ
  many = length (active (moment_of v).events)

  -- what follows one that there is
  abbrev then : Option ℕ → List Kept
  then o = victim_then (λ i. victims many (relation v) (courses_in v) (advance (relation v) (courses_in v) m (Victim i))) o

  one_by_one : all_victims (relation v) (courses_in v) (moment_of v) ≡ then (victim_of (relation v) (courses_in v) m)
  one_by_one =
      let most : not_begun m ≤ many = length_filter-most (λ i. not (has_begun m i)) (active m.events) in
      let more : not_begun m ≤ suc many = omega arith in
      victims-same (relation v) (courses_in v) many (suc many) m most more

  -- where there is none, all are made
  victims_end : None ≡ victim_of (relation v) (courses_in v) (moment_of v) → with_victims v ≡ v
  victims_end none =
      ap (with_all v) (one_by_one ∙ ap then (sym none))
      ∙ ap (λ ks. record { conflicts = v.conflicts; plans = v.plans; opening = v.opening; kept = ks; served = v.served }) (append-nil v.kept)

  pub victims_over : (o : Option ℕ) → o ≡ victim_of (relation v) (courses_in v) (moment_of v) → ((i : ℕ) → o ≡ Some i → ⊥) → with_victims v ≡ v
  victims_over None is none = victims_end is
  victims_over (Some i) is none = absurd (none i refl)

  -- where a piece is free there is none
  pub victims_free : (first : Option Handed) → first ≡ option_map (hand_to (courses_in v) (moment_of v)) (find (is_free (relation v) (courses_in v) (moment_of v)) (rotation (moment_of v) v.served))
      → is_some first ≡ true → with_victims v ≡ v
  victims_free None is some = absurd (false≢true some)
  victims_free (Some d) is some = victims_end (sym (free_victim (relation v) (courses_in v) (moment_of v) v.served d is))

  module _ (i : ℕ) (is : Some i ≡ victim_of (relation v) (courses_in v) (moment_of v)) where
    -- where there is one, it may be kept
    pub victim_may : may_be_kept (relation v) (courses_in v) (moment_of v) (Victim i) ≡ true
    victim_may = ap (is_victim i) (sym is) ∙ eq-eqb i i refl

    -- the others follow
    pub victims_go : with_victims (with_kept v (Victim i)) ≡ with_victims v
    victims_go =
        ap (λ n. with_all (with_kept v (Victim i)) (all_victims (relation v) (courses_in v) n)) (now-push (relation v) (machine_of v) (Victim i))
        ∙ (ap (λ is. with_all (with_kept v (Victim i)) (victims (length is) (relation v) (courses_in v) (advance (relation v) (courses_in v) m (Victim i)))) (victim-active (relation v) (courses_in v) m i)
        ∙ (ap (λ ks. record { conflicts = v.conflicts; plans = v.plans; opening = v.opening; kept = ks; served = v.served })
        (append_assoc v.kept (Victim i ∷ []) (victims many (relation v) (courses_in v) (advance (relation v) (courses_in v) m (Victim i))))
        ∙ sym (ap (with_all v) (one_by_one ∙ ap then (sym is)))))

    -- and fewer have not begun
    pub victims_fewer : not_begun (moment_of (with_kept v (Victim i))) < not_begun (moment_of v)
    victims_fewer = subst (λ n. not_begun n < not_begun m) (sym (now-push (relation v) (machine_of v) (Victim i))) (victim-fewer (relation v) (courses_in v) m i (sym is))
