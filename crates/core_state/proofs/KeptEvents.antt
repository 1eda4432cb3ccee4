-- A core with one kept event more, as it is put together of its parts.
use Rattle.std.proofs.Common.{◌≡◌, ◌∙◌, ℕ, List, [], ◌∷◌, ◌++◌, sym, ap, subst}
use Rattle.schedule_model.specs.declared.event.Event.{Event}
use Rattle.machine_model.specs.declared.kept.Kept.{Kept}
use Rattle.hold_tables.specs.Tables.{Tables}
use Rattle.core_state.specs.Cores.{CoreState}
use Rattle.core_state.specs.Room.{IsKept}
use Rattle.core_state.specs.Seats.{SeatState}
use Rattle.core_state.proofs.HandStands.{with_event}

module _ (c : CoreState) (k : Kept) (h : List Event) (ss : List SeatState) (ts : Tables) (opening most capacity : ℕ) (stands : IsKept (with_event c k) h ss ts opening most capacity)
    (rs : List SeatState) (us : Tables) (ks : List Kept) (room : ℕ) (seats : rs ≡ ss) (tables : us ≡ ts) (items : ks ≡ c.kept ++ k ∷ []) where
  abbrev put_together : CoreState
  put_together = record { conflicts = us.conflicts; plans = c.plans; opening = c.opening; kept = ks; served = c.served }

  -- it is that core
  pub put_together_is : record { conflicts = us.conflicts; plans = c.plans; opening = c.opening; kept = ks; served = c.served } ≡ with_event c k
  put_together_is =
      ap (λ x. record { conflicts = x; plans = c.plans; opening = c.opening; kept = ks; served = c.served }) (ap (λ (t : Tables). t.conflicts) tables ∙ ap (λ (t : Tables). t.conflicts) stands.stands.tables)
      ∙ ap (λ x. record { conflicts = c.conflicts; plans = c.plans; opening = c.opening; kept = x; served = c.served }) items

  -- and stands
  pub put_together_stands : room ≡ capacity → IsKept (record { conflicts = us.conflicts; plans = c.plans; opening = c.opening; kept = ks; served = c.served }) h rs us opening most room
  put_together_stands same =
      subst (λ x. IsKept x h rs us opening most room) (sym put_together_is)
      (subst (λ xs. IsKept (with_event c k) h xs us opening most room) (sym seats)
      (subst (λ t. IsKept (with_event c k) h ss t opening most room) (sym tables) (subst (λ n. IsKept (with_event c k) h ss ts opening most n) (sym same) stands)))
