-- The row of a process that goes back: it stops, owes so much, and has so much to undo.
use Rattle.std.proofs.Common.{◌≡◌, ◌∙◌, ℕ, true, None, ap}
use Rattle.hold_tables.specs.Changes.{changed, with_first_reserved, with_pending, with_running}
use Rattle.hold_tables.specs.Tables.{OpenProcess, Tables, is_open}
use Rattle.core_state.proofs.BegunLists.{changed_thrice, shortened_open, stopped_open}

module _ (i : ℕ) (t : Tables) (owed : ℕ) {a b : Tables} (stops : a ≡ changed (with_running None) i t) (owes : b ≡ changed (with_first_reserved owed) i a) where
  pub stays_open : is_open t i ≡ true → is_open b i ≡ true
  stays_open at = ap (λ (u : Tables). is_open u i) (owes ∙ ap (changed (with_first_reserved owed) i) stops) ∙ shortened_open owed i (changed (with_running None) i t) (stopped_open i t at)

  pub stopped_row : (pending : ℕ) {d : Tables} → d ≡ changed (with_pending pending) i b → (n p : ℕ) → owed ≡ n → pending ≡ p → d ≡ changed (λ r. with_pending p (with_first_reserved n (with_running None r))) i t
  stopped_row pending pends n p owed_is pending_is =
      pends
      ∙ (ap (changed (with_pending pending) i) (owes ∙ ap (changed (with_first_reserved owed) i) stops)
      ∙ (changed_thrice owed pending i t
      ∙ (ap (λ k. changed (λ (r : OpenProcess). with_pending pending (with_first_reserved k (with_running None r))) i t) owed_is
      ∙ ap (λ k. changed (λ (r : OpenProcess). with_pending k (with_first_reserved n (with_running None r))) i t) pending_is)))
