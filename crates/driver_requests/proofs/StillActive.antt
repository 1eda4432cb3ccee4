-- The active processes, found from the first event on.
use Rattle.std.proofs.Common.{◌≡◌, ℕ, true, not, List, ◌++◌, filter}
use Rattle.schedule_model.specs.declared.event.Event.{Event}
use Rattle.schedule_model.specs.Histories.{active, ends, is_in, starts}

-- those of the processes that start in these events who are active in the whole history
abbrev pub still_active : List Event → List Event → List ℕ
still_active h rest = filter (λ i. not (is_in i (ends h))) (starts rest)

-- who is found, and who is active among those that start in the events to come; all of these started in the history
pub record FindsOn (h : List Event) (found : List ℕ) (rest : List Event) : Type 0 where
  pub same : found ++ still_active h rest ≡ active h
  pub within : (i : ℕ) → is_in i (starts rest) ≡ true → is_in i (starts h) ≡ true
