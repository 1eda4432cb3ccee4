-- Where nothing is under way in a process, nothing is to be stopped.
use Rattle.std.proofs.Common.{◌≡◌, ℕ, Bool, true, false, eqb, List, [], ◌∷◌, Option, Some, None, is_some, sym, refl, ap, if◌then◌else◌}
use Rattle.std.proofs.lemmas.Bool.{false≢true}
use Rattle.hold_tables.specs.Changes.{change_numbered, stopped, with_running}
use Rattle.hold_tables.specs.Tables.{OpenProcess, Tables, kept_of, numbered}

idle_rows : (i : ℕ) (rs : List OpenProcess) → (numbered i rs).running ≡ None → change_numbered (with_running None) i rs ≡ rs
idle_rows i [] idle = refl
idle_rows i (r ∷ rs) idle = by_number (eqb r.process i) idle (λ idle'. idle_rows i rs idle')
  where
    by_number : (b : Bool) → (if b then r else numbered i rs).running ≡ None
        → ((numbered i rs).running ≡ None → change_numbered (with_running None) i rs ≡ rs)
        → (if b then with_running None r ∷ rs else r ∷ change_numbered (with_running None) i rs) ≡ r ∷ rs
    by_number true idle' rest = ap (λ e. with_running e r ∷ rs) (sym idle')
    by_number false idle' rest = ap (λ xs. r ∷ xs) (rest idle')

pub idle_stops : (i : ℕ) (t : Tables) → (kept_of t i).running ≡ None → t ≡ stopped i t
idle_stops i t idle = ap (λ rs. record { conflicts = t.conflicts; net = t.net; processes = rs }) (sym (idle_rows i t.processes idle))

pub not_some : {X : Type 0} (o : Option X) → is_some o ≡ false → o ≡ None
not_some None is = refl
not_some (Some x) is = absurd (false≢true (sym is))
