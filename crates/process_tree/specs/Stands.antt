-- Where a play stands, as it is carried along.
use Rattle.std.specs.Prelude.{◌≡◌, ℕ, ◌-◌, true, List}
use Rattle.process_tree.specs.declared.play.Place.{Place}
use Rattle.process_tree.specs.declared.play.Place.TheVariants.{Step, End}
use Rattle.process_tree.specs.declared.play.Played.TheVariants as played
use Rattle.process_tree.specs.declared.turns.Standing.{Standing}
use Rattle.process_tree.specs.declared.turns.Standing.TheVariants.{Asks, Path, Nothing, Stuck}
use Rattle.process_tree.specs.Shape.{Shape, goes_on_to}
use Rattle.process_tree.specs.Play.{Stand, asks, ended, arrive}

-- play stands there, these steps being done
abbrev pub stand_of : List ℕ → Standing → Stand
stand_of w (Asks b) = asks w b
stand_of w Path = ended (played.Path w)
stand_of w Nothing = ended played.Nothing
stand_of w (Stuck b) = ended (played.Stuck b)

-- play comes to this place, these steps being done
abbrev pub arrive_at : Shape → List ℕ → Place → Stand
arrive_at t w End = ended (played.Path w)
arrive_at t w (Step d) = arrive t w d

-- a step there goes on from these
abbrev pub IsNext : Shape → List ℕ → Place → Type 0
IsNext t w End = Unit
IsNext t w (Step d) = goes_on_to t w d ≡ true

-- the step that is asked for goes on from these
abbrev pub IsOpen : Shape → List ℕ → Standing → Type 0
IsOpen t w (Asks b) = goes_on_to t w b ≡ true
IsOpen t w Path = Unit
IsOpen t w Nothing = Unit
IsOpen t w (Stuck b) = Unit

-- how many of n steps are left from this place on
abbrev pub left_from : ℕ → Place → ℕ
left_from n End = 0
left_from n (Step d) = n - d
