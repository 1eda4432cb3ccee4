-- Each event of a history is a start, an act or an end.
use Rattle.std.proofs.Common.{◌≡◌, suc, ◌+◌, List, [], ◌∷◌, length, refl, arith}
use Rattle.schedule_model.specs.declared.event.Event.{Event}
use Rattle.schedule_model.specs.declared.event.Event.TheVariants.{Start, Act, End}
use Rattle.schedule_model.specs.Histories.{acts, ends, starts}

-- so the acts and ends are as many as the events without the starts
pub events_counted : (h : List Event) → length (acts h) + length (ends h) + length (starts h) ≡ length h
events_counted [] = refl
events_counted (Start i ∷ h) =
    let rest = events_counted h in
    let all : length (acts h) + length (ends h) + suc (length (starts h)) ≡ suc (length h) = omega arith in
    all
events_counted (Act e ∷ h) =
    let rest = events_counted h in
    let all : suc (length (acts h)) + length (ends h) + length (starts h) ≡ suc (length h) = omega arith in
    all
events_counted (End i ∷ h) =
    let rest = events_counted h in
    let all : length (acts h) + suc (length (ends h)) + length (starts h) ≡ suc (length h) = omega arith in
    all
