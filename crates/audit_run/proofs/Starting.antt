-- No more processes start than there are events.
use Rattle.std.proofs.Common.{◌≡◌, ◌≤◌, suc, List, [], ◌∷◌, length, refl, ap, arith}
use denote.Ref.{Bor}
use Rattle.process_tree.specs.declared.plan.Plan.{Plan}
use Rattle.schedule_model.specs.declared.event.Event.{Event}
use Rattle.schedule_model.specs.declared.event.Event.TheVariants.{Start, Act, End}
use Rattle.schedule_model.specs.Histories.{starts}
use Rattle.audit_text.specs.Logs.{plans_in}

pub starts_few : (h : List Event) → length (starts h) ≤ length h
starts_few [] = omega arith
starts_few (Start i ∷ h) = omega (arith, starts_few h)
starts_few (Act e ∷ h) = omega (arith, starts_few h)
starts_few (End i ∷ h) = omega (arith, starts_few h)

-- there are as many plans as are referred to
pub as_many : (ps : List (Bor Plan)) → length (plans_in ps) ≡ length ps
as_many [] = refl
as_many (p ∷ ps) = ap suc (as_many ps)
