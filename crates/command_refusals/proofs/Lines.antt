-- Lines of verdicts, part by part.
use Rattle.std.proofs.Common.{◌≡◌, ℕ, List, [], ◌∷◌, ◌++◌, ◌||◌, Bool, Option, Some, None, Result, Ok, Err, IfOk, is_some, refl, sym, ap, ◌∙◌, append_assoc, append-nil}
use Rattle.std.specs.declared.alloc.AllocError.{AllocError}
use Rattle.process_tree.specs.declared.tree.Named.{Named}
use Rattle.process_tree.specs.Shape.{shape_of}
use Rattle.process_tree.specs.Termination.{Fault}
use Rattle.command_refusals.specs.Verdicts.{IsVerdict, AreVerdicts, fault_text, verdict_line, verdict_lines, any_fault, IsFaultAdded, IsLineAdded, AreLines}

-- the name in front of what is said
pub line_added : (p : Named) (r : Result Bool AllocError) (old mid new : List ℕ) → mid ≡ old ++ p.name → IfOk r (λ any. IsFaultAdded p.tree any mid new) → IfOk r (λ any. IsLineAdded p any old new)
line_added p (Err e) old mid new named added = tt
line_added p (Ok any) old mid new named added =
    (added.0, added.1, added.2 ∙ ap (λ t. t ++ fault_text p.tree added.0) named ∙ append_assoc old p.name (fault_text p.tree added.0), added.3)

verdicts_and : (ps : List Named) (p : Named) (vs : List (Option Fault)) (v : Option Fault) → AreVerdicts ps vs → IsVerdict (shape_of p.tree) v → AreVerdicts (ps ++ p ∷ []) (vs ++ v ∷ [])
verdicts_and [] p [] v are is = (is, tt)
verdicts_and [] p (w ∷ vs) v are is = absurd are
verdicts_and (q ∷ ps) p [] v are is = absurd are
verdicts_and (q ∷ ps) p (w ∷ vs) v are is = (are.0, verdicts_and ps p vs v are.1 is)

lines_and : (ps : List Named) (p : Named) (vs : List (Option Fault)) (v : Option Fault) → AreVerdicts ps vs → verdict_lines (ps ++ p ∷ []) (vs ++ v ∷ []) ≡ verdict_lines ps vs ++ verdict_line p v
lines_and [] p [] v are = rw (append-nil (verdict_line p v)) refl
lines_and [] p (w ∷ vs) v are = absurd are
lines_and (q ∷ ps) p [] v are = absurd are
lines_and (q ∷ ps) p (w ∷ vs) v are = rw (lines_and ps p vs v are.1) (sym (append_assoc (verdict_line q w) (verdict_lines ps vs) (verdict_line p v)))

any_and : (vs : List (Option Fault)) (v : Option Fault) → any_fault (vs ++ v ∷ []) ≡ (any_fault vs || is_some v)
any_and [] None = refl
any_and [] (Some f) = refl
any_and (None ∷ vs) v = any_and vs v
any_and (Some f ∷ vs) v = refl

-- the line of one more process
pub lines_then : (ps : List Named) (p : Named) (any more : Bool) (old new : List ℕ) → AreLines ps any old → IsLineAdded p more old new → AreLines (ps ++ p ∷ []) (any || more) new
lines_then ps p any more old new are added = (
  are.0 ++ added.0 ∷ [],
  verdicts_and ps p are.0 added.0 are.1 added.1,
  added.2 ∙ ap (λ t. t ++ verdict_line p added.0) are.2 ∙ sym (lines_and ps p are.0 added.0 are.1),
  ap (λ b. b || more) are.3 ∙ ap (λ b. any_fault are.0 || b) added.3 ∙ sym (any_and are.0 added.0),
)
