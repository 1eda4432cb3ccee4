-- States of a process by their parts.
use Rattle.std.proofs.lemmas.Bool.{cases_Bool}
use Rattle.std.proofs.Common.{◌≡◌, ⊎_elim, ℕ, ◌+◌, ◌-◌, ◌<◌, Bool, List, [], ◌∷◌, ◌++◌, length, take, Option, Some, refl, sym, ap, ◌∙◌, arith, if◌then◌else◌}
use Rattle.process_tree.specs.Laws.{IsTreeShape}
use Rattle.process_tree.specs.Shape.{Shape, branch_to, commits_after, fixed_len, last_of}
use Rattle.process_tree.proofs.Fixed.{fixed_more}
use Rattle.machine_model.specs.ProcessState.{ProcessState}
use Rattle.instance_state.specs.Rows.{done_to}
use Rattle.instance_state.proofs.Lists.{length_push, take_all, take_push}
use Rattle.instance_state.proofs.RowFacts.{branch_behind}

pub same_state : (t : Shape) (v w : List ℕ) (o p : ℕ) (b c : Bool) (n m : ℕ) → v ≡ w → o ≡ p → b ≡ c → n ≡ m
    → ◌≡◌ {A = ProcessState} (record { progress = record { shape = t; net = v; onward = o; begun = b }; refused = n }) (record { progress = record { shape = t; net = w; onward = p; begun = c }; refused = m })
same_state t v w o p b c n m net onward begun refused = rw net (rw onward (rw begun (rw refused refl)))

-- a last step that isn't fixed fixes nothing
pub last_is_free : (t : Shape) (v : List ℕ) (b : ℕ) → fixed_len t (v ++ b ∷ []) < length (v ++ b ∷ []) → fixed_len t (v ++ b ∷ []) ≡ fixed_len t v
last_is_free t v b lt =
    ⊎_elim
    (λ yes'. let e = fixed_more t v b ∙ ap (λ c. if c then length v + 1 else fixed_len t v) yes' in let l = length_push v b in absurd (omega arith))
    (λ no'. fixed_more t v b ∙ ap (λ c. if c then length v + 1 else fixed_len t v) no')
    (cases_Bool (commits_after t v b))

-- what is left without the last step
pub without_last : (t : Shape) → IsTreeShape t → (last : Option ℕ) (b : ℕ) → last ≡ Some b → b < length t.kinds
    → done_to t (last_of (branch_to t b)) ≡ take (length (done_to t last) - 1) (done_to t last)
without_last t tree last b is lt =
    let v = branch_to t b in
    let w = v ++ b ∷ [] in
    let l = length_push v b in
    sym (branch_behind t tree b lt) ∙ sym (take_all v (length w - 1) (omega arith)) ∙ sym (take_push v b (length w - 1) (omega arith))
    ∙ ap (λ o. take (length (done_to t o) - 1) (done_to t o)) (sym is)
