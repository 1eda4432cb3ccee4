-- A list of one store, and one effect for it.
use Rattle.std.specs.Prelude.{◌&&◌, ◌||◌, not, if◌then◌else◌}
use Rattle.std.proofs.Common.{◌≡◌, ◌⊎◌, inr, ℕ, zero, suc, Bool, true, false, List, [], ◌∷◌, ◌++◌, length, length-append, Some, refl, sym, ap, subst, arith}
use Rattle.std.specs.List.{slice_get, Contains}
use Rattle.std.proofs.lemmas.List.Elements.{All-cons, All-nil, Contains-push}
use Rattle.store_group.specs.Events.{MayPrepare}
use Rattle.subsystem_store.specs.declared.effect.Effect.{Effect}
use Rattle.subsystem_store.specs.Opened.{Opened}
use Rattle.subsystem_store.specs.Order.{may_follow}
use Rattle.subsystem_store.specs.Values.{can_undo}
use Rattle.std.proofs.lemmas.Option.{same_Some}

-- what stands in a list of one is that one, at its front
pub one_of : {A : Type 0} (x : A) (q : ℕ) (y : A) → slice_get (x ∷ []) q ≡ Some y → (q ≡ 0) × (y ≡ x)
one_of x zero y at = (refl, sym (same_Some x y at))
one_of x (suc q) y at = absurd cc

-- the last of a list stands behind the others
pub at_end : {A : Type 0} (xs : List A) (x : A) → slice_get (xs ++ x ∷ []) (length xs) ≡ Some x
at_end [] x = refl
at_end (y ∷ xs) x = at_end xs x

-- A forward effect may be prepared in an unused store that has made room at its key.
pub one_may : {B : Type 0} (e : Effect) (s : Opened B) (ready : List ℕ) → e.undo ≡ false → s.book ≡ [] → s.doubt ≡ [] → s.ready ≡ ready ++ e.call.key ∷ [] → MayPrepare s (e ∷ [])
one_may e s ready forward book doubt room =
    let Key : Effect → Type 0 = λ f. (f.undo ≡ true) ⊎ Contains s.ready f.call.key in
    let of : Bool → ℕ = λ u. if u then 0 else 1 in
    let one : of e.undo ≡ 1 = ap of forward in
    record {
      settled = doubt;
      few = omega (arith, ap length book);
      together = omega arith;
      follow = (subst (λ b. may_follow s.kind b e ≡ true) (sym book) (ap (λ u. true && (not u || can_undo s.kind [] e)) forward), tt);
      room = record {
        keys = All-cons Key e [] (inr (subst (λ (ks : List ℕ). Contains ks e.call.key) (sym room) (Contains-push ready e.call.key))) (All-nil Key);
        many = omega (arith, one, ap length room, length-append ready (e.call.key ∷ []));
      };
    }
