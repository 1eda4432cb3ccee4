-- In tidy tables each entry of the net stands once, and what stands behind it is the rest.
use Rattle.std.proofs.Common.{◌≡◌, ℕ, Bool, true, false, not, ◌||◌, List, [], ◌∷◌, ◌++◌, sym, refl, ap, ◌∙◌, subst}
use Rattle.std.specs.Prelude.{nat_eq, if◌then◌else◌}
use Rattle.std.specs.List.{IsDistinct, AllByRecursion, list_all}
use Rattle.std.proofs.lemmas.Bool.{eqb-true, eqb-false, ne_eqb, eq-eqb, not-true}
use Rattle.process_tree.specs.declared.entry.Entry.{Entry}
use Rattle.process_tree.specs.Order.{Each}
use Rattle.schedule_model.specs.Histories.{of_process, same_step}
use Rattle.schedule_model.specs.Holdings.{behind}
use Rattle.schedule_model.proofs.Apart.{Apart}
use Rattle.schedule_model.proofs.Behind.{behind-split, has_step, same_step-symmetric}
use Rattle.schedule_model.proofs.Members.{all-among, among_there}
use Rattle.hold_tables.specs.Tables.{Tables, is_open}
use Rattle.hold_tables.specs.Changes.{steps_of}
use Rattle.hold_tables.specs.Kept.{AreTidy, IsTidy}
use Rattle.hold_tables.proofs.Tidy.{each_numbered}

-- an entry whose process has no other of its step is apart from all
none_like : (e : Entry) (es : List Entry) → AllByRecursion (λ m. nat_eq e.step m ≡ false) (steps_of (of_process e.process es)) → list_all (λ f. not (same_step e f)) es ≡ true
none_like e [] once = refl
none_like e (f ∷ es) once = by (nat_eq f.process e.process) refl (none_like e es)
  where
    by : (b : Bool) → nat_eq f.process e.process ≡ b → (AllByRecursion (λ m. nat_eq e.step m ≡ false) (steps_of (of_process e.process es)) → list_all (λ f. not (same_step e f)) es ≡ true)
        → list_all (λ f. not (same_step e f)) (f ∷ es) ≡ true
    by true is rest =
        let own : AllByRecursion (λ m. nat_eq e.step m ≡ false) (f.step ∷ steps_of (of_process e.process es)) =
        subst (λ b. AllByRecursion (λ m. nat_eq e.step m ≡ false) (steps_of (if b then f ∷ of_process e.process es else of_process e.process es))) is once in
        rw (own.0, eq-eqb e.process f.process (sym (eqb-true f.process e.process is))) (rest own.1)
    by false is rest =
        let others : AllByRecursion (λ m. nat_eq e.step m ≡ false) (steps_of (of_process e.process es)) =
        subst (λ b. AllByRecursion (λ m. nat_eq e.step m ≡ false) (steps_of (if b then f ∷ of_process e.process es else of_process e.process es))) is once in
        rw (ne_eqb e.process f.process (λ same. eqb-false f.process e.process is (sym same))) (rest others)

once_behind : (i : ℕ) (e : Entry) (es : List Entry) → IsDistinct nat_eq (steps_of (of_process i (e ∷ es))) → IsDistinct nat_eq (steps_of (of_process i es))
unfolding IsDistinct
once_behind i e es once = by (nat_eq e.process i) once
  where
    by : (b : Bool) → IsDistinct nat_eq (steps_of (if b then e ∷ of_process i es else of_process i es)) → IsDistinct nat_eq (steps_of (of_process i es))
    by true once = once.1
    by false once = once

once_first : (e : Entry) (es : List Entry) → IsDistinct nat_eq (steps_of (of_process e.process (e ∷ es))) → AllByRecursion (λ m. nat_eq e.step m ≡ false) (steps_of (of_process e.process es))
unfolding IsDistinct
once_first e es once =
    let own : IsDistinct nat_eq (e.step ∷ steps_of (of_process e.process es)) =
    subst (λ b. IsDistinct nat_eq (steps_of (if b then e ∷ of_process e.process es else of_process e.process es))) (eq-eqb e.process e.process refl) once in
    own.0

-- entries of different steps in each process are of different steps
apart_by_process : (held : ℕ → Bool) (es : List Entry) → Each (λ e. held e.process ≡ true) es → ((i : ℕ) → held i ≡ true → IsDistinct nat_eq (steps_of (of_process i es))) → Apart es
apart_by_process held [] of_open once = tt
apart_by_process held (e ∷ es) of_open once = (none_like e es (once_first e es (once e.process of_open.0)), apart_by_process held es of_open.1 (λ i is. once_behind i e es (once i is)))

-- no two net entries of tidy tables are of one step
pub net_apart : (t : Tables) → AreTidy t → Apart t.net
net_apart t tidy = apart_by_process (is_open t) t.net tidy.of_open (λ i is.
    let own = each_numbered (IsTidy t.conflicts t.net) i t.processes is tidy.tidy in
    subst (λ k. IsDistinct nat_eq (steps_of (of_process k t.net))) own.1 own.0.once)

none_in_front : (front : List Entry) (x : Entry) (es : List Entry) → Apart (front ++ x ∷ es) → has_step x front ≡ false
none_in_front [] x es apart = refl
none_in_front (y ∷ front) x es apart =
    ap (λ b. b || has_step x front) (same_step-symmetric x y ∙ not-true (same_step y x) (all-among (λ f. not (same_step y f)) (front ++ x ∷ es) apart.0 x (among_there front x es)))
    ∙ none_in_front front x es apart.1

-- what stands behind an entry of a list of different steps is the rest
pub behind-rest : (front : List Entry) (x : Entry) (es : List Entry) → Apart (front ++ x ∷ es) → behind x (front ++ x ∷ es) ≡ es
behind-rest front x es apart = behind-split front x es (none_in_front front x es apart)
