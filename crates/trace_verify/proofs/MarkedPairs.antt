-- A pair that is marked in a table.
use Rattle.std.proofs.Common.{◌≡◌, ℕ, Bool, true, false, cond, ◌&&◌, ◌||◌, List, nat_eq, Some, ⊎_elim, sym, refl, ap, ◌∙◌}
use Rattle.std.proofs.Math.Bool.{or-false}
use Rattle.std.proofs.lemmas.Bool.{and_parts, cases_eq, eqb-true}
use Rattle.process_tree.specs.declared.conflicts.Mode.{Mode}
use Rattle.process_tree.specs.Conflicts.{Access, Table, mode_of, covers, do_conflict, is_same_pair}
use Rattle.process_tree.proofs.Tables.{mode_of-symmetric}
use Rattle.trace_verify.specs.Forms.{Pair}
use Rattle.trace_verify.specs.Names.{number_among, found, is_named, StandOnce, names_both, line_covers}
use Rattle.trace_verify.proofs.Naming.{is-among}

-- a name that is found is that of its number alone
named-found : (names : List (List ℕ)) (w : List ℕ) (m k : ℕ) → StandOnce names → found names w ≡ Some m → is_named names k w ≡ nat_eq m k
named-found names w m k once some =
    let among = is-among names w m some in
    once k w ∙ (ap (λ b. b && nat_eq (number_among names w) k) among.0 ∙ ap (λ n. nat_eq n k) (sym among.1))

-- so two are named where they are the two that are found
both-found : (ops : List (List ℕ)) (p : Pair) (m n a b : ℕ) → StandOnce ops → found ops p.first ≡ Some m → found ops p.second ≡ Some n
    → names_both ops a b p ≡ is_same_pair m n a b
both-found ops p m n a b once first second =
    ap (λ x. (x && is_named ops b p.second) || (is_named ops b p.first && is_named ops a p.second)) (named-found ops p.first m a once first)
    ∙ (ap (λ x. (nat_eq m a && x) || (is_named ops b p.first && is_named ops a p.second)) (named-found ops p.second n b once second)
    ∙ (ap (λ x. (nat_eq m a && nat_eq n b) || (x && is_named ops a p.second)) (named-found ops p.first m b once first)
    ∙ ap (λ x. (nat_eq m a && nat_eq n b) || (nat_eq m b && x)) (named-found ops p.second n a once second)))

-- one pair has one mode
same-mode : (t : Table) (m n a b : ℕ) → is_same_pair m n a b ≡ true → mode_of t m n ≡ mode_of t a b
same-mode t m n a b is = by (nat_eq m a && nat_eq n b) refl is
  where
    by : (x : Bool) → (nat_eq m a && nat_eq n b) ≡ x → (x || (nat_eq m b && nat_eq n a)) ≡ true → mode_of t m n ≡ mode_of t a b
    by true so _ =
        let parts = and_parts (nat_eq m a) (nat_eq n b) so in
        ap (λ k. mode_of t k n) (eqb-true m a parts.0) ∙ ap (mode_of t a) (eqb-true n b parts.1)
    by false _ so =
        let parts = and_parts (nat_eq m b) (nat_eq n a) so in
        ap (λ k. mode_of t k n) (eqb-true m b parts.0) ∙ (ap (mode_of t b) (eqb-true n a parts.1) ∙ mode_of-symmetric t b a)

-- a mode that covers what that of the table and that of the pair cover, put where the pair stands
pub pair-marked : (old new : Table) (ops : List (List ℕ)) (p : Pair) (m n : ℕ) (mode : Mode) (a b : Access) → StandOnce ops
    → found ops p.first ≡ Some m → found ops p.second ≡ Some n
    → covers mode a.key b.key ≡ (covers (mode_of old m n) a.key b.key || covers p.mode a.key b.key)
    → mode_of new a.op b.op ≡ cond (is_same_pair m n a.op b.op) mode (mode_of old a.op b.op)
    → do_conflict new a b ≡ (do_conflict old a b || line_covers ops a b p)
pair-marked old new ops p m n mode a b once first second wide set =
    ap (λ x. covers x a.key b.key) set
    ∙ (by (is_same_pair m n a.op b.op) refl
    ∙ ap (λ x. do_conflict old a b || (x && covers p.mode a.key b.key)) (sym (both-found ops p m n a.op b.op once first second)))
  where
    by : (x : Bool) → is_same_pair m n a.op b.op ≡ x
        → covers (cond x mode (mode_of old a.op b.op)) a.key b.key ≡ (do_conflict old a b || (x && covers p.mode a.key b.key))
    by true is = wide ∙ ap (λ y. covers y a.key b.key || covers p.mode a.key b.key) (same-mode old m n a.op b.op is)
    by false is = sym (or-false (do_conflict old a b))
