-- A set in which all were looked at is the cascade, and there is one such set.
use Rattle.std.proofs.Common.{◌≡◌, ℕ, Bool, true, false, List, [], ◌∷◌, ◌++◌, length, take, drop, sym, refl, ap, ◌∙◌}
use Rattle.std.specs.Prelude.{nat_eq, IsTrue}
use Rattle.std.proofs.Math.Bool.{or-false}
use Rattle.std.proofs.Math.Seq.{take-append_seam}
use Rattle.std.proofs.lemmas.Bool.{eqb-true, eq-eqb, or_left}
use Rattle.process_tree.specs.Conflicts.{do_conflict}
use Rattle.schedule_model.specs.Graph.{Arrow, IsLeast}
use Rattle.schedule_model.specs.Histories.{is_in}
use Rattle.schedule_model.specs.Holdings.{holders}
use Rattle.machine_model.specs.Cascade.{IsCascade, cascade, drags}
use Rattle.machine_model.proofs.Cascades.{cascade-least}
use Rattle.hold_tables.specs.Tables.{Tables, holdings_of, is_open}
use Rattle.hold_tables.proofs.Reaching.{holder-number, number-holder}
use Rattle.cascade.specs.declared.marks.Mark.{Mark}
use Rattle.cascade.specs.Sets.{done, listed, marked}
use Rattle.cascade.specs.Walking.{IsOnTheWay, last_entries}
use Rattle.cascade.proofs.Sets.{is_listed}

-- a list that was written over the beginning of another as long
pub written_over : {A : Type 0} (n : ℕ) (new old : List A) → length new ≡ n → take n (new ++ drop (length new) old) ≡ new
written_over n new old count = ap (λ k. take k (new ++ drop (length new) old)) (sym count) ∙ take-append_seam new (drop (length new) old)

the_root : (root k : ℕ) → IsTrue (is_in k (root ∷ [])) → k ≡ root
the_root root k is = eqb-true k root (sym (or-false (nat_eq k root)) ∙ is)

-- where all that are in were looked at, it is the cascade
pub is_cascade : (t : Tables) (root count : ℕ) (marks : List Mark) → IsOnTheWay t root count marks → ((k : ℕ) → marked marks k ≡ true → done marks k ≡ true)
    → IsCascade (do_conflict t.conflicts) (holdings_of t) root (last_entries t root count) (listed 0 marks)
is_cascade t root count marks way all = record {
  begins = λ k is. is_listed k marks ∙ ap (marked marks) (the_root root k is) ∙ way.begins;
  closed = λ j k is among drags'. is_listed k marks ∙ way.closed j k (all j (sym (is_listed j marks) ∙ is)) (number-holder k t.net t.processes among) drags';
  least = λ other begins closed k is. way.least other (begins root (or_left (nat_eq root root) false (eq-eqb root root refl))) closed k (sym (is_listed k marks) ∙ is);
}

same_truth : (a b : Bool) → (a ≡ true → b ≡ true) → (b ≡ true → a ≡ true) → a ≡ b
same_truth true b there back = sym (there refl)
same_truth false true there back = back refl
same_truth false false there back = refl

-- least sets have the same members
pub same_members : (arrow : Arrow) (all begun one other : List ℕ) → IsLeast arrow all begun one → IsLeast arrow all begun other → (k : ℕ) → is_in k one ≡ is_in k other
same_members arrow all begun one other first second k =
    same_truth (is_in k one) (is_in k other) (first.least other second.begins second.closed k) (second.least one first.begins first.closed k)

-- so they are those of the computed cascade
pub is_computed : (t : Tables) (root : ℕ) (count : ℕ) (set : List ℕ) → is_open t root ≡ true → IsCascade (do_conflict t.conflicts) (holdings_of t) root (last_entries t root count) set
    → (k : ℕ) → is_in k set ≡ is_in k (cascade (do_conflict t.conflicts) (holdings_of t) root (last_entries t root count))
is_computed t root count set open' least =
    same_members (drags (do_conflict t.conflicts) (holdings_of t) root (last_entries t root count)) (holders (holdings_of t)) (root ∷ []) set (cascade (do_conflict t.conflicts) (holdings_of t) root (last_entries t root count)) least
    (cascade-least (do_conflict t.conflicts) (holdings_of t) root (last_entries t root count) (holder-number root t.net t.processes open'))
