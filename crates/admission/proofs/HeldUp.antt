-- Where one process has something against a step beside its net, the step is blocked.
use Rattle.std.proofs.Common.{◌≡◌, ℕ, zero, suc, Bool, true, false, if◌then◌else◌, List, [], ◌∷◌, ◌++◌, drop, Option, Some, None, is_some, refl, ap, ◌∙◌}
use Rattle.std.proofs.lemmas.Bool.{false≢true}
use Rattle.process_tree.specs.declared.entry.Entry.{Entry}
use Rattle.process_tree.specs.Conflicts.{do_conflict}
use Rattle.process_tree.specs.Recovery.{StepClass, committing, reserved, undoable}
use Rattle.schedule_model.specs.Blocking.{against_step, in_a_circle, with_active, with_owed}
use Rattle.machine_model.specs.declared.blocked.Blocked.{Blocked}
use Rattle.machine_model.specs.declared.blocked.Rule.TheVariants.{A2, A3, A4}
use Rattle.machine_model.specs.Blocks.{blocks_of, by_rule, is_less, least_block}
use Rattle.hold_tables.specs.Kept.{AreTidy}
use Rattle.hold_tables.specs.Tables.{Tables, holdings_of}
use Rattle.admission.specs.Least.{least_over, lesser_of}
use Rattle.admission.specs.Parts.{least_of_all}
use Rattle.admission.specs.declared.processes.Sought.TheVariants.{Next}
use Rattle.admission.proofs.Assembled.{committing-is, least_by, reserved-is, undoable-is}

-- the lesser of a block and of another is one
pub some_first : (b : Blocked) (o : Option Blocked) → (d : Blocked) × (lesser_of (Some b) o ≡ Some d)
some_first b None = (b, refl)
some_first b (Some c) = by (is_less c b)
  where
    by : (t : Bool) → (d : Blocked) × ((if t then Some c else Some b) ≡ Some d)
    by true = (c, refl)
    by false = (b, refl)

pub some_later : (o : Option Blocked) (b : Blocked) → (d : Blocked) × (lesser_of o (Some b) ≡ Some d)
some_later None b = (b, refl)
some_later (Some a) b = some_first a (Some b)

-- what some of the last give, all give
pub some_among : {A : Type 0} (f : A → Option Blocked) (xs : List A) (n : ℕ) (b : Blocked) → least_over f (drop n xs) ≡ Some b → (d : Blocked) × (least_over f xs ≡ Some d)
some_among f xs zero b is = (b, is)
some_among f [] (suc n) b is = (b, is)
some_among f (x ∷ xs) (suc n) b is =
    let rest = some_among f xs n b is in
    let all = some_later (f x) rest.0 in
    (all.0, ap (lesser_of (f x)) rest.1 ∙ all.1)

-- whatever the class of the step
pub held_blocks : (t : Tables) → AreTidy t → (k : StepClass) (e : Entry) (owed : List Entry) (b : Blocked) → least_of_all t Next e ≡ Some b
    → (d : Blocked) × (least_block (blocks_of (against_step (do_conflict t.conflicts) (holdings_of t) k e owed)) ≡ Some d)
held_blocks t tidy reserved e owed b is = (b, reserved-is t tidy e owed ∙ is)
held_blocks t tidy undoable e owed b is =
    let rest = least_by A2 (in_a_circle (do_conflict t.conflicts) (holdings_of t) e) in
    let all = some_first b rest in
    (all.0, undoable-is t tidy e owed ∙ ap (λ o. lesser_of o rest) is ∙ all.1)
held_blocks t tidy committing e owed b is =
    let rest = least_block (by_rule A3 (with_active (do_conflict t.conflicts) (holdings_of t) e) ++ by_rule A4 (with_owed (do_conflict t.conflicts) (holdings_of t) owed)) in
    let all = some_first b rest in
    (all.0, committing-is t tidy e owed ∙ ap (λ o. lesser_of o rest) is ∙ all.1)

pub some_in : (o : Option Blocked) → is_some o ≡ true → (b : Blocked) × (o ≡ Some b)
some_in (Some b) is = (b, refl)
some_in None is = absurd (false≢true is)
