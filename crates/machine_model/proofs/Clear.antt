-- A piece is blocked exactly where something stands against it, and an undo by A5 alone.
use Rattle.std.proofs.Common.{◌≡◌, ◌+◌, List, [], ◌∷◌, ◌++◌, length, Option, Some, None, IfSome, sym, refl, ap, subst, ◌∙◌, arith}
use Rattle.std.proofs.lemmas.List.{length-append, length-map}
use Rattle.process_tree.specs.declared.entry.Entry.{Entry}
use Rattle.schedule_model.specs.Conflict.{ConflictRelation}
use Rattle.schedule_model.specs.Holdings.{Holdings}
use Rattle.schedule_model.specs.Blocking.{Clash, Clashes, all_clashes, against_undo, with_later}
use Rattle.machine_model.specs.declared.blocked.Blocked.{Blocked}
use Rattle.machine_model.specs.declared.blocked.Rule.{Rule}
use Rattle.machine_model.specs.declared.blocked.Rule.TheVariants.{A0, A1, A2, A3, A4, A5}
use Rattle.machine_model.specs.Blocks.{blocks_of, by_rule, least_block}
use Rattle.schedule_model.specs.Histories.{doing}
use Rattle.machine_model.specs.declared.kept.Work.TheVariants.{Undo}
use Rattle.machine_model.specs.State.{against_work, holdings, next_of}
use Rattle.machine_model.specs.Laws.{BlockedWhereSomethingStands, UndosWaitByA5}
use Rattle.machine_model.proofs.Least.{Each, least-has, least-none}

-- there are as many blocks as clashes
pub blocks_of-length : (c : Clashes) → length (blocks_of c) ≡ length (all_clashes c)
blocks_of-length c = joined A0 A1 A2 A3 A4 A5 c.a0 c.a1 c.a2 c.a3 c.a4 c.a5
  where
    two : (r : Rule) (xs : List Blocked) (cs bs : List Clash) → length xs ≡ length cs → length (xs ++ by_rule r bs) ≡ length (cs ++ bs)
    two r xs cs bs same = length-append xs (by_rule r bs) ∙ (ap (λ n. n + length (by_rule r bs)) same ∙ (ap (λ n. length cs + n) (length-map bs _) ∙ sym (length-append cs bs)))

    joined : (r0 r1 r2 r3 r4 r5 : Rule) (c0 c1 c2 c3 c4 c5 : List Clash)
        → length (by_rule r0 c0 ++ by_rule r1 c1 ++ by_rule r2 c2 ++ by_rule r3 c3 ++ by_rule r4 c4 ++ by_rule r5 c5) ≡ length (c0 ++ c1 ++ c2 ++ c3 ++ c4 ++ c5)
    joined r0 r1 r2 r3 r4 r5 c0 c1 c2 c3 c4 c5 = two r5 _ _ c5 (two r4 _ _ c4 (two r3 _ _ c3 (two r2 _ _ c2 (two r1 (by_rule r0 c0) c0 c1 (length-map c0 _)))))

none_left : {X : Type 0} (xs : List X) → length xs ≡ 0 → xs ≡ []
none_left [] is = refl
none_left (x ∷ xs) is = absurd (omega arith)

-- where nothing stands against a piece, it isn't blocked
pub clear-none : (c : Clashes) → length (all_clashes c) ≡ 0 → least_block (blocks_of c) ≡ None
clear-none c is = ap least_block (none_left (blocks_of c) (blocks_of-length c ∙ is))

-- and where it isn't blocked, nothing stands against it
pub none-clear : (c : Clashes) → least_block (blocks_of c) ≡ None → length (all_clashes c) ≡ 0
none-clear c is = sym (blocks_of-length c) ∙ ap length (least-none (blocks_of c) is)

all_by_rule : (r : Rule) (cs : List Clash) → Each (λ b. b.rule ≡ r) (by_rule r cs)
all_by_rule r [] = tt
all_by_rule r (c ∷ cs) = (refl, all_by_rule r cs)

-- what blocks an undo is A5
pub undo-by_rule : (table : ConflictRelation) (g : Holdings) (x : Entry) → IfSome (least_block (blocks_of (against_undo table g x))) (λ b. b.rule ≡ A5)
undo-by_rule table g x = least-has (λ b. b.rule ≡ A5) (by_rule A5 (with_later table g x)) (all_by_rule A5 (with_later table g x))

pub blocked_where_something_stands : BlockedWhereSomethingStands
blocked_where_something_stands c = (none-clear c, clear-none c)

rule_of : (b : Blocked) (o : Option Blocked) → o ≡ Some b → IfSome o (λ x. x.rule ≡ A5) → b.rule ≡ A5
rule_of b o is rule = subst (λ x. IfSome x (λ y. y.rule ≡ A5)) is rule

pub undos_wait_by_a5 : UndosWaitByA5
undos_wait_by_a5 table courses m i b undo is =
    let t = next_of courses m i in
    rule_of b (least_block (blocks_of (against_work table courses (holdings courses m) m.events i t.step Undo)))
    (ap (λ w. least_block (blocks_of (against_work table courses (holdings courses m) m.events i t.step w))) (sym undo) ∙ is)
    (undo-by_rule table (holdings courses m) (doing courses i t.step))
