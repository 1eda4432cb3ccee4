use Rattle.std.proofs.Common.{◌≡◌, List, ◌∷◌, ◌++◌, ◌-◌, ◌∙◌, length, take, drop, get_or, sym, ap, subst, arith}
use Rattle.std.specs.List.{list_any}
use Rattle.std.proofs.lemmas.Bool.{false≢true}
use Rattle.process_tree.specs.Conflicts.{do_conflict}
use Rattle.schedule_model.specs.Reduction.{is_pair}
use Rattle.schedule_rules.proofs.ListTests.{first_split}
use Rattle.dependence_model.specs.declared.placed.Placed.{Placed}
use Rattle.dependence_model.specs.Dependence.{can_go, entries_of}
use Rattle.audit_core.specs.Taking.{AreAllKnown, is_own}
use Rattle.audit_core.proofs.Takings.{nothing, cut_at, known-parts, stays_so}
use Rattle.audit_core.proofs.taking.undo_behind.Goals as goal

pub can_go-requires-clause-step : goal.can_go-requires-clause-step
can_go-requires-clause-step c =
    let list = c.args.list.now in
    let front : List Placed = c.split_at.result.0.now in
    let from : List Placed = c.split_at.result.1.now in
    let step : Placed = get_or from 0 nothing in
    let behind : List Placed = take (length from - 1) (drop 1 from) in
    let mid : List Placed = c.split_at-2.result.0.now in
    let rest : List Placed = c.split_at-2.result.1.now in
    let whole : list ≡ front ++ step ∷ (mid ++ rest) =
    cut_at list front from c.args.at c.split_at.ensures.front c.split_at.ensures.back
    ∙ ap (λ r. front ++ r) (first_split from nothing c.in-len1-up.len_at_least
    ∙ ap (λ b. step ∷ b) (cut_at behind mid rest c.before_own-size.result c.split_at-2.ensures.front c.split_at-2.ensures.back)) in
    (known-parts c.args.c.now front (step ∷ (mid ++ rest)) (subst (AreAllKnown c.args.c.now) whole c.requires.known)).1.0

pub can_go-requires-clause-between : goal.can_go-requires-clause-between
can_go-requires-clause-between c =
    let list = c.args.list.now in
    let front : List Placed = c.split_at.result.0.now in
    let from : List Placed = c.split_at.result.1.now in
    let step : Placed = get_or from 0 nothing in
    let behind : List Placed = take (length from - 1) (drop 1 from) in
    let mid : List Placed = c.split_at-2.result.0.now in
    let rest : List Placed = c.split_at-2.result.1.now in
    let whole : list ≡ front ++ step ∷ (mid ++ rest) =
    cut_at list front from c.args.at c.split_at.ensures.front c.split_at.ensures.back
    ∙ ap (λ r. front ++ r) (first_split from nothing c.in-len1-up.len_at_least
    ∙ ap (λ b. step ∷ b) (cut_at behind mid rest c.before_own-size.result c.split_at-2.ensures.front c.split_at-2.ensures.back)) in
    (known-parts c.args.c.now mid rest (known-parts c.args.c.now front (step ∷ (mid ++ rest)) (subst (AreAllKnown c.args.c.now) whole c.requires.known)).1.1).0

pub can_go-requires-clause-undo : goal.can_go-requires-clause-undo
can_go-requires-clause-undo c =
    let list = c.args.list.now in
    let front : List Placed = c.split_at.result.0.now in
    let from : List Placed = c.split_at.result.1.now in
    let step : Placed = get_or from 0 nothing in
    let behind : List Placed = take (length from - 1) (drop 1 from) in
    let mid : List Placed = c.split_at-2.result.0.now in
    let rest : List Placed = c.split_at-2.result.1.now in
    let whole : list ≡ front ++ step ∷ (mid ++ rest) =
    cut_at list front from c.args.at c.split_at.ensures.front c.split_at.ensures.back
    ∙ ap (λ r. front ++ r) (first_split from nothing c.in-len1-up.len_at_least
    ∙ ap (λ b. step ∷ b) (cut_at behind mid rest c.before_own-size.result c.split_at-2.ensures.front c.split_at-2.ensures.back)) in
    let later = (known-parts c.args.c.now mid rest (known-parts c.args.c.now front (step ∷ (mid ++ rest)) (subst (AreAllKnown c.args.c.now) whole c.requires.known)).1.1).1 in
    (subst (AreAllKnown c.args.c.now) (first_split rest nothing c.in-len1-up-later.len_at_least) later).0

pub returns-then-can : goal.returns-then-can
returns-then-can c =
    let list = c.args.list.now in
    let front : List Placed = c.split_at.result.0.now in
    let from : List Placed = c.split_at.result.1.now in
    let step : Placed = get_or from 0 nothing in
    let behind : List Placed = take (length from - 1) (drop 1 from) in
    let mid : List Placed = c.split_at-2.result.0.now in
    let rest : List Placed = c.split_at-2.result.1.now in
    let whole : list ≡ front ++ step ∷ (mid ++ rest) =
    cut_at list front from c.args.at c.split_at.ensures.front c.split_at.ensures.back
    ∙ ap (λ r. front ++ r) (first_split from nothing c.in-len1-up.len_at_least
    ∙ ap (λ b. step ∷ b) (cut_at behind mid rest c.before_own-size.result c.split_at-2.ensures.front c.split_at-2.ensures.back)) in
    let u : Placed = get_or rest 0 nothing in
    let after : List Placed = take (length rest - 1) (drop 1 rest) in
    record {
      found = (
        front,
        mid,
        after,
        step,
        u,
        omega (arith, c.split_at.ensures.front_len, c.requires.within),
        omega (arith, c.split_at-2.ensures.front_len, c.before_own-size.ensures.within),
        whole ∙ ap (λ r. front ++ step ∷ (mid ++ r)) (first_split rest nothing c.in-len1-up-later.len_at_least),
        sym c.is_pair.ensures ∙ c.if-is_pair.true,
        sym c.in_ok-can-in-len1-up-later.ensures ∙ c.if-can.true,
      );
    }

pub returns-else-can : goal.returns-else-can
returns-else-can c =
    let list = c.args.list.now in
    let front : List Placed = c.split_at.result.0.now in
    let from : List Placed = c.split_at.result.1.now in
    let step : Placed = get_or from 0 nothing in
    let behind : List Placed = take (length from - 1) (drop 1 from) in
    let mid : List Placed = c.split_at-2.result.0.now in
    let rest : List Placed = c.split_at-2.result.1.now in
    let whole : list ≡ front ++ step ∷ (mid ++ rest) =
    cut_at list front from c.args.at c.split_at.ensures.front c.split_at.ensures.back
    ∙ ap (λ r. front ++ r) (first_split from nothing c.in-len1-up.len_at_least
    ∙ ap (λ b. step ∷ b) (cut_at behind mid rest c.before_own-size.result c.split_at-2.ensures.front c.split_at-2.ensures.back)) in
    record {
      found = stays_so (do_conflict c.args.c.now) c.args.at front mid rest list step whole
          (omega (arith, c.split_at.ensures.front_len, c.requires.within))
          (ap (λ ms. list_any (is_own step.entry.process) ms) c.split_at-2.ensures.front ∙ c.before_own-size.ensures.others)
          (λ x more is. c.before_own-size.ensures.next x more (sym c.split_at-2.ensures.back ∙ is))
          (λ u after is pair goes. false≢true (sym (sym c.in_ok-can-in-len1-up-later.ensures ∙ c.if-can.false) ∙ (ap (λ (y : Placed). can_go (do_conflict c.args.c.now) step.entry (entries_of mid) y.entry) (ap (λ r. get_or r 0 nothing) is) ∙ goes)));
    }

pub returns-in_default-later-2 : goal.returns-in_default-later-2
returns-in_default-later-2 c =
    let list = c.args.list.now in
    let front : List Placed = c.split_at.result.0.now in
    let from : List Placed = c.split_at.result.1.now in
    let step : Placed = get_or from 0 nothing in
    let behind : List Placed = take (length from - 1) (drop 1 from) in
    let mid : List Placed = c.split_at-2.result.0.now in
    let rest : List Placed = c.split_at-2.result.1.now in
    let whole : list ≡ front ++ step ∷ (mid ++ rest) =
    cut_at list front from c.args.at c.split_at.ensures.front c.split_at.ensures.back
    ∙ ap (λ r. front ++ r) (first_split from nothing c.in-len1-up.len_at_least
    ∙ ap (λ b. step ∷ b) (cut_at behind mid rest c.before_own-size.result c.split_at-2.ensures.front c.split_at-2.ensures.back)) in
    record {
      found = stays_so (do_conflict c.args.c.now) c.args.at front mid rest list step whole
          (omega (arith, c.split_at.ensures.front_len, c.requires.within))
          (ap (λ ms. list_any (is_own step.entry.process) ms) c.split_at-2.ensures.front ∙ c.before_own-size.ensures.others)
          (λ x more is. c.before_own-size.ensures.next x more (sym c.split_at-2.ensures.back ∙ is))
          (λ u after is pair goes. false≢true (sym (sym c.is_pair.ensures ∙ c.if-is_pair.false) ∙ (ap (λ (y : Placed). is_pair step.entry y.entry) (ap (λ r. get_or r 0 nothing) is) ∙ pair)));
    }
