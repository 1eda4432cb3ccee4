use Rattle.std.proofs.Common.{◌++◌, ◌∷◌, [], inr, refl, sym, ◌∙◌, subst}
use Rattle.history_judging.specs.Keeping.{IsJudged}
use Rattle.history_judging.proofs.Judged.{judged-after, judged-comes, judged-ready}
use Rattle.history_judging.proofs.legality.Legality.with_event.Goals as goal

pub comes-requires : goal.comes-requires
comes-requires c = record { ready = judged-ready c.args.c.now c.args.plans.now c.requires.judged.0 c.args.self c.requires.judged.1 }

pub returns-then-not-branch-clause-refused : goal.returns-then-not-branch-clause-refused
returns-then-not-branch-clause-refused c =
    inr (refl, λ h judged. sym (judged-comes c.args.c.now c.args.plans.now h c.args.self judged c.args.event) ∙ (sym c.in_ok-comes.ensures ∙ c.if-not-branch.true))

pub after-requires-clause-comes : goal.after-requires-clause-comes
after-requires-clause-comes c = (
  c.args.c.now,
  judged-ready c.args.c.now c.args.plans.now c.requires.judged.0 c.args.self c.requires.judged.1,
  sym c.in_ok-comes.ensures ∙ c.if-not-branch.false,
)

pub returns-clause-judged : goal.returns-clause-judged
returns-clause-judged c h judged =
    subst (IsJudged c.args.c.now c.args.plans.now (h ++ c.args.event ∷ [])) (sym c.in_ok-longer.ensures)
    (judged-after c.args.c.now c.args.plans.now h c.args.self judged c.args.event c.requires.plan (sym c.in_ok-comes.ensures ∙ c.if-not-branch.false))
