use Rattle.std.proofs.Common.{rules, refl, [], ◌≡◌, ◌∷◌, ◌∙◌, ap, subst, ℕ, List}
use Rattle.text_words.specs.declared.marks.Next.TheVariants as next
use Rattle.text_words.specs.Marks.{kind_word, meaning}
use Rattle.process_text.specs.Grammar.{Writes, step_pieces}
use Rattle.process_text.specs.Leading.{with_names}
use Rattle.process_text.proofs.Pieces.{writes_step}
use Rattle.process_text.proofs.Turns.{behind_meaning}
use Rattle.process_text.proofs.Fitting.{none_fit, steps_both, step_fits, behind_step, ended_at}
use Rattle.process_text.proofs.blocks.read_steps.Goals as goal

pub loop-word-preserved : goal.loop-word-preserved
loop-word-preserved c =
    let before : c.loop-word.words ≡ c.in-Some.word.now ∷ c.next_word.new.self = search rules in
    let is : meaning c.loop-word.at c.args.begun c.in-Some.word.now ≡ next.Step c.in-Step.kind = search rules in
    let named : c.in-Some.word.now ≡ kind_word c.in-Step.kind = c.in-Step.ensures.word in
    let whole : c.loop-word.words ≡ kind_word c.in-Step.kind ∷ c.next_word.new.self = before ∙ ap (λ w. w ∷ c.next_word.new.self) named in
    let added = c.in_ok-add_step-in-Step.ensures.added in
    record {
      fits = rw added.1 (steps_both c.args.names.now c.loop-word.names c.add_step.new.names c.loop-word.steps.items (added.0 ∷ []) c.loop-word.invariant.fits
          (step_fits c.loop-word.names c.add_step.new.names added.0 (kind_word c.in-Step.kind ∷ c.next_word.new.self) c.add_step.new.words c.in_ok-add_step-in-Step.ensures.room added.2 added.3 added.4));
      some = rw added.1 (behind_step c.loop-word.steps.items added.0);
      written = rw added.1 (writes_step c.loop-word.steps.items added.0 c.args.words.now (kind_word c.in-Step.kind ∷ c.next_word.new.self) c.add_step.new.words
          (subst (λ (ws : List (List ℕ)). Writes (step_pieces c.loop-word.steps.items) c.args.words.now ws) whole c.loop-word.invariant.written) added.4);
      leads = λ earlier choices same.
          c.loop-word.invariant.leads earlier choices same
          ∙ behind_meaning (with_names c.loop-word.names earlier choices) c.loop-word.at c.args.begun (next.Step c.in-Step.kind) c.in-Some.word.now c.next_word.new.self c.loop-word.words before same is
          ∙ c.in_ok-add_step-in-Step.ensures.leads earlier choices;
    }

pub loop-word-init : goal.loop-word-init
loop-word-init c = record {
  fits = rw c.new-steps.ensures.items (none_fit c.args.names.now);
  some = c.new-steps.ensures.items;
  written = rw c.new-steps.ensures.items refl;
  leads = λ earlier choices same. refl;
}

pub returns-in-Mark-clause-some : goal.returns-in-Mark-clause-some
returns-in-Mark-clause-some c =
    let is : meaning c.loop-word.at c.args.begun c.in-Some.word.now ≡ next.Mark c.in-Mark.mark = search rules in
    ended_at c.loop-word.at c.args.begun c.in-Some.word.now c.in-Mark.mark c.loop-word.steps.items is c.loop-word.invariant.some
