-- That blocks within their limits lead to what is told behind them.
use Rattle.std.proofs.Common.{◌≡◌, ◌≤◌, ◌<◌, ◌+◌, ℕ, List, [], ◌∷◌, ◌++◌, length, true, false, nat_lt, None, refl, sym, ap, arith, ◌∙◌, append_assoc, append-nil, length-append, suc, subst, add-one}
use Rattle.std.specs.List.{list_any}
use Rattle.std.proofs.lemmas.Bool.{lt-ltb, or_parts}
use Rattle.std.proofs.lemmas.List.{map-append, length-map}
use Rattle.process_tree.specs.declared.step.Step.{Step}
use Rattle.process_tree.specs.declared.block.Tail.{Tail, End, Choice', Row_of-Block, end_of-Block, more_of-Block}
use Rattle.process_tree.specs.Blocks.{Outline, all_steps, deepest, first_odd, outline_at_choice, outline_of, outlines_of}
use Rattle.text_words.specs.declared.marks.At.{At}
use Rattle.text_words.specs.declared.marks.At.TheVariants.{Begin, BehindChoice}
use Rattle.text_words.specs.declared.marks.Next.TheVariants as next
use Rattle.text_words.specs.declared.marks.Mark.{Mark}
use Rattle.text_words.specs.declared.marks.Mark.TheVariants as marks
use Rattle.text_words.specs.Marks.{mark_word, meaning}
use Rattle.process_text.specs.Grammar.{Piece, mark, Writes, step_pieces, pieces_of, pieces_in, alternatives, step_names, are_new}
use Rattle.process_text.specs.FirstFault.{Before, told_from, told_behind, in_block, begun_in}
use Rattle.process_text.specs.Leading.{with_names}
use Rattle.process_text.proofs.Within.{new_split, odd_parts, choice_parts}
use Rattle.text_words.proofs.WordsMean.{may_go_on, may_close, or_means, done_means, choose_means}
use Rattle.process_text.proofs.Passing.{place_behind, steps_lead}

-- pieces that are written come apart
pub writes_split : (ps qs : List Piece) (a c : List (List ℕ)) → Writes (ps ++ qs) a c → (b : List (List ℕ)) × Writes ps a b × Writes qs b c
writes_split [] qs a c is = (a, refl, is)
writes_split (p ∷ ps) qs a c is =
    let rest = writes_split ps qs is.0 c is.2 in
    (rest.0, (is.0, is.1, rest.1), rest.2)

-- behind steps, a step or a choice may stand
goes_on_behind : (at : At) (ss : List Step) → may_go_on at ≡ true → may_go_on (place_behind at ss) ≡ true
goes_on_behind at [] e = e
goes_on_behind at (s ∷ ss) e = refl

-- behind some steps, the block may be closed
closes_behind : (ss : List Step) → nat_lt (length ss) 1 ≡ false → may_close (place_behind Begin ss) ≡ true
closes_behind [] e = absurd (cc)
closes_behind (s ∷ ss) e = refl

-- a word with this meaning in a block
pub word_leads : (b : Before) (at : At) (k : ℕ) (m : Mark) (before after : List (List ℕ)) → begun_in b.choices ≡ k → meaning at k (mark_word m) ≡ next.Mark m → before ≡ mark_word m ∷ after
    → told_from b (in_block at) before ≡ told_behind b (next.Mark m) after
word_leads b at k m before after same means is = rw (is, same, means) refl

-- the names of steps that stand one after another
pub names_of_both : (ss ts : List Step) → step_names (ss ++ ts) ≡ step_names ss ++ step_names ts
names_of_both ss ts = map-append (λ (s : Step). s.name) ss ts

-- What is asked of a block's outline, behind these names and within these choices.
pub record BlockFits (names : List (List ℕ)) (choices : List ℕ) (o : Outline) : Type 0 where
  pub full : o.has_empty ≡ false
  pub few : length names + length o.steps ≤ 256
  pub flat : length choices + o.nesting ≤ 16
  pub even : o.odd_choice ≡ None
  pub new : are_new names (step_names o.steps) ≡ true

-- The same of the outlines of alternatives.
pub record RowFits (names : List (List ℕ)) (choices : List ℕ) (os : List Outline) : Type 0 where
  pub full : list_any (λ o. o.has_empty) os ≡ false
  pub few : length names + length (all_steps os) ≤ 256
  pub flat : length choices + deepest os + 1 ≤ 16
  pub even : first_odd os ≡ None
  pub new : are_new names (step_names (all_steps os)) ≡ true

-- the first alternative fits
first_fits : (names : List (List ℕ)) (choices : List ℕ) (k : ℕ) (o : Outline) (os : List Outline) → RowFits names choices (o ∷ os) → BlockFits names (k ∷ choices) o
first_fits names choices k o os fits = record {
  full = (or_parts o.has_empty (list_any (λ o. o.has_empty) os) fits.full).0;
  few = let few = fits.few in omega (arith, length-append o.steps (all_steps os));
  flat = let flat = fits.flat in omega arith;
  even = (odd_parts o os fits.even).0;
  new = (new_split names (step_names o.steps) (step_names (all_steps os)) (subst (λ (ns : List (List ℕ)). are_new names ns ≡ true) (names_of_both o.steps (all_steps os)) fits.new)).0;
}

-- and so do the others behind it
others_fit : (names : List (List ℕ)) (choices : List ℕ) (o : Outline) (os : List Outline) → RowFits names choices (o ∷ os) → RowFits (names ++ step_names o.steps) choices os
others_fit names choices o os fits = record {
  full = (or_parts o.has_empty (list_any (λ o. o.has_empty) os) fits.full).1;
  few = let few = fits.few in omega (arith, length-append o.steps (all_steps os), length-append names (step_names o.steps), length-map o.steps (λ s. s.name));
  flat = let flat = fits.flat in omega arith;
  even = (odd_parts o os fits.even).1;
  new = (new_split names (step_names o.steps) (step_names (all_steps os)) (subst (λ (ns : List (List ℕ)). are_new names ns ≡ true) (names_of_both o.steps (all_steps os)) fits.new)).1;
}

-- the alternatives of a choice behind steps fit
alternatives_fit : (names : List (List ℕ)) (choices : List ℕ) (steps : List Step) (os : List Outline) → BlockFits names choices (outline_at_choice steps os) → RowFits (names ++ step_names steps) choices os
alternatives_fit names choices steps os fits = record {
  full = fits.full;
  few = let few = fits.few in omega (arith, length-append steps (all_steps os), length-append names (step_names steps), length-map steps (λ s. s.name));
  flat = let flat = fits.flat in omega arith;
  even = (choice_parts steps os fits.even).2;
  new = (new_split names (step_names steps) (step_names (all_steps os)) (subst (λ (ns : List (List ℕ)). are_new names ns ≡ true) (names_of_both steps (all_steps os)) fits.new)).1;
}

-- A place behind a block to which it leads.
pub record Leads (names earlier : List (List ℕ)) (choices : List ℕ) (steps : List Step) (before after : List (List ℕ)) : Type 0 where
  pub at : At
  pub closed : may_close at ≡ true
  pub same : told_from (with_names names earlier choices) (in_block Begin) before ≡ told_from (with_names (names ++ step_names steps) earlier choices) (in_block at) after

-- names that stand one after another
names_behind : (names : List (List ℕ)) (ss ts : List Step) → (names ++ step_names ss) ++ step_names ts ≡ names ++ step_names (ss ++ ts)
names_behind names ss ts = append_assoc names (step_names ss) (step_names ts) ∙ ap (λ ns. names ++ ns) (sym (names_of_both ss ts))

-- an alternative with `done` behind it
last_leads : (names earlier : List (List ℕ)) (choices : List ℕ) (k : ℕ) (steps : List Step) (before mid after : List (List ℕ)) → Leads names earlier (suc k ∷ choices) steps before mid
    → mid ≡ mark_word marks.Done ∷ after → 2 ≤ k + 1
    → told_from (with_names names earlier (suc k ∷ choices)) (in_block Begin) before ≡ told_from (with_names (names ++ step_names steps) earlier choices) (in_block BehindChoice) after
last_leads names earlier choices k steps before mid after leads is some =
    let b = with_names (names ++ step_names steps) earlier (suc k ∷ choices) in
    let more : nat_lt 1 (suc k) ≡ true = lt-ltb 1 (suc k) (omega arith) in
    leads.same ∙ word_leads b leads.at (suc k) marks.Done mid after refl (done_means leads.at k leads.closed) is ∙ rw more refl

-- an alternative with `or` behind it
or_leads : (names earlier : List (List ℕ)) (choices : List ℕ) (k : ℕ) (steps : List Step) (before mid after : List (List ℕ)) → Leads names earlier (suc k ∷ choices) steps before mid
    → mid ≡ mark_word marks.Or ∷ after → k + 2 ≤ 8
    → told_from (with_names names earlier (suc k ∷ choices)) (in_block Begin) before ≡ told_from (with_names (names ++ step_names steps) earlier (suc (suc k) ∷ choices)) (in_block Begin) after
or_leads names earlier choices k steps before mid after leads is few =
    let b = with_names (names ++ step_names steps) earlier (suc k ∷ choices) in
    let room : nat_lt (suc k) 8 ≡ true = lt-ltb (suc k) 8 (omega arith) in
    leads.same ∙ word_leads b leads.at (suc k) marks.Or mid after refl (or_means leads.at k leads.closed) is ∙ rw (room, add-one) refl

-- `choose`
choose_leads : (b : Before) (at : At) (before after : List (List ℕ)) → may_go_on at ≡ true → before ≡ mark_word marks.Choose ∷ after → length b.choices < 16
    → told_from b (in_block at) before ≡ told_from (with_names b.names b.earlier (1 ∷ b.choices)) (in_block Begin) after
choose_leads b at before after e is room =
    word_leads b at (begun_in b.choices) marks.Choose before after refl (choose_means at (begun_in b.choices) e) is ∙ rw (lt-ltb (length b.choices) 16 room) refl

mutual
  -- a block
  pub block_leads : (steps : List Step) (tail : Tail) (names earlier : List (List ℕ)) (choices : List ℕ) (before after : List (List ℕ)) → Writes (pieces_of steps tail) before after
      → BlockFits names choices (outline_of steps tail) → Leads names earlier choices (outline_of steps tail).steps before after
  block_leads steps End names earlier choices before after is fits = record {
    at = place_behind Begin steps;
    closed = closes_behind steps fits.full;
    same = steps_lead names earlier choices Begin steps before after is refl fits.few fits.new;
  }
  block_leads steps (Choice' shape row) names earlier choices before after is fits =
      let os = outlines_of row in
      let split = writes_split (step_pieces steps) (mark marks.Choose ∷ alternatives (pieces_in row)) before after is in
      let parts = choice_parts steps os fits.even in
      let own = (new_split names (step_names steps) (step_names (all_steps os)) (subst (λ (ns : List (List ℕ)). are_new names ns ≡ true) (names_of_both steps (all_steps os)) fits.new)).0 in
      let within = names ++ step_names steps in
      let few = fits.few in
      let flat = fits.flat in
      let inner = alternatives_fit names choices steps os fits in
      record {
        at = BehindChoice;
        closed = refl;
        same =
            steps_lead names earlier choices Begin steps before split.0 split.1 refl (omega (arith, length-append steps (all_steps os))) own
            ∙ choose_leads (with_names within earlier choices) (place_behind Begin steps) split.0 split.2.0 (goes_on_behind Begin steps refl) split.2.1 (omega arith)
            ∙ row_leads row within earlier choices 0 split.2.0 after split.2.2 inner (omega (arith, parts.0)) (omega (arith, parts.1)) (omega (arith, parts.0))
            ∙ ap (λ (ns : List (List ℕ)). told_from (with_names ns earlier choices) (in_block BehindChoice) after) (names_behind names steps (all_steps os));
      }

  -- alternatives, k others standing before
  row_leads : {m : _} (row : Row_of-Block m) (names earlier : List (List ℕ)) (choices : List ℕ) (k : ℕ) (before after : List (List ℕ)) → Writes (alternatives (pieces_in row)) before after
      → RowFits names choices (outlines_of row) → 1 ≤ length (outlines_of row) → k + length (outlines_of row) ≤ 8 → 2 ≤ k + length (outlines_of row)
      → told_from (with_names names earlier (suc k ∷ choices)) (in_block Begin) before
      ≡ told_from (with_names (names ++ step_names (all_steps (outlines_of row))) earlier choices) (in_block BehindChoice) after
  row_leads end_of-Block names earlier choices k before after is fits one most least = absurd (omega arith)
  row_leads (more_of-Block steps tail end_of-Block) names earlier choices k before after is fits one most least =
      let split = writes_split (pieces_of steps tail) (mark marks.Done ∷ []) before after is in
      let closed : split.0 ≡ mark_word marks.Done ∷ after = split.2.1 ∙ ap (λ ws. mark_word marks.Done ∷ ws) split.2.2 in
      let leads = block_leads steps tail names earlier (suc k ∷ choices) before split.0 split.1 (first_fits names choices (suc k) (outline_of steps tail) [] fits) in
      last_leads names earlier choices k (outline_of steps tail).steps before split.0 after leads closed (omega arith)
      ∙ ap (λ (ss : List Step). told_from (with_names (names ++ step_names ss) earlier choices) (in_block BehindChoice) after) (sym (append-nil (outline_of steps tail).steps))
  row_leads (more_of-Block steps tail (more_of-Block steps2 tail2 rest)) names earlier choices k before after is fits one most least =
      let o = outline_of steps tail in
      let os = outlines_of (more_of-Block steps2 tail2 rest) in
      let split = writes_split (pieces_of steps tail) (mark marks.Or ∷ alternatives (pieces_in (more_of-Block steps2 tail2 rest))) before after is in
      let leads = block_leads steps tail names earlier (suc k ∷ choices) before split.0 split.1 (first_fits names choices (suc k) o os fits) in
      or_leads names earlier choices k o.steps before split.0 split.2.0 leads split.2.1 (omega arith)
      ∙ row_leads (more_of-Block steps2 tail2 rest) (names ++ step_names o.steps) earlier choices (suc k) split.2.0 after split.2.2 (others_fit names choices o os fits) (omega arith) (omega arith) (omega arith)
      ∙ ap (λ (ns : List (List ℕ)). told_from (with_names ns earlier choices) (in_block BehindChoice) after) (names_behind names o.steps (all_steps os))
