-- That words without a fault are blocks.
use Rattle.std.proofs.Common.{◌≡◌, ◌≢◌, ◌⊎◌, ⊎_elim, inl, inr, ◌≤◌, ◌<◌, ◌+◌, ◌*◌, ℕ, zero, suc, List, [], ◌∷◌, ◌++◌, length, map, true, nat_lt, Option, Some, None, refl, sym, ap, arith, ◌∙◌, subst}
use Rattle.std.specs.List.{list_any}
use Rattle.std.specs.declared.vec.Vec.{Vec}
use Rattle.std.specs.declared.alloc.Global.{Global}
use Rattle.std.proofs.lemmas.Bool.{or_from, ltb-true}
use denote.RawPtr.{null_ptr}
use Rattle.process_tree.specs.Blocks.{Outline, all_steps, outline}
use Rattle.process_tree.specs.declared.step.Step.{Step}
use Rattle.process_tree.specs.declared.block.Block.{Block}
use Rattle.process_tree.specs.declared.block.Tail.{End, Choice}
use Rattle.text_words.specs.declared.marks.At.{At}
use Rattle.text_words.specs.declared.marks.At.TheVariants.{Begin, BehindStep, BehindChoice}
use Rattle.text_words.specs.declared.marks.Mark.{Mark}
use Rattle.text_words.specs.declared.marks.Mark.TheVariants as marks
use Rattle.text_words.specs.declared.marks.Next.{Next}
use Rattle.text_words.specs.declared.marks.Next.TheVariants as next
use Rattle.text_words.specs.declared.expected.Expected.TheVariants as expects
use Rattle.text_words.specs.Marks.{kind_word, mark_word, opening, closing, closes, ends_steps, mark_or, meaning, IsWordOf}
use Rattle.process_text.specs.Grammar.{mark, IsStep, Writes, step_pieces, block_pieces, alternatives}
use Rattle.process_text.specs.FirstFault.{Before, told_from, told_behind, begun_in, in_block, at_step_name, with_choices}
use Rattle.process_text.specs.Leading.{with_names, MayOpen}
use Rattle.process_text.specs.Limits.{StepsFit, BlockFits, AlternativesFit}
use Rattle.process_text.proofs.Turns.{no_settings_left}
use Rattle.process_text.proofs.Pieces.{writes_both, writes_choice}
use Rattle.process_text.proofs.Fitting.{none_fit, steps_both, step_fits, end_fits, choice_fits, begins_with_choice}
use Rattle.process_text.proofs.StepsFound.{passes, step_found}
use Rattle.text_words.proofs.WordsMean.{may_go_on, closing_word, meaning_is, closes_if_ends}

-- Steps that were found, and the word behind them.
record StepsFound (names earlier : List (List ℕ)) (choices : List ℕ) (at : At) (ws : List (List ℕ)) : Type 0 where
  steps : List Step
  after_names : List (List ℕ)
  word : Mark
  after : List (List ℕ)
  written : Writes (step_pieces steps) ws (mark_word word ∷ after)
  fits : StepsFit names steps after_names
  ends : ends_steps (begun_in choices) word ≡ true
  some : at ≡ Begin → (word ≡ marks.Choose) ⊎ (0 < length steps)
  on : told_behind (with_names after_names earlier choices) (next.Mark word) after ≡ None
  few : length after < length ws

steps_found : (n : ℕ) (names earlier : List (List ℕ)) (choices : List ℕ) (at : At) (ws : List (List ℕ)) → length ws ≤ n → may_go_on at ≡ true
    → told_from (with_names names earlier choices) (in_block at) ws ≡ None → StepsFound names earlier choices at ws
steps_found n names earlier choices at [] size may e = absurd (cc)
steps_found zero names earlier choices at (w ∷ ws) size may e = absurd (omega arith)
steps_found (suc n) names earlier choices at (w ∷ ws) size may e =
    by_next (meaning at (begun_in choices) w) refl (meaning_is at (begun_in choices) w may) e
    (λ more later. λ fine on. steps_found n more earlier choices BehindStep later fine refl on)
  where
    b : Before
    b = with_names names earlier choices

    by_next : (m : Next) → meaning at (begun_in choices) w ≡ m → IsWordOf (begun_in choices) (meaning at (begun_in choices) w) w → told_behind b (meaning at (begun_in choices) w) ws ≡ None
        → ((more later : List (List ℕ)) → length later ≤ n → told_from (with_names more earlier choices) (in_block BehindStep) later ≡ None → StepsFound more earlier choices BehindStep later)
        → StepsFound names earlier choices at (w ∷ ws)
    by_next (next.Misfit x) is word on rest = let f : told_behind b (next.Misfit x) ws ≡ None = sym (ap (λ m. told_behind b m ws) is) ∙ on in absurd (cc)
    by_next (next.Mark m) is word on rest =
        let found : (w ≡ mark_word m) × (ends_steps (begun_in choices) m ≡ true) = subst (λ k. IsWordOf (begun_in choices) k w) is word in
        record {
          steps = [];
          after_names = names;
          word = m;
          after = ws;
          written = ap (λ v. v ∷ ws) found.0;
          fits = none_fit names;
          ends = found.1;
          some = λ begin. inl (by_begin at begin is);
          on = sym (ap (λ k. told_behind b k ws) is) ∙ on;
          few = omega arith;
        }
      where
        by_begin : (a : At) → a ≡ Begin → meaning a (begun_in choices) w ≡ next.Mark m → m ≡ marks.Choose
        by_begin Begin begin same = begins_with_choice (opening w) w m refl same
        by_begin BehindStep begin same = absurd (cc)
        by_begin BehindChoice begin same = absurd (cc)
    by_next (next.Step k) is word on rest =
        let is_kind : w ≡ kind_word k = subst (λ m. IsWordOf (begun_in choices) m w) is word in
        let room = passes (nat_lt (length names) 256) b (at_step_name k) _ ws (sym (ap (λ m. told_behind b m ws) is) ∙ on) in
        let s = step_found k b ws room.1 in
        let few = s.few in
        let more = names ++ s.step.name ∷ [] in
        let r = rest more s.after (omega arith) (sym (no_settings_left (with_names more earlier choices) s.after) ∙ s.on) in
        let few2 = r.few in
        record {
          steps = s.step ∷ r.steps;
          after_names = r.after_names;
          word = r.word;
          after = r.after;
          written = (s.after, subst (λ v. IsStep s.step (v ∷ ws) s.after) (sym is_kind) s.is, r.written);
          fits = steps_both names more r.after_names (s.step ∷ []) r.steps (step_fits names more s.step (kind_word k ∷ ws) s.after (ltb-true (length names) 256 room.0) refl s.new s.is) r.fits;
          ends = r.ends;
          some = λ begin. inr (omega arith);
          on = r.on;
          few = omega arith;
        }

-- blocks in a vector
abbrev vec_of : Global → (bs : List Block) → length bs ≤ 8 → Vec Block Global
vec_of alloc bs few = record { ptr = null_ptr; items = bs; len = length bs; cap = length bs; alloc = alloc; ok = (refl, omega arith); small = omega arith }

-- one alternative in front
one_in_front : (left : ℕ) (a b c : List (List ℕ)) (o : Outline) (os : List Outline) → BlockFits left a o b → AlternativesFit (suc left) b os c → AlternativesFit (suc left) a (o ∷ os) c
one_in_front left a b c o os one others =
    let flat = one.flat in
    let flat2 = others.flat in
    record {
      steps = steps_both a b c o.steps (all_steps os) one.steps others.steps;
      full = or_from o.has_empty (list_any (λ p. p.has_empty) os) one.full others.full;
      flat = omega arith;
      even = rw one.even others.even;
    }

none_behind : (left : ℕ) (names : List (List ℕ)) → AlternativesFit (suc left) names [] names
none_behind left names = record { steps = none_fit names; full = refl; flat = omega arith; even = refl }

-- A block that was found, and the word that closes it.
pub record BlockFound (left : ℕ) (names earlier : List (List ℕ)) (choices : List ℕ) (ws : List (List ℕ)) : Type 0 where
  pub root : Block
  pub after_names : List (List ℕ)
  pub word : Mark
  pub after : List (List ℕ)
  pub written : Writes (block_pieces root) ws (mark_word word ∷ after)
  pub closes_it : closes (begun_in choices) word ≡ true
  pub fits : BlockFits left names (outline root) after_names
  pub on : told_behind (with_names after_names earlier choices) (next.Mark word) after ≡ None
  pub few : length after < length ws

-- Alternatives that were found, of which k are begun with the first of these.
record RowFound (left : ℕ) (names earlier : List (List ℕ)) (k : ℕ) (choices : List ℕ) (ws : List (List ℕ)) : Type 0 where
  first : Block
  others : List Block
  after_names : List (List ℕ)
  after : List (List ℕ)
  written : Writes (alternatives (map block_pieces (first ∷ others))) ws after
  fits : AlternativesFit (suc left) names (map outline (first ∷ others)) after_names
  least : 2 ≤ k + length others
  most : k + length others ≤ 8
  on : told_from (with_names after_names earlier choices) (in_block BehindChoice) after ≡ None
  few : length after < length ws

-- The word that closes a block behind its choice.
record CloseFound (b : Before) (ws : List (List ℕ)) : Type 0 where
  word : Mark
  after : List (List ℕ)
  is : ws ≡ mark_word word ∷ after
  closes_it : closes (begun_in b.choices) word ≡ true
  on : told_behind b (next.Mark word) after ≡ None

close_found : (b : Before) (ws : List (List ℕ)) → told_from b (in_block BehindChoice) ws ≡ None → CloseFound b ws
close_found b [] e = absurd (cc)
close_found b (w ∷ ws) e = by_closing (closing (begun_in b.choices) w) refl
  where
    by_closing : (c : Option Mark) → closing (begun_in b.choices) w ≡ c → CloseFound b (w ∷ ws)
    by_closing None is =
        let f : told_behind b (next.Misfit expects.Close) ws ≡ None = sym (ap (λ c. told_behind b (mark_or c (next.Misfit expects.Close)) ws) is) ∙ e in absurd (cc)
    by_closing (Some m) is =
        let found = closing_word (begun_in b.choices) w m is in
        record {
          word = m;
          after = ws;
          is = ap (λ v. v ∷ ws) found.0;
          closes_it = found.1;
          on = sym (ap (λ c. told_behind b (mark_or c (next.Misfit expects.Close)) ws) is) ∙ e;
        }

-- a block without a choice
block_of_steps : (left : ℕ) (names earlier : List (List ℕ)) (choices : List ℕ) (ws : List (List ℕ)) (s : StepsFound names earlier choices Begin ws) → s.word ≢ marks.Choose → BlockFound left names earlier choices ws
block_of_steps left names earlier choices ws s other = record {
  root = record { steps = s.steps; tail = End };
  after_names = s.after_names;
  word = s.word;
  after = s.after;
  written = s.written;
  closes_it = closes_if_ends (begun_in choices) s.word s.ends other;
  fits = end_fits left names s.after_names s.steps s.fits (⊎_elim (λ e. absurd (other e)) (λ some. some) (s.some refl));
  on = s.on;
  few = s.few;
}

-- a block with a choice
block_of_choice : (alloc : Global) (left : ℕ) (names earlier : List (List ℕ)) (choices : List ℕ) (ws : List (List ℕ)) (s : StepsFound names earlier choices Begin ws) → s.word ≡ marks.Choose
    → RowFound left s.after_names earlier 1 choices s.after → BlockFound (suc left) names earlier choices ws
block_of_choice alloc left names earlier choices ws s is r =
    let most = r.most in
    let least = r.least in
    let bs = r.first ∷ r.others in
    let blocks = vec_of alloc bs (omega arith) in
    let c = close_found (with_names r.after_names earlier choices) r.after r.on in
    let size = ap length c.is in
    let few = s.few in
    let few2 = r.few in
    record {
      root = record { steps = s.steps; tail = Choice blocks };
      after_names = r.after_names;
      word = c.word;
      after = c.after;
      written = writes_choice s.steps blocks ws (mark_word s.word ∷ s.after) s.after (mark_word c.word ∷ c.after) s.written (ap (λ m. mark_word m ∷ s.after) is)
          (subst (λ (vs : List (List ℕ)). Writes (alternatives (map block_pieces bs)) s.after vs) c.is r.written);
      closes_it = c.closes_it;
      fits = choice_fits (suc left) names s.after_names r.after_names s.steps blocks s.fits r.fits (omega arith) (omega arith);
      on = c.on;
      few = omega arith;
    }

-- what the word behind the steps of a block says of the block, where rows are found in at most n turns
by_word : (alloc : Global) (n left : ℕ) (names earlier : List (List ℕ)) (choices : List ℕ) (ws : List (List ℕ)) (s : StepsFound names earlier choices Begin ws) → 2 * length ws ≤ suc n → MayOpen left choices
    → ((left' : ℕ) (names' ws' : List (List ℕ)) → 2 * length ws' + 1 ≤ n → MayOpen left' (1 ∷ choices) → told_from (with_names names' earlier (1 ∷ choices)) (in_block Begin) ws' ≡ None → RowFound left' names' earlier 1 choices ws')
    → (m : Mark) → s.word ≡ m → BlockFound left names earlier choices ws
by_word alloc n left names earlier choices ws s size may rows marks.Or is = block_of_steps left names earlier choices ws s (λ e. let f = sym is ∙ e in absurd (cc))
by_word alloc n left names earlier choices ws s size may rows marks.Done is = block_of_steps left names earlier choices ws s (λ e. let f = sym is ∙ e in absurd (cc))
by_word alloc n left names earlier choices ws s size may rows marks.End is = block_of_steps left names earlier choices ws s (λ e. let f = sym is ∙ e in absurd (cc))
by_word alloc n zero names earlier choices ws s size may rows marks.Choose is =
    let on : told_behind (with_names s.after_names earlier choices) (next.Mark marks.Choose) s.after ≡ None = sym (ap (λ m. told_behind (with_names s.after_names earlier choices) (next.Mark m) s.after) is) ∙ s.on in
    let room = passes (nat_lt (length choices) 16) (with_choices (with_names s.after_names earlier choices) (1 ∷ choices)) (in_block Begin) _ s.after on in
    absurd (omega (arith, ltb-true (length choices) 16 room.0, may))
by_word alloc n (suc left) names earlier choices ws s size may rows marks.Choose is =
    let few = s.few in
    let on : told_behind (with_names s.after_names earlier choices) (next.Mark marks.Choose) s.after ≡ None = sym (ap (λ m. told_behind (with_names s.after_names earlier choices) (next.Mark m) s.after) is) ∙ s.on in
    let room = passes (nat_lt (length choices) 16) (with_choices (with_names s.after_names earlier choices) (1 ∷ choices)) (in_block Begin) _ s.after on in
    block_of_choice alloc left names earlier choices ws s is (rows left s.after_names s.after (omega arith) (omega (arith, may)) room.1)

-- what the word that closes an alternative says of the rest of its choice
by_close : (n left : ℕ) (names earlier : List (List ℕ)) (k : ℕ) (choices : List ℕ) (ws : List (List ℕ)) (b : BlockFound left names earlier (k ∷ choices) ws) → 2 * length ws + 1 ≤ suc n → 1 ≤ k → k ≤ 8
    → ((names' ws' : List (List ℕ)) → 2 * length ws' + 1 ≤ n → k + 1 ≤ 8 → told_from (with_names names' earlier ((k + 1) ∷ choices)) (in_block Begin) ws' ≡ None → RowFound left names' earlier (k + 1) choices ws')
    → (m : Mark) → b.word ≡ m → RowFound left names earlier k choices ws
by_close n left names earlier zero choices ws b size low high rows m is = absurd (omega arith)
by_close n left names earlier (suc k) choices ws b size low high rows marks.Choose is =
    let f : closes (suc k) marks.Choose ≡ true = sym (ap (closes (suc k)) is) ∙ b.closes_it in absurd (cc)
by_close n left names earlier (suc k) choices ws b size low high rows marks.End is =
    let f : closes (suc k) marks.End ≡ true = sym (ap (closes (suc k)) is) ∙ b.closes_it in absurd (cc)
by_close n left names earlier (suc k) choices ws b size low high rows marks.Done is =
    let here = with_names b.after_names earlier (suc k ∷ choices) in
    let on : told_behind here (next.Mark marks.Done) b.after ≡ None = sym (ap (λ m. told_behind here (next.Mark m) b.after) is) ∙ b.on in
    let room = passes (nat_lt 1 (suc k)) (with_choices here choices) (in_block BehindChoice) _ b.after on in
    let more = ltb-true 1 (suc k) room.0 in
    record {
      first = b.root;
      others = [];
      after_names = b.after_names;
      after = b.after;
      written = writes_both (block_pieces b.root) (mark marks.Done ∷ []) ws (mark_word b.word ∷ b.after) b.after b.written (b.after, ap (λ m. mark_word m ∷ b.after) is, refl);
      fits = one_in_front left names b.after_names b.after_names (outline b.root) [] b.fits (none_behind left b.after_names);
      least = omega arith;
      most = omega arith;
      on = room.1;
      few = b.few;
    }
by_close n left names earlier (suc k) choices ws b size low high rows marks.Or is =
    let here = with_names b.after_names earlier (suc k ∷ choices) in
    let on : told_behind here (next.Mark marks.Or) b.after ≡ None = sym (ap (λ m. told_behind here (next.Mark m) b.after) is) ∙ b.on in
    let room = passes (nat_lt (suc k) 8) (with_choices here ((suc k + 1) ∷ choices)) (in_block Begin) _ b.after on in
    let more = ltb-true (suc k) 8 room.0 in
    let few = b.few in
    let r = rows b.after_names b.after (omega arith) (omega arith) room.1 in
    let few2 = r.few in
    let least = r.least in
    let most = r.most in
    record {
      first = b.root;
      others = r.first ∷ r.others;
      after_names = r.after_names;
      after = r.after;
      written = writes_both (block_pieces b.root) (mark marks.Or ∷ alternatives (map block_pieces (r.first ∷ r.others))) ws (mark_word b.word ∷ b.after) r.after b.written
          (b.after, ap (λ m. mark_word m ∷ b.after) is, r.written);
      fits = one_in_front left names b.after_names r.after_names (outline b.root) (map outline (r.first ∷ r.others)) b.fits r.fits;
      least = omega arith;
      most = omega arith;
      on = r.on;
      few = omega arith;
    }

mutual
  pub block_found : (n : ℕ) (alloc : Global) (left : ℕ) (names earlier : List (List ℕ)) (choices : List ℕ) (ws : List (List ℕ)) → 2 * length ws ≤ n → MayOpen left choices
      → told_from (with_names names earlier choices) (in_block Begin) ws ≡ None → BlockFound left names earlier choices ws
  block_found zero alloc left names earlier choices [] size may e = absurd (cc)
  block_found zero alloc left names earlier choices (w ∷ ws) size may e = absurd (omega arith)
  block_found (suc n) alloc left names earlier choices ws size may e =
      let s = steps_found (length ws) names earlier choices Begin ws (omega arith) refl e in
      by_word alloc n left names earlier choices ws s size may
      (λ left' names' ws' fine may' on. row_found n alloc left' names' earlier 1 choices ws' fine may' (omega arith) (omega arith) on) s.word refl

  row_found : (n : ℕ) (alloc : Global) (left : ℕ) (names earlier : List (List ℕ)) (k : ℕ) (choices : List ℕ) (ws : List (List ℕ)) → 2 * length ws + 1 ≤ n → MayOpen left (k ∷ choices) → 1 ≤ k → k ≤ 8
      → told_from (with_names names earlier (k ∷ choices)) (in_block Begin) ws ≡ None → RowFound left names earlier k choices ws
  row_found zero alloc left names earlier k choices ws size may low high e = absurd (omega arith)
  row_found (suc n) alloc left names earlier k choices ws size may low high e =
      let b = block_found n alloc left names earlier (k ∷ choices) ws (omega arith) may e in
      by_close n left names earlier k choices ws b size low high
      (λ names' ws' fine high' on. row_found n alloc left names' earlier (k + 1) choices ws' fine (omega (arith, may)) (omega arith) high' on) b.word refl
