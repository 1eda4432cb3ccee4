-- That a canonical text is short.
use Rattle.std.proofs.Common.{◌≡◌, ◌≤◌, ◌<◌, ◌+◌, ◌*◌, ℕ, ℤ, pos, negsuc, List, [], ◌∷◌, ◌++◌, length, Bool, true, false, nat_le, nat_eq, decimal, None, refl, ap, arith, ◌∙◌, length-append}
use Rattle.std.specs.List.{list_any, list_all}
use Rattle.std.specs.Fmt.{signed_decimal}
use Rattle.std.proofs.lemmas.Bool.{and_parts, leb-true, ltb-true, ltb-false, or_parts}
use Rattle.std.proofs.lemmas.Grind.{flat_map-append}
use Rattle.std.proofs.lemmas.Fmt.{length-decimal-le, length_signed_le}
use Rattle.process_tree.specs.Name.{is_letter, is_name_byte, is_name}
use Rattle.process_tree.specs.Making.{is_amount, has_good_options, is_good_step, tree_fault}
use Rattle.process_tree.specs.declared.step.Step.{Step}
use Rattle.process_tree.specs.declared.step.StepKind.{StepKind}
use Rattle.process_tree.specs.declared.step.StepKind.TheVariants.{C, P, R, Cr}
use Rattle.process_tree.specs.declared.block.Block.{Block}
use Rattle.process_tree.specs.declared.block.Tail.{Tail, End, Choice', Row_of-Block, end_of-Block, more_of-Block}
use Rattle.process_tree.specs.Blocks.{all_steps, first_odd, outline_of, outlines_of}
use Rattle.text_words.specs.declared.marks.Setting.{Setting}
use Rattle.text_words.specs.declared.marks.Setting.TheVariants.{Tries, Undo, Refuse, UndoRefuse}
use Rattle.text_words.specs.declared.marks.Mark.TheVariants as marks
use Rattle.text_words.specs.Marks.{kind_word, settings, setting_word, default_of, takes}
use Rattle.process_text.specs.Grammar.{Piece, process, step, mark, step_pieces, pieces_of, pieces_in, alternatives, block_pieces, pieces_of_process, HasNames, AreNamed}
use Rattle.process_text.specs.Canonical.{setting_words, settings_words, call_words, step_words, piece_words, canonical_words, spaced, canonical_text}
use Rattle.process_text.proofs.GoodPieces.{AreGood, good_tree}
use Rattle.process_text.proofs.Lines.{three}
use Rattle.text_words.proofs.Settings.{AllTake, all_take, taken_is_small}
use Rattle.process_text.proofs.Within.{odd_parts, choice_parts, within_of_tree}

-- how long pieces are with a space before each word
abbrev pub size : List Piece → ℕ
size ps = length (spaced (canonical_words ps))

-- more words
words_size : (vs ws : List (List ℕ)) → length (spaced (vs ++ ws)) ≡ length (spaced vs) + length (spaced ws)
words_size vs ws = ap length (flat_map-append (λ w. 32 ∷ w) vs ws) ∙ length-append (spaced vs) (spaced ws)

-- more pieces
size_both : (ps qs : List Piece) → size (ps ++ qs) ≡ size ps + size qs
size_both ps qs = ap (λ ws. length (spaced ws)) (flat_map-append piece_words ps qs) ∙ words_size (canonical_words ps) (canonical_words qs)

-- a name has at most 32 bytes
name_size : (w : List ℕ) → is_name w ≡ true → length w ≤ 32
name_size [] e = omega arith
name_size (b ∷ bs) e = leb-true (length (b ∷ bs)) 32 (three (is_letter b) (list_all is_name_byte (b ∷ bs)) (nat_le (length (b ∷ bs)) 32) e).2

-- an amount has at most 11
amount_size : (z : ℤ) → is_amount z ≡ true → length (signed_decimal z) ≤ 11
amount_size (pos n) e = let le = leb-true n 1000000000 e in length_signed_le 10 (pos n) (omega arith) (omega arith)
amount_size (negsuc n) e = let lt = ltb-true n 1000000000 e in length_signed_le 10 (negsuc n) (omega arith) (omega arith)

-- the word of a kind has at most 2
kind_size : (k : StepKind) → length (kind_word k) ≤ 2
kind_size C = omega arith
kind_size P = omega arith
kind_size R = omega arith
kind_size Cr = omega arith

-- what is called has at most 92
call_size : (s : Step) → HasNames s → is_amount s.amount ≡ true → length (spaced (call_words s)) ≤ 92
call_size s named e =
    let key = length-decimal-le 10 s.key (omega arith) (omega (arith, named.key_is)) (omega (arith, named.key_is)) in
    let rest = spaced (s.name ∷ s.op ∷ decimal s.key ∷ signed_decimal s.amount ∷ []) in
    omega (
      arith,
      kind_size s.kind,
      name_size s.name named.name_is,
      name_size s.op named.op_is,
      key,
      amount_size s.amount e,
      length-append (kind_word s.kind) rest,
      length-append s.name (spaced (s.op ∷ decimal s.key ∷ signed_decimal s.amount ∷ [])),
      length-append s.op (spaced (decimal s.key ∷ signed_decimal s.amount ∷ [])),
      length-append (decimal s.key) (spaced (signed_decimal s.amount ∷ [])),
      length-append (signed_decimal s.amount) [],
    )

-- an option has at most four more than its word
setting_size : (x : Setting) (n : ℕ) → takes x n ≡ true → length (spaced (setting_words x n)) ≤ length (setting_word x) + 4
setting_size x n e = by_test (nat_eq n (default_of x)) refl
  where
    by_test : (b : Bool) → nat_eq n (default_of x) ≡ b → length (spaced (setting_words x n)) ≤ length (setting_word x) + 4
    by_test true is = rw is (omega arith)
    by_test false is =
        let small = taken_is_small x n e in
        let digits = length-decimal-le 2 n (omega arith) (omega arith) (omega arith) in
        rw is (omega (arith, digits, length-append (setting_word x) (spaced (decimal n ∷ [])), length-append (decimal n) []))

-- the options of a step have at most 41
settings_size : (k : StepKind) (s : Step) → AllTake (settings k) s → length (spaced (settings_words (settings k) s)) ≤ 41
settings_size C s e =
    omega (
      arith,
      setting_size Undo s.undo_tries e.0,
      setting_size Refuse s.refuse e.1.0,
      setting_size UndoRefuse s.undo_refuse e.1.1.0,
      words_size (setting_words Undo s.undo_tries) (setting_words Refuse s.refuse ++ (setting_words UndoRefuse s.undo_refuse ++ [])),
      words_size (setting_words Refuse s.refuse) (setting_words UndoRefuse s.undo_refuse ++ []),
      words_size (setting_words UndoRefuse s.undo_refuse) [],
    )
settings_size P s e = omega (arith, setting_size Refuse s.refuse e.0, words_size (setting_words Refuse s.refuse) [])
settings_size R s e =
    omega (
      arith,
      setting_size Tries s.tries e.0,
      setting_size Refuse s.refuse e.1.0,
      words_size (setting_words Tries s.tries) (setting_words Refuse s.refuse ++ []),
      words_size (setting_words Refuse s.refuse) [],
    )
settings_size Cr s e =
    let behind_refuse = setting_words UndoRefuse s.undo_refuse ++ [] in
    let behind_undo = setting_words Refuse s.refuse ++ behind_refuse in
    let behind_tries = setting_words Undo s.undo_tries ++ behind_undo in
    omega (
      arith,
      setting_size Tries s.tries e.0,
      setting_size Undo s.undo_tries e.1.0,
      setting_size Refuse s.refuse e.1.1.0,
      setting_size UndoRefuse s.undo_refuse e.1.1.1.0,
      words_size (setting_words Tries s.tries) behind_tries,
      words_size (setting_words Undo s.undo_tries) behind_undo,
      words_size (setting_words Refuse s.refuse) behind_refuse,
      words_size (setting_words UndoRefuse s.undo_refuse) [],
    )

-- a step has at most 133
step_size : (s : Step) → HasNames s → is_good_step s ≡ true → length (spaced (step_words s)) ≤ 133
step_size s named e =
    let parts = and_parts (is_amount s.amount) (has_good_options s.kind s) e in
    omega (arith, call_size s named parts.0, settings_size s.kind s (all_take s.kind s parts.1), words_size (call_words s) (settings_words (settings s.kind) s))

-- steps
steps_size : (ss : List Step) → AreNamed (step_pieces ss) → AreGood (step_pieces ss) → size (step_pieces ss) ≤ 133 * length ss
steps_size [] named good = omega arith
steps_size (s ∷ ss) named good =
    omega (arith, step_size s named.0 good.0, steps_size ss named.1 good.1, words_size (step_words s) (canonical_words (step_pieces ss)))

named_split : (ps qs : List Piece) → AreNamed (ps ++ qs) → AreNamed ps × AreNamed qs
named_split [] qs named = (tt, named)
named_split (process name ∷ ps) qs named = let rest = named_split ps qs named.1 in ((named.0, rest.0), rest.1)
named_split (step s ∷ ps) qs named = let rest = named_split ps qs named.1 in ((named.0, rest.0), rest.1)
named_split (mark m ∷ ps) qs named = named_split ps qs named

good_split : (ps qs : List Piece) → AreGood (ps ++ qs) → AreGood ps × AreGood qs
good_split [] qs good = (tt, good)
good_split (process name ∷ ps) qs good = good_split ps qs good
good_split (step s ∷ ps) qs good = let rest = good_split ps qs good.1 in ((good.0, rest.0), rest.1)
good_split (mark m ∷ ps) qs good = good_split ps qs good

mutual
  -- a block has fewer than 148 for each of its steps
  block_size : (steps : List Step) (tail : Tail) → AreNamed (pieces_of steps tail) → AreGood (pieces_of steps tail) → (outline_of steps tail).has_empty ≡ false → (outline_of steps tail).odd_choice ≡ None
      → size (pieces_of steps tail) + 15 ≤ 148 * length (outline_of steps tail).steps
  block_size steps End named good full even = omega (arith, steps_size steps named good, ltb-false (length steps) 1 full)
  block_size steps (Choice' shape row) named good full even =
      let choice = mark marks.Choose ∷ alternatives (pieces_in row) in
      let parts = choice_parts steps (outlines_of row) even in
      let n = named_split (step_pieces steps) choice named in
      let g = good_split (step_pieces steps) choice good in
      omega (
        arith,
        steps_size steps n.0 g.0,
        row_size row n.1 g.1 full parts.2 (omega (arith, parts.0)),
        parts.0,
        size_both (step_pieces steps) choice,
        size_both (mark marks.Choose ∷ []) (alternatives (pieces_in row)),
        length-append steps (all_steps (outlines_of row)),
      )

  -- alternatives
  row_size : {m : _} (row : Row_of-Block m) → AreNamed (alternatives (pieces_in row)) → AreGood (alternatives (pieces_in row)) → list_any (λ o. o.has_empty) (outlines_of row) ≡ false → first_odd (outlines_of row) ≡ None
      → 1 ≤ length (outlines_of row) → size (alternatives (pieces_in row)) + 12 * length (outlines_of row) ≤ 148 * length (all_steps (outlines_of row)) + 2
  row_size end_of-Block named good full even some = absurd (omega arith)
  row_size (more_of-Block steps tail end_of-Block) named good full even some =
      let last = mark marks.Done ∷ [] in
      let n = named_split (pieces_of steps tail) last named in
      let g = good_split (pieces_of steps tail) last good in
      let f = or_parts (outline_of steps tail).has_empty false full in
      let o = odd_parts (outline_of steps tail) [] even in
      omega (arith, block_size steps tail n.0 g.0 f.0 o.0, size_both (pieces_of steps tail) last, length-append (outline_of steps tail).steps [])
  row_size (more_of-Block steps tail (more_of-Block steps2 tail2 rest)) named good full even some =
      let others = more_of-Block steps2 tail2 rest in
      let behind = mark marks.Or ∷ alternatives (pieces_in others) in
      let n = named_split (pieces_of steps tail) behind named in
      let g = good_split (pieces_of steps tail) behind good in
      let f = or_parts (outline_of steps tail).has_empty (list_any (λ o. o.has_empty) (outlines_of others)) full in
      let o = odd_parts (outline_of steps tail) (outlines_of others) even in
      omega (
        arith,
        block_size steps tail n.0 g.0 f.0 o.0,
        row_size (more_of-Block steps2 tail2 rest) n.1 g.1 f.1 o.1 (omega arith),
        size_both (pieces_of steps tail) behind,
        size_both (mark marks.Or ∷ []) (alternatives (pieces_in others)),
        length-append (outline_of steps tail).steps (all_steps (outlines_of others)),
      )

-- a canonical text of a tree has fewer than 40,000 bytes
pub text_is_short : (name : List ℕ) (root : Block) → AreNamed (pieces_of_process name root) → tree_fault root ≡ None → length (canonical_text name root) < 40000
text_is_short name root named none =
    let within = within_of_tree root none in
    let n = named_split (block_pieces root) (mark marks.End ∷ []) named.1 in
    let block = block_size root.steps root.tail n.0 (good_tree root none) within.full within.even in
    let few = within.few in
    let rest = canonical_words (block_pieces root ++ mark marks.End ∷ []) in
    omega (arith, block, few, name_size name named.0, size_both (block_pieces root) (mark marks.End ∷ []), length-append name (spaced rest), length-append (name ++ spaced rest) (10 ∷ []))
