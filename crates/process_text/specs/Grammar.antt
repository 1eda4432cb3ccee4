-- The grammar of process texts. A text is a row of pieces, and each piece is written by words.
use Rattle.std.specs.Prelude.{◌≡◌, ◌≤◌, ◌⊎◌, ℕ, List, [], ◌∷◌, ◌++◌, Bool, true, false, not, ◌&&◌, length, map, flat_map, codes}
use Rattle.std.specs.Prelude.{decimal, None, ⊤}
use Rattle.std.specs.Fmt.{signed_decimal}
use Rattle.std.specs.List.{list_any}
use Rattle.process_tree.specs.Name.{is_name}
use Rattle.process_tree.specs.Making.{same_text, has_good_options, is_good_step, tree_fault}
use Rattle.process_tree.specs.declared.step.Step.{Step}
use Rattle.process_tree.specs.declared.block.Block.{Block}
use Rattle.process_tree.specs.declared.block.Tail.{Tail, End, Choice', Row_of-Block, end_of-Block, more_of-Block}
use Rattle.process_tree.specs.declared.tree.Named.{Named}
use Rattle.text_words.specs.declared.marks.Mark.{Mark}
use Rattle.text_words.specs.declared.marks.Mark.TheVariants as marks
use Rattle.text_words.specs.declared.marks.Setting.{Setting}
use Rattle.text_words.specs.Words.{begins}
use Rattle.text_words.specs.Marks.{kind_word, mark_word, settings, setting_word, default_of, number_of}

-- a piece of a text: the beginning of a process with its name, a step, or a word that opens, divides or closes a block
pub data Piece : Type 0 where
  process : List ℕ → Piece
  step : Step → Piece
  mark : Mark → Piece

-- steps, one after another
abbrev pub step_pieces : List Step → List Piece
step_pieces ss = map (λ s. step s) ss

-- alternatives, `or` between them and `done` behind them
abbrev pub alternatives : List (List Piece) → List Piece
alternatives [] = mark marks.Done ∷ []
alternatives (b ∷ []) = b ++ mark marks.Done ∷ []
alternatives (b ∷ c ∷ bs) = b ++ mark marks.Or ∷ alternatives (c ∷ bs)

abbrev mutual
  -- steps, and then nothing or a choice
  pub pieces_of : List Step → Tail → List Piece
  pieces_of steps End = step_pieces steps
  pieces_of steps (Choice' shape blocks) = step_pieces steps ++ mark marks.Choose ∷ alternatives (pieces_in blocks)

  -- of each of these blocks
  pub pieces_in : {m : _} → Row_of-Block m → List (List Piece)
  pieces_in end_of-Block = []
  pieces_in (more_of-Block steps tail rest) = pieces_of steps tail ∷ pieces_in rest

-- the pieces of a block
abbrev pub block_pieces : Block → List Piece
block_pieces b = pieces_of b.steps b.tail

-- the pieces of a process with this name and this root block
abbrev pub pieces_of_process : List ℕ → Block → List Piece
pieces_of_process name root = process name ∷ block_pieces root ++ mark marks.End ∷ []

-- the process with this name and this root block
abbrev pub process_of : List ℕ → Block → Named
process_of name root = record { name = name; tree = root }

-- the pieces of a process
abbrev pub process_pieces : Named → List Piece
process_pieces p = pieces_of_process p.name p.tree

-- the pieces of these processes, one after another
abbrev pub text_pieces : List Named → List Piece
text_pieces ps = flat_map process_pieces ps

-- `before` is an option with this number and then `after`; or the option is left out and has its default
abbrev pub IsSetting : Setting → ℕ → (before after : List (List ℕ)) → Type 0
IsSetting x n before after =
    (before ≡ setting_word x ∷ decimal n ∷ after)
    ⊎ ((before ≡ after) × (n ≡ default_of x) × (begins (λ w. same_text w (setting_word x)) before ≡ false))

-- `before` is these options of a step, in their order, and then `after`
abbrev pub AreSettings : List Setting → Step → (before after : List (List ℕ)) → Type 0
AreSettings [] s before after = before ≡ after
AreSettings (x ∷ xs) s before after =
    (mid : List (List ℕ)) × IsSetting x (number_of x s) before mid × AreSettings xs s mid after

-- s is the step t with these options, and with defaults for those that its kind lacks
pub record IsWithSettings (t s : Step) (before after : List (List ℕ)) : Type 0 where
  pub kind_is : s.kind ≡ t.kind
  pub name_is : s.name ≡ t.name
  pub op_is : s.op ≡ t.op
  pub key_is : s.key ≡ t.key
  pub amount_is : s.amount ≡ t.amount
  pub good : has_good_options s.kind s ≡ true
  pub settings_are : AreSettings (settings s.kind) s before after

-- `before` is a step within its limits and then `after`
pub record IsStep (s : Step) (before after : List (List ℕ)) : Type 0 where
  pub name_is : is_name s.name ≡ true
  pub op_is : is_name s.op ≡ true
  pub key_is : s.key ≤ 4294967295
  pub good : is_good_step s ≡ true
  pub behind : List (List ℕ)
  pub words_are : before ≡ kind_word s.kind ∷ s.name ∷ s.op ∷ decimal s.key ∷ signed_decimal s.amount ∷ behind
  pub settings_are : AreSettings (settings s.kind) s behind after

-- `before` is this piece and then `after`
abbrev pub IsPiece : Piece → (before after : List (List ℕ)) → Type 0
IsPiece (process name) before after = (is_name name ≡ true) × (before ≡ codes "process" ∷ name ∷ after)
IsPiece (step s) before after = IsStep s before after
IsPiece (mark m) before after = before ≡ mark_word m ∷ after

-- `before` is these pieces and then `after`
abbrev pub Writes : List Piece → (before after : List (List ℕ)) → Type 0
Writes [] before after = before ≡ after
Writes (p ∷ ps) before after = (mid : List (List ℕ)) × IsPiece p before mid × Writes ps mid after

-- the names of steps
abbrev pub step_names : List Step → List (List ℕ)
step_names ss = map (λ s. s.name) ss

-- the names of processes
abbrev pub process_names : List Named → List (List ℕ)
process_names ps = map (λ p. p.name) ps

-- each of these texts differs from those before it
abbrev pub are_new : List (List ℕ) → List (List ℕ) → Bool
are_new earlier [] = true
are_new earlier (n ∷ ns) = not (list_any (same_text n) earlier) && are_new (earlier ++ n ∷ []) ns

-- each tree is within its limits
abbrev pub AreTrees : List Named → Type 0
AreTrees [] = ⊤
AreTrees (p ∷ ps) = (tree_fault p.tree ≡ None) × AreTrees ps

-- these words write these processes: at most 256 of them, with different names, and each with a tree within its limits
pub record IsReading (words : List (List ℕ)) (ps : List Named) : Type 0 where
  pub written : Writes (text_pieces ps) words []
  pub few : length ps ≤ 256
  pub different : are_new [] (process_names ps) ≡ true
  pub trees : AreTrees ps

-- the names of a step are names, and its key is of 32 bits, as its types say
pub record HasNames (s : Step) : Type 0 where
  pub name_is : is_name s.name ≡ true
  pub op_is : is_name s.op ≡ true
  pub key_is : s.key ≤ 4294967295

-- so it is in each of these pieces
abbrev pub AreNamed : List Piece → Type 0
AreNamed [] = ⊤
AreNamed (process name ∷ ps) = (is_name name ≡ true) × AreNamed ps
AreNamed (step s ∷ ps) = HasNames s × AreNamed ps
AreNamed (mark m ∷ ps) = AreNamed ps
