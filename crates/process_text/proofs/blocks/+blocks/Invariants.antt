use Rattle.std.proofs.Common.{◌≡◌, ◌≤◌, ◌+◌, ◌*◌, ◌-◌, ◌∷◌, ℕ, List, length, map}
use Rattle.process_text.specs.Grammar.{Writes, block_pieces}
use Rattle.process_text.specs.FirstFault.{told_behind}
use Rattle.process_text.specs.Leading.{with_names, MayOpen}
use Rattle.process_text.specs.Limits.{AlternativesFit}
use Rattle.process_tree.specs.Blocks.{outline}
use Rattle.text_words.specs.declared.marks.Next.TheVariants as next
use Rattle.text_words.specs.declared.marks.Mark.TheVariants.{Choose, Or}
use Rattle.process_text.proofs.Pieces.{with_or}
use Rattle.process_text.proofs.blocks.+blocks.Given as goal

abbrev pub decreases-read_block : goal.decreases-read_block
decreases-read_block l = 2 * l.left + 1

abbrev pub decreases-read_choice : goal.decreases-read_choice
decreases-read_choice l = 2 * l.left

abbrev pub invariant-read_choice-loop-alloc : goal.invariant-read_choice-loop-alloc
invariant-read_choice-loop-alloc l = record {
  few : length l.blocks.items ≤ 8;
  fits : AlternativesFit l.left l.fn.names (map outline l.blocks.items) l.names;
  -- each alternative so far has `or` behind it
  written : Writes (with_or (map block_pieces l.blocks.items)) l.fn.words l.words;
  leads : (earlier : List (List ℕ)) (choices : List ℕ) → MayOpen l.left choices
      → told_behind (with_names l.fn.names earlier choices) (next.Mark Choose) l.fn.words
      ≡ told_behind (with_names l.names earlier (length l.blocks.items ∷ choices)) (next.Mark Or) l.words;
}

abbrev pub decreases-read_choice-loop-alloc : goal.decreases-read_choice-loop-alloc
decreases-read_choice-loop-alloc l = 8 - length l.blocks.items
