use Rattle.std.proofs.Common.{List, ℕ, subst}
use Rattle.process_tree.specs.Blocks.{outline}
use Rattle.process_text.specs.Limits.{BlockFits}
use Rattle.process_text.proofs.Fitting.{makes_tree}
use Rattle.process_text.proofs.processes.read_root.Goals as goal

pub returns-clause-good : goal.returns-clause-good
returns-clause-good c =
    makes_tree c.in_ok-root.root c.read_block.new.names
    (subst (λ (names : List (List ℕ)). BlockFits 16 names (outline c.in_ok-root.root) c.read_block.new.names) c.new-names.ensures c.in_ok-root.ensures.fits)
