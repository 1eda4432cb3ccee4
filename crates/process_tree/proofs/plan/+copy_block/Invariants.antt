use Rattle.std.proofs.Common.{◌≡◌, take, map}
use Rattle.process_tree.specs.Form.{form_of}
use Rattle.process_tree.proofs.plan.+copy_block.Given as goal

-- the copies so far have the forms of their blocks
abbrev pub invariant-loop-inner : goal.invariant-loop-inner
invariant-loop-inner l = map form_of l.copies.items ≡ map form_of (take l.inner-index l.inner-items)
