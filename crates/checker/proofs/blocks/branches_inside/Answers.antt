-- Whether each conditional branch goes to a block: `branches_inside` meets its contract.
-- The invariant: so far none breaks it, or `ok` is false.
use Rattle.lists.specs.Below.{all_more}
use Rattle.checker.specs.Rows.{branch_inside}
use borrow.Author.Rules.{rules}
use Rattle.checker.proofs.blocks.branches_inside.Goals as goal

pub loop-k-preserved : goal.loop-k-preserved
unfolding branch_inside
loop-k-preserved c = (search rules, simp (all_more, c.loop-k.invariant.1, c.ending_in.ensures, c.branch_to.ensures))
