-- Question 6: `starts_differ` meets its contract.
-- Starts that rise differ. For the others the invariant: every start so far is new.
use mathlib.Core.Path.{◌≡◌}
use mathlib.Core.Bool.{true}
use Rattle.lists.specs.Choice.{all_below}
use Rattle.record.specs.Blocks.{start_is_new}
use Rattle.record.proofs.blocks.starts_differ.Given as goal

abbrev pub invariant-loop-k : goal.invariant-loop-k
invariant-loop-k l = all_below (start_is_new l.starts) l.k ≡ true
