-- Whether each conditional branch goes to a block: `branches_inside` meets its contract.
-- The invariant: so far none breaks it, or `ok` is false.
use mathlib.Core.Path.{◌≡◌}
use Prim.Native.Nat.{◌≤◌}
use Rattle.lists.specs.Choice.{all_below}
use Rattle.checker.specs.Rows.{branch_inside}
use Rattle.checker.proofs.blocks.branches_inside.Given as goal

abbrev pub invariant-loop-k : goal.invariant-loop-k
invariant-loop-k l =
    (l.k ≤ l.count) × (l.ok ≡ all_below (branch_inside l.blocks) l.k)
