-- Question 15: `branches_ok` meets its contract.
-- The invariant: the first edge and instruction of block k, and whether every block before it agrees.
use mathlib.Core.Path.{◌≡◌}
use Prim.Native.Nat.{◌*◌, ◌≤◌}
use Rattle.lists.specs.Choice.{all_below}
use Rattle.record.specs.Blocks.{first_instruction, first_edge}
use Rattle.record.specs.Branches.{branch_ok}
use Rattle.record.proofs.branches.branches_ok.Given as goal

abbrev pub invariant-loop-k : goal.invariant-loop-k
invariant-loop-k l =
    (l.e ≤ 255 * l.k) × (l.i ≤ 65535 * l.k)
    × (l.e ≡ first_edge l.marks l.k) × (l.i ≡ first_instruction l.marks l.k) × (l.ok ≡ all_below (branch_ok l.targets l.kinds l.marks l.bodies) l.k)
