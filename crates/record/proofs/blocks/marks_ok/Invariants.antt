-- Question 5: `marks_ok` meets its contract.
-- The invariant: the two sums, and whether every label mark so far is 0 or 1.
use mathlib.Core.Path.{◌≡◌}
use Prim.Native.Nat.{◌≤◌, ◌*◌}
use lib.Dec.{leb}
use Rattle.lists.specs.Choice.{all_below, sum_below}
use Rattle.record.specs.Blocks.{instructions_in, edges_in, label_mark}
use Rattle.record.proofs.blocks.marks_ok.Given as goal

abbrev pub invariant-loop-k : goal.invariant-loop-k
invariant-loop-k l =
    (l.total ≤ 65535 * l.k) × (l.sum ≤ 255 * l.k)
    × (l.total ≡ sum_below (instructions_in l.marks) l.k) × (l.sum ≡ sum_below (edges_in l.marks) l.k) × (l.ok ≡ all_below (λ j. leb (label_mark l.marks j) 1) l.k)
