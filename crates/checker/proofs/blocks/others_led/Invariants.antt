-- Whether each other block leads to the next block: `others_led` meets its contract.
-- The invariant: so far none breaks it, or `ok` is false.
use mathlib.Core.Path.{◌≡◌}
use Prim.Native.Nat.{◌≤◌}
use Rattle.lists.specs.Choice.{all_below}
use Rattle.checker.specs.Rows.{other_led}
use Rattle.checker.proofs.blocks.others_led.Given as goal

abbrev pub invariant-loop-k : goal.invariant-loop-k
invariant-loop-k l =
    (l.k ≤ l.count) × (l.ok ≡ all_below (other_led l.targets l.kinds l.bodies l.blocks l.starts l.count) l.k)
