-- Whether each last direct jmp to a block has its one Uncond edge there: `jumps_led` meets its contract.
-- The invariant: so far none breaks it, or `ok` is false.
use mathlib.Core.Path.{◌≡◌}
use Prim.Native.Nat.{◌≤◌}
use Rattle.lists.specs.Choice.{all_below}
use Rattle.checker.specs.Rows.{jump_led}
use Rattle.checker.proofs.blocks.jumps_led.Given as goal

abbrev pub invariant-loop-k : goal.invariant-loop-k
invariant-loop-k l =
    (l.k ≤ l.count) × (l.ok ≡ all_below (jump_led l.targets l.kinds l.bodies l.blocks) l.k)
