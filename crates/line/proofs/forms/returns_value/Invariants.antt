-- `returns_value` meets its contract.
-- The invariant: none of the instructions so far leaves a value.
use mathlib.Core.Path.{◌≡◌}
use mathlib.Core.Bool.{false}
use Prim.Native.Nat.{◌≤◌}
use Rattle.lists.specs.Choice.{any_below}
use Rattle.line.specs.Forms.{value_before}
use Rattle.line.proofs.forms.returns_value.Given as goal

abbrev pub invariant-loop-k : goal.invariant-loop-k
invariant-loop-k l = (l.k ≤ 6) × (any_below (value_before l.bodies l.first l.i) l.k ≡ false)
