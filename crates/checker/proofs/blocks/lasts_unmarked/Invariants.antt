-- Whether no last instruction is skip-marked: `lasts_unmarked` meets its contract.
-- The invariant: so far none breaks it, or `ok` is false.
use mathlib.Core.Path.{◌≡◌}
use mathlib.Core.Bool.{not}
use Prim.Native.Nat.{◌≤◌}
use Rattle.lists.specs.Choice.{all_below}
use Rattle.checker.specs.Rows.{last_marked}
use Rattle.checker.proofs.blocks.lasts_unmarked.Given as goal

abbrev pub invariant-loop-k : goal.invariant-loop-k
invariant-loop-k l =
    (l.k ≤ l.count) × (l.ok ≡ all_below (λ j. not (last_marked l.bodies l.blocks j)) l.k)
