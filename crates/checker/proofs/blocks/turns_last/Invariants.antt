-- Whether no instruction before a last one turns away: `turns_last` meets its contract.
-- The invariant: so far none breaks it, or `ok` is false.
use mathlib.Core.Path.{◌≡◌}
use mathlib.Core.Bool.{not}
use Prim.Native.Nat.{◌≤◌}
use Rattle.lists.specs.Choice.{all_below}
use Rattle.checker.specs.Rows.{turns_inside}
use Rattle.checker.proofs.blocks.turns_last.Given as goal

abbrev pub invariant-loop-k : goal.invariant-loop-k
invariant-loop-k l =
    (l.k ≤ l.count) × (l.ok ≡ all_below (λ j. not (turns_inside l.bodies l.blocks j)) l.k)
