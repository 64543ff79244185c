-- How many of n edges from e on are of the kind: `count_of` meets its contract.
-- The invariant: the sum so far.
use mathlib.Core.Path.{◌≡◌}
use Prim.Native.Nat.{◌+◌, ◌≤◌}
use Rattle.lists.specs.Choice.{pick, sum_below}
use Rattle.record.specs.Blocks.{edge_kind_at}
use Rattle.checker.specs.Edges.{of_kind}
use Rattle.checker.proofs.edges.count_of.Given as goal

abbrev pub invariant-loop-m : goal.invariant-loop-m
invariant-loop-m l =
    (l.m ≤ l.n) × (l.count ≤ l.m) × (l.count ≡ sum_below (λ j. pick (of_kind l.kind (edge_kind_at l.kinds (l.e + j))) 1 0) l.m)
