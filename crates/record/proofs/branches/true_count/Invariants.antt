-- How many of n edges from e on are True: `true_count` meets its contract.
-- The invariant: the sum so far.
use mathlib.Core.Path.{◌≡◌}
use Prim.Native.Nat.{◌+◌, ◌≤◌}
use Rattle.lists.specs.Choice.{pick, sum_below}
use Rattle.record.specs.Branches.{is_true}
use Rattle.record.proofs.branches.true_count.Given as goal

abbrev pub invariant-loop-m : goal.invariant-loop-m
invariant-loop-m l = (l.count ≤ l.m) × (l.count ≡ sum_below (λ j. pick (is_true l.kinds (l.e + j)) 1 0) l.m)
