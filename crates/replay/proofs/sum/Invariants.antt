-- `sum` meets its contract.
-- The invariant: the sum of what is left, from here, is that of the whole.
use mathlib.Core.Path.{◌≡◌}
use mathlib.Core.List.{map}
use Prim.Native.Nat.{ℕ, ◌<◌}
use lib.ListN.{drop}
use Rattle.replay.specs.Sum.{sum_from}
use Rattle.replay.proofs.sum.Given as goal

abbrev pub invariant-loop-x : goal.invariant-loop-x
invariant-loop-x g l = (l.h < 4294967311) × ((value : g.row.T.Denot → ℕ) → ((x : g.row.T.Denot) (n : ℕ) → g.T.Into.converts x n → n ≡ value x) → sum_from l.h (map value (drop l.x-index l.s)) ≡ sum_from 1 (map value l.s))
