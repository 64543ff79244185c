-- `sum_u64` meets its contract.
-- The invariant of a sum, with two numbers for each entry.
use mathlib.Core.Path.{◌≡◌}
use Prim.Native.Nat.{◌<◌}
use lib.ListN.{drop}
use Rattle.replay.specs.Sum.{wide_from}
use Rattle.replay.proofs.sum_u64.Given as goal

abbrev pub invariant-loop-x : goal.invariant-loop-x
invariant-loop-x l = (l.h < 4294967311) × (wide_from l.h (drop l.x-index l.s) ≡ wide_from 1 l.s)
