-- `plain_search` meets its contract.
-- The invariant: numbers below `low` are smaller than x, those from `high` on greater.
use Prim.Native.Nat.{◌≤◌, ◌-◌}
use Rattle.record.specs.Search.{number_at}
use Rattle.record.proofs.Halving.{Between}
use Rattle.record.proofs.search.plain_search.Given as goal

abbrev pub invariant-loop-low : goal.invariant-loop-low
invariant-loop-low l = (l.low ≤ l.high) × (l.high ≤ l.count) × Between (number_at l.numbers) l.count l.x l.low l.high

abbrev pub decreases-loop-low : goal.decreases-loop-low
decreases-loop-low l = l.high - l.low
