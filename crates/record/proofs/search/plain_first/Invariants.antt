-- `plain_first` meets its contract.
-- The invariant: the first from here on is the first of all.
use mathlib.Core.Path.{◌≡◌}
use Prim.Native.Nat.{◌-◌}
use Rattle.record.specs.Search.{find_from}
use Rattle.record.proofs.search.plain_first.Given as goal

abbrev pub invariant-loop-k : goal.invariant-loop-k
invariant-loop-k l = find_from l.numbers l.x l.k (l.count - l.k) ≡ find_from l.numbers l.x 0 l.count
