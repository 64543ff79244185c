-- `flag_writer` meets its contract.
-- The invariant: what is left to search has the same answer as the whole.
use mathlib.Core.Path.{◌≡◌}
use Prim.Native.Nat.{◌-◌}
use Rattle.expressions.specs.Condition.{flag_writer}
use Rattle.expressions.proofs.condition.flag_writer.Given as goal

abbrev pub invariant-loop-j : goal.invariant-loop-j
invariant-loop-j l = flag_writer l.bodies l.first (l.j - l.first) ≡ flag_writer l.bodies l.first (l.i - l.first)
