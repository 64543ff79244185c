-- `lengths::escapes_length` meets its contract.
-- The invariant: what is summed and the spellings that are left are as long as all of them.
use Rattle.text.specs.Literal.{escapes}
use lib.ListN.{length, take, drop}
use Prim.Native.Nat.{◌≤◌, ◌+◌, ◌*◌}
use mathlib.Core.Path.{◌≡◌}
use Rattle.text.proofs.lengths.escapes_length.Given as goal

abbrev pub invariant-loop-b : goal.invariant-loop-b
invariant-loop-b l = (l.b-index ≤ l.n) × (l.sum ≤ 6 * l.b-index) × (l.sum + length (escapes (drop l.b-index (take 80 l.s))) ≡ length (escapes (take 80 l.s)))
