-- `names::plain_span` meets its contract.
-- The invariant: no span so far holds the address.
use mathlib.Core.Path.{◌≡◌}
use mathlib.Core.Bool.{false}
use Prim.Native.Nat.{◌≤◌}
use Rattle.lists.specs.Choice.{any_below}
use Rattle.operand.proofs.Entries.{holds}
use Rattle.operand.proofs.names.plain_span.Given as goal

abbrev pub invariant-loop-k : goal.invariant-loop-k
invariant-loop-k l = (l.k ≤ l.n) × (any_below (holds l.spans l.va) l.k ≡ false)
