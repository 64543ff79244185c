-- Bytes that may pass the end of the list: `late_bytes` meets its contract.
-- The invariant: the bytes so far are those of the part that begins at the offset.
use mathlib.Core.Path.{◌≡◌}
use Prim.Native.Nat.{ℕ, ◌<◌}
use lib.ListN.{length}
use Rattle.lists.specs.Bytes.{u8_at}
use Rattle.lists.proofs.reads.late_bytes.Given as goal

abbrev pub invariant-loop-i : goal.invariant-loop-i
invariant-loop-i g l = (length l.bytes ≡ g.row.N) × ((k : ℕ) → k < l.i → u8_at l.bytes k ≡ u8_at l.rest k)
