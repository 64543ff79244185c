-- `plain_start` meets its contract.
-- The invariant: the lengths so far, summed, each below 256.
use mathlib.Core.Path.{◌≡◌}
use Prim.Native.Nat.{◌*◌, ◌≤◌}
use Rattle.record.specs.Atlas.{text_start}
use Rattle.record.proofs.atlas.plain_start.Given as goal

abbrev pub invariant-loop-i : goal.invariant-loop-i
invariant-loop-i l = (l.sum ≤ 255 * l.i) × (l.sum ≡ text_start l.pairs l.i)
