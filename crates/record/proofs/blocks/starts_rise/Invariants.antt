-- `starts_rise` meets its contract.
-- The invariant: so far each start is above the one before it, or `ok` is false; `before` is the start of the block before.
use mathlib.Core.Path.{◌≡◌}
use Prim.Native.Nat.{◌-◌}
use Rattle.lists.specs.Choice.{all_below}
use Rattle.record.specs.Blocks.{start_at, start_rises}
use Rattle.record.proofs.blocks.starts_rise.Given as goal

abbrev pub invariant-loop-k : goal.invariant-loop-k
invariant-loop-k l = (l.before.0 ≡ start_at l.starts (l.k - 1)) × (l.ok ≡ all_below (start_rises l.starts) l.k)
