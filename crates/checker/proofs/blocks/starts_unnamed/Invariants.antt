-- Whether no atlas entry stands at a block's start: `starts_unnamed` meets its contract.
-- The invariant: so far none breaks it, or `ok` is false.
use mathlib.Core.Path.{◌≡◌}
use Prim.Native.Nat.{◌≤◌}
use Rattle.lists.specs.Choice.{all_below}
use Rattle.record.specs.Blocks.{start_at}
use Rattle.record.specs.Layout.{starts_of}
use Rattle.operand.specs.Names.{entry_at}
use Rattle.route.specs.Assumed.{is_nothing}
use Rattle.checker.proofs.blocks.starts_unnamed.Given as goal

abbrev pub invariant-loop-k : goal.invariant-loop-k
invariant-loop-k l =
    (l.k ≤ l.h.blocks) × (l.ok ≡ all_below (λ j. is_nothing (entry_at l.h l.rec (start_at (starts_of l.h l.rec) j))) l.k)
