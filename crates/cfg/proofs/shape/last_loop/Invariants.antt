-- The last block that closes a loop, and how many edges the search read: `last_loop` meets its contract.
-- The invariant: the blocks before j are left, and their edges end at `end`.
use mathlib.Core.Path.{◌≡◌}
use Prim.Native.Nat.{◌+◌, ◌*◌, ◌≤◌}
use lib.ListN.{length}
use Rattle.cfg.specs.Turn.{edges_before}
use Rattle.cfg.proofs.BackSearch.{Left}
use Rattle.cfg.proofs.shape.last_loop.Given as goal

abbrev pub invariant-loop-j : goal.invariant-loop-j
invariant-loop-j l =
    (l.j ≤ l.fn.to.0) × (l.end ≡ edges_before l.g.blocks.now l.j) × (l.looks + l.end ≤ l.initial.end) × (l.initial.end ≤ 131070) × (2 * l.end ≤ length l.g.edges.now) × Left l.g.blocks.now l.g.edges.now l.i.0 l.fn.to.0 l.j l.looks
