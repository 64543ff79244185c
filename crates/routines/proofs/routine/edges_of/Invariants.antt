-- `routine::edges_of` meets its contract.
-- The invariant: the edges counted so far and those of the blocks that are left are all.
use mathlib.Core.Path.{◌≡◌}
use Prim.Native.Nat.{◌+◌, ◌*◌, ◌≤◌}
use lib.ListN.{drop}
use Rattle.routines.specs.Numbered.{routine_at}
use Rattle.routines.specs.Written.{edge_count}
use Rattle.routines.proofs.routine.edges_of.Given as goal

abbrev pub invariant-loop-j : goal.invariant-loop-j
invariant-loop-j l = (l.j ≤ l.n) × (l.edges ≤ 2 * l.j) × (l.edges + edge_count l.j (drop l.j (routine_at l.k)) ≡ edge_count 0 (routine_at l.k))
