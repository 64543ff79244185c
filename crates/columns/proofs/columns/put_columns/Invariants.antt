-- `columns::put_columns` meets its contract.
-- The invariant: the first j columns are stored, one behind the other.
use mathlib.Core.Path.{◌≡◌}
use Prim.Native.Nat.{◌+◌, ◌*◌, ◌≤◌}
use lib.ListN.{length, drop}
use Rattle.lists.specs.Entries.{tab}
use Rattle.lists.specs.Put.{put}
use Rattle.columns.proofs.Transposed.{cell}
use Rattle.columns.proofs.columns.put_columns.Given as goal

abbrev pub invariant-loop-j : goal.invariant-loop-j
invariant-loop-j l =
    (l.j ≤ l.n) × (l.to ≡ l.at + l.j * l.m) × (length l.out ≡ length l.initial.out) × (l.out ≡ put l.at (tab (cell l.m l.n (drop l.at l.s)) 0 (l.j * l.m)) l.initial.out)
