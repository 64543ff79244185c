-- `columns::put_column` meets its contract.
-- The invariant: the column's first i bytes are stored, and the next stands where `from` is.
use mathlib.Core.Path.{◌≡◌}
use Prim.Native.Nat.{◌+◌, ◌*◌, ◌≤◌}
use lib.ListN.{length, get_or}
use Rattle.lists.specs.Entries.{tab}
use Rattle.lists.specs.Put.{put}
use Rattle.columns.proofs.columns.put_column.Given as goal

abbrev pub invariant-loop-i : goal.invariant-loop-i
invariant-loop-i l =
    (l.i ≤ l.m) × (l.from ≡ l.first + l.i * l.n) × (length l.out ≡ length l.initial.out) × (l.out ≡ put l.to (tab (λ k. get_or l.s (l.first + k * l.n) 0) 0 l.i) l.initial.out)
