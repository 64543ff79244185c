-- `routine::put_array` meets its contract.
-- The invariant: to store the entries that are left where the loop stands is to store all of them where it began.
use mathlib.Core.Path.{◌≡◌}
use mathlib.Core.List.{List}
use Prim.Native.Nat.{ℕ, ◌+◌, ◌*◌, ◌≤◌}
use lib.ListN.{length, drop}
use Rattle.lists.specs.Put.{put}
use Rattle.routines.specs.declared.ending.Ending.{Ending}
use Rattle.routines.specs.Numbered.{routine_at}
use Rattle.routines.specs.declared.fields.Array.{Array}
use Rattle.routines.specs.Written.{each, entry_of}
use Rattle.routines.proofs.routine.put_array.Given as goal

-- the entries from block j on
abbrev pub left : Array → List Ending → ℕ → List ℕ
left a r j = each (entry_of a) j (drop j r)

abbrev pub invariant-loop-j : goal.invariant-loop-j
invariant-loop-j l =
    (l.j ≤ l.n) × (length l.out ≡ length l.initial.out) × (l.next ≤ l.at + 92 * l.j) × (l.next + length (left l.a (routine_at l.k) l.j) ≡ l.at + length (left l.a (routine_at l.k) 0))
    × (put l.next (left l.a (routine_at l.k) l.j) l.out ≡ put l.at (left l.a (routine_at l.k) 0) l.initial.out)
