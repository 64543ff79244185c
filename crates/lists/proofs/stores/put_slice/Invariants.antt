-- `stores::put_slice` meets its contract.
-- The invariant: to store the rest of s where the loop stands is to store all of s where it began.
use mathlib.Core.Path.{◌≡◌}
use Prim.Native.Nat.{◌≤◌}
use lib.ListN.{length, drop}
use Rattle.lists.specs.Put.{put}
use Rattle.lists.proofs.stores.put_slice.Given as goal

abbrev pub invariant-loop-i : goal.invariant-loop-i
invariant-loop-i g l = (l.i ≤ l.n) × (length l.out ≡ length l.initial.out) × (put l.i (drop l.i l.s) l.out ≡ put 0 l.s l.initial.out)
