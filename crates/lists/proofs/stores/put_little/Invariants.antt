-- `stores::put_little` meets its contract.
-- The invariant: to store what is left of the number where the loop stands is to store all of it where it began.
use mathlib.Core.Path.{◌≡◌}
use Prim.Native.Nat.{◌+◌, ◌-◌, ◌≤◌}
use lib.ListN.{length}
use Rattle.lists.specs.Little.{little}
use Rattle.lists.specs.Put.{put}
use Rattle.lists.proofs.stores.put_little.Given as goal

abbrev pub invariant-loop-i : goal.invariant-loop-i
invariant-loop-i l = (l.i ≤ l.n) × (length l.out ≡ length l.initial.out) × (put (l.at + l.i) (little (l.n - l.i) l.rest) l.out ≡ put l.at (little l.n l.x) l.initial.out)
