-- `copy::copy_eights` meets its contract.
-- The invariant: to store what is left where the loop stands is to store all from the start.
use mathlib.Core.Path.{◌≡◌}
use Prim.Native.Nat.{◌-◌, ◌%◌, ◌≤◌}
use lib.ListN.{length}
use Rattle.lists.specs.Put.{put}
use Rattle.writer.specs.Copy.{left}
use Rattle.writer.proofs.copy.copy_eights.Given as goal

abbrev pub invariant-loop-i : goal.invariant-loop-i
invariant-loop-i l = (l.i ≤ l.n) × (l.i % 8 ≡ 0) × (length l.out ≡ length l.initial.out) × (put l.i (left l.s l.at l.n l.i) l.out ≡ put 0 (left l.s l.at l.n 0) l.initial.out)

abbrev pub decreases-loop-i : goal.decreases-loop-i
decreases-loop-i l = l.n - l.i
