-- Whether a text begins with another: `begins_with` meets its contract.
-- The invariant: what is left of both tells it.
use mathlib.Core.Path.{◌≡◌}
use Prim.Native.Nat.{◌≤◌}
use lib.ListN.{length, drop}
use Rattle.checker.specs.Broken.{begins}
use Rattle.checker.proofs.names.begins_with.Given as goal

abbrev pub invariant-loop-i : goal.invariant-loop-i
invariant-loop-i l = (l.i ≤ length l.w) × (length l.w ≤ length l.t) × (begins l.t l.w ≡ begins (drop l.i l.t) (drop l.i l.w))
