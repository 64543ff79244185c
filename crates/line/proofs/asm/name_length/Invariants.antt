-- `name_length` meets its contract.
-- The invariant: what is left to read has the same answer as the whole.
use mathlib.Core.Path.{◌≡◌}
use Prim.Native.Nat.{◌≤◌, ◌-◌}
use Rattle.line.specs.Print.{length_from, name_length}
use Rattle.line.proofs.asm.name_length.Given as goal

abbrev pub invariant-loop-k : goal.invariant-loop-k
invariant-loop-k l =
    (l.k ≤ 24) × (length_from l.name l.k (24 - l.k) ≡ name_length l.name)
