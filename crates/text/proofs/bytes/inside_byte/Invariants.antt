-- `bytes::inside_byte` meets its contract.
-- The invariant: index k behind the spelling of byte i - 1 is index j of the whole.
use mathlib.Core.Path.{◌≡◌}
use mathlib.Core.List.{◌++◌}
use Prim.Native.Nat.{◌≤◌}
use lib.Dec.{ltb}
use lib.ListN.{length, take, drop, get_or}
use Rattle.text.specs.Literal.{escapes, closing}
use Rattle.text.proofs.bytes.inside_byte.Given as goal

abbrev pub invariant-loop-b : goal.invariant-loop-b
invariant-loop-b l =
    (l.b-index ≤ l.n) × (get_or (escapes (drop l.b-index (take 80 l.s)) ++ closing (ltb 80 (length l.s))) l.k 0 ≡ get_or (escapes (take 80 l.s) ++ closing (ltb 80 (length l.s))) l.j 0)
