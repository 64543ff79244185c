-- `literal::put_escapes` meets its contract.
-- The invariant: to store the spellings that are left where the loop stands is to store all of them where it began.
use mathlib.Core.Path.{◌≡◌}
use Prim.Native.Nat.{◌≤◌, ◌+◌, ◌*◌}
use lib.ListN.{length, take, drop}
use Rattle.lists.specs.Put.{put}
use Rattle.text.specs.Literal.{escapes}
use Rattle.text.proofs.literal.put_escapes.Given as goal

abbrev pub invariant-loop-b : goal.invariant-loop-b
invariant-loop-b l =
    (l.b-index ≤ l.n)
    × (l.at ≤ 6 * l.b-index)
    × (length l.out ≡ length l.initial.out)
    × (l.at + length (escapes (drop l.b-index (take 80 l.s))) ≡ length (escapes (take 80 l.s)))
    × (put l.at (escapes (drop l.b-index (take 80 l.s))) l.out ≡ put 0 (escapes (take 80 l.s)) l.initial.out)
