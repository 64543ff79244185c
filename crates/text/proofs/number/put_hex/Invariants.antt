-- `number::put_hex` meets its contract.
-- The invariant: to store the digits left of w where the loop stands is to store those of v where it began.
use mathlib.Core.Path.{◌≡◌}
use Rattle.lists.specs.Put.{put}
use Rattle.text.specs.Number.{hex_digits}
use Rattle.text.proofs.number.put_hex.Given as goal

abbrev pub invariant-loop-i : goal.invariant-loop-i
invariant-loop-i l = put 0 (hex_digits l.upper l.i l.w) l.out ≡ put 0 (hex_digits l.upper l.n l.v) l.initial.out
