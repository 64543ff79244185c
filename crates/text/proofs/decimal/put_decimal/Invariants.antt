-- A number in decimal: `put_decimal` meets its contract.
-- The invariant: to store the digits left of w where the loop stands is to store those of n where it began.
use mathlib.Core.Path.{◌≡◌}
use Rattle.lists.specs.Put.{put}
use Rattle.text.proofs.DecimalDigits.{decimal_digits}
use Rattle.text.proofs.decimal.put_decimal.Given as goal

abbrev pub invariant-loop-i : goal.invariant-loop-i
invariant-loop-i l = put l.at (decimal_digits l.i l.w) l.out ≡ put l.at (decimal_digits l.size l.n) l.initial.out
