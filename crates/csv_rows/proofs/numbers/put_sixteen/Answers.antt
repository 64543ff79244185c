-- Sixteen hex digits: `put_sixteen` meets its contract.
-- Each turn stores the last digit that is left.
use mathlib.Core.Bool.{true}
use native.Mathlib.Omega.{arith}
use Rattle.text.specs.NumberLaws.{hex_digits_length}
use Rattle.csv_rows.proofs.Digits.{hex_end}
use Rattle.csv_rows.proofs.numbers.put_sixteen.Goals as goal

pub returns : goal.returns
returns c = record { end = omega (arith, hex_digits_length true 16 c.args.v); text = hex_end c.loop-i.invariant c.loop-i-test.false }
