-- A number in decimal: `put_decimal` meets its contract.
-- The invariant: to store the digits left of w where the loop stands is to store those of n where it began.
use mathlib.Core.Path.{◌∙◌}
use native.Mathlib.Omega.{arith}
use Rattle.text.proofs.DecimalDigits.{decimal_turn, decimal_stored}
use Rattle.text.proofs.decimal.put_decimal.Goals as goal

pub loop-i-preserved : goal.loop-i-preserved
loop-i-preserved c = decimal_turn c.args.at c.loop-i.i c.loop-i.w _ _ (omega arith) c.store.ensures ∙ c.loop-i.invariant

pub returns : goal.returns
returns c =
    let size = c.decimal_length-size.ensures in
    record { end = (omega (arith, size.0), omega (arith, size.1)); text = decimal_stored _ c.loop-i.i _ _ _ _ _ (omega arith) (omega arith) size.0 c.loop-i.invariant }
