-- `number::put_numbered` meets its contract.
-- The word, the number and LF, one behind the other.
use native.Mathlib.Omega.{arith}
use Rattle.text.proofs.DecimalDigits.{digits_few}
use Rattle.page.proofs.Pieces.{numbered_puts}
use Rattle.page.proofs.number.put_numbered.Goals as goal

pub put_decimal-end-requires : goal.put_decimal-end-requires
put_decimal-end-requires c = omega (arith, c.requires, c.put_slice-w.ensures.count, digits_few c.args.n (omega arith))

pub returns : goal.returns
returns c = let p = numbered_puts c.args.word.now _ _ _ _ c.args.n _ _ c.put_slice-w.ensures.count c.put_slice-w.ensures.text c.put_decimal-end.ensures.end.0 c.put_decimal-end.ensures.text c.store.ensures in
    record { end = (omega (arith, p.end), omega arith); text = p.text }
