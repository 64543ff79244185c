-- `line::put_line` meets its contract.
-- Four pieces, one behind the other.
use mathlib.Core.Path.{refl}
use native.Mathlib.Omega.{arith}
use Rattle.page.proofs.Pieces.{line_puts}
use Rattle.page.proofs.line.put_line.Goals as goal

pub returns : goal.returns
returns c = let p = line_puts c.args.mark c.args.address c.args.s.now _ c.indent_spaces-spaces.ensures.0 c.ranges.address.fits c.args.at _ _ _ _ _ _ _ _ c.put_address.ensures refl c.put_run.ensures refl c.put_text.ensures refl c.store.ensures in
    record { end = (p.end, omega arith); text = p.text }
