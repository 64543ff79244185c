-- `page::put_page` meets its contract.
-- The line count, and the lines behind it.
use native.Mathlib.Omega.{arith}
use Rattle.page.proofs.Pieces.{page_puts}
use Rattle.page.proofs.page.put_page.Goals as goal

pub returns : goal.returns
returns c = let a = c.args in
    let p = page_puts a.l.now a.n _ _ _ _ _ c.put_count-at.ensures.end.0 c.put_count-at.ensures.text c.put_lines.ensures.end c.put_lines.ensures.text in
    record { end = omega (arith, p.end); text = p.text }
