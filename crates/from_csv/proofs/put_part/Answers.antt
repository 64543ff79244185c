-- `put_part` meets its contract.
-- The lines of the part, behind the line count in part 0.
use mathlib.Core.Path.{ap}
use native.Mathlib.Omega.{arith}
use lib.ListN.{length}
use Rattle.rows.specs.Lists.{Lists}
use Rattle.from_csv.proofs.Parts.{first_part, later_part}
use Rattle.from_csv.proofs.put_part.Goals as goal

pub returns-then-p-eq0 : goal.returns-then-p-eq0
returns-then-p-eq0 c = let a = c.args in
    let p = first_part a.l.now a.p _ _ _ (ap (λ (l : Lists). length l.addresses) c.l.view_is) (omega arith) c.part_count-k.ensures.0 _ _ _ _ _ c.if-p-eq0.true c.put_count-at.ensures.end.0 c.put_count-at.ensures.text c.put_lines.ensures.end c.put_lines.ensures.text in
    record { end = omega (arith, p.end); text = p.text }

pub returns : goal.returns
returns c = let a = c.args in
    let p = later_part a.l.now a.p _ _ _ (ap (λ (l : Lists). length l.addresses) c.l.view_is) (omega arith) c.part_count-k.ensures.0 _ _ _ c.if-p-eq0.false c.put_lines-2.ensures.end c.put_lines-2.ensures.text in
    record { end = omega (arith, p.end); text = p.text }
