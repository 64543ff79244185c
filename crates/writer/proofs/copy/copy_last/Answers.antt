-- `copy::copy_last` meets its contract.
-- One byte is left, or none.
use native.Mathlib.Omega.{arith}
use Rattle.writer.proofs.CopyLaws.{one_left, none_left}
use Rattle.writer.proofs.copy.copy_last.Goals as goal

pub returns-then-n-eq1 : goal.returns-then-n-eq1
returns-then-n-eq1 c =
    let a = c.args in
    one_left a.s.now a.out.now a.at a.n a.i c.requires.0 (omega arith) c.requires.3

pub returns-else-n-eq1 : goal.returns-else-n-eq1
returns-else-n-eq1 c =
    let a = c.args in
    none_left a.s.now a.out.now a.at a.n a.i (omega arith)
