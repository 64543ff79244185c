-- `copy::copy_twos` meets its contract.
-- Behind the part stands what is left.
use native.Mathlib.Omega.{arith}
use Rattle.writer.proofs.CopyLaws.{behind_part}
use Rattle.writer.proofs.copy.copy_twos.Goals as goal

pub returns-then-n-eq1 : goal.returns-then-n-eq1
returns-then-n-eq1 c = let a = c.args in
    record { count = (omega arith, omega arith, omega arith); text = behind_part a.s.now a.out.now _ a.at a.n a.i 2 c.requires.0 (omega arith) c.copy_two.ensures }
