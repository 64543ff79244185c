-- `x86::conventions::argument_count` counts the registers up to the last that is written.
-- The leading zeros of the positions, by the law over any list of registers.
use native.Mathlib.Omega.{arith}
use borrow.Author.Tests.{eq-eqb, ne_eqb}
use Rattle.x86.specs.Conventions.{microsoft, system_v, argument_registers, argument_count}
use Rattle.x86.proofs.Positions.{counted}
use Rattle.x86.proofs.conventions.argument_count.Goals as goal

pub returns-then-convention-eq0 : goal.returns-then-convention-eq0
unfolding argument_count argument_registers
returns-then-convention-eq0 c =
    let a = c.args in
    rw (eq-eqb a.convention 0 c.if-convention-eq0.true)
    (counted a.mask microsoft _ _ (omega arith) c.microsoft_positions.ensures c.after_last.ensures)

pub returns : goal.returns
unfolding argument_count argument_registers
returns c =
    let a = c.args in
    rw (ne_eqb a.convention 0 c.if-convention-eq0.false)
    (counted a.mask system_v _ _ (omega arith) c.system_v_positions.ensures c.after_last-2.ensures)
