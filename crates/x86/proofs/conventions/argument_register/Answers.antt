-- `x86::conventions::argument_register` is the convention's list at an index.
-- Past the last register the list has its default.
use mathlib.Core.Path.{sym}
use borrow.Author.Tests.{eq-eqb, ne_eqb}
use lib.ListN.{get_or-eq_default}
use Rattle.x86.specs.Conventions.{microsoft, system_v, argument_registers, argument_register}
use Rattle.x86.proofs.conventions.argument_register.Goals as goal

pub returns-then-k-lt4 : goal.returns-then-k-lt4
unfolding argument_register argument_registers
returns-then-k-lt4 c = rw (eq-eqb _ 0 c.if-convention-eq0.true)

pub returns-then-convention-eq0 : goal.returns-then-convention-eq0
unfolding argument_register argument_registers
returns-then-convention-eq0 c = rw (eq-eqb _ 0 c.if-convention-eq0.true) (sym (get_or-eq_default microsoft 0 c.if-k-lt4.false))

pub returns-then-k-lt6 : goal.returns-then-k-lt6
unfolding argument_register argument_registers
returns-then-k-lt6 c = rw (ne_eqb _ 0 c.if-convention-eq0.false)

pub returns : goal.returns
unfolding argument_register argument_registers
returns c = rw (ne_eqb _ 0 c.if-convention-eq0.false) (sym (get_or-eq_default system_v 0 c.if-k-lt6.false))
