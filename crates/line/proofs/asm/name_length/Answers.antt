-- `name_length` meets its contract.
-- The invariant: what is left to read has the same answer as the whole.
use mathlib.Core.Path.{sym, ◌∙◌}
use native.Mathlib.Omega.{arith}
use borrow.Author.Tests.{eq-eqb, ne_eqb}
use Rattle.line.proofs.Names.{length_step, length_end, length_all}
use Rattle.line.proofs.asm.name_length.Goals as goal

pub loop-k-init : goal.loop-k-init
loop-k-init c = (omega arith, length_all c.args.name.now)

pub returns-then-u8_at-eq0 : goal.returns-then-u8_at-eq0
returns-then-u8_at-eq0 c = sym (length_step c.args.name.now c.loop-k.k c.loop-k-test.true ∙ simp (sym c.u8_at.ensures.0, eq-eqb _ _ c.if-u8_at-eq0.true)) ∙ c.loop-k.invariant.1

pub loop-k-preserved : goal.loop-k-preserved
loop-k-preserved c = (omega (arith, c.loop-k-test.true), sym (length_step c.args.name.now c.loop-k.k c.loop-k-test.true ∙ simp (sym c.u8_at.ensures.0, ne_eqb _ _ c.if-u8_at-eq0.false)) ∙ c.loop-k.invariant.1)

pub returns : goal.returns
returns c = sym (length_end c.args.name.now c.loop-k.k c.loop-k-test.false c.loop-k.invariant.0) ∙ c.loop-k.invariant.1
