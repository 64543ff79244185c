-- `asm::code_operands` meets its contract.
-- The invariant: the operands coded and those left are all of them.
use mathlib.Core.Path.{refl}
use native.Mathlib.Omega.{arith}
use Rattle.codes.proofs.Coding.{coded_none}
use Rattle.operand.proofs.Tokens.{as_tokens}
use Rattle.expressions.proofs.Turns.{at_start, further, at_end}
use Rattle.line.proofs.Names.{operand_step, operands_done, operands_all}
use Rattle.line.proofs.asm.code_operands.Goals as goal

pub loop-i-init : goal.loop-i-init
loop-i-init c = (refl, omega arith, at_start (coded_none _ _ _ c.type_inv.codes))

pub loop-i-preserved : goal.loop-i-preserved
loop-i-preserved c =
    let a = c.args in (
      omega (arith, c.code_listed.auto.codes, c.loop-i.invariant.0),
      omega (arith, c.loop-i-test.true),
      further c.loop-i.invariant.2 (operand_step a.h a.rec.now a.body.now _ c.loop-i.i c.loop-i-test.true) c.code_listed.ensures,
    )

pub returns : goal.returns
returns c =
    let a = c.args in
    as_tokens (operands_all a.h a.rec.now a.body.now _ c.op_count-n.ensures) (at_end c.loop-i.invariant.2 (operands_done a.h a.rec.now a.body.now _ c.loop-i.i c.loop-i-test.false))
