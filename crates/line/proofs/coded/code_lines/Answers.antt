-- `coded::code_lines` meets its contract.
-- The invariant: the lines coded and those left, printed with the registers written before them, are all of them.
use mathlib.Core.Path.{refl}
use native.Mathlib.Omega.{arith}
use Rattle.codes.proofs.CodedLines.{lines_none}
use Rattle.line.proofs.CodedTurns.{at_first, next_line, at_last, printed_step, printed_done}
use borrow.Author.Rules.{rules}
use Rattle.line.proofs.coded.code_lines.Goals as goal

pub loop-code-init : goal.loop-code-init
loop-code-init c = (refl, search rules, at_first (lines_none _ _ _ c.requires.at_line c.type_inv.codes))

pub loop-code-preserved : goal.loop-code-preserved
loop-code-preserved c =
    let a = c.args in (
      omega (arith, c.code_line.auto.codes, c.loop-code.invariant.0),
      omega (arith, c.loop-code-test.true),
      next_line c.loop-code.invariant.2 (printed_step a.h a.rec.now a.range a.plan.now c.loop-code.code-index c.loop-code.mask _ c.loop-code-test.true c.mask_after-mask.ensures) c.code_line.ensures,
    )

pub returns : goal.returns
returns c =
    let a = c.args in
    at_last c.loop-code.invariant.2 (printed_done a.h a.rec.now a.range a.plan.now c.loop-code.code-index c.loop-code.mask c.loop-code-test.false)
