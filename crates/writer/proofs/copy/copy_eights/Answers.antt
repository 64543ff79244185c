-- `copy::copy_eights` meets its contract.
-- The invariant: to store what is left where the loop stands is to store all from the start.
use mathlib.Core.Path.{◌∙◌}
use native.Mathlib.Omega.{arith}
use Rattle.writer.proofs.CopyLaws.{behind_part}
use Rattle.writer.proofs.copy.copy_eights.Goals as goal

pub loop-i-preserved : goal.loop-i-preserved
loop-i-preserved c =
    let a = c.args in (
      omega arith,
      omega arith,
      c.copy_eight.auto.out ∙ c.loop-i.invariant.2,
      behind_part a.s.now c.loop-i.out _ a.at a.n c.loop-i.i 8 c.requires.0 (omega arith) c.copy_eight.ensures ∙ c.loop-i.invariant.3,
    )
