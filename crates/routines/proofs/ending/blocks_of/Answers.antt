-- `ending::blocks_of` meets its contract.
-- By the routine's number.
use mathlib.Core.Path.{sym}
use native.Mathlib.Omega.{arith}
use Rattle.routines.proofs.Full.{length_one, length_two, length_three}
use Rattle.routines.proofs.ending.blocks_of.Goals as goal

pub returns-then-k-lt2 : goal.returns-then-k-lt2
returns-then-k-lt2 c = (sym (length_one _ (omega arith)), omega arith)

pub returns-then-k-lt20 : goal.returns-then-k-lt20
returns-then-k-lt20 c = (sym (length_two _ (omega arith) (omega arith)), omega arith)

pub returns-else-k-lt20 : goal.returns-else-k-lt20
returns-else-k-lt20 c = (sym (length_three _ (omega arith) (omega arith)), omega arith)
