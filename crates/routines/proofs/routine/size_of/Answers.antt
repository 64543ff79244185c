-- `routine::size_of` meets its contract.
-- The record's length is the sum of its arrays'.
use native.Mathlib.Omega.{arith}
use Rattle.routines.specs.Numbered.{routine_at}
use Rattle.routines.proofs.Sizes.{length_record}
use Rattle.routines.proofs.routine.size_of.Goals as goal

pub returns : goal.returns
returns c = (omega (arith, length_record (routine_at c.args.k)), omega arith)
