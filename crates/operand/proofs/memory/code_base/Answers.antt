-- `memory::code_base` meets its contract.
-- By whether it is wanted.
use Rattle.codes.proofs.Coding.{coded_none}
use Rattle.operand.proofs.memory.code_base.Goals as goal

pub returns : goal.returns
returns c s = rw c.if-wanted.false (coded_none _ s _ c.slice_known-1.given)
