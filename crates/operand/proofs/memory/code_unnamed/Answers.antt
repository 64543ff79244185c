-- `memory::code_unnamed` meets its contract.
-- By whether it is read.
use Rattle.operand.proofs.Pieces.{addressed}
use Rattle.operand.proofs.memory.code_unnamed.Goals as goal

pub returns : goal.returns
returns c s = addressed c.args.deref (c.code_if.ensures s) (c.code_prefixed.ensures s)
