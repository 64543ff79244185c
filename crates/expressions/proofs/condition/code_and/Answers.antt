-- `condition::code_and` meets its contract.
-- One behind the other.
use Rattle.expressions.proofs.Conditions.{and_between}
use Rattle.expressions.proofs.condition.code_and.Goals as goal

pub returns : goal.returns
returns c = and_between c.op.ensures (c.code_word.ensures c.args.rec.now) c.op-2.ensures
