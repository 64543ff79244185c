-- `condition::code_unsigned` meets its contract.
-- By whether the relation is one of unsigned numbers.
use Rattle.expressions.proofs.Conditions.{as_unsigned}
use Rattle.expressions.proofs.condition.code_unsigned.Goals as goal

pub returns-then-prints_unsigned : goal.returns-then-prints_unsigned
returns-then-prints_unsigned c = as_unsigned _ _ c.prints_unsigned.ensures c.if-prints_unsigned.true (c.code_word.ensures c.args.rec.now) c.op.ensures
