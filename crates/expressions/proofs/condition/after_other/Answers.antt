-- `condition::after_other` meets its contract.
-- By whether it is BT or IMUL, and else whether the table has a relation for the condition.
use Rattle.operand.proofs.Tokens.{as_tokens}
use Rattle.expressions.proofs.Conditions.{related, other_than}
use Rattle.expressions.proofs.condition.after_other.Goals as goal

pub returns-then-r-lt6 : goal.returns-then-r-lt6
returns-then-r-lt6 c =
    let a = c.args in
    as_tokens (other_than a.h a.rec.now a.body.now a.cc _ c.mnemonic-m.ensures c.if-m.false)
    (related a.cc _ _ c.relation_after_other-r.ensures c.if-r-lt6.true c.op.ensures (c.code_against.ensures a.rec.now))
