-- `condition::after_cmp` meets its contract.
-- By whether the table has a relation for the condition.
use Rattle.codes.proofs.Coding.{coded_more}
use Rattle.codes.proofs.EachToken.{as_token}
use Rattle.expressions.proofs.Relations.{operator_word}
use Rattle.expressions.proofs.Conditions.{related}
use Rattle.expressions.proofs.condition.after_cmp.Goals as goal

pub returns-then-r-lt6 : goal.returns-then-r-lt6
returns-then-r-lt6 c =
    let a = c.args in
    related a.cc _ _ c.relation_after_cmp-r.ensures c.if-r-lt6.true c.code_unsigned.ensures (coded_more _ _ (as_token _ _ (operator_word _ c.if-r-lt6.true) (c.code_word.ensures a.rec.now)) c.op.ensures)
