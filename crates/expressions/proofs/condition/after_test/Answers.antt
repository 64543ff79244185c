-- `condition::after_test` meets its contract.
-- By whether the table has a relation for the condition.
use Rattle.expressions.proofs.Conditions.{related}
use Rattle.expressions.proofs.condition.after_test.Goals as goal

pub returns-then-r-lt6 : goal.returns-then-r-lt6
returns-then-r-lt6 c =
    let a = c.args in
    related a.cc _ _ c.relation_after_test-r.ensures c.if-r-lt6.true c.code_tested.ensures (c.code_against.ensures a.rec.now)
