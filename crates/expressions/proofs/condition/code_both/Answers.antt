-- `condition::code_both` meets its contract.
-- One behind the other.
use Rattle.expressions.proofs.Conditions.{in_parentheses}
use Rattle.expressions.proofs.condition.code_both.Goals as goal

pub returns : goal.returns
returns c =
    let a = c.args in
    in_parentheses (c.code_word.ensures a.rec.now) c.code_and.ensures (c.code_word-2.ensures a.rec.now)
