-- `arguments::code_listed` meets its contract.
-- An operand, and a comma in front of it if one is wanted.
use Rattle.expressions.proofs.CodedCommas.{with_comma}
use Rattle.expressions.proofs.arguments.code_listed.Goals as goal

pub returns-then-comma : goal.returns-then-comma
returns-then-comma c =
    let a = c.args in
    with_comma a.comma c.if-comma.true (c.code_word.ensures a.rec.now) c.op.ensures
