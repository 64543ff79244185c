-- `pieces::code_chosen` meets its contract.
-- By what is asked for.
use Rattle.operand.proofs.Tokens.{as_tokens}
use Rattle.comparison.proofs.PieceLaws.{chosen_condition, chosen_operand, chosen_memory}
use Rattle.comparison.proofs.pieces.code_chosen.Goals as goal

pub returns-then-what-ge16 : goal.returns-then-what-ge16
returns-then-what-ge16 c =
    let a = c.args in
    as_tokens (chosen_condition a.h a.rec.now a.first a.instruction a.what c.if-what-ge16.true) c.condition.ensures

pub returns-then-what-lt5 : goal.returns-then-what-lt5
returns-then-what-lt5 c =
    let a = c.args in
    as_tokens (chosen_operand a.h a.rec.now a.first a.instruction a.what _ c.body_of-body.ensures c.if-what-ge16.false c.if-what-lt5.true) c.op.ensures

pub returns : goal.returns
returns c =
    let a = c.args in
    as_tokens (chosen_memory a.h a.rec.now a.first a.instruction a.what _ c.body_of-body.ensures c.if-what-ge16.false c.if-what-lt5.false) c.mem.ensures
