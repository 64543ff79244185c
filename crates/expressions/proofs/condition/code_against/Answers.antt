-- `condition::code_against` meets its contract.
-- The word of the operator is its text.
use Rattle.codes.proofs.EachToken.{as_token}
use Rattle.operand.proofs.Tokens.{two}
use Rattle.expressions.proofs.Relations.{operator_word}
use Rattle.expressions.proofs.condition.code_against.Goals as goal

pub returns : goal.returns
returns c s = two (as_token _ _ (operator_word c.args.relation c.requires.relation_bound) (c.code_word.ensures s)) (c.code_num.ensures _ s)
