-- `condition::code_flags` meets its contract.
-- The words of the conditions stand in order; past the last word a text is empty.
use Rattle.codes.proofs.EachToken.{as_token}
use Rattle.expressions.proofs.Relations.{flags_word_lem}
use Rattle.expressions.proofs.condition.code_flags.Goals as goal

pub returns-then-cc : goal.returns-then-cc
returns-then-cc c s = as_token _ _ (flags_word_lem c.args.cc c.if-cc.true) (c.code_word.ensures s)
