-- `memory::code_argument` meets its contract.
-- Three tokens.
use Rattle.tokens.specs.Words.{words, word_token}
use Rattle.operand.proofs.Tokens.{three}
use Rattle.operand.proofs.memory.code_argument.Goals as goal

pub returns : goal.returns
unfolding word_token words
returns c s = three (c.code_word.ensures s) (c.code_num.ensures _ s) (c.code_word-2.ensures s)
