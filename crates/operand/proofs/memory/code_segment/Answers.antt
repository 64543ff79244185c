-- `memory::code_segment` meets its contract.
-- A word and its argument.
use Rattle.codes.proofs.Coding.{coded_more}
use Rattle.operand.proofs.Tokens.{as_tokens}
use Rattle.operand.proofs.Pieces.{segment_is}
use Rattle.operand.proofs.memory.code_segment.Goals as goal

pub returns : goal.returns
returns c s = as_tokens (segment_is c.args.body.now _ _ _ _ c.memory_segment.ensures c.memory_size.ensures c.segment_word-w.ensures c.memory_address.ensures) (coded_more _ s (c.code_word.ensures s) (c.code_argument.ensures s))
