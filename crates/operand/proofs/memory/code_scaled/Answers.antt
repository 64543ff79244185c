-- `memory::code_scaled` meets its contract.
-- By whether there is a scale.
use Rattle.operand.proofs.Tokens.{as_tokens, three}
use Rattle.operand.proofs.Pieces.{scaled_more}
use Rattle.operand.proofs.memory.code_scaled.Goals as goal

pub returns-then-scale-gt1 : goal.returns-then-scale-gt1
returns-then-scale-gt1 c s = as_tokens (scaled_more c.args.body.now _ _ c.memory_index.ensures c.memory_index_scale-scale.ensures c.if-scale-gt1.true) (three (c.code_register.ensures s) (c.code_word.ensures s) (c.code_num.ensures _ s))
