-- `memory::code_slot` meets its contract.
-- By whether it is read.
use Rattle.operand.proofs.Readings.{slot_read}
use Rattle.operand.proofs.Tokens.{as_tokens, two}
use Rattle.operand.proofs.Pieces.{plainly, and_then}
use Rattle.operand.proofs.memory.code_slot.Goals as goal

pub returns-then-deref : goal.returns-then-deref
returns-then-deref c s =
    let a = c.args in
    as_tokens (plainly _ (slot_read a.h a.body.now _ _ _ _ c.slot_number-n.ensures c.slot_base.ensures c.is_stack_pointer.ensures c.slot_word-w.ensures.0) c.if-deref.true) (c.code_prefixed.ensures s)

pub returns : goal.returns
returns c s =
    let a = c.args in
    as_tokens (and_then _ (slot_read a.h a.body.now _ _ _ _ c.slot_number-n.ensures c.slot_base.ensures c.is_stack_pointer.ensures c.slot_word-w.ensures.0) c.if-deref.false) (two (c.code_word.ensures s) (c.code_prefixed-2.ensures s))
