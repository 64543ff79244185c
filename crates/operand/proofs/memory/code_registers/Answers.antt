-- `memory::code_registers` meets its contract.
-- Five pieces, each where it is wanted.
use Rattle.operand.proofs.Pieces.{registers_coded}
use Rattle.operand.proofs.memory.code_registers.Goals as goal

pub returns : goal.returns
returns c s =
    let a = c.args in
    registers_coded a.h a.body.now _ _ _ c.slot_base-base.ensures c.memory_index-index.ensures c.memory_index_scale-scale.ensures (c.code_base.ensures s) (c.code_if.ensures s) (c.code_if-2.ensures s) (c.code_index.ensures s) (c.code_if-3.ensures s)
