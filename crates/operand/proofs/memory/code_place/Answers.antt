-- `memory::code_place` meets its contract.
-- The word of the type where it is read, and the address.
use Rattle.operand.proofs.Pieces.{place_coded}
use Rattle.operand.proofs.memory.code_place.Goals as goal

pub returns : goal.returns
returns c s =
    let a = c.args in
    place_coded a.h a.body.now a.deref _ _ _ c.address_loose.ensures c.memory_size.ensures c.type_word.ensures (c.code_if.ensures s) (c.code_if-2.ensures s) (c.code_address.ensures s) (c.code_if-3.ensures s)
