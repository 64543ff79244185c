-- `code::code_num` meets its contract.
-- Its value stands behind the code.
use Rattle.codes.proofs.EachToken.{number_coded}
use Rattle.std.proofs.Common.{arith}
use Rattle.codes.proofs.code.code_num.Goals as goal

pub returns : goal.returns
returns c t s =
    let a = c.args in
    number_coded t s a.codes.now _ 2 (omega arith) 0 _ a.size a.negative (rw (← c.number_of.ensures.0) c.put_valued.ensures) c.num_length.ensures.0
