-- `pieces::code_operand` meets its contract.
-- By the kind of operand: a register, memory, a small number or any other.
use Rattle.codes.specs.Tables.{table_bytes}
use Rattle.operand.proofs.Tokens.{as_tokens}
use Rattle.line.proofs.SmallNumbers.{op_small_is}
use Rattle.line.proofs.pieces.code_operand.Goals as goal

pub returns-then-kind-number : goal.returns-then-kind-number
returns-then-kind-number c =
    let a = c.args in
    as_tokens (op_small_is a.h a.rec.now a.body.now a.k _ _ c.op_kind-kind.ensures c.op_number-number.ensures c.if-kind-number.true) (c.code_num.ensures table_bytes a.rec.now)
