-- `pieces::code_fixed` meets its contract.
-- By the number of the piece.
use Rattle.std.proofs.Common.{◌≤◌, arith}
use Rattle.operand.proofs.Tokens.{as_tokens}
use Rattle.line.proofs.PieceTokens.{is_first_fixed, is_second_fixed, is_third_fixed, is_past}
use Rattle.line.proofs.pieces.code_fixed.Goals as goal

pub returns-in-147 : goal.returns-in-147
returns-in-147 c s site =
    let a = c.args in
    as_tokens (is_first_fixed a.h s site a.piece c.in-147.is) (c.code_register.ensures s)

pub returns-in-148 : goal.returns-in-148
returns-in-148 c s site =
    let a = c.args in
    as_tokens (is_second_fixed a.h s site a.piece c.in-148.is) (c.code_register-in-148.ensures s)

pub returns-in-149 : goal.returns-in-149
returns-in-149 c s site =
    let a = c.args in
    as_tokens (is_third_fixed a.h s site a.piece c.in-149.is) (c.code_register-in-149.ensures s)

pub returns-in_default : goal.returns-in_default
returns-in_default c s site =
    let a = c.args in
    let h : 150 ≤ a.piece = grind arith in
    as_tokens (is_past a.h s site a.piece h) (c.code_num.ensures _ s)
