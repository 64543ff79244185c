-- `pieces::code_named` meets its contract.
-- By the number of the piece.
use native.Mathlib.Omega.{arith}
use Rattle.operand.proofs.Tokens.{as_tokens}
use Rattle.line.proofs.PieceTokens.{is_loc, is_sub, is_start_lem}
use Rattle.line.proofs.pieces.code_named.Goals as goal

pub returns-then-piece-eq142 : goal.returns-then-piece-eq142
returns-then-piece-eq142 c =
    let a = c.args in
    as_tokens (is_loc a.h a.rec.now a.site a.piece _ c.requires.body_value _ c.op_number.ensures c.if-piece-eq142.true) c.name_or.ensures

pub returns-then-piece-eq143 : goal.returns-then-piece-eq143
returns-then-piece-eq143 c =
    let a = c.args in
    as_tokens (is_sub a.h a.rec.now a.site a.piece _ c.requires.body_value _ c.op_number-then-piece-eq143.ensures c.if-piece-eq143.true) c.name_or-then-piece-eq143.ensures

pub returns : goal.returns
returns c =
    let a = c.args in
    as_tokens (is_start_lem a.h a.rec.now a.site a.piece _ _ c.from.ensures.0 c.start_at-start.ensures (omega (arith, c.requires.le_piece, c.if-piece-eq142.false, c.if-piece-eq143.false))) (c.code_prefixed.ensures a.rec.now)
