-- `pieces::code_row` meets its contract.
-- The invariant: the pieces coded and those left are all of them; each way through a turn codes its piece.
use Rattle.codes.specs.Tables.{table_bytes}
use mathlib.Core.Path.{◌≡◌, refl}
use native.Mathlib.Omega.{arith}
use lib.ListN.{length, get_or}
use Rattle.codes.specs.Coded.{Coded}
use Rattle.codes.proofs.Coding.{coded_none}
use Rattle.operand.proofs.Tokens.{as_tokens}
use Rattle.expressions.proofs.Turns.{at_start, further, at_end}
use Rattle.line.specs.Codes.{piece_of}
use Rattle.line.specs.Print.{piece_tokens}
use Rattle.line.proofs.CodedTurns.{met}
use Rattle.line.proofs.PieceTokens.{is_word, is_operand, row_step, row_done, row_all}
use borrow.Author.Rules.{rules}
use Rattle.line.proofs.pieces.code_row.Goals as goal
use Rattle.line.proofs.pieces.code_row.Goals.{then-piece-lt102, else-piece-lt102+then-piece-lt136, else-piece-lt102+else-piece-lt136}

pub loop-piece-init : goal.loop-piece-init
loop-piece-init c = (refl, search rules, at_start (coded_none _ _ _ c.type_inv.codes))

pub loop-piece-preserved : goal.loop-piece-preserved
loop-piece-preserved c =
    let a = c.args in
    let next : (length c.if-piece-lt102.codes ≡ length c.loop-piece.codes) × Coded table_bytes a.rec.now c.loop-piece.codes c.if-piece-lt102.codes (piece_tokens a.h a.rec.now a.site (piece_of (get_or c.codes-pieces.result.now c.loop-piece.piece-index 0))) =
    elim c.if-piece-lt102.branch [
      | then-piece-lt102 w ↦ met w.codes-is (is_word a.h a.rec.now a.site _ w.if-piece-lt102.true) w.code_word.auto.codes (w.code_word.ensures a.rec.now)
      | else-piece-lt102+then-piece-lt136 w ↦
          met w.codes-is (is_operand a.h a.rec.now a.site _ _ c.requires.body_value _ w.if-piece-lt102.false w.if-piece-lt136.true w.saturating_sub.ensures) w.code_operand.auto.codes w.code_operand.ensures
      | else-piece-lt102+else-piece-lt136 w ↦ met w.codes-is refl w.code_special.auto.codes w.code_special.ensures
    ] in (
      omega (arith, next.0, c.loop-piece.invariant.0),
      omega (arith, c.loop-piece-test.true),
      further c.loop-piece.invariant.2 (row_step a.h a.rec.now a.site _ c.loop-piece.piece-index c.loop-piece-test.true) next.1,
    )

pub returns : goal.returns
returns c =
    let a = c.args in
    as_tokens (row_all a.h a.rec.now a.site _ _ c.codes-pieces.ensures) (at_end c.loop-piece.invariant.2 (row_done a.h a.rec.now a.site _ c.loop-piece.piece-index c.loop-piece-test.false))
