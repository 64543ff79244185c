-- `pieces::code_piece` meets its contract.
-- A piece has few tokens: the record is bytes, and the shift is an i32.
use native.Mathlib.Omega.{arith}
use Rattle.operand.proofs.Bounds.{AllBytes}
use Rattle.operand.proofs.Integers.{small32}
use Rattle.comparison.specs.Pieces.{chosen_tokens}
use Rattle.comparison.proofs.PieceLaws.{chosen_within, piece_coded}
use Rattle.comparison.proofs.pieces.code_piece.Goals as goal

pub returns : goal.returns
returns c =
    let a = c.args in
    let rec : AllBytes a.rec.now = λ j. omega (arith, c.type_inv.rec j) in
    let shift = small32 a.h.shift (record { sfits = c.well_formed.1.1.1.0.1.1.1.1.1.1.1.1.1.1.0.1 }) in
    piece_coded _ _ _ _ _ (chosen_tokens a.h a.rec.now a.first a.instruction a.what) c.start.ensures c.code_chosen.ensures c.put_end.ensures
    (omega (arith, c.put_end.auto.codes, c.code_chosen.auto.codes)) (omega (arith, c.start.auto.codes, c.requires.in_bounds))
    (chosen_within a.h a.rec.now rec shift a.first a.instruction a.what)
