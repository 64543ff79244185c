-- `pieces::piece_tokens` meets its contract.
-- By whether the record and the instruction are accepted.
use Rattle.comparison.proofs.PieceLaws.{listed_rising, written, refused}
use Rattle.comparison.proofs.pieces.piece_tokens.Goals as goal

pub write_piece-requires : goal.write_piece-requires
write_piece-requires c =
    let a = c.args in
    listed_rising _ a.rec.now a.instruction c.read_header-h.ensures _ c.is_listed.ensures c.if-is_listed.true

pub returns-then-is_listed : goal.returns-then-is_listed
returns-then-is_listed c =
    let a = c.args in
    written _ a.rec.now a.instruction c.read_header-h.ensures _ c.is_listed.ensures _ _ _ a.first a.what _ c.if-is_listed.true c.write_piece.ensures

pub returns : goal.returns
returns c =
    let a = c.args in
    refused _ a.rec.now a.instruction c.read_header-h.ensures _ c.is_listed.ensures _ _ _ a.first a.what c.if-is_listed.false
