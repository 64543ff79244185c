-- `pieces::write_piece` meets its contract.
-- By whether the lists have room for what the codes tell.
use mathlib.Core.Path.{ap, ◌∙◌}
use mathlib.Core.List.{[], ◌∷◌}
use native.Mathlib.Omega.{arith}
use Rattle.codes.specs.Code.{decode}
use Rattle.comparison.specs.Pieces.{chosen_tokens}
use Rattle.comparison.proofs.PieceLaws.{piece_ready, piece_written, no_room, by_table}
use Rattle.comparison.proofs.pieces.write_piece.Goals as goal

pub write_listing-requires : goal.write_listing-requires
write_listing-requires c =
    let a = c.args in
    let p = by_table c.token_table-made.ensures c.code_piece.ensures in
    piece_ready _ a.rec.now _ (chosen_tokens a.h a.rec.now a.first a.instruction a.what) a.text.now a.ends.now a.kinds.now p c.if-bytes-text.true _ 1 c.codes_of.ensures (omega arith)

pub returns-then-bytes-text : goal.returns-then-bytes-text
returns-then-bytes-text c =
    let a = c.args in
    let ts = chosen_tokens a.h a.rec.now a.first a.instruction a.what in
    let p = by_table c.token_table-made.ensures c.code_piece.ensures in
    piece_written _ _ _ ts a.text.now a.ends.now a.kinds.now p c.if-bytes-text.true _ _ _ _ _ _ (c.write_listing.ensures (ts ∷ []) (ap (decode _ a.rec.now) c.codes_of.ensures ∙ p.codes))

pub returns : goal.returns
returns c =
    let a = c.args in
    no_room _ _ _ (chosen_tokens a.h a.rec.now a.first a.instruction a.what) a.text.now a.ends.now a.kinds.now c.code_piece.ensures c.if-bytes-text.false
