-- `pieces::code_row` meets its contract.
-- The invariant: the pieces coded and those left are all of them; each way through a turn codes its piece.
use Rattle.codes.specs.Tables.{table_bytes}
use mathlib.Core.Path.{◌≡◌}
use mathlib.Core.List.{map}
use Prim.Native.Nat.{◌≤◌}
use lib.ListN.{length, drop}
use Rattle.expressions.proofs.Turns.{Sofar}
use Rattle.line.specs.Codes.{piece_of}
use Rattle.line.specs.Print.{pieces_tokens}
use Rattle.line.proofs.pieces.code_row.Given as goal

abbrev pub invariant-loop-piece : goal.invariant-loop-piece
invariant-loop-piece l =
    (length l.codes ≡ length l.initial.codes) × (l.piece-index ≤ length l.pieces)
    × Sofar table_bytes l.rec l.initial.codes l.codes (pieces_tokens l.h l.rec l.site (map piece_of (drop 0 l.pieces))) (pieces_tokens l.h l.rec l.site (map piece_of (drop l.piece-index l.pieces)))
