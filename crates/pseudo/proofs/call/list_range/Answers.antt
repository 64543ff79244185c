-- `list_range` meets its contract.
-- The tables and the blocks' rows are what the lister asks for.
use native.Mathlib.Omega.{arith}
use Prim.Native.Nat.{◌*◌}
use Rattle.flow.specs.Rows.{block_rows}
use Rattle.flow.proofs.Laws.{filled}
use Rattle.flow.proofs.Terms.{blocks_length}
use Rattle.pseudo.proofs.Calls.{counted, rising}
use Rattle.pseudo.proofs.call.list_range.Goals as goal

pub block_rows-requires : goal.block_rows-requires
block_rows-requires c = counted c.args.rec.now c.args.from c.args.to c.args.h c.requires.accepted

pub list_planned-requires : goal.list_planned-requires
list_planned-requires c = let h = c.args.h in
    let s = c.args.rec.now in
    let yes = c.requires.accepted in
    let b =
    filled (block_rows h s) _ _ _ (8 * c.size.result) (8 * h.blocks) (blocks_length h s) c.requires.blocks_in_bounds (omega (arith, c.size.ensures)) c.block_rows.ensures c.part-blocks.ensures.0 in
    record { rising = rising s c.args.from c.args.to h yes; blocks_value = b; accepted = yes; blocks_in_bounds = c.requires.blocks_in_bounds_2 }
