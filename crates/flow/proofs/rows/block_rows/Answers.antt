-- `block_rows` meets its contract.
-- The invariant: the running indexes, and to store the rows from here on is to store all of them.
use mathlib.Core.Path.{refl}
use native.Mathlib.Omega.{arith}
use Rattle.flow.specs.Rows.{block_row}
use Rattle.record.specs.Blocks.{first_instruction, first_edge}
use Rattle.record.proofs.Running.{instruction_more, edge_more}
use Rattle.flow.proofs.Totals.{block_has, edges_fit}
use Rattle.flow.proofs.Storing.{left_all, left_step}
use Rattle.flow.proofs.Row.{array, row_stored}
use Rattle.flow.proofs.rows.block_rows.Goals as goal

pub loop-k-init : goal.loop-k-init
unfolding first_instruction first_edge
loop-k-init c = (array _ _ _ _ c.marks_at.ensures.0 c.from-marks.ensures.0, refl, refl, left_all _ _ _)

pub put_ending-requires : goal.put_ending-requires
put_ending-requires c =
    let v = c.loop-k.invariant in
    (block_has _ _ c.requires _ c.loop-k-test.true _ v.0 _ _ (omega arith) v.1 c.instructions_in-n.ensures.0)

pub overflow_add-first : goal.overflow_add-first
overflow_add-first c =
    let v = c.loop-k.invariant in
    omega (arith, (block_has _ _ c.requires _ c.loop-k-test.true _ v.0 _ _ (omega arith) v.1 c.instructions_in-n.ensures.0).fits)

pub overflow_add-edge : goal.overflow_add-edge
overflow_add-edge c =
    let v = c.loop-k.invariant in
    omega (arith, edges_fit _ _ c.requires _ c.loop-k-test.true _ v.0 _ _ (omega arith) v.2 c.edges_in-m.ensures.0)

pub loop-k-preserved : goal.loop-k-preserved
unfolding block_row
loop-k-preserved c =
    let v = c.loop-k.invariant in
    let a = c.args in (
      v.0,
      rw instruction_more (omega arith),
      rw edge_more (omega arith),
      left_step v.3 c.loop-k-test.true (omega arith)
          (row_stored a.h a.rec.now _ _ c.loop-k.out _ _ _ _ _ _ _ v.0 v.1 v.2 c.instructions_in-n.ensures.0 c.edges_in-m.ensures.0 c.from.ensures c.put_four.ensures c.put_ending.ensures),
    )
