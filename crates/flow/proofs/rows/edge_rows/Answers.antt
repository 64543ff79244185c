-- `edge_rows` meets its contract.
-- The invariant: to store the rows from here on is to store all of them.
use native.Mathlib.Omega.{arith}
use Rattle.flow.specs.Rows.{edge_row}
use Rattle.flow.proofs.Storing.{left_step}
use Rattle.flow.proofs.Row.{edge_stored}
use Rattle.flow.proofs.rows.edge_rows.Goals as goal

pub loop-e-preserved : goal.loop-e-preserved
unfolding edge_row
loop-e-preserved c =
    let v = c.loop-e.invariant in (
      v.0,
      v.1,
      left_step v.2 c.loop-e-test.true (omega arith)
          (edge_stored _ _ _ _ _ _ _ _ _ _ _ v.0 v.1 c.target_at.ensures c.place_of-to.ensures
          c.from.ensures c.edge_kind_at.ensures c.put_two.ensures),
    )
